-- The ends of bodies are computed by their trees, and a function lacks its return exactly where that is computed.
use Rattle.std.proofs.Common.{◌≡◌, refl, sym, ◌∙◌, ap, ℕ, Bool, true, false}
use Rattle.std.specs.Prelude.{Option, Some, None, not, ◌&&◌, ◌||◌, if◌then◌else◌}
use Rattle.cad_syntax.specs.Types.{PureType, basic}
use Rattle.cad_syntax.specs.declared.types.Basic.{Basic}
use Rattle.cad_syntax.specs.declared.types.Basic.TheVariants as b
use Rattle.cad_syntax.specs.declared.text.Name.{Name}
use Rattle.cad_types.specs.Classes.{is_void}
use Rattle.cad_declarations.specs.Typed as e
use Rattle.cad_paths.specs.declared.letter.BodyPart.{BodyPart}
use Rattle.cad_paths.specs.declared.letter.BodyPart.TheVariants.{Whole}
use Rattle.cad_paths.specs.declared.letter.Position.{Position}
use Rattle.cad_paths.specs.Paths.{PathBody, skip, scope}
use Rattle.cad_paths.specs.Letters.{resources, is_self, ending, maybe, is_short, is_never_builtin, ends_path, own_field_use, own_field_set, take_letters, receiver_letters, place_letters, use_letters, term_letters, terms_letters, arguments_letters, entries_letters}
use Rattle.cad_paths.specs.Bodies.{position, path_variable, is_scope, declared, target_letters, set_letters, fill_letters, taken_variable, if_let_letters, scope_behind, statement_letters, block_letters, statements_letters, cases_letters}
use Rattle.cad_paths.specs.Returns.{LacksReturn}
use Rattle.cad_pieces.specs.declared.ends.Ends.{Ends}
use Rattle.cad_pieces.specs.Code.Ends.{ends, coming, behind, beside, turning, broken_off, continued_on, ends_of}
use Rattle.cad_pieces.specs.Code.Comes.{place_comes, use_comes, term_comes, terms_come, arguments_come, entries_come, second_comes, tested, return_ends, statement_ends, block_ends, statements_ends, cases_ends, body_comes, lacks_return}
use Rattle.cad_pieces.proofs.Ways.{and_split, comes_sound, comes_complete}

-- ---- bodies that leave in no way of their own

both_come : (p q : Bool) → behind (coming p) (coming q) ≡ coming (p && q)
both_come true q = refl
both_come false q = refl

one_comes : (p q : Bool) → beside (coming p) (coming q) ≡ coming (p || q)
one_comes true q = refl
one_comes false q = refl

after : (a c : Ends) (p q : Bool) → a ≡ coming p → c ≡ coming q → behind a c ≡ coming (p && q)
after a c p q d i = ap (λ z. behind z c) d ∙ ap (λ z. behind (coming p) z) i ∙ both_come p q

branch : (a c : Ends) (p q : Bool) → a ≡ coming p → c ≡ coming q → beside a c ≡ coming (p || q)
branch a c p q d i = ap (λ z. beside z c) d ∙ ap (λ z. beside (coming p) z) i ∙ one_comes p q

ending_law : (never : Bool) → ends_of (ending never) ≡ coming (not never)
ending_law true = refl
ending_law false = refl

may_be_left : (p : Bool) → coming (p || true) ≡ coming true
may_be_left true = refl
may_be_left false = refl

maybe_law : (a : PathBody) (p : Bool) → ends_of a ≡ coming p → ends_of (maybe a) ≡ coming true
maybe_law a p h = branch (ends_of a) (coming true) p true h refl ∙ may_be_left p

alone : (p : Bool) → coming (p && true) ≡ coming p
alone true = refl
alone false = refl

-- a part, and another that may be left out
then_maybe : (a c : PathBody) (p q : Bool) → ends_of a ≡ coming p → ends_of c ≡ coming q → behind (ends_of a) (ends_of (maybe c)) ≡ coming p
then_maybe a c p q d i = after (ends_of a) (ends_of (maybe c)) p true d (maybe_law c q i) ∙ alone p

operand_law : (short : Bool) (a : PathBody) (p : Bool) → ends_of a ≡ coming p → ends_of (if short then maybe a else a) ≡ coming (short || p)
operand_law true a p h = maybe_law a p h
operand_law false a p h = h

-- ---- places

take_law : (at : Position) (p : e.PlaceTree) → ends_of (place_letters resources at p) ≡ coming (place_comes p) → ends_of (take_letters resources at p (place_letters resources at p)) ≡ coming (place_comes p)
take_law at (e.variable v) h = refl
take_law at p h = h

field_law : (at : Position) (p : e.PlaceTree) (name : Name) → ends_of (place_letters resources at p) ≡ coming (place_comes p)
    → ends_of (if is_self p then own_field_use resources at name else place_letters resources at p) ≡ coming (place_comes p)
field_law at e.self name h = refl
field_law at p name h = h

receiver_law : (at : Position) (p : e.PlaceTree) (u : e.UseTree) → ends_of (place_letters resources at p) ≡ coming (place_comes p)
    → ends_of (receiver_letters resources at p u (place_letters resources at p)) ≡ coming (place_comes p)
receiver_law at e.self (e.get name authorization) h = refl
receiver_law at e.self (e.method name is_view is_never args) h = refl
receiver_law at e.self (e.builtin_field member) h = refl
receiver_law at e.self (e.builtin_call member types args) h = refl
receiver_law at p u h = h

-- ---- expressions

mutual
  place_law : (at : Position) (p : e.PlaceTree) → ends_of (place_letters resources at p) ≡ coming (place_comes p)
  place_law at (e.variable v) = refl
  place_law at e.self = refl
  place_law at (e.contract id) = refl
  place_law at (e.target x) = term_law at x
  place_law at (e.field p of name) = field_law at p name (place_law at p)
  place_law at (e.element p of x) = after (ends_of (place_letters resources at p)) (ends_of (term_letters resources at x)) (place_comes p) (term_comes x) (place_law at p) (term_law at x)
  place_law at (e.content p forces) = place_law at p

  use_law : (at : Position) (u : e.UseTree) → ends_of (use_letters resources at u) ≡ coming (use_comes u)
  use_law at (e.get name authorization) = refl
  use_law at (e.method name is_view is_never args) = arguments_law at args
  use_law at (e.builtin_field member) = refl
  use_law at (e.builtin_call member types args) = arguments_law at args

  term_law : (at : Position) (x : e.TermTree) → ends_of (term_letters resources at x) ≡ coming (term_comes x)
  term_law at (e.number n) = refl
  term_law at (e.address a) = refl
  term_law at (e.bool x) = refl
  term_law at e.nil = refl
  term_law at (e.string x) = refl
  term_law at (e.character x) = refl
  term_law at (e.path p) = refl
  term_law at (e.meta t) = refl
  term_law at (e.case id n) = refl
  term_law at (e.copy p) = place_law at p
  term_law at (e.take p) = take_law at p (place_law at p)
  term_law at (e.array t items) = terms_law at items
  term_law at (e.dictionary k t items) = entries_law at items
  term_law at (e.construct id args) = arguments_law at args
  term_law at (e.create id args) = arguments_law at args
  term_law at (e.call f is_view is_never args) =
      after (ends_of (arguments_letters resources at args)) (ends_of (ending is_never)) (arguments_come args) (not is_never) (arguments_law at args) (ending_law is_never)
  term_law at (e.builtin member types args) =
      after (ends_of (arguments_letters resources at args)) (ends_of (ending (is_never_builtin member types))) (arguments_come args) (not (is_never_builtin member types)) (arguments_law at args) (ending_law (is_never_builtin member types))
  term_law at (e.on p u) =
      after (ends_of (receiver_letters resources at p u (place_letters resources at p))) (behind (ends_of (use_letters resources at u)) (ends_of (ending (ends_path u)))) (place_comes p) (use_comes u && not (ends_path u))
      (receiver_law at p u (place_law at p))
      (after (ends_of (use_letters resources at u)) (ends_of (ending (ends_path u))) (use_comes u) (not (ends_path u)) (use_law at u) (ending_law (ends_path u)))
  term_law at (e.chain p u wraps) = then_maybe (place_letters resources at p) (use_letters resources at u) (place_comes p) (use_comes u) (place_law at p) (use_law at u)
  term_law at (e.index p of x) = after (ends_of (place_letters resources at p)) (ends_of (term_letters resources at x)) (place_comes p) (term_comes x) (place_law at p) (term_law at x)
  term_law at (e.hold n t x body) = after (ends_of (term_letters resources at x)) (ends_of (term_letters resources at body)) (term_comes x) (term_comes body) (term_law at x) (term_law at body)
  term_law at (e.destroy x) = term_law at x
  term_law at (e.borrow p authorization t takes_off gives_optional) = place_law at p
  term_law at (e.unary op x) = term_law at x
  term_law at (e.force x) = term_law at x
  term_law at (e.cast kind x t) = term_law at x
  term_law at (e.binary op x y) =
      after (ends_of (term_letters resources at x)) (ends_of (if is_short op then maybe (term_letters resources at y) else term_letters resources at y)) (term_comes x) (is_short op || term_comes y)
      (term_law at x) (operand_law (is_short op) (term_letters resources at y) (term_comes y) (term_law at y))
  term_law at (e.coalesce x y takes_off t) = then_maybe (term_letters resources at x) (term_letters resources at y) (term_comes x) (term_comes y) (term_law at x) (term_law at y)
  term_law at (e.is_nil p is_negated) = place_law at p
  term_law at (e.conditional c x y) =
      after (ends_of (term_letters resources at c)) (beside (ends_of (term_letters resources at x)) (ends_of (term_letters resources at y))) (term_comes c) (term_comes x || term_comes y) (term_law at c)
      (branch (ends_of (term_letters resources at x)) (ends_of (term_letters resources at y)) (term_comes x) (term_comes y) (term_law at x) (term_law at y))
  term_law at (e.before n) = refl

  terms_law : (at : Position) (xs : e.Terms) → ends_of (terms_letters resources at xs) ≡ coming (terms_come xs)
  terms_law at e.no_terms = refl
  terms_law at (e.terms x xs) = after (ends_of (term_letters resources at x)) (ends_of (terms_letters resources at xs)) (term_comes x) (terms_come xs) (term_law at x) (terms_law at xs)

  arguments_law : (at : Position) (xs : e.Arguments) → ends_of (arguments_letters resources at xs) ≡ coming (arguments_come xs)
  arguments_law at e.no_arguments = refl
  arguments_law at (e.arguments x t xs) = after (ends_of (term_letters resources at x)) (ends_of (arguments_letters resources at xs)) (term_comes x) (arguments_come xs) (term_law at x) (arguments_law at xs)

  entries_law : (at : Position) (xs : e.TermEntries) → ends_of (entries_letters resources at xs) ≡ coming (entries_come xs)
  entries_law at e.no_entries = refl
  entries_law at (e.entries k x xs) =
      after (ends_of (term_letters resources at k)) (behind (ends_of (term_letters resources at x)) (ends_of (entries_letters resources at xs))) (term_comes k) (term_comes x && entries_come xs) (term_law at k)
      (after (ends_of (term_letters resources at x)) (ends_of (entries_letters resources at xs)) (term_comes x) (entries_come xs) (term_law at x) (entries_law at xs))

-- ---- targets

no_letters : (own : Bool) → ends_of (if own then skip else skip) ≡ coming true
no_letters true = refl
no_letters false = refl

target_field : (at : Position) (p : e.PlaceTree) → ends_of (if is_self p then skip else place_letters resources at p) ≡ coming (place_comes p)
target_field at e.self = refl
target_field at (e.variable v) = place_law at (e.variable v)
target_field at (e.contract id) = place_law at (e.contract id)
target_field at (e.target x) = place_law at (e.target x)
target_field at (e.field p of name) = place_law at (e.field p of name)
target_field at (e.element p of x) = place_law at (e.element p of x)
target_field at (e.content p forces) = place_law at (e.content p forces)

target_law : (at : Position) (p : e.PlaceTree) → ends_of (target_letters resources at p) ≡ coming (place_comes p)
target_law at (e.variable v) = refl
target_law at e.self = refl
target_law at (e.contract id) = refl
target_law at (e.target x) = term_law at x
target_law at (e.field p of name) = target_field at p
target_law at (e.element p of x) = place_law at (e.element p of x)
target_law at (e.content p forces) = place_law at p

set_law : (at : Position) (p : e.PlaceTree) → ends_of (set_letters resources at p) ≡ coming true
set_law at (e.variable v) = refl
set_law at (e.field p of name) = no_letters (is_self p)
set_law at e.self = refl
set_law at (e.contract id) = refl
set_law at (e.target x) = refl
set_law at (e.element p of x) = refl
set_law at (e.content p forces) = refl

fill_law : (at : Position) (p : e.PlaceTree) → ends_of (fill_letters resources at p) ≡ coming true
fill_law at (e.variable v) = refl
fill_law at (e.field p of name) = no_letters (is_self p)
fill_law at e.self = refl
fill_law at (e.contract id) = refl
fill_law at (e.target x) = refl
fill_law at (e.element p of x) = refl
fill_law at (e.content p forces) = refl

-- ---- statements

-- two parts, and what comes behind them
then_done : (a c d : Ends) (p q : Bool) → a ≡ coming p → c ≡ coming q → d ≡ coming true → behind a (behind c d) ≡ coming (p && q)
then_done a c d p q h i j = ap (λ z. behind a (behind c z)) j ∙ ap (λ z. behind a (behind z (coming true))) i ∙ ap (λ z. behind z (behind (coming q) (coming true))) h ∙ done p q
  where
    done : (p q : Bool) → behind (coming p) (behind (coming q) (coming true)) ≡ coming (p && q)
    done true true = refl
    done true false = refl
    done false q = refl

declared_law : (v : e.VariableEntry) (at : Position) (a : PathBody) → ends_of (declared resources v at a) ≡ ends_of a
declared_law v at a = by_scope (is_scope resources v)
  where
    by_scope : (marked : Bool) → ends_of (if marked then scope (path_variable v) at a else a) ≡ ends_of a
    by_scope true = refl
    by_scope false = refl

if_let_law : (at : Position) (x : e.TermTree) (a c : PathBody) → ends_of (term_letters resources at x) ≡ coming (term_comes x)
    → ends_of (if_let_letters resources at (taken_variable x) (term_letters resources at x) a c) ≡ tested (term_comes x) (beside (ends_of a) (ends_of c))
if_let_law at (e.take (e.variable v)) a c h = refl
if_let_law at (e.take p) a c h = ap (λ z. behind z (beside (ends_of a) (ends_of c))) h
if_let_law at x a c h = ap (λ z. behind z (beside (ends_of a) (ends_of c))) h

either_tested : (p : Bool) (a c : Ends) → beside (behind (coming p) a) (behind (coming p) c) ≡ tested p (beside a c)
either_tested true a c = refl
either_tested false a c = refl

if_cast_law : (k l a c : Ends) (p : Bool) → k ≡ coming p → l ≡ coming p → beside (behind k a) (behind l c) ≡ tested p (beside a c)
if_cast_law k l a c p d i = ap (λ z. beside (behind z a) (behind l c)) d ∙ ap (λ z. beside (behind (coming p) a) (behind z c)) i ∙ either_tested p a c

returned_law : (a : Ends) (p : Bool) → a ≡ coming p → behind a (ends false false false true) ≡ return_ends p
returned_law a p d = ap (λ z. behind z (ends false false false true)) d ∙ done p
  where
    done : (p : Bool) → behind (coming p) (ends false false false true) ≡ return_ends p
    done true = refl
    done false = refl

while_law : (t a d : Ends) (p : Bool) → t ≡ coming p → a ≡ d
    → broken_off (behind t (turning (behind (continued_on a) t))) ≡ broken_off (tested p (turning (behind (continued_on d) (coming p))))
while_law t a d p h i = ap (λ z. broken_off (behind z (turning (behind (continued_on a) z)))) h ∙ ap (λ z. broken_off (behind (coming p) (turning (behind (continued_on z) (coming p))))) i

two : (f : Ends → Ends → Ends) (a b c d : Ends) → a ≡ b → c ≡ d → f a c ≡ f b d
two f a b c d h i = ap (λ z. f z c) h ∙ ap (λ z. f b z) i

scope_law : (part : BodyPart) (s : e.StatementTree) (rest : PathBody) → ends_of (scope_behind resources part s rest) ≡ ends_of rest
scope_law part (e.declare n v x) rest = declared_law v (position part n) rest
scope_law part (e.exchange n v p t x) rest = declared_law v (position part n) rest
scope_law part s rest = refl

mutual
  statement_law : (part : BodyPart) (s : e.StatementTree) → ends_of (statement_letters resources part s) ≡ statement_ends s
  statement_law part (e.declare n v x) = term_law (position part n) x
  statement_law part (e.exchange n v p t x) =
      then_done (ends_of (target_letters resources (position part n) p)) (ends_of (term_letters resources (position part n) x)) (ends_of (fill_letters resources (position part n) p)) (place_comes p) (term_comes x)
      (target_law (position part n) p) (term_law (position part n) x) (fill_law (position part n) p)
  statement_law part (e.assign n p x t) =
      then_done (ends_of (target_letters resources (position part n) p)) (ends_of (term_letters resources (position part n) x)) (ends_of (set_letters resources (position part n) p)) (place_comes p) (term_comes x)
      (target_law (position part n) p) (term_law (position part n) x) (set_law (position part n) p)
  statement_law part (e.force_assign n p x t) =
      then_done (ends_of (target_letters resources (position part n) p)) (ends_of (term_letters resources (position part n) x)) (ends_of (fill_letters resources (position part n) p)) (place_comes p) (term_comes x)
      (target_law (position part n) p) (term_law (position part n) x) (fill_law (position part n) p)
  statement_law part (e.swap n p t q u) =
      then_done (ends_of (target_letters resources (position part n) p)) (ends_of (target_letters resources (position part n) q))
      (behind (ends_of (fill_letters resources (position part n) p)) (ends_of (fill_letters resources (position part n) q))) (place_comes p) (place_comes q)
      (target_law (position part n) p) (target_law (position part n) q)
      (after (ends_of (fill_letters resources (position part n) p)) (ends_of (fill_letters resources (position part n) q)) true true (fill_law (position part n) p) (fill_law (position part n) q))
  statement_law part (e.expression n x) = term_law (position part n) x
  statement_law part (e.if_else n x a c) =
      two behind (ends_of (term_letters resources (position part n) x)) (coming (term_comes x)) (beside (ends_of (block_letters resources part a)) (ends_of (block_letters resources part c))) (beside (block_ends a) (block_ends c))
      (term_law (position part n) x)
      (two beside (ends_of (block_letters resources part a)) (block_ends a) (ends_of (block_letters resources part c)) (block_ends c) (block_law part a) (block_law part c))
  statement_law part (e.if_let n v x t a c) =
      if_let_law (position part n) x (declared resources v (position part n) (block_letters resources part a)) (block_letters resources part c) (term_law (position part n) x)
      ∙ ap (tested (term_comes x))
      (two beside (ends_of (declared resources v (position part n) (block_letters resources part a))) (block_ends a) (ends_of (block_letters resources part c)) (block_ends c)
      (declared_law v (position part n) (block_letters resources part a) ∙ block_law part a) (block_law part c))
  statement_law part (e.if_cast n v p t a c) =
      if_cast_law (ends_of (take_letters resources (position part n) p (place_letters resources (position part n) p))) (ends_of (place_letters resources (position part n) p))
      (ends_of (declared resources v (position part n) (block_letters resources part a))) (ends_of (block_letters resources part c)) (place_comes p)
      (take_law (position part n) p (place_law (position part n) p)) (place_law (position part n) p)
      ∙ ap (tested (place_comes p))
      (two beside (ends_of (declared resources v (position part n) (block_letters resources part a))) (block_ends a) (ends_of (block_letters resources part c)) (block_ends c)
      (declared_law v (position part n) (block_letters resources part a) ∙ block_law part a) (block_law part c))
  statement_law part (e.while_loop n x a) =
      while_law (ends_of (term_letters resources (position part n) x)) (ends_of (block_letters resources part a)) (block_ends a) (term_comes x) (term_law (position part n) x) (block_law part a)
  statement_law part (e.for_loop n i v x t a) =
      two behind (ends_of (term_letters resources (position part n) x)) (coming (term_comes x)) (broken_off (turning (continued_on (ends_of (block_letters resources part a))))) (broken_off (turning (continued_on (block_ends a))))
      (term_law (position part n) x) (ap (λ z. broken_off (turning (continued_on z))) (block_law part a))
  statement_law part (e.switch n x all otherwise) =
      two behind (ends_of (term_letters resources (position part n) x)) (coming (term_comes x))
      (broken_off (ends_of (cases_letters resources part n all (block_letters resources part otherwise)))) (broken_off (cases_ends all (block_ends otherwise)))
      (term_law (position part n) x) (ap broken_off (cases_law part n all (block_letters resources part otherwise) (block_ends otherwise) (block_law part otherwise)))
  statement_law part (e.break_loop n) = refl
  statement_law part (e.continue_loop n) = refl
  statement_law part (e.return_nothing n) = refl
  statement_law part (e.return_value n x t) = returned_law (ends_of (term_letters resources (position part n) x)) (term_comes x) (term_law (position part n) x)
  statement_law part (e.emit n id args) = arguments_law (position part n) args

  block_law : (part : BodyPart) (a : e.BlockTree) → ends_of (block_letters resources part a) ≡ block_ends a
  block_law part (e.block n all) = statements_law part all

  statements_law : (part : BodyPart) (all : e.Statements) → ends_of (statements_letters resources part all) ≡ statements_ends all
  statements_law part e.no_statements = refl
  statements_law part (e.statements s all) =
      two behind (ends_of (statement_letters resources part s)) (statement_ends s) (ends_of (scope_behind resources part s (statements_letters resources part all))) (statements_ends all)
      (statement_law part s) (scope_law part s (statements_letters resources part all) ∙ statements_law part all)

  cases_law : (part : BodyPart) (n : ℕ) (all : e.TypedCases) (otherwise : PathBody) (o : Ends) → ends_of otherwise ≡ o → ends_of (cases_letters resources part n all otherwise) ≡ cases_ends all o
  cases_law part n e.no_cases otherwise o h = h
  cases_law part n (e.cases x a all) otherwise o h =
      two behind (ends_of (term_letters resources (position part n) x)) (coming (term_comes x))
      (beside (ends_of (block_letters resources part a)) (ends_of (cases_letters resources part n all otherwise))) (beside (block_ends a) (cases_ends all o))
      (term_law (position part n) x)
      (two beside (ends_of (block_letters resources part a)) (block_ends a) (ends_of (cases_letters resources part n all otherwise)) (cases_ends all o) (block_law part a) (cases_law part n all otherwise o h))

-- ---- functions

void_is : (t : PureType) → is_void t ≡ true → t ≡ basic b.Void
void_is (basic b.Void) h = refl
void_is t h = cc

not_true : (p : Bool) → not p ≡ true → p ≡ false
not_true true h = sym h
not_true false h = refl

is_not : (p : Bool) → (p ≡ true → ⊥) → not p ≡ true
is_not true h = absurd (h refl)
is_not false h = refl

true_both : (p q : Bool) → p ≡ true → q ≡ true → (p && q) ≡ true
true_both true q d i = i
true_both false q d i = d

lacking : (f : e.FunctionBody) (body : Option e.BlockTree) → f.body ≡ body → not (is_void f.result) ≡ true → body_comes body ≡ true → LacksReturn f
lacking f None is n h = cc
lacking f (Some a) is n h = record {
  has_result = λ v. (let o : is_void f.result ≡ false = not_true (is_void f.result) n in let i : is_void f.result ≡ true = ap is_void v in cc);
  block = a;
  is_body = is;
  comes = comes_complete (block_letters resources Whole a) (ap (λ z. z.next) (block_law Whole a) ∙ h);
}

pub lacks_sound : (f : e.FunctionBody) → lacks_return f ≡ true → LacksReturn f
lacks_sound f h = let q : (not (is_void f.result) ≡ true) × (body_comes f.body ≡ true) = and_split (not (is_void f.result)) (body_comes f.body) h in lacking f f.body refl q.0 q.1

pub lacks_complete : (f : e.FunctionBody) → LacksReturn f → lacks_return f ≡ true
lacks_complete f l =
    true_both (not (is_void f.result)) (body_comes f.body) (is_not (is_void f.result) (λ v. l.has_result (void_is f.result v)))
    (ap body_comes l.is_body ∙ ap (λ z. z.next) (sym (block_law Whole l.block)) ∙ comes_sound (block_letters resources Whole l.block) l.comes)

pub lacks_exactly : (f : e.FunctionBody) (r : Bool) → r ≡ lacks_return f → (r ≡ true → LacksReturn f) × (LacksReturn f → r ≡ true)
lacks_exactly f r h = ((λ t. lacks_sound f (sym h ∙ t)), (λ l. h ∙ lacks_complete f l))
