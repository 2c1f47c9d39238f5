-- What sets fields spells letters of fields alone, and no declaration stands in the scope of one with its number.
use Rattle.std.proofs.Common.{◌≡◌, refl, subst, ◌⊎◌, inl, inr, ℕ, ◌+◌, ◌<◌, arith, Bool, true, false, not, ◌&&◌, List, [], ◌∷◌, nat_eq, eqb-true, if◌then◌else◌}
use Rattle.std.proofs.lemmas.Bool.{false≢true, and_parts, and_from, or_cases}
use Rattle.std.specs.Prelude.{Option, Some, None}
use Rattle.cad_syntax.specs.declared.text.Name.{Name}
use Rattle.cad_grammar.specs.declared.expression.BinaryOperator.{BinaryOperator}
use Rattle.cad_declarations.specs.Typed as e
use Rattle.cad_paths.specs.declared.letter.Letter.{Letter}
use Rattle.cad_paths.specs.declared.letter.Letter.TheVariants.{Use, Fill, Spend, Empty, Need, Fresh, Set}
use Rattle.cad_paths.specs.declared.letter.NumberedField.{NumberedField}
use Rattle.cad_paths.specs.declared.letter.BodyPart.{BodyPart}
use Rattle.cad_paths.specs.declared.letter.BodyPart.TheVariants.{Whole, Prepare}
use Rattle.cad_paths.specs.declared.letter.Position.{Position}
use Rattle.cad_paths.specs.declared.letter.Way.TheVariants.{Broken, Continued, Returned}
use Rattle.cad_paths.specs.declared.letter.FieldRule.{FieldRule}
use Rattle.cad_paths.specs.Paths.{PathBody, leave, spell, seq, either, loop, catch, scope, skip}
use Rattle.cad_paths.specs.Letters.{Reading, resources, fields_of_self, fields_of_transaction, variable_letters, all_needed, self_use, field_named, needed, own_field_use, setting, set_field, own_field_set, numbered, variable_set, is_self, take_letters, ending, maybe, is_never_builtin, ends_path, is_short, operands, member_of_self, receiver_letters, place_letters, use_letters, term_letters, terms_letters, arguments_letters, entries_letters}
use Rattle.cad_paths.specs.Bodies.{position, target_letters, set_letters, fill_letters, declared, while_letters, for_letters, taken_variable, if_let_letters, if_cast_letters, return_letters, scope_behind, statement_letters, block_letters, statements_letters, cases_letters, message_letters, condition_letters, conditions_letters, before_letters, part_letters, has_no_block, inner_letters, unset_fields, prepare_end, field_letters}
use Rattle.std.specs.Prelude.{slice_get}
use Rattle.cad_paths.specs.Marks.{among, declares_anew}

abbrev pub is_field_letter : Letter → Bool
is_field_letter Use = false
is_field_letter Fill = false
is_field_letter Spend = false
is_field_letter Empty = false
is_field_letter Need = true
is_field_letter Fresh = true
is_field_letter Set = true

-- letters of fields alone
abbrev pub sets : PathBody → Bool
sets (leave x) = true
sets (spell v l s) = is_field_letter l
sets (seq a b) = sets a && sets b
sets (either a b) = sets a && sets b
sets (loop a) = sets a
sets (catch c a) = sets a
sets (scope v s b) = sets b

-- letters of fields are asked for
abbrev pub reads_fields : Reading → Bool
reads_fields resources = false
reads_fields (fields_of_self fs) = true
reads_fields (fields_of_transaction fs) = true

-- the letters that are asked for
abbrev pub may_spell : Bool → Letter → Bool
may_spell true l = is_field_letter l
may_spell false l = true

-- those letters, and no declaration
abbrev pub plain : Reading → PathBody → Bool
plain r (leave x) = true
plain r (spell v l s) = may_spell (reads_fields r) l
plain r (seq a b) = plain r a && plain r b
plain r (either a b) = plain r a && plain r b
plain r (loop a) = plain r a
plain r (catch c a) = plain r a
plain r (scope v s b) = false

abbrev pub Plain : Reading → PathBody → Type 0
Plain r b = plain r b ≡ true

both : (r : Reading) (a b : PathBody) → Plain r a → Plain r b → Plain r (seq a b)
both r a b h i = and_from (plain r a) (plain r b) h i

one_of : (r : Reading) (a b : PathBody) → Plain r a → Plain r b → Plain r (either a b)
one_of r a b h i = and_from (plain r a) (plain r b) h i

perhaps : (r : Reading) (a : PathBody) → Plain r a → Plain r (maybe a)
perhaps r a h = one_of r a skip h refl

chosen : (r : Reading) (b : Bool) (x y : PathBody) → Plain r x → Plain r y → Plain r (if b then x else y)
chosen r true x y h i = h
chosen r false x y h i = i

plain_sets : (r : Reading) (b : PathBody) → reads_fields r ≡ true → Plain r b → sets b ≡ true
plain_sets r (leave x) e h = refl
plain_sets r (spell v l s) e h = subst (λ z. may_spell z l ≡ true) e h
plain_sets r (seq a b) e h = let p = and_parts (plain r a) (plain r b) h in and_from (sets a) (sets b) (plain_sets r a e p.0) (plain_sets r b e p.1)
plain_sets r (either a b) e h = let p = and_parts (plain r a) (plain r b) h in and_from (sets a) (sets b) (plain_sets r a e p.0) (plain_sets r b e p.1)
plain_sets r (loop a) e h = plain_sets r a e h
plain_sets r (catch c a) e h = plain_sets r a e h
plain_sets r (scope v s b) e h = absurd (false≢true h)

pub plain_anew : (r : Reading) (us : List ℕ) (b : PathBody) → Plain r b → declares_anew us b ≡ true
plain_anew r us (leave x) h = refl
plain_anew r us (spell v l s) h = refl
plain_anew r us (seq a b) h = let p = and_parts (plain r a) (plain r b) h in and_from (declares_anew us a) (declares_anew us b) (plain_anew r us a p.0) (plain_anew r us b p.1)
plain_anew r us (either a b) h = let p = and_parts (plain r a) (plain r b) h in and_from (declares_anew us a) (declares_anew us b) (plain_anew r us a p.0) (plain_anew r us b p.1)
plain_anew r us (loop a) h = plain_anew r us a h
plain_anew r us (catch c a) h = plain_anew r us a h
plain_anew r us (scope v s b) h = absurd (false≢true h)

-- ---- single places

needed_all : (gs : List FieldRule) (n : ℕ) (fs : List FieldRule) (at : Position) → Plain (fields_of_self gs) (all_needed n fs at)
needed_all gs n [] at = refl
needed_all gs n (f ∷ fs) at = needed_all gs (n + 1) fs at

needed_plain : (fs : List FieldRule) (at : Position) (o : Option NumberedField) → Plain (fields_of_self fs) (needed fs at o)
needed_plain fs at None = needed_all fs 0 fs at
needed_plain fs at (Some f) = refl

setting_plain : (r : Reading) (b : Bool) (n : ℕ) (at : Position) → reads_fields r ≡ true → Plain r (setting b n at)
setting_plain resources b n at h = absurd (false≢true h)
setting_plain (fields_of_self fs) true n at h = refl
setting_plain (fields_of_self fs) false n at h = refl
setting_plain (fields_of_transaction fs) true n at h = refl
setting_plain (fields_of_transaction fs) false n at h = refl

set_field_plain : (r : Reading) (at : Position) (o : Option NumberedField) → reads_fields r ≡ true → Plain r (set_field at o)
set_field_plain r at None h = refl
set_field_plain r at (Some f) h = setting_plain r f.is_once f.number at h

pub variable_plain : (r : Reading) (l : Letter) (at : Position) (v : ℕ) → Plain r (variable_letters r l at v)
variable_plain resources l at v = refl
variable_plain (fields_of_self fs) l at v = refl
variable_plain (fields_of_transaction fs) l at v = refl

self_plain : (r : Reading) (at : Position) → Plain r (self_use r at)
self_plain resources at = refl
self_plain (fields_of_self fs) at = needed_all fs 0 fs at
self_plain (fields_of_transaction fs) at = refl

own_use_plain : (r : Reading) (at : Position) (name : Name) → Plain r (own_field_use r at name)
own_use_plain resources at name = refl
own_use_plain (fields_of_self fs) at name = needed_plain fs at (field_named 0 fs name)
own_use_plain (fields_of_transaction fs) at name = refl

own_set_plain : (r : Reading) (at : Position) (name : Name) → Plain r (own_field_set r at name)
own_set_plain resources at name = refl
own_set_plain (fields_of_self fs) at name = set_field_plain (fields_of_self fs) at (field_named 0 fs name) refl
own_set_plain (fields_of_transaction fs) at name = refl

variable_set_plain : (r : Reading) (at : Position) (v : ℕ) → Plain r (variable_set r at v)
variable_set_plain resources at v = refl
variable_set_plain (fields_of_self fs) at v = refl
variable_set_plain (fields_of_transaction fs) at v = set_field_plain (fields_of_transaction fs) at (numbered v (slice_get fs v)) refl

pub take_plain : (r : Reading) (at : Position) (p : e.PlaceTree) (other : PathBody) → Plain r other → Plain r (take_letters r at p other)
take_plain r at (e.variable v) other i = variable_plain r Spend at v
take_plain r at e.self other i = i
take_plain r at (e.contract id) other i = i
take_plain r at (e.target x) other i = i
take_plain r at (e.field p of name) other i = i
take_plain r at (e.element p of x) other i = i
take_plain r at (e.content p forces) other i = i

pub ending_plain : (r : Reading) (b : Bool) → Plain r (ending b)
ending_plain r true = refl
ending_plain r false = refl

member_plain : (r : Reading) (at : Position) (u : e.UseTree) → Plain r (member_of_self r at u)
member_plain r at (e.get name authorization) = own_use_plain r at name
member_plain r at (e.method name is_view is_never args) = self_plain r at
member_plain r at (e.builtin_field member) = self_plain r at
member_plain r at (e.builtin_call member types args) = self_plain r at

receiver_plain : (r : Reading) (at : Position) (p : e.PlaceTree) (u : e.UseTree) (other : PathBody) → Plain r other → Plain r (receiver_letters r at p u other)
receiver_plain r at p u other i = chosen r (is_self p) (member_of_self r at u) other (member_plain r at u) i

operands_plain : (r : Reading) (op : BinaryOperator) (a b : PathBody) → Plain r a → Plain r b → Plain r (operands op a b)
operands_plain r op a b h i = both r a (if is_short op then maybe b else b) h (chosen r (is_short op) (maybe b) b (perhaps r b i) i)

-- ---- expressions

mutual
  pub place_plain : (r : Reading) (at : Position) → (p : e.PlaceTree) → Plain r (place_letters r at p)
  place_plain r at (e.variable v) = variable_plain r Use at v
  place_plain r at e.self = self_plain r at
  place_plain r at (e.contract id) = refl
  place_plain r at (e.target x) = term_plain r at x
  place_plain r at (e.field p of name) = chosen r (is_self p) (own_field_use r at name) (place_letters r at p) (own_use_plain r at name) (place_plain r at p)
  place_plain r at (e.element p of x) = both r (place_letters r at p) (term_letters r at x) (place_plain r at p) (term_plain r at x)
  place_plain r at (e.content p forces) = place_plain r at p

  use_plain : (r : Reading) (at : Position) → (u : e.UseTree) → Plain r (use_letters r at u)
  use_plain r at (e.get name authorization) = refl
  use_plain r at (e.method name is_view is_never args) = arguments_plain r at args
  use_plain r at (e.builtin_field member) = refl
  use_plain r at (e.builtin_call member types args) = arguments_plain r at args

  pub term_plain : (r : Reading) (at : Position) → (x : e.TermTree) → Plain r (term_letters r at x)
  term_plain r at (e.number n) = refl
  term_plain r at (e.address a) = refl
  term_plain r at (e.bool x) = refl
  term_plain r at e.nil = refl
  term_plain r at (e.string x) = refl
  term_plain r at (e.character x) = refl
  term_plain r at (e.path p) = refl
  term_plain r at (e.meta t) = refl
  term_plain r at (e.case id n) = refl
  term_plain r at (e.copy p) = place_plain r at p
  term_plain r at (e.take p) = take_plain r at p (place_letters r at p) (place_plain r at p)
  term_plain r at (e.array t items) = terms_plain r at items
  term_plain r at (e.dictionary k t items) = entries_plain r at items
  term_plain r at (e.construct id args) = arguments_plain r at args
  term_plain r at (e.create id args) = arguments_plain r at args
  term_plain r at (e.call f is_view is_never args) = both r (arguments_letters r at args) (ending is_never) (arguments_plain r at args) (ending_plain r is_never)
  term_plain r at (e.builtin member types args) = both r (arguments_letters r at args) (ending (is_never_builtin member types)) (arguments_plain r at args) (ending_plain r (is_never_builtin member types))
  term_plain r at (e.on p u) =
      both r (receiver_letters r at p u (place_letters r at p)) (seq (use_letters r at u) (ending (ends_path u))) (receiver_plain r at p u (place_letters r at p) (place_plain r at p))
      (both r (use_letters r at u) (ending (ends_path u)) (use_plain r at u) (ending_plain r (ends_path u)))
  term_plain r at (e.chain p u wraps) = both r (place_letters r at p) (maybe (use_letters r at u)) (place_plain r at p) (perhaps r (use_letters r at u) (use_plain r at u))
  term_plain r at (e.index p of x) = both r (place_letters r at p) (term_letters r at x) (place_plain r at p) (term_plain r at x)
  term_plain r at (e.hold n t x body) = both r (term_letters r at x) (term_letters r at body) (term_plain r at x) (term_plain r at body)
  term_plain r at (e.destroy x) = term_plain r at x
  term_plain r at (e.borrow p authorization t takes_off gives_optional) = place_plain r at p
  term_plain r at (e.unary op x) = term_plain r at x
  term_plain r at (e.force x) = term_plain r at x
  term_plain r at (e.cast kind x t) = term_plain r at x
  term_plain r at (e.binary op x y) = operands_plain r op (term_letters r at x) (term_letters r at y) (term_plain r at x) (term_plain r at y)
  term_plain r at (e.coalesce x y takes_off t) = both r (term_letters r at x) (maybe (term_letters r at y)) (term_plain r at x) (perhaps r (term_letters r at y) (term_plain r at y))
  term_plain r at (e.is_nil p is_negated) = place_plain r at p
  term_plain r at (e.conditional c x y) =
      both r (term_letters r at c) (either (term_letters r at x) (term_letters r at y)) (term_plain r at c)
      (one_of r (term_letters r at x) (term_letters r at y) (term_plain r at x) (term_plain r at y))
  term_plain r at (e.before n) = refl

  terms_plain : (r : Reading) (at : Position) → (all : e.Terms) → Plain r (terms_letters r at all)
  terms_plain r at e.no_terms = refl
  terms_plain r at (e.terms x xs) = both r (term_letters r at x) (terms_letters r at xs) (term_plain r at x) (terms_plain r at xs)

  pub arguments_plain : (r : Reading) (at : Position) → (all : e.Arguments) → Plain r (arguments_letters r at all)
  arguments_plain r at e.no_arguments = refl
  arguments_plain r at (e.arguments x t xs) = both r (term_letters r at x) (arguments_letters r at xs) (term_plain r at x) (arguments_plain r at xs)

  entries_plain : (r : Reading) (at : Position) → (all : e.TermEntries) → Plain r (entries_letters r at all)
  entries_plain r at e.no_entries = refl
  entries_plain r at (e.entries k x xs) =
      both r (term_letters r at k) (seq (term_letters r at x) (entries_letters r at xs)) (term_plain r at k)
      (both r (term_letters r at x) (entries_letters r at xs) (term_plain r at x) (entries_plain r at xs))

-- ---- targets

pub target_plain : (r : Reading) (at : Position) → (p : e.PlaceTree) → Plain r (target_letters r at p)
target_plain r at (e.variable v) = refl
target_plain r at e.self = refl
target_plain r at (e.contract id) = refl
target_plain r at (e.target x) = term_plain r at x
target_plain r at (e.field p of name) = chosen r (is_self p) skip (place_letters r at p) refl (place_plain r at p)
target_plain r at (e.element p of x) = both r (place_letters r at p) (term_letters r at x) (place_plain r at p) (term_plain r at x)
target_plain r at (e.content p forces) = place_plain r at p

pub set_plain : (r : Reading) (at : Position) → (p : e.PlaceTree) → Plain r (set_letters r at p)
set_plain r at (e.variable v) = variable_set_plain r at v
set_plain r at e.self = refl
set_plain r at (e.contract id) = refl
set_plain r at (e.target x) = refl
set_plain r at (e.field p of name) = chosen r (is_self p) (own_field_set r at name) skip (own_set_plain r at name) refl
set_plain r at (e.element p of x) = refl
set_plain r at (e.content p forces) = refl

pub fill_plain : (r : Reading) (at : Position) → (p : e.PlaceTree) → Plain r (fill_letters r at p)
fill_plain r at (e.variable v) = variable_plain r Fill at v
fill_plain r at e.self = refl
fill_plain r at (e.contract id) = refl
fill_plain r at (e.target x) = refl
fill_plain r at (e.field p of name) = chosen r (is_self p) (own_field_use r at name) skip (own_use_plain r at name) refl
fill_plain r at (e.element p of x) = refl
fill_plain r at (e.content p forces) = refl

-- ---- statements

declared_plain : (r : Reading) (v : e.VariableEntry) (at : Position) (a : PathBody) → reads_fields r ≡ true → Plain r a → Plain r (declared r v at a)
declared_plain resources v at a h i = absurd (false≢true h)
declared_plain (fields_of_self fs) v at a h i = i
declared_plain (fields_of_transaction fs) v at a h i = i

while_plain : (r : Reading) (test a : PathBody) → Plain r test → Plain r a → Plain r (while_letters test a)
while_plain r test a h i = both r test (loop (seq (catch Continued a) test)) h (both r (catch Continued a) test i h)

for_plain : (r : Reading) (array a : PathBody) → Plain r array → Plain r a → Plain r (for_letters array a)
for_plain r array a h i = both r array (catch Broken (loop (catch Continued a))) h i

if_let_plain : (r : Reading) (at : Position) (o : Option ℕ) (x a b : PathBody) → reads_fields r ≡ true → Plain r x → Plain r a → Plain r b → Plain r (if_let_letters r at o x a b)
if_let_plain r at (Some v) x a b h i j k =
    one_of r (seq (variable_letters r Spend at v) a) (seq (variable_letters r Empty at v) b) (both r (variable_letters r Spend at v) a (variable_plain r Spend at v) j)
    (both r (variable_letters r Empty at v) b (variable_plain r Empty at v) k)
if_let_plain r at None x a b h i j k = both r x (either a b) i (one_of r a b j k)

if_cast_plain : (r : Reading) (at : Position) (p : e.PlaceTree) (a b : PathBody) → reads_fields r ≡ true → Plain r a → Plain r b → Plain r (if_cast_letters r at p a b)
if_cast_plain r at p a b h i j =
    one_of r (seq (take_letters r at p (place_letters r at p)) a) (seq (place_letters r at p) b)
    (both r (take_letters r at p (place_letters r at p)) a (take_plain r at p (place_letters r at p) (place_plain r at p)) i)
    (both r (place_letters r at p) b (place_plain r at p) j)

pub return_plain : (r : Reading) (at : Position) (o : Option e.TermTree) → Plain r (return_letters r at o)
return_plain r at None = refl
return_plain r at (Some x) = both r (term_letters r at x) (leave Returned) (term_plain r at x) refl

behind_plain : (r : Reading) (part : BodyPart) (s : e.StatementTree) (rest : PathBody) → reads_fields r ≡ true → Plain r rest → Plain r (scope_behind r part s rest)
behind_plain r part (e.declare n v x) rest h i = declared_plain r v (position part n) rest h i
behind_plain r part (e.exchange n v p t x) rest h i = declared_plain r v (position part n) rest h i
behind_plain r part (e.assign n p x t) rest h i = i
behind_plain r part (e.force_assign n p x t) rest h i = i
behind_plain r part (e.swap n p t q u) rest h i = i
behind_plain r part (e.expression n x) rest h i = i
behind_plain r part (e.if_else n x a b) rest h i = i
behind_plain r part (e.if_let n v x t a b) rest h i = i
behind_plain r part (e.if_cast n v p t a b) rest h i = i
behind_plain r part (e.while_loop n x a) rest h i = i
behind_plain r part (e.for_loop n k v x t a) rest h i = i
behind_plain r part (e.switch n x all otherwise) rest h i = i
behind_plain r part (e.break_loop n) rest h i = i
behind_plain r part (e.continue_loop n) rest h i = i
behind_plain r part (e.return_nothing n) rest h i = i
behind_plain r part (e.return_value n x t) rest h i = i
behind_plain r part (e.emit n id args) rest h i = i

three : (r : Reading) (a b c : PathBody) → Plain r a → Plain r b → Plain r c → Plain r (seq a (seq b c))
three r a b c h i j = both r a (seq b c) h (both r b c i j)

mutual
  statement_plain : (r : Reading) (part : BodyPart) → reads_fields r ≡ true → (s : e.StatementTree) → Plain r (statement_letters r part s)
  statement_plain r part h (e.declare n v x) = term_plain r (position part n) x
  statement_plain r part h (e.exchange n v p t x) =
      three r (target_letters r (position part n) p) (term_letters r (position part n) x) (fill_letters r (position part n) p)
      (target_plain r (position part n) p) (term_plain r (position part n) x) (fill_plain r (position part n) p)
  statement_plain r part h (e.assign n p x t) =
      three r (target_letters r (position part n) p) (term_letters r (position part n) x) (set_letters r (position part n) p)
      (target_plain r (position part n) p) (term_plain r (position part n) x) (set_plain r (position part n) p)
  statement_plain r part h (e.force_assign n p x t) =
      three r (target_letters r (position part n) p) (term_letters r (position part n) x) (fill_letters r (position part n) p)
      (target_plain r (position part n) p) (term_plain r (position part n) x) (fill_plain r (position part n) p)
  statement_plain r part h (e.swap n p t q u) =
      three r (target_letters r (position part n) p) (target_letters r (position part n) q) (seq (fill_letters r (position part n) p) (fill_letters r (position part n) q))
      (target_plain r (position part n) p) (target_plain r (position part n) q)
      (both r (fill_letters r (position part n) p) (fill_letters r (position part n) q) (fill_plain r (position part n) p) (fill_plain r (position part n) q))
  statement_plain r part h (e.expression n x) = term_plain r (position part n) x
  statement_plain r part h (e.if_else n x a b) =
      both r (term_letters r (position part n) x) (either (block_letters r part a) (block_letters r part b)) (term_plain r (position part n) x)
      (one_of r (block_letters r part a) (block_letters r part b) (block_plain r part h a) (block_plain r part h b))
  statement_plain r part h (e.if_let n v x t a b) =
      if_let_plain r (position part n) (taken_variable x) (term_letters r (position part n) x) (declared r v (position part n) (block_letters r part a)) (block_letters r part b)
      h (term_plain r (position part n) x) (declared_plain r v (position part n) (block_letters r part a) h (block_plain r part h a)) (block_plain r part h b)
  statement_plain r part h (e.if_cast n v p t a b) =
      if_cast_plain r (position part n) p (declared r v (position part n) (block_letters r part a)) (block_letters r part b)
      h (declared_plain r v (position part n) (block_letters r part a) h (block_plain r part h a)) (block_plain r part h b)
  statement_plain r part h (e.while_loop n x a) = while_plain r (term_letters r (position part n) x) (block_letters r part a) (term_plain r (position part n) x) (block_plain r part h a)
  statement_plain r part h (e.for_loop n k v x t a) = for_plain r (term_letters r (position part n) x) (block_letters r part a) (term_plain r (position part n) x) (block_plain r part h a)
  statement_plain r part h (e.switch n x all otherwise) =
      both r (term_letters r (position part n) x) (cases_letters r part n all (block_letters r part otherwise)) (term_plain r (position part n) x)
      (cases_plain r part h all n (block_letters r part otherwise) (block_plain r part h otherwise))
  statement_plain r part h (e.break_loop n) = refl
  statement_plain r part h (e.continue_loop n) = refl
  statement_plain r part h (e.return_nothing n) = return_plain r (position part n) None
  statement_plain r part h (e.return_value n x t) = return_plain r (position part n) (Some x)
  statement_plain r part h (e.emit n id args) = arguments_plain r (position part n) args

  block_plain : (r : Reading) (part : BodyPart) → reads_fields r ≡ true → (a : e.BlockTree) → Plain r (block_letters r part a)
  block_plain r part h (e.block n all) = statements_plain r part h all

  statements_plain : (r : Reading) (part : BodyPart) → reads_fields r ≡ true → (all : e.Statements) → Plain r (statements_letters r part all)
  statements_plain r part h e.no_statements = refl
  statements_plain r part h (e.statements s all) =
      both r (statement_letters r part s) (scope_behind r part s (statements_letters r part all)) (statement_plain r part h s)
      (behind_plain r part s (statements_letters r part all) h (statements_plain r part h all))

  cases_plain : (r : Reading) (part : BodyPart) → reads_fields r ≡ true → (all : e.TypedCases) → (n : ℕ) (otherwise : PathBody) → Plain r otherwise → Plain r (cases_letters r part n all otherwise)
  cases_plain r part h e.no_cases n otherwise i = i
  cases_plain r part h (e.cases x a all) n otherwise i =
      both r (term_letters r (position part n) x) (either (block_letters r part a) (cases_letters r part n all otherwise)) (term_plain r (position part n) x)
      (one_of r (block_letters r part a) (cases_letters r part n all otherwise) (block_plain r part h a) (cases_plain r part h all n otherwise i))

-- ---- conditions and whole bodies

pub message_plain : (r : Reading) (at : Position) (o : Option e.TermTree) → Plain r (message_letters r at o)
message_plain r at None = refl
message_plain r at (Some x) = perhaps r (term_letters r at x) (term_plain r at x)

condition_plain : (r : Reading) (part : BodyPart) (c : e.ConditionBody) → Plain r (condition_letters r part c)
condition_plain r part (e.test n x message) =
    both r (term_letters r (position part n) x) (message_letters r (position part n) message) (term_plain r (position part n) x) (message_plain r (position part n) message)
condition_plain r part (e.emitted n id args) = arguments_plain r (position part n) args

pub conditions_plain : (r : Reading) (part : BodyPart) (all : List e.ConditionBody) → Plain r (conditions_letters r part all)
conditions_plain r part [] = refl
conditions_plain r part (c ∷ all) = both r (condition_letters r part c) (conditions_letters r part all) (condition_plain r part c) (conditions_plain r part all)

pub before_plain : (r : Reading) (part : BodyPart) (all : List e.BeforeTree) → Plain r (before_letters r part all)
before_plain r part [] = refl
before_plain r part (x ∷ all) = both r (term_letters r (position part x.at) x.value) (before_letters r part all) (term_plain r (position part x.at) x.value) (before_plain r part all)

part_plain : (r : Reading) (part : BodyPart) (o : Option e.BlockTree) → reads_fields r ≡ true → Plain r (part_letters r part o)
part_plain r part None h = refl
part_plain r part (Some a) h = block_plain r part h a

inner_plain : (r : Reading) (f : e.FunctionBody) → reads_fields r ≡ true → Plain r (inner_letters r f)
inner_plain r f h =
    both r (before_letters r Whole f.before) (seq (conditions_letters r Whole f.pre) (seq (part_letters r Whole f.body) (seq (conditions_letters r Whole f.post) (ending (has_no_block f.body)))))
    (before_plain r Whole f.before)
    (three r (conditions_letters r Whole f.pre) (part_letters r Whole f.body) (seq (conditions_letters r Whole f.post) (ending (has_no_block f.body)))
    (conditions_plain r Whole f.pre) (part_plain r Whole f.body h)
    (both r (conditions_letters r Whole f.post) (ending (has_no_block f.body)) (conditions_plain r Whole f.post) (ending_plain r (has_no_block f.body))))

-- ---- fields, numbered in a row

-- all of these are below
abbrev pub AreBelow : List ℕ → ℕ → Type 0
AreBelow us n = (u : ℕ) → among us u ≡ true → u < n

pub below_one : (us : List ℕ) (n : ℕ) → AreBelow us n → AreBelow (n ∷ us) (n + 1)
below_one us n f u h = pick (or_cases (nat_eq n u) (among us u) h)
  where
    pick : (nat_eq n u ≡ true) ⊎ (among us u ≡ true) → u < n + 1
    pick (inl i) = let p = eqb-true n u i in omega arith
    pick (inr i) = let p = f u i in omega arith

pub not_among : (us : List ℕ) (n : ℕ) → AreBelow us n → not (among us n) ≡ true
not_among us n f = pick (among us n) refl
  where
    pick : (b : Bool) → among us n ≡ b → not b ≡ true
    pick true h = let p = f n h in absurd (omega arith)
    pick false h = refl

fields_anew : (r : Reading) (n : ℕ) (fs : List FieldRule) (at : Position) (a : PathBody) (us : List ℕ) → AreBelow us n → Plain r a → declares_anew us (unset_fields n fs at a) ≡ true
fields_anew r n [] at a us f h = plain_anew r us a h
fields_anew r n (x ∷ fs) at a us f h =
    and_from (not (among us n)) (declares_anew (n ∷ us) (unset_fields (n + 1) fs at a)) (not_among us n f) (fields_anew r (n + 1) fs at a (n ∷ us) (below_one us n f) h)

fields_set : (r : Reading) (n : ℕ) (fs : List FieldRule) (at : Position) (a : PathBody) → reads_fields r ≡ true → Plain r a → sets (unset_fields n fs at a) ≡ true
fields_set r n [] at a e h = plain_sets r a e h
fields_set r n (x ∷ fs) at a e h = fields_set r (n + 1) fs at a e h

pub none_below : (n : ℕ) → AreBelow [] n
none_below n u h = absurd (false≢true h)

pub letters_set : (fs : List FieldRule) (body : e.PartBody) → sets (field_letters fs body) ≡ true
letters_set fs (e.function_part f) = refl
letters_set fs (e.initializer_part f) = fields_set (fields_of_self fs) 0 fs (position Whole f.statements) (inner_letters (fields_of_self fs) f) refl (inner_plain (fields_of_self fs) f refl)
letters_set fs (e.transaction_part t) = fields_set (fields_of_transaction fs) 0 fs (prepare_end t) (part_letters (fields_of_transaction fs) Prepare t.prepare) refl (part_plain (fields_of_transaction fs) Prepare t.prepare refl)

pub letters_anew : (fs : List FieldRule) (body : e.PartBody) → declares_anew [] (field_letters fs body) ≡ true
letters_anew fs (e.function_part f) = refl
letters_anew fs (e.initializer_part f) = fields_anew (fields_of_self fs) 0 fs (position Whole f.statements) (inner_letters (fields_of_self fs) f) [] (none_below 0) (inner_plain (fields_of_self fs) f refl)
letters_anew fs (e.transaction_part t) = fields_anew (fields_of_transaction fs) 0 fs (prepare_end t) (part_letters (fields_of_transaction fs) Prepare t.prepare) [] (none_below 0) (part_plain (fields_of_transaction fs) Prepare t.prepare refl)
