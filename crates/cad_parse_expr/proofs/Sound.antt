-- What is read is spelled so.
use Rattle.std.proofs.Common.{◌≡◌, ℕ, zero, suc, Bool, true, false, List, [], ◌∷◌, length, Option, Some, None, refl, sym, ap, ◌∙◌, subst}
use Rattle.cad_grammar.specs.declared.token.Sign.{Sign}
use Rattle.cad_grammar.specs.declared.token.Sign.TheVariants as s
use Rattle.cad_syntax.specs.declared.keyword.Keyword.TheVariants as k
use Rattle.cad_grammar.specs.declared.level.Level.{Level}
use Rattle.cad_grammar.specs.declared.level.Level.TheVariants as level
use Rattle.cad_grammar.specs.declared.level.TypePosition.TheVariants as position
use Rattle.cad_grammar.specs.declared.expression.UnaryOperator.{UnaryOperator}
use Rattle.cad_grammar.specs.Trees.{TypeTree, Annotation, ExprTree, ArgumentTree, EntryTree}
use Rattle.cad_grammar.specs.Spots.{Spot, back, then, only_if, after, joined, keyword, name, opened, opening, resumed}
use Rattle.cad_grammar.specs.Lists.{Listed}
use Rattle.cad_grammar.specs.Lists as l
use Rattle.cad_grammar.specs.Levels.{tighter, operator, cast_word, unary_word, dot, literal, domain_name, question, questions}
use Rattle.cad_grammar.specs.ExpressionGrammar.{TypeArguments, HasNoTypeArguments, Tail, extend, Part, an_element, an_argument, an_entry, TreeOf, label, Reads, Tails, ReadsPart, Parts}
use Rattle.cad_grammar.specs.ExpressionGrammar as gr
use Rattle.cad_grammar.specs.TypeGrammar.{ReadsType}
use Rattle.cad_parse_type.specs.Code.Reading.{Found, Reader, listed, dotted, type_at, annotation_at, arguments_at}
use Rattle.cad_parse_type.proofs.Heads.{none_of, some_same}
use Rattle.cad_parse_type.proofs.Climbs.{then_is, IfFound, then_found, either_found, found_is, if_found, found_weaker, climb_keeps}
use Rattle.cad_parse_type.proofs.ListLaws.{listed_sound}
use Rattle.cad_parse_type.proofs.Whole.{type_laws as types}
use Rattle.cad_parse_expr.specs.Code.Reading.{unless, over, type_arguments}
use Rattle.cad_parse_expr.specs.Code.Reading as r

abbrev pub ReadAs : Level → Spot → ExprTree × Spot → Type 0
ReadAs l p x = Reads l p x.0 x.1

abbrev pub TailAs : Level → Spot → Tail × Spot → Type 0
TailAs l p x = Tails l p x.0 x.1

abbrev pub ArgumentsAs : Spot → List Annotation × Spot → Type 0
ArgumentsAs p x = TypeArguments p x.0 x.1

abbrev pub IsSoundAt : Level → Reader ExprTree → Type 0
IsSoundAt l read = (p : Spot) → IfFound (ReadAs l p) (read p)

abbrev pub IsSoundTail : Level → Reader Tail → Type 0
IsSoundTail l read = (p : Spot) → IfFound (TailAs l p) (read p)

unless_found : {A B : Type 0} (P : B → Type 0) (o : Option A) (d : Option B) → (o ≡ None → IfFound P d) → IfFound P (unless o d)
unless_found P None d h = h refl
unless_found P (Some x) d h = tt

unless_some : {A B : Type 0} (o : Option A) (d : Option B) (x : B) → unless o d ≡ Some x → (o ≡ None) × (d ≡ Some x)
unless_some None d x e = (refl, e)
unless_some (Some y) d x e = (cc, cc)

-- what is read behind an `as`
over_is : {A : Type 0} (o : Found A) (t : A × Spot) → then o over ≡ Some t → (o ≡ Some t) × (question position.BehindAs t.1 ≡ None) × (questions position.BehindAs t.1 ≡ None)
over_is None t e = (cc, cc, cc)
over_is (Some x) t e =
    let a = unless_some (question position.BehindAs x.1) (unless (questions position.BehindAs x.1) (Some x)) t e in
    let b = unless_some (questions position.BehindAs x.1) (Some x) t a.1 in
    let same = some_same x t b.1 in
    (ap Some same, subst (λ y. question position.BehindAs y.1 ≡ None) same a.0, subst (λ y. questions position.BehindAs y.1 ≡ None) same b.0)

abbrev AsTypeAs : Spot → TypeTree × Spot → Type 0
AsTypeAs p t = (q : Spot) × (u : Spot) × (keyword k.As p ≡ Some q) × (opened q ≡ Some u) × ReadsType position.BehindAs u t.0 t.1
    × (question position.BehindAs t.1 ≡ None) × (questions position.BehindAs t.1 ≡ None)

-- ---- type arguments

behind_name : (b : Bool) (p q : Spot) → then (only_if b p) (opening s.Less) ≡ Some q → (b ≡ true) × (opening s.Less p ≡ Some q)
behind_name true p q e = (refl, e)
behind_name false p q e = (cc, cc)

arguments_made : (p q u : Spot) (x : List Annotation × Spot) → p.after_name ≡ true → opening s.Less p ≡ Some q → arguments_at q ≡ Some x → after s.OpenParenthesis x.1 ≡ Some u → TypeArguments p x.0 (back p x.1)
arguments_made p q u ([], t) b o d c = absurd (types.arguments_filled q t d)
arguments_made p q u (a ∷ all, t) b o d c = gr.type_arguments b o (types.arguments_sound q a all t d) c

pub type_arguments_sound : (p : Spot) → IfFound (ArgumentsAs p) (type_arguments p)
unfolding type_arguments
type_arguments_sound p =
    let P = ArgumentsAs p in
    then_found P (then (only_if p.after_name p) (opening s.Less)) _ (λ q e1. then_found P (arguments_at q) _ (λ all e2. then_found P (after s.OpenParenthesis all.1) _ (λ u e3.
    let w = behind_name p.after_name p q e1 in arguments_made p q u all w.0 w.1 e2 e3)))

pub type_arguments_exact : {p q : Spot} {all : List Annotation} → TypeArguments p all q → type_arguments p ≡ Some (all, q)
unfolding type_arguments
type_arguments_exact (gr.type_arguments {p} {q} {r} {u} {a} {all} b o d c) =
    then_is (then (only_if p.after_name p) (opening s.Less)) _ q (ap (λ x. then (only_if x p) (opening s.Less)) b ∙ o)
    ∙ then_is (arguments_at q) _ (a ∷ all, r) (types.arguments_exact d) ∙ then_is (after s.OpenParenthesis r) _ u c

-- the reader finds none exactly where there are none
pub no_type_arguments : (p : Spot) → type_arguments p ≡ None → HasNoTypeArguments p
no_type_arguments p e all q d = let c = sym e ∙ type_arguments_exact d in cc

pub finds_no_type_arguments : (p : Spot) → HasNoTypeArguments p → type_arguments p ≡ None
finds_no_type_arguments p h = none_of (type_arguments p) (λ x e. h x.0 x.1 (found_is (ArgumentsAs p) _ x (type_arguments_sound p) e))

-- ---- tails and primaries that hold no further expression

cast_sound : IsSoundTail level.Cast r.cast_tail
unfolding r.cast_tail
cast_sound p =
    let P = TailAs level.Cast p in
    then_found P (cast_word p) _ (λ x e1. then_found P (opened x.1) _ (λ q e2. then_found P (then (annotation_at position.BehindAs q) over) _ (λ t e3.
    let w = over_is (annotation_at position.BehindAs q) t e3 in gr.cast e1 e2 (types.annotation_at_sound position.BehindAs q t w.0) w.1 w.2)))

as_type_sound : (p : Spot) → IfFound (AsTypeAs p) (r.as_type p)
unfolding r.as_type
as_type_sound p =
    let P = AsTypeAs p in
    then_found P (keyword k.As p) _ (λ q e1. then_found P (opened q) _ (λ u e2. if_found P (then (type_at position.BehindAs u) over) (λ t e3.
    let w = over_is (type_at position.BehindAs u) t e3 in (q, u, e1, e2, types.type_sound position.BehindAs u t w.0, w.1, w.2))))

member_sound : (p q : Spot) (is_optional : Bool) → dot p ≡ Some (is_optional, q) → IfFound (TailAs level.Postfix p) (r.member_tail is_optional q)
unfolding r.member_tail
member_sound p q is_optional e =
    let P = TailAs level.Postfix p in
    then_found P (opened q) _ (λ u e1. then_found P (name u) _ (λ n e2. gr.member_access e e1 e2))

force_sound : (p q : Spot) → joined s.Bang p ≡ Some q → IfFound (TailAs level.Postfix p) (r.force_tail q)
unfolding r.force_tail
force_sound p q e = then_found (TailAs level.Postfix p) (opened q) _ (λ u e1. gr.force e e1)

path_sound : (p q : Spot) → after s.Slash p ≡ Some q → IfFound (ReadAs level.Primary p) (r.path_tail q)
unfolding r.path_tail
path_sound p q e =
    let P = ReadAs level.Primary p in
    then_found P (domain_name q) _ (λ d e1. then_found P (after s.Slash d.1) _ (λ u e2. then_found P (name u) _ (λ n e3. gr.path_tokens e e1 e2 e3)))

name_sound : IsSoundAt level.Primary r.name_expr
unfolding r.name_expr
name_sound p = then_found (ReadAs level.Primary p) (name p) _ (λ n e. gr.name_token e)

operation_sound : (l : Level) (operand : Reader ExprTree) → IsSoundAt (tighter l) operand → IsSoundTail l (r.operation l operand)
unfolding r.operation
operation_sound l operand h p =
    let P = TailAs l p in
    then_found P (operator l p) _ (λ o e1. unless_found P (type_arguments p) _ (λ e0. then_found P (opened o.1) _ (λ q e2. then_found P (operand q) _ (λ b e3.
    gr.operation e1 (no_type_arguments p e0) e2 (found_is (ReadAs (tighter l) q) (operand q) b (h q) e3)))))

pub chain_sound : (l : Level) (base : Reader ExprTree) (tail : Reader Tail) → IsSoundAt (tighter l) base → IsSoundTail l tail → IsSoundAt l (r.chain base tail)
unfolding r.chain
chain_sound l base tail h g p =
    then_found (ReadAs l p) (base p) _ (λ a e.
    climb_keeps extend tail (λ b q. Reads l p b q) (λ b q x d f. gr.longer d (found_is (TailAs l q) (tail q) x (g q) f)) (length a.1.tokens) a.0 a.1
    (gr.alone (found_is (ReadAs (tighter l) p) (base p) a (h p) e)))

-- ---- lists

parts_of : {part : Part} {closing : Sign} {p q : Spot} {all : List (TreeOf part)} → Listed (ReadsPart part) closing p all q → Parts part closing p all q
parts_of (l.none e) = gr.none e
parts_of (l.last d e) = gr.last d e
parts_of (l.more d e w) = gr.more d e (parts_of w)

-- the reader of a part
abbrev pub part_reader : (Level → Reader ExprTree) → (part : Part) → Reader (TreeOf part)
part_reader read an_element = read level.Conditional
part_reader read an_argument = r.argument read
part_reader read an_entry = r.entry read

abbrev pub PartAs : (part : Part) → Spot → TreeOf part × Spot → Type 0
PartAs part p x = ReadsPart part p x.0 x.1

abbrev pub FallbackAs : Spot → ExprTree × Spot → Type 0
FallbackAs p b = (q : Spot) × (u : Spot) × (after s.Coalesce p ≡ Some q) × (opened q ≡ Some u) × Reads level.Coalesce u b.0 b.1

abbrev pub BranchesAs : Spot → (ExprTree × ExprTree) × Spot → Type 0
BranchesAs p b = (q : Spot) × (u : Spot) × (v : Spot) × (w : Spot)
    × (after s.Question p ≡ Some q) × (opened q ≡ Some u) × Reads level.Conditional u b.0.0 v × (after s.Colon v ≡ Some w) × Reads level.Conditional w b.0.1 b.1

module _ (read : Level → Reader ExprTree) (h : (l : Level) → IsSoundAt l (read l)) where
  -- one call of the reader that was given
  by_read : (l : Level) (p : Spot) (x : ExprTree × Spot) → read l p ≡ Some x → Reads l p x.0 x.1
  by_read l p x e = found_is (ReadAs l p) (read l p) x (h l p) e

  argument_found : (p : Spot) → IfFound (PartAs an_argument p) (r.argument read p)
  unfolding r.argument
  argument_found p =
      let P = PartAs an_argument p in
      either_found P (label p) _ _ (λ n e. then_found P (read level.Conditional n.1) _ (λ a e1. gr.labelled e (by_read level.Conditional n.1 a e1)))
      (λ e. then_found P (read level.Conditional p) _ (λ a e1. gr.bare e (by_read level.Conditional p a e1)))

  entry_found : (p : Spot) → IfFound (PartAs an_entry p) (r.entry read p)
  unfolding r.entry
  entry_found p =
      let P = PartAs an_entry p in
      then_found P (read level.Conditional p) _ (λ a e1. then_found P (resumed s.Colon p a.1) _ (λ q e2. then_found P (read level.Conditional q) _ (λ b e3.
      gr.entry (by_read level.Conditional p a e1) e2 (by_read level.Conditional q b e3))))

  pub part_sound : (part : Part) (p : Spot) (x : TreeOf part × Spot) → part_reader read part p ≡ Some x → ReadsPart part p x.0 x.1
  part_sound an_element p x e = gr.element (by_read level.Conditional p x e)
  part_sound an_argument p x e = found_is (PartAs an_argument p) (r.argument read p) x (argument_found p) e
  part_sound an_entry p x e = found_is (PartAs an_entry p) (r.entry read p) x (entry_found p) e

  pub parts_sound : (part : Part) (closing : Sign) (turns : ℕ) (p : Spot) (x : List (TreeOf part) × Spot) → listed (part_reader read part) closing turns [] p ≡ Some x → Parts part closing p x.0 x.1
  parts_sound part closing turns p x e = parts_of (listed_sound (ReadsPart part) (part_reader read part) closing (part_sound part) turns p x e)

  arguments_sound : (p : Spot) (x : List ArgumentTree × Spot) → r.arguments read p ≡ Some x → Parts an_argument s.CloseParenthesis p x.0 x.1
  unfolding r.arguments
  arguments_sound p x e = parts_sound an_argument s.CloseParenthesis (length p.tokens) p x e

  elements_sound : (p : Spot) (x : List ExprTree × Spot) → r.elements read p ≡ Some x → Parts an_element s.CloseBracket p x.0 x.1
  unfolding r.elements
  elements_sound p x e = parts_sound an_element s.CloseBracket (length p.tokens) p x e

  entries_sound : (p : Spot) (x : List EntryTree × Spot) → r.entries read p ≡ Some x → Parts an_entry s.CloseBrace p x.0 x.1
  unfolding r.entries
  entries_sound p x e = parts_sound an_entry s.CloseBrace (length p.tokens) p x e

  -- ---- primaries

  grouped_sound : (p q : Spot) → after s.OpenParenthesis p ≡ Some q → IfFound (ReadAs level.Primary p) (r.grouped read p q)
  unfolding r.grouped
  grouped_sound p q e =
      let P = ReadAs level.Primary p in
      then_found P (opened q) _ (λ u e1. then_found P (read level.Conditional u) _ (λ a e2. then_found P (resumed s.CloseParenthesis p a.1) _ (λ v e3.
      gr.grouped (then_is (after s.OpenParenthesis p) opened q e ∙ e1) (by_read level.Conditional u a e2) e3)))

  array_sound : (p q : Spot) → after s.OpenBracket p ≡ Some q → IfFound (ReadAs level.Primary p) (r.array read p q)
  unfolding r.array
  array_sound p q e =
      let P = ReadAs level.Primary p in
      then_found P (opened q) _ (λ u e1. then_found P (r.elements read u) _ (λ all e2.
      gr.listed (then_is (after s.OpenBracket p) opened q e ∙ e1) (elements_sound u all e2)))

  pairs_sound : (p q : Spot) → after s.OpenBrace p ≡ Some q → IfFound (ReadAs level.Primary p) (r.pairs read p q)
  unfolding r.pairs
  pairs_sound p q e =
      let P = ReadAs level.Primary p in
      then_found P (opened q) _ (λ u e1. then_found P (r.entries read u) _ (λ all e2.
      gr.paired (then_is (after s.OpenBrace p) opened q e ∙ e1) (entries_sound u all e2)))

  created_sound : (p q : Spot) → keyword k.Create p ≡ Some q → IfFound (ReadAs level.Primary p) (r.created read p q)
  unfolding r.created
  created_sound p q e =
      let P = ReadAs level.Primary p in
      then_found P (dotted q) _ (λ n e1. then_found P (opening s.OpenParenthesis n.1) _ (λ u e2. then_found P (r.arguments read u) _ (λ all e3.
      gr.created e (types.dotted_sound q n e1) e2 (arguments_sound u all e3))))

  primary_sound : IsSoundAt level.Primary (r.primary read)
  unfolding r.primary
  primary_sound p =
      let P = ReadAs level.Primary p in
      either_found P (after s.OpenParenthesis p) _ _ (λ q e. grouped_sound p q e) (λ _. either_found P (after s.OpenBracket p) _ _ (λ q e. array_sound p q e)
      (λ _. either_found P (after s.OpenBrace p) _ _ (λ q e. pairs_sound p q e) (λ _. either_found P (after s.Slash p) _ _ (λ q e. path_sound p q e)
      (λ _. either_found P (keyword k.Create p) _ _ (λ q e. created_sound p q e) (λ _. either_found P (literal p) _ _ (λ x e. gr.literal_token e) (λ _. name_sound p))))))

  -- ---- tails

  index_sound : (p q : Spot) → joined s.OpenBracket p ≡ Some q → IfFound (TailAs level.Postfix p) (r.index_tail read q)
  unfolding r.index_tail
  index_sound p q e =
      let P = TailAs level.Postfix p in
      then_found P (opened q) _ (λ u e1. then_found P (read level.Conditional u) _ (λ a e2. then_found P (resumed s.CloseBracket u a.1) _ (λ v e3.
      gr.index e e1 (by_read level.Conditional u a e2) e3)))

  call_sound : (p q : Spot) → joined s.OpenParenthesis p ≡ Some q → IfFound (TailAs level.Postfix p) (r.call_tail read [] q)
  unfolding r.call_tail
  call_sound p q e =
      let P = TailAs level.Postfix p in
      then_found P (opened q) _ (λ u e1. then_found P (r.arguments read u) _ (λ all e2. gr.call e e1 (arguments_sound u all e2)))

  typed_call_sound : (p : Spot) (x : List Annotation × Spot) → type_arguments p ≡ Some x → IfFound (TailAs level.Postfix p) (r.typed_call read x)
  unfolding r.typed_call r.call_tail
  typed_call_sound p x t =
      let P = TailAs level.Postfix p in
      then_found P (joined s.OpenParenthesis x.1) _ (λ q e. then_found P (opened q) _ (λ u e1. then_found P (r.arguments read u) _ (λ all e2.
      gr.typed_call (found_is (ArgumentsAs p) _ x (type_arguments_sound p) t) e e1 (arguments_sound u all e2))))

  postfix_tail_sound : IsSoundTail level.Postfix (r.postfix_tail read)
  unfolding r.postfix_tail
  postfix_tail_sound p =
      let P = TailAs level.Postfix p in
      either_found P (dot p) _ _ (λ x e. member_sound p x.1 x.0 e) (λ _. either_found P (type_arguments p) _ _ (λ x e. typed_call_sound p x e)
      (λ _. either_found P (joined s.OpenParenthesis p) _ _ (λ q e. call_sound p q e) (λ _. either_found P (joined s.OpenBracket p) _ _ (λ q e. index_sound p q e)
      (λ _. either_found P (joined s.Bang p) _ _ (λ q e. force_sound p q e) (λ _. tt)))))

  pub tail_sound : (l : Level) (base : Reader ExprTree) → IsSoundAt (tighter l) base → IsSoundTail l (r.tail read l base)
  unfolding r.tail
  tail_sound level.Postfix base g p = postfix_tail_sound p
  tail_sound level.Cast base g p = cast_sound p
  tail_sound level.Conditional base g p = operation_sound level.Conditional base g p
  tail_sound level.Or base g p = operation_sound level.Or base g p
  tail_sound level.And base g p = operation_sound level.And base g p
  tail_sound level.Comparison base g p = operation_sound level.Comparison base g p
  tail_sound level.Coalesce base g p = operation_sound level.Coalesce base g p
  tail_sound level.BitOr base g p = operation_sound level.BitOr base g p
  tail_sound level.BitXor base g p = operation_sound level.BitXor base g p
  tail_sound level.BitAnd base g p = operation_sound level.BitAnd base g p
  tail_sound level.Sum base g p = operation_sound level.Sum base g p
  tail_sound level.Product base g p = operation_sound level.Product base g p
  tail_sound level.Prefix base g p = operation_sound level.Prefix base g p
  tail_sound level.Primary base g p = operation_sound level.Primary base g p

  -- ---- prefixes

  unary_sound : (p q : Spot) (o : UnaryOperator) → unary_word p ≡ Some (o, q) → IfFound (ReadAs level.Prefix p) (r.unary read o q)
  unfolding r.unary
  unary_sound p q o e =
      let P = ReadAs level.Prefix p in
      then_found P (opened q) _ (λ u e1. then_found P (read level.Prefix u) _ (λ a e2. gr.prefixed e e1 (by_read level.Prefix u a e2)))

  borrowed_sound : (p q : Spot) → after s.Ampersand p ≡ Some q → IfFound (ReadAs level.Prefix p) (r.borrowed read q)
  unfolding r.borrowed
  borrowed_sound p q e =
      let P = ReadAs level.Prefix p in
      then_found P (opened q) _ (λ u e1. then_found P (read level.Prefix u) _ (λ a e2. then_found P (r.as_type a.1) _ (λ t e3.
      let w = found_is (AsTypeAs a.1) (r.as_type a.1) t (as_type_sound a.1) e3 in
      gr.borrowed e e1 (by_read level.Prefix u a e2) w.2 w.3 w.4 w.5 w.6)))

  prefix_sound : (base : Reader ExprTree) → IsSoundAt level.Postfix base → IsSoundAt level.Prefix (r.prefix read base)
  unfolding r.prefix
  prefix_sound base g p =
      let P = ReadAs level.Prefix p in
      either_found P (unary_word p) _ _ (λ x e. unary_sound p x.1 x.0 e) (λ _. either_found P (after s.Ampersand p) _ _ (λ q e. borrowed_sound p q e)
      (λ _. found_weaker (ReadAs level.Postfix p) P (base p) (λ x d. gr.alone d) (g p)))

  -- ---- what groups to the right

  pub fallback_sound : (p : Spot) → IfFound (FallbackAs p) (r.fallback read p)
  unfolding r.fallback
  fallback_sound p =
      let P = FallbackAs p in
      then_found P (after s.Coalesce p) _ (λ q e1. then_found P (opened q) _ (λ u e2. found_weaker (ReadAs level.Coalesce u) P (read level.Coalesce u) (λ b d. (q, u, e1, e2, d)) (h level.Coalesce u)))

  coalesce_sound : (base : Reader ExprTree) → IsSoundAt level.BitOr base → IsSoundAt level.Coalesce (r.coalesce read base)
  unfolding r.coalesce
  coalesce_sound base g p =
      let P = ReadAs level.Coalesce p in
      then_found P (base p) _ (λ a e1.
      let d = found_is (ReadAs level.BitOr p) (base p) a (g p) e1 in
      either_found P (r.fallback read a.1) _ _ (λ b e2. let w = found_is (FallbackAs a.1) _ b (fallback_sound a.1) e2 in gr.coalesce d w.2 w.3 w.4) (λ _. gr.alone d))

  pub branches_sound : (p : Spot) → IfFound (BranchesAs p) (r.branches read p)
  unfolding r.branches
  branches_sound p =
      let P = BranchesAs p in
      then_found P (after s.Question p) _ (λ q e1. then_found P (opened q) _ (λ u e2. then_found P (read level.Conditional u) _ (λ a e3. then_found P (after s.Colon a.1) _ (λ v e4.
      then_found P (read level.Conditional v) _ (λ b e5. (q, u, a.1, v, e1, e2, by_read level.Conditional u a e3, e4, by_read level.Conditional v b e5))))))

  conditional_sound : (base : Reader ExprTree) → IsSoundAt level.Or base → IsSoundAt level.Conditional (r.conditional read base)
  unfolding r.conditional
  conditional_sound base g p =
      let P = ReadAs level.Conditional p in
      then_found P (base p) _ (λ c e1.
      let d = found_is (ReadAs level.Or p) (base p) c (g p) e1 in
      either_found P (r.branches read c.1) _ _ (λ b e2. let w = found_is (BranchesAs c.1) _ b (branches_sound c.1) e2 in gr.conditional d w.4 w.5 w.6 w.7 w.8) (λ _. gr.alone d))

  -- ---- the levels

  chained_sound : (l : Level) (base : Reader ExprTree) → IsSoundAt (tighter l) base → IsSoundAt l (r.chained read l base)
  chained_sound l base g = chain_sound l base (r.tail read l base) g (tail_sound l base g)

  postfix_sound : IsSoundAt level.Postfix (r.postfix read)
  postfix_sound = chained_sound level.Postfix (r.primary read) primary_sound

  prefixed_sound : IsSoundAt level.Prefix (r.prefixed read)
  prefixed_sound = prefix_sound (r.postfix read) postfix_sound

  casts_sound : IsSoundAt level.Cast (r.cast read)
  casts_sound = chained_sound level.Cast (r.prefixed read) prefixed_sound

  product_sound : IsSoundAt level.Product (r.product read)
  product_sound = chained_sound level.Product (r.cast read) casts_sound

  sum_sound : IsSoundAt level.Sum (r.sum read)
  sum_sound = chained_sound level.Sum (r.product read) product_sound

  bit_and_sound : IsSoundAt level.BitAnd (r.bit_and read)
  bit_and_sound = chained_sound level.BitAnd (r.sum read) sum_sound

  bit_xor_sound : IsSoundAt level.BitXor (r.bit_xor read)
  bit_xor_sound = chained_sound level.BitXor (r.bit_and read) bit_and_sound

  bit_or_sound : IsSoundAt level.BitOr (r.bit_or read)
  bit_or_sound = chained_sound level.BitOr (r.bit_xor read) bit_xor_sound

  coalesced_sound : IsSoundAt level.Coalesce (r.coalesced read)
  coalesced_sound = coalesce_sound (r.bit_or read) bit_or_sound

  comparison_sound : IsSoundAt level.Comparison (r.comparison read)
  comparison_sound = chained_sound level.Comparison (r.coalesced read) coalesced_sound

  conjunction_sound : IsSoundAt level.And (r.conjunction read)
  conjunction_sound = chained_sound level.And (r.comparison read) comparison_sound

  disjunction_sound : IsSoundAt level.Or (r.disjunction read)
  disjunction_sound = chained_sound level.Or (r.conjunction read) conjunction_sound

  pub at_sound : (l : Level) → IsSoundAt l (r.at read l)
  unfolding r.at
  at_sound level.Conditional = conditional_sound (r.disjunction read) disjunction_sound
  at_sound level.Or = disjunction_sound
  at_sound level.And = conjunction_sound
  at_sound level.Comparison = comparison_sound
  at_sound level.Coalesce = coalesced_sound
  at_sound level.BitOr = bit_or_sound
  at_sound level.BitXor = bit_xor_sound
  at_sound level.BitAnd = bit_and_sound
  at_sound level.Sum = sum_sound
  at_sound level.Product = product_sound
  at_sound level.Cast = casts_sound
  at_sound level.Prefix = prefixed_sound
  at_sound level.Postfix = postfix_sound
  at_sound level.Primary = primary_sound

pub read_sound : (depth : ℕ) (l : Level) → IsSoundAt l (r.read depth l)
unfolding r.read
read_sound zero l p = tt
read_sound (suc depth) l p = at_sound (r.read depth) (read_sound depth) l p
