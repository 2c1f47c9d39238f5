-- What is read as a type is spelled so.
use Rattle.std.proofs.Common.{◌≡◌, ℕ, zero, suc, Bool, true, false, List, [], ◌∷◌, length, Option, Some, None, refl, ap, ◌∙◌}
use Rattle.cad_grammar.specs.declared.token.Sign.TheVariants as s
use Rattle.cad_syntax.specs.declared.keyword.Keyword.TheVariants as k
use Rattle.cad_syntax.specs.declared.text.Name.{Name}
use Rattle.cad_grammar.specs.declared.level.TypePosition.{TypePosition}
use Rattle.cad_grammar.specs.declared.level.TypePosition.TheVariants as position
use Rattle.cad_grammar.specs.declared.type_expr.Entitlements.{Entitlements}
use Rattle.cad_grammar.specs.Trees.{TypeTree, Annotation, annotations_of}
use Rattle.cad_grammar.specs.Trees as tree
use Rattle.cad_grammar.specs.Spots.{Spot, back, after, keyword, opened, opening, resumed}
use Rattle.cad_grammar.specs.Levels.{question, questions}
use Rattle.cad_grammar.specs.Lists.{Listed, Maybe}
use Rattle.cad_grammar.specs.Lists as l
use Rattle.cad_grammar.specs.TypeGrammar.{Dotted, Authorized, Intersected, ReadsType, ReadsCore, ReadsAnnotation, AnnotationList, Annotated}
use Rattle.cad_grammar.specs.TypeGrammar as g
use Rattle.cad_parse_type.specs.Code.Reading.{Found, Reader, filled, marked, dotted, dotted_list}
use Rattle.cad_parse_type.specs.Code.Reading as r
use Rattle.cad_parse_type.proofs.Heads.{then_some}
use Rattle.cad_parse_type.proofs.Climbs.{then_is, IfFound, then_found, either_found, found_is, climb_keeps}
use Rattle.cad_parse_type.proofs.ListLaws.{IsSound, listed_sound}
use Rattle.cad_parse_type.proofs.NameLaws.{dotted_sound, dotted_over, dotted_list_sound, dotted_list_filled, authorized_sound, filled_same}

abbrev pub IsSoundCore : Reader TypeTree → Type 0
IsSoundCore core = IsSound ReadsCore core

abbrev TypeAs : TypePosition → Spot → TypeTree × Spot → Type 0
TypeAs at p x = ReadsType at p x.0 x.1

abbrev CoreAs : Spot → TypeTree × Spot → Type 0
CoreAs p x = ReadsCore p x.0 x.1

abbrev AnnotationAs : TypePosition → Spot → Annotation × Spot → Type 0
AnnotationAs at p x = ReadsAnnotation at p x.0 x.1

-- ---- the `?` behind a type

abbrev pub MarkAs : TypePosition → Spot → Bool → Spot → Type 0
MarkAs at p false q = (u : Spot) × (question at p ≡ Some u) × (opened u ≡ Some q)
MarkAs at p true q = (u : Spot) × (v : Spot) × (questions at p ≡ Some u) × (opened u ≡ Some v) × (opened v ≡ Some q)

mark_found : (at : TypePosition) (p : Spot) → IfFound (λ x. MarkAs at p x.0 x.1) (r.type_tail at p)
unfolding r.type_tail
mark_found at p =
    let P : Bool × Spot → Type 0 = λ x. MarkAs at p x.0 x.1 in
    either_found P (question at p) _ _ (λ u e. then_found P (opened u) _ (λ v e1. (u, e, e1)))
    (λ _. then_found P (questions at p) _ (λ u e. then_found P (opened u) _ (λ v e1. then_found P (opened v) _ (λ w e2. (u, v, e, e1, e2)))))

pub mark_sound : (at : TypePosition) (p : Spot) (x : Bool × Spot) → r.type_tail at p ≡ Some x → MarkAs at p x.0 x.1
mark_sound at p x e = found_is (λ y. MarkAs at p y.0 y.1) (r.type_tail at p) x (mark_found at p) e

marked_type : (at : TypePosition) (p q : Spot) (t : TypeTree) (twice : Bool) (u : Spot) → ReadsType at p t q → MarkAs at q twice u → ReadsType at p (marked t twice) u
marked_type at p q t false u d w = g.optional d w.1 w.2
marked_type at p q t true u d w = g.twice d w.2 w.3 w.4

-- ---- over the reader of what stands one nesting deeper

module _ (core : Reader TypeTree) (h : IsSoundCore core) where
  whole_found : (at : TypePosition) (p : Spot) → IfFound (TypeAs at p) (r.whole core at p)
  unfolding r.whole
  whole_found at p =
      then_found (TypeAs at p) (core p) _ (λ t e. climb_keeps marked (r.type_tail at) (ReadsType at p)
      (λ a q x d f. marked_type at p q a x.0 x.1 d (mark_sound at q x f)) (length t.1.tokens) t.0 t.1 (g.core (h p t e)))

  pub whole_sound : (at : TypePosition) → IsSound (ReadsType at) (r.whole core at)
  whole_sound at p x e = found_is (TypeAs at p) (r.whole core at p) x (whole_found at p) e

  annotated_found : (at : TypePosition) (p : Spot) → IfFound (AnnotationAs at p) (r.annotated core at p)
  unfolding r.annotated
  annotated_found at p =
      let P = AnnotationAs at p in
      either_found P (after s.At p) _ _ (λ q e. then_found P (r.whole core at q) _ (λ t e1. g.resource e (whole_sound at q t e1)))
      (λ _. then_found P (r.whole core at p) _ (λ t e1. g.plain (whole_sound at p t e1)))

  pub annotated_sound : (at : TypePosition) → IsSound (ReadsAnnotation at) (r.annotated core at)
  annotated_sound at p x e = found_is (AnnotationAs at p) (r.annotated core at p) x (annotated_found at p) e

  -- a list of the grammar's lists is one of annotations
  annotation_list_of : {p q : Spot} {all : List Annotation} → Listed (ReadsAnnotation position.Anywhere) s.Greater p all q → AnnotationList p all q
  annotation_list_of (l.none e) = g.no_annotation e
  annotation_list_of (l.last d e) = g.last_annotation d e
  annotation_list_of (l.more d e w) = g.more_annotations d e (annotation_list_of w)

  pub annotation_list_sound : (p : Spot) (x : List Annotation × Spot) → r.annotation_list core p ≡ Some x → AnnotationList p x.0 x.1 × (x.0 ≡ [] → ⊥)
  unfolding r.annotation_list
  annotation_list_sound p x e =
      let w = then_some (r.listed (r.annotated core position.Anywhere) s.Greater (length p.tokens) [] p) filled x e in
      let v = filled_same w.0 x w.2 in
      (annotation_list_of (listed_sound (ReadsAnnotation position.Anywhere) (r.annotated core position.Anywhere) s.Greater (annotated_sound position.Anywhere) (length p.tokens) p x (w.1 ∙ ap Some v.0)), v.1)

  referenced_found : (p q v : Spot) (a : Option Entitlements) → Maybe (keyword k.Auth) Authorized p a q → after s.Ampersand q ≡ Some v → IfFound (CoreAs p) (r.referenced core a v)
  unfolding r.referenced
  referenced_found p q v a m e =
      let P = CoreAs p in
      then_found P (opened v) _ (λ u e1. then_found P (core u) _ (λ t e2. g.reference m e e1 (h u t e2)))

  authorized_reference_found : (p q : Spot) → keyword k.Auth p ≡ Some q → IfFound (CoreAs p) (r.authorized_reference core q)
  unfolding r.authorized_reference
  authorized_reference_found p q e =
      let P = CoreAs p in
      then_found P (r.authorized q) _ (λ x e1. then_found P (after s.Ampersand x.1) _ (λ v e2.
      referenced_found p x.1 v (Some x.0) (l.present e (authorized_sound q x e1)) e2))

  grouped_found : (p q : Spot) → after s.OpenParenthesis p ≡ Some q → IfFound (CoreAs p) (r.grouped core p q)
  unfolding r.grouped
  grouped_found p q e =
      let P = CoreAs p in
      then_found P (opened q) _ (λ u e1. then_found P (r.whole core position.Anywhere u) _ (λ t e2. then_found P (resumed s.CloseParenthesis p t.1) _ (λ v e3.
      g.grouped (then_is (after s.OpenParenthesis p) opened q e ∙ e1) (whole_sound position.Anywhere u t e2) e3)))

  array_found : (p q : Spot) → after s.OpenBracket p ≡ Some q → IfFound (CoreAs p) (r.array core p q)
  unfolding r.array
  array_found p q e =
      let P = CoreAs p in
      then_found P (opened q) _ (λ u e1. then_found P (r.whole core position.Anywhere u) _ (λ t e2. then_found P (resumed s.CloseBracket p t.1) _ (λ v e3.
      g.array (then_is (after s.OpenBracket p) opened q e ∙ e1) (whole_sound position.Anywhere u t e2) e3)))

  dictionary_found : (p q : Spot) → opening s.OpenBrace p ≡ Some q → IfFound (CoreAs p) (r.dictionary core p q)
  unfolding r.dictionary
  dictionary_found p q o =
      let P = CoreAs p in
      then_found P (r.whole core position.Anywhere q) _ (λ key e1. then_found P (resumed s.Colon q key.1) _ (λ u e2.
      then_found P (r.whole core position.Anywhere u) _ (λ value e3. then_found P (resumed s.CloseBrace p value.1) _ (λ v e4.
      g.dictionary o (whole_sound position.Anywhere q key e1) e2 (whole_sound position.Anywhere u value e3) e4))))

  intersected : (p q : Spot) (x : List (List Name) × Spot) → opening s.OpenBrace p ≡ Some q → dotted_list s.CloseBrace q ≡ Some x → ReadsCore p (tree.intersection x.0) (back p x.1)
  intersected p q ([], u) o e = absurd (dotted_list_filled s.CloseBrace q u e)
  intersected p q (n ∷ all, u) o e = g.intersection o (g.intersected (dotted_list_sound s.CloseBrace q (n ∷ all, u) e))

  braced_found : (p q : Spot) → after s.OpenBrace p ≡ Some q → IfFound (CoreAs p) (r.braced core p q)
  unfolding r.braced
  braced_found p q e =
      let P = CoreAs p in
      then_found P (opened q) _ (λ u e1.
      let o = then_is (after s.OpenBrace p) opened q e ∙ e1 in
      either_found P (r.dictionary core p u) _ _ (λ x e2. found_is P (r.dictionary core p u) x (dictionary_found p u o) e2)
      (λ _. then_found P (dotted_list s.CloseBrace u) _ (λ all e2. intersected p u all o e2)))

  applied_type : (p q u : Spot) (n : List Name) (x : List Annotation × Spot) → Dotted p n q → opening s.Less q ≡ Some u → r.annotation_list core u ≡ Some x
      → ReadsCore p (tree.named n (annotations_of x.0)) (back q x.1)
  applied_type p q u n ([], v) d o e = absurd ((annotation_list_sound u ([], v) e).1 refl)
  applied_type p q u n (a ∷ all, v) d o e = g.applied d o (annotation_list_sound u (a ∷ all, v) e).0

  applied_found : (p q v : Spot) (n : List Name) → Dotted p n q → after s.Less q ≡ Some v → IfFound (CoreAs p) (r.applied core n q v)
  unfolding r.applied
  applied_found p q v n d e =
      let P = CoreAs p in
      then_found P (opened v) _ (λ u e1. then_found P (r.annotation_list core u) _ (λ x e2. applied_type p q u n x d (then_is (after s.Less q) opened v e ∙ e1) e2))

  named_found : (p : Spot) → IfFound (CoreAs p) (r.named_type core p)
  unfolding r.named_type
  named_found p =
      let P = CoreAs p in
      then_found P (dotted p) _ (λ n e. either_found P (after s.Less n.1) _ _ (λ v e1. applied_found p n.1 v n.0 (dotted_sound p n e) e1) (λ none. g.named (dotted_sound p n e) (dotted_over p n e) none))

  core_found : (p : Spot) → IfFound (CoreAs p) (r.core_of core p)
  unfolding r.core_of
  core_found p =
      let P = CoreAs p in
      either_found P (keyword k.Auth p) _ _ (λ q e. authorized_reference_found p q e) (λ none.
      either_found P (after s.Ampersand p) _ _ (λ q e. referenced_found p p q None (l.absent none) e) (λ _.
      either_found P (after s.OpenParenthesis p) _ _ (λ q e. grouped_found p q e) (λ _.
      either_found P (after s.OpenBracket p) _ _ (λ q e. array_found p q e) (λ _.
      either_found P (after s.OpenBrace p) _ _ (λ q e. braced_found p q e) (λ _. named_found p)))))

  core_sound : IsSoundCore (r.core_of core)
  core_sound p x e = found_is (CoreAs p) (r.core_of core p) x (core_found p) e

pub read_core_sound : (depth : ℕ) → IsSoundCore (r.read_core depth)
unfolding r.read_core
read_core_sound zero p x e = cc
read_core_sound (suc depth) p x e = core_sound (r.read_core depth) (read_core_sound depth) p x e

-- ---- from here on

pub type_sound : (at : TypePosition) (p : Spot) (x : TypeTree × Spot) → r.type_at at p ≡ Some x → ReadsType at p x.0 x.1
unfolding r.type_at
type_sound at p x e = whole_sound (r.read_core (suc p.left)) (read_core_sound (suc p.left)) at p x e

pub annotation_at_sound : (at : TypePosition) (p : Spot) (x : Annotation × Spot) → r.annotation_at at p ≡ Some x → ReadsAnnotation at p x.0 x.1
unfolding r.annotation_at
annotation_at_sound at p x e = annotated_sound (r.read_core (suc p.left)) (read_core_sound (suc p.left)) at p x e

arguments_some : (p : Spot) (x : List Annotation × Spot) → r.arguments_at p ≡ Some x → AnnotationList p x.0 x.1 × (x.0 ≡ [] → ⊥)
unfolding r.arguments_at
arguments_some p x e = annotation_list_sound (r.read_core (suc p.left)) (read_core_sound (suc p.left)) p x e

pub arguments_sound : (p : Spot) (a : Annotation) (all : List Annotation) (q : Spot) → r.arguments_at p ≡ Some (a ∷ all, q) → AnnotationList p (a ∷ all) q
arguments_sound p a all q e = (arguments_some p (a ∷ all, q) e).0

pub arguments_filled : (p q : Spot) → r.arguments_at p ≡ Some ([], q) → ⊥
arguments_filled p q e = (arguments_some p ([], q) e).1 refl

abbrev AnnotatedAs : Spot → Annotation × Spot → Type 0
AnnotatedAs p x = Annotated p x.0 x.1

annotation_found : (p : Spot) → IfFound (AnnotatedAs p) (r.annotation p)
unfolding r.annotation
annotation_found p = then_found (AnnotatedAs p) (r.annotation_at position.Anywhere p) _ (λ a e. g.annotated (annotation_at_sound position.Anywhere p a e))

pub annotation_sound : (p : Spot) (x : Annotation × Spot) → r.annotation p ≡ Some x → Annotated p x.0 x.1
annotation_sound p x e = found_is (AnnotatedAs p) (r.annotation p) x (annotation_found p) e
