-- What is read is spelled, and what is spelled is read.
use Rattle.std.proofs.Common.{◌≡◌, ◌<◌, ◌≤◌, List, [], ◌∷◌, length, Some, None, ◌⊎◌}
use Rattle.cad_grammar.specs.declared.token.Sign.{Sign}
use Rattle.cad_grammar.specs.declared.token.Sign.TheVariants as s
use Rattle.cad_syntax.specs.declared.text.Name.{Name}
use Rattle.cad_grammar.specs.declared.level.TypePosition.{TypePosition}
use Rattle.cad_grammar.specs.declared.type_expr.Entitlements.{Entitlements}
use Rattle.cad_grammar.specs.Trees.{TypeTree, Annotation}
use Rattle.cad_grammar.specs.Spots.{Spot, after}
use Rattle.cad_grammar.specs.Lists.{Listed}
use Rattle.cad_grammar.specs.Levels.{question, questions}
use Rattle.cad_parse_type.specs.Code.Levels.{token_strength}
use Rattle.cad_grammar.specs.TypeGrammar.{Dotted, Entitled, ReadsType, ReadsAnnotation, AnnotationList, Annotated}
use Rattle.cad_parse_type.specs.Code.Reading.{Found, dotted, dotted_list, entitled, type_at, annotation_at, arguments_at, annotation}
use Rattle.cad_parse_type.proofs.Heads.{Ends}

-- the same, or what takes more tokens
abbrev pub Extends : {A : Type 0} → A × Spot → A × Spot → Type 0
Extends x y = (x ≡ y) ⊎ (length x.1.tokens < length y.1.tokens)

-- What is read where tokens are known to spell something: the same, or what takes more of them where something follows that
-- goes on.
abbrev pub Reaches : {A : Type 0} → Type 0 → Found A → A → Spot → Type 0
Reaches {A} Over found a q = (x : A × Spot) × (found ≡ Some x) × Extends x (a, q) × (Over → x ≡ (a, q))

-- nothing follows that goes on after a type
pub record TypeOver (at : TypePosition) (q : Spot) : Type 0 where
  pub no_question : question at q ≡ None
  pub no_questions : questions at q ≡ None

-- What stands between the readers of types and the grammar. A list of dotted names ends with a sign that is neither a comma nor
-- a dot.
pub record TypeLaws : Type 0 where
  pub dotted_sound : (p : Spot) (x : List Name × Spot) → dotted p ≡ Some x → Dotted p x.0 x.1
  pub dotted_reach : {p q : Spot} {n : List Name} → Dotted p n q → Reaches (after s.Dot q ≡ None) (dotted p) n q
  pub dotted_exact : {p q : Spot} {n : List Name} → Dotted p n q → after s.Dot q ≡ None → dotted p ≡ Some (n, q)
  pub dotted_list_sound : (closing : Sign) (p : Spot) (x : List (List Name) × Spot) → dotted_list closing p ≡ Some x → Listed Dotted closing p x.0 x.1
  pub dotted_list_filled : (closing : Sign) (p q : Spot) → dotted_list closing p ≡ Some ([], q) → ⊥
  pub dotted_list_exact : {closing : Sign} {p q : Spot} {n : List Name} {all : List (List Name)} → (s.Comma ≡ closing → ⊥) → (s.Dot ≡ closing → ⊥)
      → Listed Dotted closing p (n ∷ all) q → dotted_list closing p ≡ Some (n ∷ all, q)
  pub entitled_sound : (p : Spot) (x : Entitlements × Spot) → entitled p ≡ Some x → Entitled p x.0 x.1
  pub entitled_exact : {p q : Spot} {e : Entitlements} → Entitled p e q → entitled p ≡ Some (e, q)
  pub type_sound : (at : TypePosition) (p : Spot) (x : TypeTree × Spot) → type_at at p ≡ Some x → ReadsType at p x.0 x.1
  pub type_reach : {at : TypePosition} {p q : Spot} {t : TypeTree} → ReadsType at p t q → Reaches (TypeOver at q) (type_at at p) t q
  pub type_exact : {at : TypePosition} {p q : Spot} {t : TypeTree} → ReadsType at p t q → TypeOver at q → type_at at p ≡ Some (t, q)
  pub annotation_at_sound : (at : TypePosition) (p : Spot) (x : Annotation × Spot) → annotation_at at p ≡ Some x → ReadsAnnotation at p x.0 x.1
  pub annotation_at_reach : {at : TypePosition} {p q : Spot} {a : Annotation} → ReadsAnnotation at p a q → Reaches (TypeOver at q) (annotation_at at p) a q
  pub annotation_at_exact : {at : TypePosition} {p q : Spot} {a : Annotation} → ReadsAnnotation at p a q → TypeOver at q → annotation_at at p ≡ Some (a, q)
  pub arguments_sound : (p : Spot) (a : Annotation) (all : List Annotation) (q : Spot) → arguments_at p ≡ Some (a ∷ all, q) → AnnotationList p (a ∷ all) q
  pub arguments_filled : (p q : Spot) → arguments_at p ≡ Some ([], q) → ⊥
  pub arguments_exact : {p q : Spot} {a : Annotation} {all : List Annotation} → AnnotationList p (a ∷ all) q → arguments_at p ≡ Some (a ∷ all, q)
  pub annotation_sound : (p : Spot) (x : Annotation × Spot) → annotation p ≡ Some x → Annotated p x.0 x.1
  pub annotation_exact : {p q : Spot} {a : Annotation} → Annotated p a q → token_strength q ≡ 0 → annotation p ≡ Some (a, q)
  -- ---- what holds of all that is spelled
  pub dotted_shorter : {p q : Spot} {n : List Name} → Dotted p n q → length q.tokens < length p.tokens
  pub dotted_left : {p q : Spot} {n : List Name} → Dotted p n q → q.left ≡ p.left
  pub dotted_ends : {p q : Spot} {n : List Name} → Dotted p n q → Ends p q
  pub entitled_shorter : {p q : Spot} {e : Entitlements} → Entitled p e q → length q.tokens < length p.tokens
  pub entitled_left : {p q : Spot} {e : Entitlements} → Entitled p e q → q.left ≡ p.left
  pub entitled_ends : {p q : Spot} {e : Entitlements} → Entitled p e q → Ends p q
  pub type_shorter : {at : TypePosition} {p q : Spot} {t : TypeTree} → ReadsType at p t q → length q.tokens < length p.tokens
  pub type_falls : {at : TypePosition} {p q : Spot} {t : TypeTree} → ReadsType at p t q → q.left ≤ p.left
  pub type_ends : {at : TypePosition} {p q : Spot} {t : TypeTree} → ReadsType at p t q → Ends p q
  pub annotation_shorter : {at : TypePosition} {p q : Spot} {a : Annotation} → ReadsAnnotation at p a q → length q.tokens < length p.tokens
  pub annotation_falls : {at : TypePosition} {p q : Spot} {a : Annotation} → ReadsAnnotation at p a q → q.left ≤ p.left
  pub annotation_ends : {at : TypePosition} {p q : Spot} {a : Annotation} → ReadsAnnotation at p a q → Ends p q
  pub arguments_shorter : {p q : Spot} {all : List Annotation} → AnnotationList p all q → length q.tokens < length p.tokens
  pub arguments_left : {p q : Spot} {all : List Annotation} → AnnotationList p all q → q.left ≡ p.left
  pub arguments_ends : {p q : Spot} {all : List Annotation} → AnnotationList p all q → Ends p q
  -- and of what stands by itself
  pub annotated_shorter : {p q : Spot} {a : Annotation} → Annotated p a q → length q.tokens < length p.tokens
  pub annotated_left : {p q : Spot} {a : Annotation} → Annotated p a q → q.left ≡ p.left
  pub annotated_ends : {p q : Spot} {a : Annotation} → Annotated p a q → Ends p q
