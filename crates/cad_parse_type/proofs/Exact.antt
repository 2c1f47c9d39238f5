-- What is spelled as a type is read, where nothing follows that goes on after it.
use Rattle.std.proofs.Common.{◌≡◌, Bool, true, false, ℕ, zero, suc, ◌<◌, ◌≤◌, List, [], ◌∷◌, length, Some, None, sym, ap, ◌∙◌, arith}
use Rattle.cad_grammar.specs.declared.token.Sign.{Sign}
use Rattle.cad_grammar.specs.declared.token.Sign.TheVariants as s
use Rattle.cad_syntax.specs.declared.keyword.Keyword.TheVariants as k
use Rattle.cad_syntax.specs.declared.text.Name.{Name}
use Rattle.cad_grammar.specs.declared.level.TypePosition.{TypePosition}
use Rattle.cad_grammar.specs.declared.level.TypePosition.TheVariants as position
use Rattle.cad_grammar.specs.Trees.{TypeTree, Annotation, annotations_of}
use Rattle.cad_grammar.specs.Trees as tree
use Rattle.cad_grammar.specs.Spots.{Spot, back, after, opening, resumed}
use Rattle.cad_parse_type.specs.Code.Levels.{token_strength}
use Rattle.cad_grammar.specs.Lists.{Listed}
use Rattle.cad_grammar.specs.Lists as l
use Rattle.cad_grammar.specs.TypeGrammar.{Dotted, ReadsType, ReadsCore, ReadsAnnotation, AnnotationList, Annotated}
use Rattle.cad_grammar.specs.TypeGrammar as g
use Rattle.cad_parse_type.specs.Code.Reading.{Reader, climb, filled, marked, dotted, dotted_list}
use Rattle.cad_parse_type.specs.Code.Reading as r
use Rattle.cad_parse_type.proofs.Heads.{after_head, keyword_head, after_shorter, after_left, resumed_is, resumed_head, resumed_left, opening_is, opening_left, opened_is, not_resumed, other, keyword_no_sign, name_no_sign}
use Rattle.cad_parse_type.proofs.Climbs.{then_is, Shrinks, climb_stops, climb_more}
use Rattle.cad_parse_type.proofs.ListLaws.{IsRead, listed_exact}
use Rattle.cad_parse_type.proofs.NameLaws.{climbed, mapped, dot_name_stops, dotted_left, dotted_head, dotted_list_exact}
use Rattle.cad_parse_type.proofs.Over.{question_after, questions_after, no_question, over_sign, over_weak}
use Rattle.cad_parse_type.proofs.Sound.{MarkAs, mark_sound, read_core_sound, annotated_sound}
use Rattle.cad_parse_type.proofs.Facts.{authorization_falls, annotation_shorter}
use Rattle.cad_parse_type.proofs.Steps as steps
use Rattle.cad_parse_type.proofs.TypeLaws.{Reaches, TypeOver}

-- ---- what a type begins with

-- a sign that begins no type
pub record BeginsNoType (sign : Sign) : Type 0 where
  pub ampersand : s.Ampersand ≡ sign → ⊥
  pub parenthesis : s.OpenParenthesis ≡ sign → ⊥
  pub bracket : s.OpenBracket ≡ sign → ⊥
  pub brace : s.OpenBrace ≡ sign → ⊥

opens_otherwise : (a sign : Sign) (p q : Spot) → (a ≡ sign → ⊥) → opening a p ≡ Some q → after sign p ≡ None
opens_otherwise a sign p q ne o = let i = opening_is a p q o in other a sign p i.0 ne i.1

core_begins : {sign : Sign} {p q : Spot} {t : TypeTree} → BeginsNoType sign → ReadsCore p t q → after sign p ≡ None
core_begins {sign} h (g.reference (l.absent {p} none) e o d) = other s.Ampersand sign p _ h.ampersand e
core_begins {sign} h (g.reference (l.present {p} {q} a b) e o d) = keyword_no_sign sign k.Auth p (keyword_head k.Auth p q a)
core_begins {sign} h (g.grouped {p} {q} o d c) = opens_otherwise s.OpenParenthesis sign p q h.parenthesis o
core_begins {sign} h (g.array {p} {q} o d c) = opens_otherwise s.OpenBracket sign p q h.bracket o
core_begins {sign} h (g.dictionary {p} {q} o d c d2 c2) = opens_otherwise s.OpenBrace sign p q h.brace o
core_begins {sign} h (g.intersection {p} {q} o d) = opens_otherwise s.OpenBrace sign p q h.brace o
core_begins {sign} h (g.named {p} d m e) = let n = dotted_head d in name_no_sign sign n.0 p n.1
core_begins {sign} h (g.applied {p} d o w) = let n = dotted_head d in name_no_sign sign n.0 p n.1

pub type_begins : {sign : Sign} {at : TypePosition} {p q : Spot} {t : TypeTree} → BeginsNoType sign → ReadsType at p t q → after sign p ≡ None
type_begins h (g.core d) = core_begins h d
type_begins h (g.optional d e o) = type_begins h d
type_begins h (g.twice d e o o2) = type_begins h d

pub annotation_begins : {sign : Sign} {at : TypePosition} {p q : Spot} {a : Annotation} → (s.At ≡ sign → ⊥) → BeginsNoType sign → ReadsAnnotation at p a q → after sign p ≡ None
annotation_begins ne h (g.plain d) = type_begins h d
annotation_begins {sign} ne h (g.resource {p = p} {q = q} e d) = other s.At sign p q ne e

at_begins : BeginsNoType s.At
at_begins = record { ampersand = λ x. cc; parenthesis = λ x. cc; bracket = λ x. cc; brace = λ x. cc }

greater_begins : BeginsNoType s.Greater
greater_begins = record { ampersand = λ x. cc; parenthesis = λ x. cc; bracket = λ x. cc; brace = λ x. cc }

-- ---- the `?` behind a type

tail_shrinks : (at : TypePosition) → Shrinks (r.type_tail at)
tail_shrinks at p x e = taken x.0 x.1 (mark_sound at p x e)
  where
    taken : (twice : Bool) (q : Spot) → MarkAs at p twice q → length q.tokens < length p.tokens
    taken false q w = omega (arith, after_shorter s.Question p w.0 (question_after at p w.0 w.1), ap length (opened_is w.0 q w.2).1)
    taken true q w = omega (arith, after_shorter s.Coalesce p w.0 (questions_after at p w.0 w.2), ap length (opened_is w.0 w.1 w.3).1, ap length (opened_is w.1 q w.4).1)

-- ---- before a sign that goes on nothing

over_before : (at : TypePosition) (sign : Sign) (p q v : Spot) → (sign ≡ s.Question → ⊥) → (sign ≡ s.Coalesce → ⊥) → resumed sign p q ≡ Some v → TypeOver at q
over_before at sign p q v once twice e = over_sign at sign q once twice (resumed_head sign p q v e)

-- one call deeper
deeper : (depth : ℕ) (p q : Spot) (t : TypeTree) → p.left < depth → ((d : ℕ) → p.left ≤ d → r.core_of (r.read_core d) p ≡ Some (t, q)) → r.read_core depth p ≡ Some (t, q)
unfolding r.read_core
deeper zero p q t lt h = let never : ⊥ = omega arith in absurd never
deeper (suc d) p q t lt h = h d (omega arith)

-- a name that is no key of a dictionary
named_whole : (depth : ℕ) (p q : Spot) (n : List Name) (sign : Sign) → p.left < depth → (sign ≡ s.Dot → ⊥) → (sign ≡ s.Question → ⊥) → (sign ≡ s.Coalesce → ⊥) → (sign ≡ s.Less → ⊥)
    → Dotted p n q → (v : Spot) → after sign q ≡ Some v → r.whole (r.read_core depth) position.Anywhere p ≡ Some (tree.named n tree.no_annotations, q)
named_whole depth p q n sign lt dot once twice less d v e =
    steps.whole_core (r.read_core depth) position.Anywhere p q (tree.named n tree.no_annotations)
    (deeper depth p q (tree.named n tree.no_annotations) lt (λ x le. steps.named_is (r.read_core x) p q n d (dot_name_stops q (other sign s.Dot q v dot e)) (other sign s.Less q v less e)))
    (over_sign position.Anywhere sign q once twice (after_head sign q v e))

no_dictionary : (depth : ℕ) (p q u v : Spot) (n : List Name) (sign : Sign) → q.left < depth → (sign ≡ s.Dot → ⊥) → (sign ≡ s.Question → ⊥) → (sign ≡ s.Coalesce → ⊥) → (sign ≡ s.Less → ⊥) → (sign ≡ s.Colon → ⊥)
    → Dotted q n u → after sign u ≡ Some v → r.dictionary (r.read_core depth) p q ≡ None
no_dictionary depth p q u v n sign lt dot once twice less colon d e =
    steps.no_dictionary (r.read_core depth) p q u (tree.named n tree.no_annotations) (named_whole depth q u n sign lt dot once twice less d v e)
    (not_resumed sign s.Colon q u colon (after_head sign u v e))

intersection_no_dictionary : (depth : ℕ) (p : Spot) {q v : Spot} {n : List Name} {all : List (List Name)} → q.left < depth → Listed Dotted s.CloseBrace q (n ∷ all) v → r.dictionary (r.read_core depth) p q ≡ None
intersection_no_dictionary depth p lt (l.last {p = q} {q = u} {r = v} {a = n} d e) =
    let i = resumed_is s.CloseBrace q u v e in no_dictionary depth p q u i.0 n s.CloseBrace lt (λ x. cc) (λ x. cc) (λ x. cc) (λ x. cc) (λ x. cc) d i.1
intersection_no_dictionary depth p lt (l.more {p = q} {q = u} {r = v} {a = n} d e w) =
    let i = resumed_is s.Comma q u v e in no_dictionary depth p q u i.0 n s.Comma lt (λ x. cc) (λ x. cc) (λ x. cc) (λ x. cc) (λ x. cc) d i.1

begins_otherwise : (depth : ℕ) (p q : Spot) (x : Annotation × Spot) → after s.Greater p ≡ Some q → r.annotated (r.read_core depth) position.Anywhere p ≡ Some x → ⊥
begins_otherwise depth p q x e f =
    let c = sym e ∙ annotation_begins (λ y. cc) greater_begins (annotated_sound (r.read_core depth) (read_core_sound depth) position.Anywhere p x f) in
    cc

takes : (depth : ℕ) (p : Spot) (x : Annotation × Spot) → r.annotated (r.read_core depth) position.Anywhere p ≡ Some x → length x.1.tokens < length p.tokens
takes depth p x f = annotation_shorter (annotated_sound (r.read_core depth) (read_core_sound depth) position.Anywhere p x f)

-- a list of annotations that are read
list_exact : (depth : ℕ) {p q : Spot} {a : Annotation} {all : List Annotation} → Listed (IsRead (r.annotated (r.read_core depth) position.Anywhere)) s.Greater p (a ∷ all) q
    → r.annotation_list (r.read_core depth) p ≡ Some (a ∷ all, q)
unfolding r.annotation_list
list_exact depth {p} {q} {a} {all} d =
    then_is (r.listed (r.annotated (r.read_core depth) position.Anywhere) s.Greater (length p.tokens) [] p) filled (a ∷ all, q)
    (listed_exact (r.annotated (r.read_core depth) position.Anywhere) s.Greater (λ x. cc) (begins_otherwise depth) (takes depth) d (length p.tokens) (omega arith) [])

-- ---- what is spelled

closed : (at : TypePosition) (p q : Spot) (t : TypeTree) (depth : ℕ) → r.whole (r.read_core depth) at p ≡ climb marked (r.type_tail at) (length q.tokens) t q → TypeOver at q
    → r.whole (r.read_core depth) at p ≡ Some (t, q)
closed at p q t depth h over = h ∙ climb_stops marked (r.type_tail at) (length q.tokens) t q (steps.tail_stops at q over)

mutual
  core_exact : {p q : Spot} {t : TypeTree} → ReadsCore p t q → (depth : ℕ) → p.left < depth → r.read_core depth p ≡ Some (t, q)
  core_exact (g.reference {p} {q} {r = v} {u} {v = w} {t = t} (l.absent none) e o d) depth lt =
      deeper depth p w (tree.reference None t) lt (λ x le. steps.reference_is (r.read_core x) p v u w t none e o
      (core_exact d x (omega (arith, after_left s.Ampersand q v e, (opened_is v u o).0))))
  core_exact (g.reference {p} {q} {r = v} {u} {v = w} {t = t} (l.present {q = x} {a = a} b c) e o d) depth lt =
      let m = authorization_falls (l.present b c) in
      deeper depth p w (tree.reference (Some a) t) lt (λ y le. steps.authorized_is (r.read_core y) p x q v u w a t b c e o
      (core_exact d y (omega (arith, m, after_left s.Ampersand q v e, (opened_is v u o).0))))
  core_exact (g.grouped {p} {q} {r = v} {u = w} {t} o d c) depth lt =
      deeper depth p w t lt (λ x le. steps.grouped_is (r.read_core x) p q v w t o
      (closed _ _ _ _ x (type_climbs d x (omega (arith, opening_left s.OpenParenthesis p q o))) (over_before position.Anywhere s.CloseParenthesis p v w (λ y. cc) (λ y. cc) c)) c)
  core_exact (g.array {p} {q} {r = v} {u = w} {t} o d c) depth lt =
      deeper depth p w (tree.array t) lt (λ x le. steps.array_is (r.read_core x) p q v w t o
      (closed _ _ _ _ x (type_climbs d x (omega (arith, opening_left s.OpenBracket p q o))) (over_before position.Anywhere s.CloseBracket p v w (λ y. cc) (λ y. cc) c)) c)
  core_exact (g.dictionary {p} {q} {r = v} {u} {v = x} {w} {key} {value} o d c d2 c2) depth lt =
      deeper depth p w (tree.dictionary key value) lt (λ y le. steps.dictionary_is (r.read_core y) p q v u x w key value o
      (closed _ _ _ _ y (type_climbs d y (omega (arith, opening_left s.OpenBrace p q o))) (over_before position.Anywhere s.Colon q v u (λ z. cc) (λ z. cc) c)) c
      (closed _ _ _ _ y (type_climbs d2 y (omega (arith, opening_left s.OpenBrace p q o, resumed_left s.Colon q v u c))) (over_before position.Anywhere s.CloseBrace p x w (λ z. cc) (λ z. cc) c2)) c2)
  core_exact (g.intersection {p} {q} o (g.intersected {q = v} {n} {all} d)) depth lt =
      deeper depth p (back p v) (tree.intersection (n ∷ all)) lt (λ x le. steps.intersection_is (r.read_core x) p q v (n ∷ all) o
      (intersection_no_dictionary x p (omega (arith, opening_left s.OpenBrace p q o)) d) (dotted_list_exact (λ y. cc) (λ y. cc) d))
  core_exact (g.named {p} {q} {n} d m e) depth lt =
      deeper depth p q (tree.named n tree.no_annotations) lt (λ x le. steps.named_is (r.read_core x) p q n d m e)
  core_exact (g.applied {p} {q} {r = u} {u = v} {n} {a} {all} d o w) depth lt =
      deeper depth p (back q v) (tree.named n (annotations_of (a ∷ all))) lt (λ x le. steps.applied_is (r.read_core x) p q u v n (a ∷ all) d o
      (list_exact x (arguments_read w x (omega (arith, opening_left s.Less q u o, dotted_left d)))))

  type_climbs : {at : TypePosition} {p q : Spot} {t : TypeTree} → ReadsType at p t q → (depth : ℕ) → p.left < depth
      → r.whole (r.read_core depth) at p ≡ climb marked (r.type_tail at) (length q.tokens) t q
  type_climbs (g.core {at} {p} {q} {t} d) depth lt = steps.whole_climb (r.read_core depth) at p q t (core_exact d depth lt)
  type_climbs (g.optional {at} {p} {q} {r = v} {u} {t} d e o) depth lt =
      type_climbs d depth lt
      ∙ climb_more marked (r.type_tail at) (tail_shrinks at) t q (false, u) (steps.tail_once at q v u e o)
  type_climbs (g.twice {at} {p} {q} {r = v} {u} {v = w} {t} d e o o2) depth lt =
      type_climbs d depth lt
      ∙ climb_more marked (r.type_tail at) (tail_shrinks at) t q (true, w)
      (steps.tail_twice at q v u w (no_question at q (other s.Coalesce s.Question q v (λ x. cc) (questions_after at q v e))) e o o2)

  annotation_exact : {at : TypePosition} {p q : Spot} {a : Annotation} → ReadsAnnotation at p a q → (depth : ℕ) → p.left < depth → TypeOver at q
      → r.annotated (r.read_core depth) at p ≡ Some (a, q)
  annotation_exact (g.plain {at} {p} {q} {t} d) depth lt over = steps.plain_is (r.read_core depth) at p q t (type_begins at_begins d) (closed _ _ _ _ depth (type_climbs d depth lt) over)
  annotation_exact (g.resource {at} {p} {q = u} {r = q} {t} e d) depth lt over =
      steps.resource_is (r.read_core depth) at p u q t e (closed _ _ _ _ depth (type_climbs d depth (omega (arith, after_left s.At p u e))) over)

  arguments_read : {p q : Spot} {all : List Annotation} → AnnotationList p all q → (depth : ℕ) → p.left < depth
      → Listed (IsRead (r.annotated (r.read_core depth) position.Anywhere)) s.Greater p all q
  arguments_read (g.no_annotation e) depth lt = l.none e
  arguments_read (g.last_annotation {p} {q} {r = v} d e) depth lt =
      l.last (annotation_exact d depth lt (over_before position.Anywhere s.Greater p q v (λ x. cc) (λ x. cc) e)) e
  arguments_read (g.more_annotations {p} {q} {r = v} d e w) depth lt =
      l.more (annotation_exact d depth lt (over_before position.Anywhere s.Comma p q v (λ x. cc) (λ x. cc) e)) e
      (arguments_read w depth (omega (arith, resumed_left s.Comma p q v e)))

-- a type as it is, or with further `?` behind it
whole_reach : {at : TypePosition} {p q : Spot} {t : TypeTree} → ReadsType at p t q → (depth : ℕ) → p.left < depth → Reaches (TypeOver at q) (r.whole (r.read_core depth) at p) t q
whole_reach {at} {p} {q} {t} d depth lt =
    let w = climbed marked (r.type_tail at) (tail_shrinks at) (r.whole (r.read_core depth) at p) t q (type_climbs d depth lt) in
    (w.0, w.1, w.2, λ over. w.3 (steps.tail_stops at q over))

annotated_reach : {at : TypePosition} {p q : Spot} {a : Annotation} → ReadsAnnotation at p a q → (depth : ℕ) → p.left < depth → Reaches (TypeOver at q) (r.annotated (r.read_core depth) at p) a q
annotated_reach (g.plain {at} {p} {q} {t} d) depth lt =
    mapped (λ u. record { is_resource = false; written = u }) (λ x e. steps.plain_is (r.read_core depth) at p x.1 x.0 (type_begins at_begins d) e) (whole_reach d depth lt)
annotated_reach (g.resource {at} {p} {q = u} {r = q} {t} e d) depth lt =
    mapped (λ w. record { is_resource = true; written = w }) (λ x f. steps.resource_is (r.read_core depth) at p u x.1 x.0 e f)
    (whole_reach d depth (omega (arith, after_left s.At p u e)))

-- ---- from here on

pub type_at_exact : {at : TypePosition} {p q : Spot} {t : TypeTree} → ReadsType at p t q → TypeOver at q → r.type_at at p ≡ Some (t, q)
unfolding r.type_at
type_at_exact {p = p} d over = closed _ _ _ _ (suc p.left) (type_climbs d (suc p.left) (omega arith)) over

pub type_at_reach : {at : TypePosition} {p q : Spot} {t : TypeTree} → ReadsType at p t q → Reaches (TypeOver at q) (r.type_at at p) t q
unfolding r.type_at
type_at_reach {p = p} d = whole_reach d (suc p.left) (omega arith)

pub annotation_at_reach : {at : TypePosition} {p q : Spot} {a : Annotation} → ReadsAnnotation at p a q → Reaches (TypeOver at q) (r.annotation_at at p) a q
unfolding r.annotation_at
annotation_at_reach {p = p} d = annotated_reach d (suc p.left) (omega arith)

pub annotation_at_exact : {at : TypePosition} {p q : Spot} {a : Annotation} → ReadsAnnotation at p a q → TypeOver at q → r.annotation_at at p ≡ Some (a, q)
unfolding r.annotation_at
annotation_at_exact {p = p} d over = annotation_exact d (suc p.left) (omega arith) over

pub arguments_exact : {p q : Spot} {a : Annotation} {all : List Annotation} → AnnotationList p (a ∷ all) q → r.arguments_at p ≡ Some (a ∷ all, q)
unfolding r.arguments_at
arguments_exact {p} d = list_exact (suc p.left) (arguments_read d (suc p.left) (omega arith))

pub annotated_exact : {p q : Spot} {a : Annotation} → Annotated p a q → token_strength q ≡ 0 → r.annotation p ≡ Some (a, q)
unfolding r.annotation
annotated_exact (g.annotated {p} {q} {a} d) e = then_is (r.annotation_at position.Anywhere p) _ (a, q) (annotation_at_exact d (over_weak position.Anywhere q e))
