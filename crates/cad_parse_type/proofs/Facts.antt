-- What holds of all types that are spelled.
use Rattle.std.proofs.Common.{◌≡◌, ◌<◌, ◌≤◌, List, length, Option, Some, refl, ap, ◌∙◌, arith}
use Rattle.cad_grammar.specs.declared.token.Sign.TheVariants as s
use Rattle.cad_syntax.specs.declared.keyword.Keyword.TheVariants as k
use Rattle.cad_grammar.specs.declared.level.TypePosition.{TypePosition}
use Rattle.cad_grammar.specs.declared.type_expr.Entitlements.{Entitlements}
use Rattle.cad_grammar.specs.Trees.{TypeTree, Annotation}
use Rattle.cad_grammar.specs.Spots.{Spot, keyword, opened}
use Rattle.cad_grammar.specs.Lists.{Maybe}
use Rattle.cad_grammar.specs.TypeGrammar.{Dotted, Authorized, Intersected, ReadsType, ReadsCore, ReadsAnnotation, AnnotationList, Annotated}
use Rattle.cad_grammar.specs.TypeGrammar as g
use Rattle.cad_parse_type.proofs.Heads.{after_shorter, after_left, after_ends, keyword_shorter, keyword_left, keyword_ends, opened_is, opened_ends, opening_shorter, opening_ends, resumed_left, resumed_shorter, resumed_ends, Ends, ends_trans}
use Rattle.cad_parse_type.proofs.ListLaws.{maybe_falls, maybe_short, maybe_ends}
use Rattle.cad_parse_type.proofs.NameLaws.{dotted_shorter, dotted_left, dotted_ends, list_shorter, list_ends, authorized_shorter, authorized_left, authorized_ends}
use Rattle.cad_parse_type.proofs.Over.{question_after, questions_after}

pub authorization_short : {p q : Spot} {a : Option Entitlements} → Maybe (keyword k.Auth) Authorized p a q → length q.tokens ≤ length p.tokens
authorization_short m = maybe_short (λ p q e. omega (arith, keyword_shorter k.Auth p q e)) (λ p q a d. omega (arith, authorized_shorter d)) m

pub authorization_falls : {p q : Spot} {a : Option Entitlements} → Maybe (keyword k.Auth) Authorized p a q → q.left ≤ p.left
authorization_falls m = maybe_falls (λ p q e. omega (arith, keyword_left k.Auth p q e)) (λ p q a d. omega (arith, authorized_left d)) m

authorization_ends : {p q : Spot} {a : Option Entitlements} → Maybe (keyword k.Auth) Authorized p a q → Ends p q
authorization_ends m = maybe_ends (λ p q e. keyword_ends k.Auth p q e) (λ p q a d. authorized_ends d) m

opened_same : (p q : Spot) → opened p ≡ Some q → length q.tokens ≡ length p.tokens
opened_same p q e = ap length (opened_is p q e).1

mutual
  -- at least one token is taken
  pub type_shorter : {at : TypePosition} {p q : Spot} {t : TypeTree} → ReadsType at p t q → length q.tokens < length p.tokens
  type_shorter (g.core d) = core_shorter d
  type_shorter (g.optional {at} {p} {q} {r} {u} d e o) = omega (arith, type_shorter d, after_shorter s.Question q r (question_after at q r e), opened_same r u o)
  type_shorter (g.twice {at} {p} {q} {r} {u} {v} d e o o2) = omega (arith, type_shorter d, after_shorter s.Coalesce q r (questions_after at q r e), opened_same r u o, opened_same u v o2)

  pub core_shorter : {p q : Spot} {t : TypeTree} → ReadsCore p t q → length q.tokens < length p.tokens
  core_shorter (g.reference {p} {q} {r} {u} {v} m e o d) = omega (arith, authorization_short m, after_shorter s.Ampersand q r e, opened_same r u o, core_shorter d)
  core_shorter (g.grouped {p} {q} {r} {u} o d c) = omega (arith, opening_shorter s.OpenParenthesis p q o, type_shorter d, resumed_shorter s.CloseParenthesis p r u c)
  core_shorter (g.array {p} {q} {r} {u} o d c) = omega (arith, opening_shorter s.OpenBracket p q o, type_shorter d, resumed_shorter s.CloseBracket p r u c)
  core_shorter (g.dictionary {p} {q} {r} {u} {v} {w} o d c d2 c2) =
      omega (arith, opening_shorter s.OpenBrace p q o, type_shorter d, resumed_shorter s.Colon q r u c, type_shorter d2, resumed_shorter s.CloseBrace p v w c2)
  core_shorter (g.intersection {p} {q} o (g.intersected d)) = omega (arith, opening_shorter s.OpenBrace p q o, list_shorter d)
  core_shorter (g.named d m e) = dotted_shorter d
  core_shorter (g.applied {p} {q} {r} d o w) = omega (arith, dotted_shorter d, opening_shorter s.Less q r o, arguments_shorter w)

  pub annotation_shorter : {at : TypePosition} {p q : Spot} {a : Annotation} → ReadsAnnotation at p a q → length q.tokens < length p.tokens
  annotation_shorter (g.plain d) = type_shorter d
  annotation_shorter (g.resource {p = p} {q = q} e d) = omega (arith, after_shorter s.At p q e, type_shorter d)

  pub arguments_shorter : {p q : Spot} {all : List Annotation} → AnnotationList p all q → length q.tokens < length p.tokens
  arguments_shorter (g.no_annotation {p} {q} e) = after_shorter s.Greater p q e
  arguments_shorter (g.last_annotation {p} {q} {r} d e) = omega (arith, annotation_shorter d, resumed_shorter s.Greater p q r e)
  arguments_shorter (g.more_annotations {p} {q} {r} d e w) = omega (arith, annotation_shorter d, resumed_shorter s.Comma p q r e, arguments_shorter w)

mutual
  -- no nesting is given back that was not taken
  pub type_falls : {at : TypePosition} {p q : Spot} {t : TypeTree} → ReadsType at p t q → q.left ≤ p.left
  type_falls (g.core d) = core_falls d
  type_falls (g.optional {at} {p} {q} {r} {u} d e o) = omega (arith, type_falls d, after_left s.Question q r (question_after at q r e), (opened_is r u o).0)
  type_falls (g.twice {at} {p} {q} {r} {u} {v} d e o o2) = omega (arith, type_falls d, after_left s.Coalesce q r (questions_after at q r e), (opened_is r u o).0, (opened_is u v o2).0)

  pub core_falls : {p q : Spot} {t : TypeTree} → ReadsCore p t q → q.left ≤ p.left
  core_falls (g.reference {p} {q} {r} {u} {v} m e o d) = omega (arith, authorization_falls m, after_left s.Ampersand q r e, (opened_is r u o).0, core_falls d)
  core_falls (g.grouped {p} {q} {r} {u} o d c) = omega (arith, resumed_left s.CloseParenthesis p r u c)
  core_falls (g.array {p} {q} {r} {u} o d c) = omega (arith, resumed_left s.CloseBracket p r u c)
  core_falls (g.dictionary {p} {q} {r} {u} {v} {w} o d c d2 c2) = omega (arith, resumed_left s.CloseBrace p v w c2)
  core_falls (g.intersection o d) = omega arith
  core_falls (g.named d m e) = omega (arith, dotted_left d)
  core_falls (g.applied d o w) = omega (arith, dotted_left d)

pub annotation_falls : {at : TypePosition} {p q : Spot} {a : Annotation} → ReadsAnnotation at p a q → q.left ≤ p.left
annotation_falls (g.plain d) = type_falls d
annotation_falls (g.resource {p = p} {q = q} e d) = omega (arith, after_left s.At p q e, type_falls d)

pub arguments_left : {p q : Spot} {all : List Annotation} → AnnotationList p all q → q.left ≡ p.left
arguments_left (g.no_annotation {p} {q} e) = after_left s.Greater p q e
arguments_left (g.last_annotation {p} {q} {r} d e) = resumed_left s.Greater p q r e
arguments_left (g.more_annotations {p} {q} {r} d e w) = arguments_left w ∙ resumed_left s.Comma p q r e

mutual
  -- what is left is an end of the tokens
  pub type_ends : {at : TypePosition} {p q : Spot} {t : TypeTree} → ReadsType at p t q → Ends p q
  type_ends (g.core d) = core_ends d
  type_ends (g.optional {at} {p} {q} {r} {u} d e o) = ends_trans p q u (type_ends d) (ends_trans q r u (after_ends s.Question q r (question_after at q r e)) (opened_ends r u o))
  type_ends (g.twice {at} {p} {q} {r} {u} {v} d e o o2) =
      ends_trans p q v (type_ends d) (ends_trans q r v (after_ends s.Coalesce q r (questions_after at q r e)) (ends_trans r u v (opened_ends r u o) (opened_ends u v o2)))

  pub core_ends : {p q : Spot} {t : TypeTree} → ReadsCore p t q → Ends p q
  core_ends (g.reference {p} {q} {r} {u} {v} m e o d) =
      ends_trans p q v (authorization_ends m) (ends_trans q r v (after_ends s.Ampersand q r e) (ends_trans r u v (opened_ends r u o) (core_ends d)))
  core_ends (g.grouped {p} {q} {r} {u} o d c) = ends_trans p q u (opening_ends s.OpenParenthesis p q o) (ends_trans q r u (type_ends d) (resumed_ends s.CloseParenthesis p r u c))
  core_ends (g.array {p} {q} {r} {u} o d c) = ends_trans p q u (opening_ends s.OpenBracket p q o) (ends_trans q r u (type_ends d) (resumed_ends s.CloseBracket p r u c))
  core_ends (g.dictionary {p} {q} {r} {u} {v} {w} o d c d2 c2) =
      ends_trans p q w (opening_ends s.OpenBrace p q o) (ends_trans q r w (type_ends d) (ends_trans r u w (resumed_ends s.Colon q r u c)
      (ends_trans u v w (type_ends d2) (resumed_ends s.CloseBrace p v w c2))))
  core_ends (g.intersection {p} {q} {r} o (g.intersected d)) = let w = ends_trans p q r (opening_ends s.OpenBrace p q o) (list_ends d) in (w.0, w.1)
  core_ends (g.named d m e) = dotted_ends d
  core_ends (g.applied {p} {q} {r} {u} d o w) = let v = ends_trans p q u (dotted_ends d) (ends_trans q r u (opening_ends s.Less q r o) (arguments_ends w)) in (v.0, v.1)

  pub annotation_ends : {at : TypePosition} {p q : Spot} {a : Annotation} → ReadsAnnotation at p a q → Ends p q
  annotation_ends (g.plain d) = type_ends d
  annotation_ends (g.resource {p = p} {q = q} {r = r} e d) = ends_trans p q r (after_ends s.At p q e) (type_ends d)

  pub arguments_ends : {p q : Spot} {all : List Annotation} → AnnotationList p all q → Ends p q
  arguments_ends (g.no_annotation {p} {q} e) = after_ends s.Greater p q e
  arguments_ends (g.last_annotation {p} {q} {r} d e) = ends_trans p q r (annotation_ends d) (resumed_ends s.Greater p q r e)
  arguments_ends (g.more_annotations {p} {q} {r} {u} d e w) = ends_trans p q u (annotation_ends d) (ends_trans q r u (resumed_ends s.Comma p q r e) (arguments_ends w))

-- ---- a type annotation that stands by itself

pub annotated_shorter : {p q : Spot} {a : Annotation} → Annotated p a q → length q.tokens < length p.tokens
annotated_shorter (g.annotated d) = annotation_shorter d

pub annotated_left : {p q : Spot} {a : Annotation} → Annotated p a q → q.left ≡ p.left
annotated_left (g.annotated d) = refl

pub annotated_ends : {p q : Spot} {a : Annotation} → Annotated p a q → Ends p q
annotated_ends (g.annotated d) = let w = annotation_ends d in (w.0, w.1)
