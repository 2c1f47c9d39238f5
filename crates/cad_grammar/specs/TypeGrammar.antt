-- The grammar of types. Each production is a relation of the spot before its tokens, the tree, and the spot behind them.
use Rattle.std.specs.Prelude.{◌≡◌, Bool, true, false, List, [], ◌∷◌, Option, Some, None}
use Rattle.cad_grammar.specs.declared.token.Sign.TheVariants as s
use Rattle.cad_syntax.specs.declared.keyword.Keyword.TheVariants as k
use Rattle.cad_syntax.specs.declared.text.Name.{Name}
use Rattle.cad_grammar.specs.declared.level.TypePosition.{TypePosition}
use Rattle.cad_grammar.specs.declared.level.TypePosition.TheVariants as position
use Rattle.cad_grammar.specs.declared.type_expr.Entitlements.{Entitlements}
use Rattle.cad_grammar.specs.declared.type_expr.Entitlements.TheVariants as entitlements
use Rattle.cad_grammar.specs.Trees.{TypeTree, Annotation, annotations_of}
use Rattle.cad_grammar.specs.Trees as tree
use Rattle.cad_grammar.specs.Spots.{Spot, back, then, ◌>>=◌, after, keyword, name, opened, opening, resumed}
use Rattle.cad_grammar.specs.Lists.{Listed, Maybe}
use Rattle.cad_grammar.specs.Levels.{question, questions}

-- Dotted = Name { "." Name }
pub data Dotted : Spot → List Name → Spot → Type 0 where
  single : {p q : Spot} {n : Name} → name p ≡ Some (n, q) → Dotted p (n ∷ []) q
  further : {p q r t : Spot} {n : Name} {names : List Name} → name p ≡ Some (n, q) → after s.Dot q ≡ Some r → Dotted r names t → Dotted p (n ∷ names) t

-- "." Name
unfoldable pub dot_name : Spot → Option (Name × Spot)
dot_name p = after s.Dot p >>= name

-- Dotted { "|" Dotted } ")"
pub data Alternatives : Spot → List (List Name) → Spot → Type 0 where
  last_alternative : {p q r : Spot} {n : List Name} → Dotted p n q → after s.CloseParenthesis q ≡ Some r → Alternatives p (n ∷ []) r
  more_alternatives : {p q r t : Spot} {n : List Name} {all : List (List Name)}
      → Dotted p n q → after s.Bar q ≡ Some r → Alternatives r all t → Alternatives p (n ∷ all) t

-- Entitlements ")", with Entitlements = Dotted { "," Dotted } [ "," ] | Dotted "|" Dotted { "|" Dotted }
pub data Entitled : Spot → Entitlements → Spot → Type 0 where
  all_of : {p q : Spot} {n : List Name} {all : List (List Name)} → Listed Dotted s.CloseParenthesis p (n ∷ all) q → Entitled p (entitlements.All (n ∷ all)) q
  any_of : {p q r t : Spot} {n : List Name} {all : List (List Name)}
      → Dotted p n q → after s.Bar q ≡ Some r → Alternatives r all t → Entitled p (entitlements.Any (n ∷ all)) t

-- "(" Entitlements ")"
pub data Authorized : Spot → Entitlements → Spot → Type 0 where
  authorized : {p q r : Spot} {e : Entitlements} → opening s.OpenParenthesis p ≡ Some q → Entitled q e r → Authorized p e (back p r)

-- "{" Dotted { "," Dotted } [ "," ] "}" behind the "{"
pub data Intersected : Spot → List (List Name) → Spot → Type 0 where
  intersected : {p q : Spot} {n : List Name} {all : List (List Name)} → Listed Dotted s.CloseBrace p (n ∷ all) q → Intersected p (n ∷ all) q

mutual
  -- Type = Core { "?" }
  pub data ReadsType : TypePosition → Spot → TypeTree → Spot → Type 0 where
    core : {at : TypePosition} {p q : Spot} {t : TypeTree} → ReadsCore p t q → ReadsType at p t q
    optional : {at : TypePosition} {p q r u : Spot} {t : TypeTree}
        → ReadsType at p t q → question at q ≡ Some r → opened r ≡ Some u → ReadsType at p (tree.optional t) u
    -- `??` is two of them
    twice : {at : TypePosition} {p q r u v : Spot} {t : TypeTree}
        → ReadsType at p t q → questions at q ≡ Some r → opened r ≡ Some u → opened u ≡ Some v → ReadsType at p (tree.optional (tree.optional t)) v

  pub data ReadsCore : Spot → TypeTree → Spot → Type 0 where
    -- [ auth "(" Entitlements ")" ] "&" Core
    reference : {p q r u v : Spot} {a : Option Entitlements} {t : TypeTree}
        → Maybe (keyword k.Auth) Authorized p a q → after s.Ampersand q ≡ Some r → opened r ≡ Some u → ReadsCore u t v → ReadsCore p (tree.reference a t) v
    -- "(" Type ")"
    grouped : {p q r u : Spot} {t : TypeTree}
        → opening s.OpenParenthesis p ≡ Some q → ReadsType position.Anywhere q t r → resumed s.CloseParenthesis p r ≡ Some u → ReadsCore p t u
    -- "[" Type "]"
    array : {p q r u : Spot} {t : TypeTree}
        → opening s.OpenBracket p ≡ Some q → ReadsType position.Anywhere q t r → resumed s.CloseBracket p r ≡ Some u → ReadsCore p (tree.array t) u
    -- "{" Type ":" Type "}"
    dictionary : {p q r u v w : Spot} {key value : TypeTree}
        → opening s.OpenBrace p ≡ Some q → ReadsType position.Anywhere q key r → resumed s.Colon q r ≡ Some u
        → ReadsType position.Anywhere u value v → resumed s.CloseBrace p v ≡ Some w → ReadsCore p (tree.dictionary key value) w
    -- "{" Dotted { "," Dotted } "}"
    intersection : {p q r : Spot} {all : List (List Name)} → opening s.OpenBrace p ≡ Some q → Intersected q all r → ReadsCore p (tree.intersection all) (back p r)
    -- Dotted, all of it, where no "<" follows
    named : {p q : Spot} {n : List Name}
        → Dotted p n q → dot_name q ≡ None → after s.Less q ≡ None → ReadsCore p (tree.named n tree.no_annotations) q
    -- Dotted "<" TypeAnnotation { "," TypeAnnotation } ">"
    applied : {p q r u : Spot} {n : List Name} {a : Annotation} {all : List Annotation}
        → Dotted p n q → opening s.Less q ≡ Some r → AnnotationList r (a ∷ all) u → ReadsCore p (tree.named n (annotations_of (a ∷ all))) (back q u)

  -- TypeAnnotation = [ "@" ] Type
  pub data ReadsAnnotation : TypePosition → Spot → Annotation → Spot → Type 0 where
    plain : {at : TypePosition} {p q : Spot} {t : TypeTree} → ReadsType at p t q → ReadsAnnotation at p (record { is_resource = false; written = t }) q
    resource : {at : TypePosition} {p q r : Spot} {t : TypeTree}
        → after s.At p ≡ Some q → ReadsType at q t r → ReadsAnnotation at p (record { is_resource = true; written = t }) r

  -- type annotations with commas between them, up to ">"
  pub data AnnotationList : Spot → List Annotation → Spot → Type 0 where
    no_annotation : {p q : Spot} → after s.Greater p ≡ Some q → AnnotationList p [] q
    last_annotation : {p q r : Spot} {a : Annotation} → ReadsAnnotation position.Anywhere p a q → resumed s.Greater p q ≡ Some r → AnnotationList p (a ∷ []) r
    more_annotations : {p q r u : Spot} {a : Annotation} {all : List Annotation}
        → ReadsAnnotation position.Anywhere p a q → resumed s.Comma p q ≡ Some r → AnnotationList r all u → AnnotationList p (a ∷ all) u

-- a type annotation that stands by itself
pub data Annotated : Spot → Annotation → Spot → Type 0 where
  annotated : {p q : Spot} {a : Annotation} → ReadsAnnotation position.Anywhere p a q → Annotated p a (back p q)
