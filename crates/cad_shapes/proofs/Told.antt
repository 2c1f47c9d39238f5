-- That lists of declarations are the same, part by part, is that they are equal.
use Rattle.std.proofs.Common.{◌≡◌, List, [], ◌∷◌, refl, ap, subst, ◌∙◌, sym}
use Rattle.cad_syntax.specs.Types.{PureType, basic, optional, array, dictionary, intersection, declared, reference, capability, capability_of}
use Rattle.cad_types.specs.Declarations.{Declaration}
use Rattle.cad_shapes.specs.Same.{SameType, SameTypes, SameDeclaration, SameDeclarations}

pub type_tells : (a b : PureType) → SameType a b → a ≡ b
type_tells (basic a) (basic b) e = ap basic e
type_tells (optional a) (optional b) e = ap optional (type_tells a b e)
type_tells (array a) (array b) e = ap array (type_tells a b e)
type_tells (dictionary j a) (dictionary k b) e = let key = type_tells j k e.0 in let value = type_tells a b e.1 in cc
type_tells (intersection a) (intersection b) e = ap intersection e
type_tells (declared a) (declared b) e = ap declared e
type_tells (reference g a) (reference h b) e = let grant = e.0 in let target = type_tells a b e.1 in cc
type_tells capability capability e = refl
type_tells (capability_of a) (capability_of b) e = ap capability_of (type_tells a b e)
type_tells _ _ e = absurd e

pub types_tell : (these those : List PureType) → SameTypes these those → these ≡ those
types_tell [] [] e = refl
types_tell (a ∷ these) (b ∷ those) e = let head = type_tells a b e.0 in let tail = types_tell these those e.1 in cc
types_tell _ _ e = absurd e

pub declaration_tells : (d e : Declaration) → SameDeclaration d e → d ≡ e
declaration_tells d e s = λ i. record { id = s.0 i; sort = s.1.0 i; fields = types_tell d.fields e.fields s.1.1.0 i; interfaces = s.1.1.1 i }

pub tells : (ds es : List Declaration) → SameDeclarations ds es → ds ≡ es
tells [] [] s = refl
tells (d ∷ ds) (e ∷ es) s = let head = declaration_tells d e s.0 in let tail = tells ds es s.1 in cc
tells _ _ s = absurd s

pub type_same : (a : PureType) → SameType a a
type_same (basic a) = refl
type_same (optional a) = type_same a
type_same (array a) = type_same a
type_same (dictionary k a) = (type_same k, type_same a)
type_same (intersection a) = refl
type_same (declared a) = refl
type_same (reference g a) = (refl, type_same a)
type_same capability = tt
type_same (capability_of a) = type_same a

pub types_same : (these : List PureType) → SameTypes these these
types_same [] = tt
types_same (a ∷ these) = (type_same a, types_same these)

pub all_same : (ds : List Declaration) → SameDeclarations ds ds
all_same [] = tt
all_same (d ∷ ds) = ((refl, (refl, (types_same d.fields, refl))), all_same ds)

pub same : (ds es : List Declaration) → ds ≡ es → SameDeclarations ds es
same ds es e = subst (λ other. SameDeclarations ds other) e (all_same ds)
