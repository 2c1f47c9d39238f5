-- Whether two lists of declarations are one, part by part, so that it is told in one way at most.
use Rattle.std.specs.Prelude.{◌≡◌, List, [], ◌∷◌}
use Rattle.std.specs.Coded.{×_prop, Unit-prop}
use Rattle.std.proofs.Props.{props}
use Rattle.cad_syntax.specs.Types.{PureType, basic, optional, array, dictionary, intersection, declared, reference, capability, capability_of}
use Rattle.cad_types.specs.Declarations.{Declaration}

abbrev pub SameType : PureType → PureType → Type 0
SameType (basic a) (basic b) = a ≡ b
SameType (optional a) (optional b) = SameType a b
SameType (array a) (array b) = SameType a b
SameType (dictionary j a) (dictionary k b) = SameType j k × SameType a b
SameType (intersection a) (intersection b) = a ≡ b
SameType (declared a) (declared b) = a ≡ b
SameType (reference g a) (reference h b) = (g ≡ h) × SameType a b
SameType capability capability = Unit {0}
SameType (capability_of a) (capability_of b) = SameType a b
SameType _ _ = ⊥

abbrev pub SameTypes : List PureType → List PureType → Type 0
SameTypes [] [] = Unit {0}
SameTypes (a ∷ these) (b ∷ those) = SameType a b × SameTypes these those
SameTypes _ _ = ⊥

abbrev pub SameDeclaration : Declaration → Declaration → Type 0
SameDeclaration d e = (d.id ≡ e.id) × ((d.sort ≡ e.sort) × (SameTypes d.fields e.fields × (d.interfaces ≡ e.interfaces)))

abbrev pub SameDeclarations : List Declaration → List Declaration → Type 0
SameDeclarations [] [] = Unit {0}
SameDeclarations (d ∷ ds) (e ∷ es) = SameDeclaration d e × SameDeclarations ds es
SameDeclarations _ _ = ⊥

-- ---- it is told in one way

pub SameType-prop : (a b : PureType) → IsProp (SameType a b)
SameType-prop (basic a) (basic b) = Prim.hlevel props
SameType-prop (optional a) (optional b) = SameType-prop a b
SameType-prop (array a) (array b) = SameType-prop a b
SameType-prop (dictionary j a) (dictionary k b) = ×_prop (SameType-prop j k) (SameType-prop a b)
SameType-prop (intersection a) (intersection b) = Prim.hlevel props
SameType-prop (declared a) (declared b) = Prim.hlevel props
SameType-prop (reference g a) (reference h b) = ×_prop (Prim.hlevel props) (SameType-prop a b)
SameType-prop capability capability = Unit-prop
SameType-prop (capability_of a) (capability_of b) = SameType-prop a b
SameType-prop _ _ = λ x. absurd x

pub SameTypes-prop : (these those : List PureType) → IsProp (SameTypes these those)
SameTypes-prop [] [] = Unit-prop
SameTypes-prop (a ∷ these) (b ∷ those) = ×_prop (SameType-prop a b) (SameTypes-prop these those)
SameTypes-prop _ _ = λ x. absurd x

pub SameDeclarations-prop : (ds es : List Declaration) → IsProp (SameDeclarations ds es)
SameDeclarations-prop [] [] = Unit-prop
SameDeclarations-prop (d ∷ ds) (e ∷ es) = ×_prop (×_prop (Prim.hlevel props) (×_prop (Prim.hlevel props) (×_prop (SameTypes-prop d.fields e.fields) (Prim.hlevel props)))) (SameDeclarations-prop ds es)
SameDeclarations-prop _ _ = λ x. absurd x
