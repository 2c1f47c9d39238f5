-- The definitions' values that values of the program are.
use Rattle.std.specs.Prelude.{Option, option_map}
use Rattle.std.specs.Borrow.{Bor}
use Rattle.cad_syntax.specs.Types.{PureType, pure_type}
use Rattle.cad_syntax.specs.declared.types.CadType.{CadType}
use Rattle.cad_typing.specs.Expressions as spec
use Rattle.cad_infer_parts.specs.declared.family.Family.{Family}
use Rattle.cad_infer_parts.specs.declared.family.Family.TheVariants as f

abbrev pub family_of : Family → spec.Family
family_of f.Arithmetical = spec.arithmetical
family_of f.Bitwise = spec.bitwise
family_of f.Ordering = spec.ordering
family_of f.Equality = spec.equality
family_of f.LeftBesideNil = spec.left_beside_nil
family_of f.RightBesideNil = spec.right_beside_nil
family_of f.Logical = spec.logical
family_of f.Coalescing = spec.coalescing

-- the type that is expected, if one is
abbrev pub expected_of : Option (Bor CadType) → Option PureType
expected_of = option_map (λ t. pure_type t.now)
