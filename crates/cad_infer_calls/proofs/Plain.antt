-- Every built-in function but `Type` is called as it is declared.
use Rattle.std.proofs.Common.{◌≡◌, List, refl}
use Rattle.cad_syntax.specs.Types.{PureType}
use Rattle.cad_types.specs.declared.builtin.Builtin.{Builtin}
use Rattle.cad_types.specs.declared.builtin.Builtin.TheVariants as m
use Rattle.cad_typing.specs.Calls.{call_builtin, call_built_in_function}
use Rattle.cad_typing.specs.Environments.{Environment}
use Rattle.cad_typing.specs.Types.{void}

pub is_plain : (env : Environment) (b : Builtin) (types : List PureType) → (b ≡ m.MetaType → ⊥) → call_builtin env void types b types ≡ call_built_in_function env b types
is_plain env m.MetaType types other = absurd (other refl)
is_plain env _ types other = refl
