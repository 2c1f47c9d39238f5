-- How far from a type code may stand.
use Rattle.std.specs.Prelude.{Bool, false, ◌==◌, List, Option, Some, None}
use Rattle.std.specs.List.{list_any}
use Rattle.cad_syntax.specs.TypeIds.{same_id}
use Rattle.cad_syntax.specs.declared.type_id.TypeId.{TypeId}
use Rattle.cad_world.specs.Declared.{is_within, contract_of}
use Rattle.cad_access.specs.declared.access.Reach.{Reach}
use Rattle.cad_access.specs.declared.access.Reach.TheVariants as r

-- the code stands so far from the type
abbrev pub reaches : Reach → TypeId → TypeId → Bool
reaches r.Type id code = is_within id code
reaches r.Contract id code = same_id (contract_of id) (contract_of code)
reaches r.Account id code = id.address.0 == code.address.0

-- the code stands so far from one of these types
abbrev pub near : Reach → List TypeId → Option TypeId → Bool
near reach ids None = false
near reach ids (Some code) = list_any (λ id. reaches reach id code) ids
