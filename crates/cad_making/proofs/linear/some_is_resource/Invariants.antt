use Rattle.std.proofs.Common.{◌≡◌, drop}
use Rattle.std.specs.List.{list_any}
use Rattle.cad_types.specs.Declarations.{is_resource_id}
use Rattle.cad_world.specs.Declared.{declarations}
use Rattle.cad_access.specs.RunContracts.{run_of}
use Rattle.cad_making.proofs.linear.some_is_resource.Given as goal

abbrev pub invariant-loop-id : goal.invariant-loop-id
invariant-loop-id l = list_any (is_resource_id (declarations (run_of l.state))) (drop l.id-index l.ids) ≡ list_any (is_resource_id (declarations (run_of l.state))) l.ids
