use Rattle.std.proofs.Common.{◌∙◌, ap, sym}
use Rattle.cad_access.specs.RunContracts.{run_of}
use Rattle.cad_making.proofs.Resources.{of_entry, resource_entry}
use Rattle.cad_making.proofs.linear.is_resource_id.Goals as goal

pub returns-in-Some : goal.returns-in-Some
returns-in-Some c = c.is_resource_sort.ensures ∙ ap of_entry c.in-Some.ensures ∙ sym (resource_entry (run_of c.args.state.now) c.args.id.now)

pub returns-in-None : goal.returns-in-None
returns-in-None c = ap of_entry c.in-None.ensures ∙ sym (resource_entry (run_of c.args.state.now) c.args.id.now)
