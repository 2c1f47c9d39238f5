use Rattle.std.proofs.Common.{ap, ◌∙◌, sym}
use Rattle.cad_rows.specs.Views.{pure_tree}
use Rattle.cad_world.specs.State.{ok}
use Rattle.cad_containers.proofs.Rows.{int_told}
use Rattle.cad_containers.proofs.arrays.found_index.Goals as goal

pub returns-in-Ok : goal.returns-in-Ok
returns-in-Ok c = λ s. ap (λ t. ok t s) (int_told c.args.i (pure_tree c.count_tree.result) s (c.count_tree.ensures s) ∙ sym c.in-Ok.ensures)
