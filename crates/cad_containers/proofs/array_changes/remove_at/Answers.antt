use Rattle.cad_num.specs.Numbers.{value_of}
use Rattle.cad_state.specs.Views.{state_over}
use Rattle.cad_containers.proofs.Changing.{removed_nowhere}
use Rattle.cad_containers.proofs.array_changes.remove_at.Goals as goal

pub returns-in-None : goal.returns-in-None
returns-in-None c = λ type accounts ready f here known.
    removed_nowhere c.args.label type (value_of c.args.x) c.args.count f.tree.parts (state_over accounts c.args.state.now) c.in-None.ensures.1 known.1
