use Rattle.std.proofs.Common.{List, subst}
use Rattle.cad_evaluation.specs.Builtins.{on_array}
use Rattle.cad_receivers.specs.Views.{at_spot, settled_of}
use Rattle.cad_rows.specs.Views.{pure_row, pure_tree}
use Rattle.cad_rows.specs.declared.tree.Place.{Place}
use Rattle.cad_state.specs.Views.{FindsAndCarriesOut}
use Rattle.cad_containers.specs.Code.Members.{array_read}
use Rattle.cad_containers.proofs.reads.read_in_array.Goals as goal

pub returns : goal.returns
returns c =
    let x = settled_of c.args.receiver in
    subst (λ (ps : List Place). FindsAndCarriesOut pure_tree (at_spot x (λ spot. on_array spot (array_read c.args.member (pure_row ps)))) c.args.state.now c.args.state.now c.look_in_array-result.result) c.as_slice.ensures.value
    c.look_in_array-result.ensures
