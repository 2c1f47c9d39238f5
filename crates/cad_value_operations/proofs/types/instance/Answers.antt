use Rattle.std.proofs.Common.{Option, ap, sym, ◌∙◌}
use Rattle.cad_evaluation.specs.Casts.{type_in_value}
use Rattle.cad_evaluation.specs.Texts.{in_tree}
use Rattle.cad_rows.specs.Views.{pure_row, pure_tree}
use Rattle.cad_state.specs.Views.{state_over}
use Rattle.cad_syntax.specs.Types.{PureType, pure_type}
use Rattle.cad_value_operations.proofs.Looks.{does_from}
use Rattle.cad_value_operations.specs.Code.Members.{instance_by, instance_of, told_of, with_told}
use Rattle.cad_world.specs.Rows.{Tree}
use Rattle.cad_world.specs.State.{with_some}
use Rattle.cad_value_operations.proofs.types.instance.Goals as goal

pub returns-in-Some-type_in : goal.returns-in-Some-type_in
returns-in-Some-type_in c = λ w ready.
    let s = state_over w c.args.state.now in
    let t = told_of c.args.told.now in
    does_from pure_tree (instance_by (pure_row c.args.row.now) t) (with_told t (instance_of (pure_type c.in-Some-type_in.wanted.now))) s s (state_over w c.instance_by.new.state) c.instance_by.result
    (ap (λ (o : Option Tree). with_some o (λ given. with_some (in_tree type_in_value given) (λ type. with_told t (instance_of type))) s) (sym c.in-Some.ensures)
    ∙ ap (λ (o : Option PureType). with_some o (λ type. with_told t (instance_of type)) s) (sym c.in-Some-type_in.ensures))
    (c.instance_by.ensures w ready)
