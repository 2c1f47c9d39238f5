use Rattle.std.specs.Prelude.{option_map}
use Rattle.std.proofs.Common.{Some}
use Rattle.cad_rows.specs.Views.{pure_tree}
use Rattle.cad_syntax.specs.Types.{pure_type}
use Rattle.cad_world.specs.Locations.{variable, read}
use Rattle.cad_standing.specs.Actions.{and_then}
use Rattle.cad_rows.specs.declared.tree.Tree.{Tree}
use Rattle.cad_standing.specs.CastPlaces.{cast_value}
use Rattle.cad_standing.proofs.Composing.{plan_then}
use Rattle.cad_standing.proofs.casting.cast_variable.Goals as goal

pub returns-in-Ok : goal.returns-in-Ok
returns-in-Ok c =
    let type = pure_type c.args.wanted.now in
    let x = variable c.args.x in
    plan_then (λ (t : Tree). cast_value type x (Some (pure_tree t))) (option_map pure_tree) (and_then (read x) (cast_value type x)) c.in-Ok.own
    c.args.state.now c.cast_shell-cast.new.state c.cast_shell-cast.result (c.in-Ok.ensures type) c.cast_shell-cast.ensures
