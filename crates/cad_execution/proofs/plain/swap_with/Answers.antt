use Rattle.cad_declarations.specs.Views.{place_of}
use Rattle.cad_locations.specs.Views.{location_of}
use Rattle.cad_statement_leaves.proofs.PlainLaws.{swap_with_err, swap_with_ok}
use Rattle.cad_syntax.specs.Types.{pure_type}
use Rattle.cad_execution.proofs.plain.swap_with.Goals as goal

pub returns-in-Ok : goal.returns-in-Ok
returns-in-Ok g c =
    swap_with_ok (g.C.Callees.front c.args.callees.now) (g.C.Callees.calls c.args.callees.now) (location_of c.args.left.now) (pure_type c.args.left_type.now) (place_of c.args.right.now) (pure_type c.args.right_type.now) c.in-Ok.location c.args.state.now c.locate.new.state c.swap.new.state c.swap.result c.next-flow.result (g.met.C.Callees.keeps c.args.callees.now) c.in-Ok.ensures c.swap.ensures c.next-flow.ensures

pub returns-in-Err : goal.returns-in-Err
returns-in-Err g c =
    swap_with_err (g.C.Callees.front c.args.callees.now) (g.C.Callees.calls c.args.callees.now) (location_of c.args.left.now) (pure_type c.args.left_type.now) (place_of c.args.right.now) (pure_type c.args.right_type.now) c.args.state.now c.in-Err.stop c.in-Err.ensures
