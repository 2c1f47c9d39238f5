use Rattle.cad_declarations.specs.Views.{place_of}
use Rattle.cad_statement_leaves.proofs.PlainLaws.{swap_err, swap_ok}
use Rattle.cad_syntax.specs.Types.{pure_type}
use Rattle.cad_execution.proofs.plain.swap.Goals as goal

pub returns-in-Ok : goal.returns-in-Ok
returns-in-Ok g c =
    λ at n. swap_ok (g.C.Callees.front c.args.callees.now) (g.C.Callees.calls c.args.callees.now) at n (place_of c.args.left.now) (pure_type c.args.left_type.now) (place_of c.args.right.now) (pure_type c.args.right_type.now) c.in-Ok.location c.args.state.now c.first_location.new.state c.swap_with-flow.new.state c.swap_with-flow.result (g.met.C.Callees.keeps c.args.callees.now) c.in-Ok.ensures c.swap_with-flow.ensures

pub returns-in-Err : goal.returns-in-Err
returns-in-Err g c =
    λ at n. swap_err (g.C.Callees.front c.args.callees.now) (g.C.Callees.calls c.args.callees.now) at n (place_of c.args.left.now) (pure_type c.args.left_type.now) (place_of c.args.right.now) (pure_type c.args.right_type.now) c.args.state.now c.in-Err.stop c.in-Err.ensures
