use Rattle.cad_declarations.specs.Views.{place_of, term_of}
use Rattle.cad_statement_leaves.proofs.PlainLaws.{force_assign_err, force_assign_ok}
use Rattle.cad_syntax.specs.Types.{pure_type}
use Rattle.cad_execution.proofs.plain.force_assign.Goals as goal

pub returns-in-Ok : goal.returns-in-Ok
returns-in-Ok g c =
    λ at n. force_assign_ok (g.C.Callees.front c.args.callees.now) (g.C.Callees.calls c.args.callees.now) at n (place_of c.args.place.now) (term_of c.args.value.now.value) (pure_type c.args.value.now.target) c.in-Ok.location c.args.state.now c.first_location.new.state c.force_assign_at-flow.new.state c.force_assign_at-flow.result (g.met.C.Callees.keeps c.args.callees.now) c.in-Ok.ensures c.force_assign_at-flow.ensures

pub returns-in-Err : goal.returns-in-Err
returns-in-Err g c =
    λ at n. force_assign_err (g.C.Callees.front c.args.callees.now) (g.C.Callees.calls c.args.callees.now) at n (place_of c.args.place.now) (term_of c.args.value.now.value) (pure_type c.args.value.now.target) c.args.state.now c.in-Err.stop c.in-Err.ensures
