use Rattle.cad_statement_leaves.proofs.PlainLaws.{given_back, nothing_back}
use Rattle.cad_execution.proofs.plain.return_value.Goals as goal

pub returns-in-Some : goal.returns-in-Some
returns-in-Some g c =
    λ at n. given_back (g.C.Callees.front c.args.callees.now) (g.C.Callees.calls c.args.callees.now) at n c.args.value.now c.in-Some.given c.args.state.now c.first_come.new.state c.first_come.result c.give_back.result c.in-Some.is c.first_come.ensures c.give_back.ensures

pub returns-in-None : goal.returns-in-None
returns-in-None g c =
    λ at n. nothing_back (g.C.Callees.front c.args.callees.now) (g.C.Callees.calls c.args.callees.now) at n c.args.value.now c.args.state.now c.return_nothing.new.state c.return_nothing.result c.in-None.is c.return_nothing.ensures
