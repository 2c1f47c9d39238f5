use Rattle.std.proofs.Common.{refl, subst}
use Rattle.cad_store.specs.Stores.{held}
use Rattle.cad_runs.specs.Commands.{bad}
use Rattle.cad_answers.specs.Code.Outcomes.{IsSettled, RunsTo}
use Rattle.cad_answers.proofs.Readies.{long_line, ready_line}
use Rattle.cad_answers.proofs.ready.prepare.Goals as goal

pub returns-then-line-clause-ready : goal.returns-then-line-clause-ready
returns-then-line-clause-ready c = λ w is_w. (bad 27, w, λ pending h. long_line w c.args.line.now pending c.if-line.true h, c.in_ok-text.ensures (bad 27) refl, is_w)

pub returns-clause-ready : goal.returns-clause-ready
returns-clause-ready c = ready_line c.with_line.result (held c.args.store.now) c.in_ok-settled.settled c.settle.new.store c.with_line.new.store c.args.line.now c.if-line.false
    (λ w is_w. subst (λ l. IsSettled c.in_ok-settled.settled c.settle.new.store (RunsTo w l)) c.deref.ensures.value (c.in_ok-settled.ensures.settled w is_w)) c.with_line.ensures.ready
