use Rattle.std.proofs.Common.{ℕ}
use Rattle.cad_evaluation.specs.Making.{begin}
use Rattle.cad_outcomes.proofs.Steps.{does_same}
use Rattle.cad_state.specs.Views.{state_over}
use Rattle.cad_making.specs.Making.{begun}
use Rattle.cad_making.proofs.Acts.{with_names, no_names}
use Rattle.cad_making.proofs.making.begin.Goals as goal

pub returns-in-Ok : goal.returns-in-Ok
returns-in-Ok c = λ w. does_same (λ (label : ℕ). label) (begun c.args.id.now c.args.identity) (begin c.args.id.now c.args.identity c.in-Ok.names) (state_over w c.args.state.now) (state_over w c.begin_fields.new.state) c.begin_fields.result
    (with_names (begin c.args.id.now c.args.identity) c.args.id.now (state_over w c.args.state.now) c.in-Ok.names (c.in-Ok.ensures w)) (c.begin_fields.ensures w)

pub returns-in-Err : goal.returns-in-Err
returns-in-Err c = λ w. no_names (begin c.args.id.now c.args.identity) c.args.id.now (state_over w c.args.state.now) c.in-Err.stop (c.in-Err.ensures w)
