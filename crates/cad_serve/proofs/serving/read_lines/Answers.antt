use Rattle.std.proofs.Common.{◌≡◌, ◌≤◌, [], ◌∙◌, refl, sym, ap, Ok, zero-add, arith, length}
use Rattle.cad_serve.specs.Code.Ending.{input_bound}
use Rattle.cad_serve.proofs.Runs.{between_none, going_as, cause_as}
use Rattle.cad_serve.proofs.serving.read_lines.Goals as goal

pub loop-taken-init : goal.loop-taken-init
loop-taken-init g c = (
  λ tell w stands. between_none c.args.line.now c.args.store.now w (g.H.Host.left c.args.host.now) (g.H.Host.trace c.args.host.now) c.requires.fresh stands (c.requires.on tell),
  λ tell. sym (zero-add (length (g.H.Host.left c.args.host.now))),
  refl,
  refl,
  refl,
  c.requires.sound,
  c.requires.on,
  refl,
  omega arith,
  c.requires.some,
)

pub returns-in-Err-clause-ends : goal.returns-in-Err-clause-ends
returns-in-Err-clause-ends g c = λ tell w stands. c.in-Err.ensures.ends tell w (g.H.Host.left c.args.host.now) (g.H.Host.trace c.args.host.now) (c.loop-taken.invariant.0 tell w stands)

pub returns-in-Ok-eq0-clause-ends : goal.returns-in-Ok-eq0-clause-ends
returns-in-Ok-eq0-clause-ends g c = λ tell w stands.
    let zero : c.in-Ok-eq0.field-0 ≡ 0 = omega (arith, c.in-Ok-eq0.field-0-test) in
    let empty : g.H.Host.left c.turn.new.host ≡ [] = c.in-Ok-eq0.ensures.end tell (ap Ok zero) in
    let short : length (g.H.Host.left c.args.host.now) ≤ input_bound = omega (arith, c.loop-taken.invariant.1 tell, c.in-Ok-eq0.ensures.left tell, zero, ap length empty, c.loop-taken.invariant.8) in
    c.finish.ensures.ends tell w (g.H.Host.left c.args.host.now) (g.H.Host.trace c.args.host.now) short empty
    (going_as c.turn.new.line c.turn.new.store w (g.H.Host.left c.args.host.now) (g.H.Host.left c.turn.new.host) [] (g.H.Host.trace c.args.host.now) (g.H.Host.trace c.turn.new.host) (g.H.Host.trace c.turn.new.host) empty refl
    (c.in-Ok-eq0.ensures.going tell w (g.H.Host.left c.args.host.now) (g.H.Host.trace c.args.host.now) (c.loop-taken.invariant.0 tell w stands)).going)

pub loop-taken-preserved : goal.loop-taken-preserved
loop-taken-preserved g c = (
  λ tell w stands. c.in-Ok.ensures.going tell w (g.H.Host.left c.args.host.now) (g.H.Host.trace c.args.host.now) (c.loop-taken.invariant.0 tell w stands),
  λ tell. omega (arith, c.loop-taken.invariant.1 tell, c.in-Ok.ensures.left tell),
  c.in-Ok.ensures.steady.0 ∙ c.loop-taken.invariant.2,
  c.in-Ok.ensures.steady.1 ∙ c.loop-taken.invariant.3,
  c.in-Ok.ensures.steady.2 ∙ c.loop-taken.invariant.4,
  c.in-Ok.ensures.sound,
  c.in-Ok.ensures.on,
  c.in-Ok.ensures.room ∙ c.loop-taken.invariant.7,
  omega (arith, c.in-Ok.ensures.count, c.room_for-room.ensures.bound),
  omega (arith, c.loop-taken.invariant.9),
)

pub returns-clause-ends : goal.returns-clause-ends
returns-clause-ends g c = λ tell w stands.
    c.past_bound.ensures.ends tell w (g.H.Host.left c.args.host.now) (g.H.Host.trace c.args.host.now) (omega (arith, c.loop-taken.invariant.1 tell, c.loop-taken.invariant.8)) (c.loop-taken.invariant.0 tell w stands)

pub returns-in-Err-clause-cause : goal.returns-in-Err-clause-cause
returns-in-Err-clause-cause g c = cause_as c.in-Err.stop _ _ _ _ _ _ _ _ _ c.loop-taken.invariant.2 c.loop-taken.invariant.3 c.loop-taken.invariant.4 c.in-Err.ensures.cause

pub returns-in-Ok-eq0-clause-cause : goal.returns-in-Ok-eq0-clause-cause
returns-in-Ok-eq0-clause-cause g c = cause_as c.finish.result _ _ _ _ _ _ _ _ _ (c.in-Ok-eq0.ensures.steady.0 ∙ c.loop-taken.invariant.2) (c.in-Ok-eq0.ensures.steady.1 ∙ c.loop-taken.invariant.3) (c.in-Ok-eq0.ensures.steady.2 ∙ c.loop-taken.invariant.4) c.finish.ensures.cause

pub returns-clause-cause : goal.returns-clause-cause
returns-clause-cause g c = cause_as c.past_bound.result _ _ _ _ _ _ _ _ _ c.loop-taken.invariant.2 c.loop-taken.invariant.3 c.loop-taken.invariant.4 c.past_bound.ensures.cause
