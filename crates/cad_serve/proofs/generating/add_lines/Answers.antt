use Rattle.std.proofs.Common.{sym, ◌∙◌, refl, arith, ap, ◌++◌}
use Rattle.std.proofs.lemmas.List.{append-nil, take_all}
use Rattle.cad_serve.proofs.Generatings.{ran_as, lines_more}
use Rattle.cad_serve.proofs.generating.add_lines.Goals as goal

pub loop-line-init : goal.loop-line-init
loop-line-init g c = (
  λ w before h. ran_as w before _ c.args.counts.now c.args.store.now (sym (append-nil before)) h,
  c.requires.sound,
  c.requires.on,
  refl,
)

pub loop-line-preserved : goal.loop-line-preserved
loop-line-preserved g c = (
  λ w before h. ran_as w _ _ c.add_line.new.counts c.add_line.new.store (lines_more before c.args.lines.now c.loop-line.line-index c.line-item.result (omega arith) c.line-item.is) (c.in_ok-add_line.ensures.ran w _ (c.loop-line.invariant.0 w before h)),
  c.in_ok-add_line.ensures.sound,
  c.in_ok-add_line.ensures.on,
  c.add_line.ensures.room ∙ c.loop-line.invariant.3,
)

pub returns-clause-ran : goal.returns-clause-ran
returns-clause-ran g c = λ w before h.
    ran_as w _ _ c.loop-line.counts c.loop-line.store (ap (λ l. before ++ l) (take_all c.loop-line.line-index c.args.lines.now (omega arith))) (c.loop-line.invariant.0 w before h)
