use Rattle.std.proofs.Common.{sym, ◌∙◌, refl, arith, ap}
use Rattle.std.proofs.lemmas.List.{append-nil}
use Rattle.cad_generation.specs.Lines.{transfer_of}
use Rattle.cad_serve.proofs.Generatings.{ran_as, transfers_more, transfers_all, next_more}
use Rattle.cad_serve.proofs.generating.add_transfers.Goals as goal

pub loop-init : goal.loop-init
loop-init g c = (
  λ w before h. ran_as w before _ c.args.counts.now c.args.store.now (sym (append-nil before)) h,
  refl,
  c.requires.sound,
  c.requires.on,
  refl,
)

pub loop-preserved : goal.loop-preserved
loop-preserved g c = (
  λ w before h. ran_as w _ _ c.add_line.new.counts c.add_line.new.store
      (transfers_more before c.args.n c.loop.counter c.loop.x _ c.loop.invariant.1 (c.in_ok-line.ensures ∙ ap transfer_of c.next_number-x.ensures))
      (c.in_ok-add_line.ensures.ran w _ (c.loop.invariant.0 w before h)),
  next_more c.args.n c.loop.counter c.loop.x c.next_number-x.result c.loop.invariant.1 c.next_number-x.ensures,
  c.in_ok-add_line.ensures.sound,
  c.in_ok-add_line.ensures.on,
  c.add_line.ensures.room ∙ c.loop.invariant.4,
)

pub returns-clause-ran : goal.returns-clause-ran
returns-clause-ran g c = λ w before h.
    ran_as w _ _ c.loop.counts c.loop.store (transfers_all before c.args.n c.loop.counter (omega arith)) (c.loop.invariant.0 w before h)
