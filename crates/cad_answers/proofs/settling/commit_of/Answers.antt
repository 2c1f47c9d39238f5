use Rattle.std.proofs.Common.{◌≡◌, false, true, refl, sym, ◌∙◌, ap, subst, Err}
use Rattle.cad_accounts.specs.Registers.{applied, Leads}
use Rattle.cad_worlds.specs.Standing.{StandsFor}
use Rattle.cad_store.specs.Stores.{rows_in, held, room_of, IsOn}
use Rattle.cad_runs.specs.Commands.{failed}
use Rattle.cad_answers.proofs.Readies.{commits_fit, commits_full, leads_applied, stands_applied, stands_unchanged}
use Rattle.cad_answers.proofs.settling.commit_of.Goals as goal

pub returns-then-unchanged-clause-settled : goal.returns-then-unchanged-clause-settled
returns-then-unchanged-clause-settled c = λ a w v u new tells is_w h is_u becomes. (
  a,
  u,
  commits_fit w v u a c.args.changes new (rows_in c.args.store.now) c.args.store.now.registers.ascending h is_u becomes (room_of c.args.store.now) c.requires.room c.in-Ok.ensures.fits,
  tells,
  subst (λ m. StandsFor m u) (sym (ap held c.discard.ensures ∙ c.ready.ensures.held)) (stands_unchanged u (held c.args.store.now) new c.args.changes (c.if-unchanged.ensures.0 refl) h is_u),
)

pub returns-then-unchanged-clause-on : goal.returns-then-unchanged-clause-on
returns-then-unchanged-clause-on c = λ m on. subst (IsOn m) (sym c.discard.ensures) (c.ready.ensures.on m on)

pub returns-in-Ok-clause-settled : goal.returns-in-Ok-clause-settled
returns-in-Ok-clause-settled c = λ a w v u new tells is_w h is_u becomes. (
  a,
  u,
  c.args.changes,
  commits_fit w v u a c.args.changes new (rows_in c.args.store.now) c.args.store.now.registers.ascending h is_u becomes (room_of c.args.store.now) c.requires.room c.in-Ok.ensures.fits,
  tells,
  c.in-Ok.ensures.commit,
  subst (λ m. StandsFor (applied c.args.changes m) u) (sym c.ready.ensures.held) (stands_applied w v u a c.args.changes new (rows_in c.args.store.now) c.args.store.now.registers.ascending h is_u becomes (room_of c.args.store.now) c.requires.room),
  subst (λ m. Leads m (applied c.args.changes m) c.args.changes) (sym c.ready.ensures.held) (leads_applied (held c.args.store.now) new c.args.changes h),
  λ empty. let h : false ≡ true = c.if-unchanged.ensures.1 empty in cc h,
)

pub returns-in-Err-Full-clause-settled : goal.returns-in-Err-Full-clause-settled
returns-in-Err-Full-clause-settled c = λ a w v u new tells is_w h is_u becomes. (
  failed 130,
  w,
  commits_full w v u a c.args.changes new (rows_in c.args.store.now) c.args.store.now.registers.ascending h is_u becomes (room_of c.args.store.now) c.requires.room (c.in-Err-Full.ensures.full (ap Err c.in-Err-Full.field-0-is)),
  refl,
  subst (λ m. StandsFor m w) (sym c.ready.ensures.held) is_w,
)
