-- Labels as resources end: behind the laying out, the events and the burial each stands once.
use Rattle.std.proofs.Common.{◌++◌, suc, [], ◌∷◌, refl, arith, List}
use Rattle.cad_world.specs.Rows.{stop, Tree, back}
use Rattle.cad_world.specs.State.{give}
use Rattle.cad_world.specs.Transfers.{charged}
use Rattle.cad_evaluation.specs.Callees.{destroyed_event}
use Rattle.cad_evaluation.specs.Ending.{events_of, set_aside}
use Rattle.cad_labels.specs.Laws.{AnyOne, HasNone}
use Rattle.cad_labels.proofs.Forms.{keeps_give, stop_none}
use Rattle.cad_labels.proofs.Keeping.{keeps_bind, fewer_stand}
use Rattle.cad_labels.proofs.Marks.{mark_back}
use Rattle.cad_labels.proofs.Places.{charged_keeps}
use Rattle.cad_making.specs.Dying.{end_of}
use Rattle.cad_making.proofs.NewLabels.{aside_keeps}
use Rattle.cad_making.specs.Laws.{BurialKeeps, EventsKeep, LayingOutKeeps}

pub laying_out_keeps : LayingOutKeeps
laying_out_keeps t none = keeps_bind AnyOne AnyOne (charged t) _ (charged_keeps t)
    (λ u h s once. keeps_bind AnyOne AnyOne (set_aside t) (λ v. give (end_of s t)) (aside_keeps t none) (λ v x. keeps_give AnyOne (end_of s t) tt) s once)

pub events_keep : EventsKeep
events_keep calls keep l [] = keeps_give {A = List Tree} AnyOne [] tt
events_keep calls keep l (id ∷ ids) = keeps_bind HasNone AnyOne (calls (destroyed_event id l) stop) _ (keep (destroyed_event id l) stop stop_none)
    (λ e h. keeps_bind AnyOne AnyOne (events_of calls (suc l) ids) (λ es. give (e ∷ es)) (events_keep calls keep (suc l) ids) (λ es u. keeps_give AnyOne (e ∷ es) tt))

pub burial_keeps : BurialKeeps
burial_keeps d = λ s once. (tt, fewer_stand s (record s { making = back 1 s.making; destroyed = s.destroyed ++ d.identities }) refl (λ p. omega (arith, mark_back p 1 s.making)) once)
