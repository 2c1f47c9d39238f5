-- Labels as frames and accounts change without their rows.
use Rattle.cad_labels.specs.Laws.{Follows}
use Rattle.std.proofs.Common.{ℕ, ◌+◌, ◌≤◌, List, [], ◌∷◌, refl, arith}
use Rattle.cad_world.specs.Labels.{on_newest, with_account, with_frame}
use Rattle.cad_world.specs.Marks.{AreGivenOnce}
use Rattle.cad_world.specs.State.{Account, Frame, State}
use Rattle.cad_labels.proofs.Marks.{mark}
use Rattle.cad_labels.proofs.States.{frame_rows, total}
use Rattle.cad_labels.proofs.Keeping.{fewer_stand}
use Rattle.cad_labels.proofs.Frames.{account_total}

-- how often a label stands in a frame
abbrev pub frame_mark : ℕ → Frame → ℕ
frame_mark p f = mark p f.variables + (mark p f.before + mark p f.result)

newest_total : (p : ℕ) (g : Frame → Frame) (fs : List Frame) → ((f : Frame) → frame_mark p (g f) ≤ frame_mark p f) → total p (frame_rows (on_newest g fs)) ≤ total p (frame_rows fs)
newest_total p g [] h = omega arith
newest_total p g (f ∷ fs) h = omega (arith, h f)

pub frame_stands : (g : Frame → Frame) (s : State) → ((p : ℕ) (f : Frame) → frame_mark p (g f) ≤ frame_mark p f) → AreGivenOnce s → Follows s (with_frame g s)
frame_stands g s h once = fewer_stand s (with_frame g s) refl (λ p. omega (arith, newest_total p g s.frames (h p))) once

pub account_stands : (a : ℕ) (g : Account → Account) (s : State) → ((p : ℕ) (x : Account) → mark p (g x).stored ≤ mark p x.stored) → AreGivenOnce s → Follows s (with_account a g s)
account_stands a g s h once = fewer_stand s (with_account a g s) refl (λ p. omega (arith, account_total p 0 g a s.accounts (λ x. omega (arith, h p x)))) once
