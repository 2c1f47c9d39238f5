-- Labels as calls begin and end, and as values come to accounts and leave them.
use Rattle.std.proofs.Common.{ℕ, zero, suc, ◌+◌, ◌-◌, ◌≤◌, ◌==◌, nat_lt, Bool, cond, List, [], ◌∷◌, Option, refl, sym, ◌∙◌, arith}
use Rattle.cad_syntax.specs.declared.type_id.TypeId.{TypeId}
use Rattle.cad_world.specs.Labels.{newest, on_newest, change_account, with_account, with_frame}
use Rattle.cad_world.specs.Rows.{Row, stop, Tree, Slot, out, free, full, slot, alone, named}
use Rattle.cad_world.specs.State.{Account, Frame, ok}
use Rattle.cad_evaluation.specs.Bodies.{most_calls, entered, rest_of, left, result_aside, result_row, result_in, result_taken, linked_result}
use Rattle.cad_evaluation.specs.Ending.{ended}
use Rattle.cad_evaluation.specs.Storage.{place_for, storing}
use Rattle.cad_labels.specs.Laws.{HasNone, HasNoneInRow, Keeps, AnyOne, CallsKeep, ResultsKeep, StoringKeeps}
use Rattle.cad_labels.proofs.Marks.{mark, marks_mark, mark_named, mark_wedge}
use Rattle.cad_labels.proofs.States.{frame_rows, account_rows, total}
use Rattle.cad_labels.proofs.Keeping.{keeps_bind, gives_require, fewer_stand, next_stands}
use Rattle.cad_labels.proofs.Places.{ending_keeps, bare_has_none, no_mark}

-- ---- calls

pub enter_keeps : (within : Option TypeId) (self : Option ℕ) (initializes : Bool) (r : Row) → HasNoneInRow r → Keeps AnyOne (entered within self initializes r)
enter_keeps within self initializes r none = λ s once. gives_require AnyOne 124 (nat_lt s.depth most_calls)
    (λ s. ok tt (record s {
      frames = record { within = within; self = self; initializes = initializes; variables = r; before = stop; result = stop } ∷ s.frames;
      depth = suc s.depth;
    })) s (
      tt,
      fewer_stand s (record s {
        frames = record { within = within; self = self; initializes = initializes; variables = r; before = stop; result = stop } ∷ s.frames;
        depth = suc s.depth;
      }) refl (λ p. omega (arith, sym (marks_mark p r) ∙ none p)) once,
    )

pub rest_total : (p : ℕ) (fs : List Frame) → total p (frame_rows (rest_of fs)) ≤ total p (frame_rows fs)
rest_total p [] = omega arith
rest_total p (f ∷ fs) = omega arith

pub leave_keeps : Keeps AnyOne left
leave_keeps = keeps_bind AnyOne AnyOne (ended 0) _ (ending_keeps 0)
    (λ u w s once. (tt, fewer_stand s (record s { frames = rest_of s.frames; depth = s.depth - 1 }) refl (λ p. omega (arith, rest_total p s.frames)) once))

pub calls_keep : CallsKeep
calls_keep = (enter_keeps, leave_keeps)

-- ---- results

pub result_total : (p d : ℕ) (g : Row → Row) (fs : List Frame) → ((r : Row) → mark p (g r) ≤ mark p r + d)
    → total p (frame_rows (on_newest (λ f. record f { result = g f.result }) fs)) ≤ total p (frame_rows fs) + d
result_total p d g [] h = omega arith
result_total p d g (f ∷ fs) h = omega (arith, h f.result)

pub aside_keeps : (t : Tree) → HasNone t → Keeps AnyOne (result_aside t)
aside_keeps t none = λ s once. (
  tt,
  fewer_stand s (with_frame (λ f. record f { result = alone t }) s) refl
      (λ p. omega (arith, result_total p 0 (λ r. alone t) s.frames (λ r. omega (arith, no_mark t none p)))) once,
)

pub in_keeps : (o : Slot) → Keeps HasNone (result_in o)
in_keeps (full t) = λ s once. (
  bare_has_none t,
  fewer_stand s (with_frame (λ f. record f { result = stop }) s) refl
      (λ p. omega (arith, result_total p 0 (λ r. stop) s.frames (λ r. omega arith))) once,
)
in_keeps free = λ s once. tt
in_keeps out = λ s once. tt

pub taken_result_keeps : Keeps HasNone result_taken
taken_result_keeps = λ s once. in_keeps (slot 0 (result_row (newest s))) s once

pub linked_keeps : (t : Tree) → Keeps HasNone (linked_result t)
linked_keeps t = λ s once. (
  (λ p. refl),
  next_stands s (with_frame (λ f. record f { result = named 0 s.next_label f.result }) (record s { next_label = suc s.next_label })) refl
      (λ p. omega (arith, result_total p (cond (s.next_label == p) 1 0) (λ r. named 0 s.next_label r) s.frames (λ r. mark_named p s.next_label 0 r))) once,
)

pub results_keep : ResultsKeep
results_keep = (aside_keeps, taken_result_keeps, linked_keeps)

-- ---- accounts

pub account_total : (p d : ℕ) (g : Account → Account) (a : ℕ) (all : List Account) → ((x : Account) → mark p (g x).stored ≤ mark p x.stored + d)
    → total p (account_rows (change_account a g all)) ≤ total p (account_rows all) + d
account_total p d g zero all h = omega arith
account_total p d g (suc zero) [] h = omega arith
account_total p d g (suc (suc a)) [] h = omega arith
account_total p d g (suc zero) (x ∷ all) h = omega (arith, h x)
account_total p d g (suc (suc a)) (x ∷ all) h = omega (arith, account_total p d g (suc a) all h)

pub storing_keeps : StoringKeeps
storing_keeps a name t none s once = fewer_stand s (with_account a (storing name t) s) refl
    (λ p. omega (arith, account_total p 0 (storing name t) a s.accounts (λ x. omega (arith, mark_wedge p (place_for name x.identifiers) t x.stored, no_mark t none p)))) once
