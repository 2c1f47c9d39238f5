-- Ending: the same while the units last.
use Rattle.std.specs.Prelude.{ℕ, suc, not, List, [], ◌∷◌}
use Rattle.cad_syntax.specs.declared.type_id.TypeId.{TypeId}
use Rattle.cad_values.specs.Forms.{is_told}
use Rattle.cad_world.specs.Rows.{composite, Row, stop, Tree, alone, back, owns, tree_owns}
use Rattle.cad_world.specs.Trees.{whole, value_of}
use Rattle.cad_world.specs.Declared.{entry_of}
use Rattle.cad_world.specs.Labels.{variables}
use Rattle.cad_evaluation.specs.Callees.{Calls}
use Rattle.cad_evaluation.specs.Making.{field_names}
use Rattle.cad_evaluation.specs.Ending.{ended, dropped, event_of, emitted, all_emitted, is_told_of, passing, events_of, set_aside, gone, destroyed}
use Rattle.cad_bounds.proofs.Same.{Runs, Same, Near, self_units, same_self, same_give, same_done, same_some, same_guard, same_require, same_bind}
use Rattle.cad_bounds.proofs.Transfers.{same_charged}

pub same_ended : (R : Runs) (x1 : ℕ) → Same R (ended x1) (ended x1)
same_ended R n = λ s low. (same_guard R (not (owns (back n (variables s)))) _ _ (same_self R _ (λ s. self_units s.units))) s low

pub same_dropped : (R : Runs) (x1 : Tree) → Same R (dropped x1) (dropped x1)
same_dropped R t = same_guard R (not (tree_owns t)) _ _ (same_done R)

pub same_event_of : (R : Runs) (x1 : TypeId) (x2 : Row) → Same R (event_of x1 x2) (event_of x1 x2)
same_event_of R id r = λ s low. (same_some R (entry_of s id) _ _ (λ entry. (same_give R (whole (composite id 0 (field_names entry.members)) r)))) s low

pub same_emitted : (R : Runs) (x1 : Tree) → Same R (emitted x1) (emitted x1)
same_emitted R t = same_require R 134 (is_told (value_of t)) _ _ (same_self R _ (λ s. self_units s.units))

pub same_all_emitted : (R : Runs) (x1 : List Tree) → Same R (all_emitted x1) (all_emitted x1)
same_all_emitted R [] = same_done R
same_all_emitted R (t ∷ ts) = same_bind R _ _ _ _ (same_emitted R t) (λ u1. (same_all_emitted R ts))

pub same_events_of : (R : Runs) (calls calls' : Calls) (x2 : ℕ) (x3 : List TypeId) → Near R calls calls' → Same R (events_of calls x2 x3) (events_of calls' x2 x3)
same_events_of R calls calls' l [] near = same_give R []
same_events_of R calls calls' l (id ∷ ids) near = same_bind R _ _ _ _ (near.0 id l stop) (λ e. (same_bind R _ _ _ _ (same_events_of R calls calls' (suc l) ids near) (λ es. (same_give R (e ∷ es)))))

pub same_set_aside : (R : Runs) (x1 : Tree) → Same R (set_aside x1) (set_aside x1)
same_set_aside R t = same_self R _ (λ s. self_units s.units)

pub same_gone : (R : Runs) (x1 : Tree) → Same R (gone x1) (gone x1)
same_gone R t = same_self R _ (λ s. self_units s.units)

pub same_destroyed : (R : Runs) (calls calls' : Calls) (x2 : Tree) → Near R calls calls' → Same R (destroyed calls x2) (destroyed calls' x2)
same_destroyed R calls calls' t near = same_bind R _ _ _ _ (same_bind R _ _ _ _ (same_bind R _ _ _ _ (same_charged R t) (λ u1. (λ s low. (same_bind R _ _ _ _ (same_set_aside R t) (λ u2. (same_events_of R calls calls' s.next_label (passing (is_told_of s) (alone t)) near))) s low))) (λ v3. (same_all_emitted R v3))) (λ u4. (same_gone R t))
