-- How often a label stands in a state.
use Rattle.std.specs.Prelude.{ℕ, ◌+◌, ◌≤◌, nat_lt, ◌==◌, List, [], ◌∷◌, sum_by, count_by, if◌then◌else◌, true, ◌≡◌}
use Rattle.cad_world.specs.Rows.{Row, stop, gap, node}
use Rattle.cad_world.specs.State.{Frame, State, World, Program}
use Rattle.cad_world.specs.Begin.{begun}

-- in a row
abbrev pub marks : ℕ → Row → ℕ
marks p stop = 0
marks p (gap r) = marks p r
marks p (node l n s k r) = count_by (λ q. q == p) l + (marks p k + marks p r)

abbrev pub frame_marks : ℕ → Frame → ℕ
frame_marks p f = marks p f.variables + (marks p f.before + marks p f.result)

-- in all rows of a state
abbrev pub labels : ℕ → State → ℕ
labels p s =
    sum_by (frame_marks p) s.frames + (marks p s.making
    + (sum_by (λ a. marks p a.stored) s.accounts + sum_by (λ c. marks p c.value) s.contracts))

-- no label stands twice, and none that wasn't given
abbrev pub AreGivenOnce : State → Type 0
AreGivenOnce s = (p : ℕ) → labels p s ≤ (if nat_lt p s.next_label then 1 else 0)
