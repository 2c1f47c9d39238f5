-- What is decided on a value that is lent, before the state changes.
use Rattle.std.specs.Prelude.{◌≡◌, ℕ, suc, Bool, true, false, List, Option, Some, None, Result, Ok, Err}
use Rattle.cad_outcomes.specs.Outcomes.{Stops}
use Rattle.cad_outcomes.specs.declared.stop.Stop.{Stop}
use Rattle.cad_syntax.specs.declared.text.Name.{Name}
use Rattle.cad_syntax.specs.declared.type_id.TypeId.{TypeId}
use Rattle.cad_syntax.specs.declared.types.Authorization.{Authorization}
use Rattle.cad_evaluation.specs.Access.{own_member}
use Rattle.cad_evaluation.specs.Casts.{refer}
use Rattle.cad_evaluation.specs.Changing.{content_of}
use Rattle.cad_evaluation.specs.Standing.{Standing, here, without, or_nil, nil_at, inner_rights, may_meet}
use Rattle.cad_evaluation.specs.Uses.{nil_of, wrapped_if}
use Rattle.cad_world.specs.Locations.{Location, part, read, name}
use Rattle.cad_world.specs.Rows.{Tree}
use Rattle.cad_world.specs.State.{State, Account, Action, ◌>>=◌, give, guard, with_some}
use Rattle.cad_world.specs.Trees.{nil_tree}
use Rattle.cad_state.specs.Views.{state_over, IsReady}
use Rattle.cad_state.specs.declared.state.RunState.{RunState}

-- The action comes to what follows from the plan, or the answer says why there is none.
abbrev pub Plans : {A B : Type 0} → (B → Action A) → Action A → RunState → Result B Stop → Type 0
Plans follow action x (Ok b) = (w : List Account) → IsReady w x → action (state_over w x) ≡ follow b (state_over w x)
Plans follow action x (Err stop) = (w : List Account) → IsReady w x → Stops (action (state_over w x)) stop

-- the same of an action whatever the state is
abbrev pub PlansAnywhere : {A B : Type 0} → (B → Action A) → Action A → Result B Stop → Type 0
PlansAnywhere follow action (Ok b) = (s : State) → action s ≡ follow b s
PlansAnywhere follow action (Err stop) = (s : State) → Stops (action s) stop

-- ---- optionals

-- whether the optional in a place is nil
abbrev pub nil_there : Location → ℕ → Action Bool
nil_there x n = read x >>= (λ t. nil_of (content_of (or_nil (without n t))))

-- the place of its content
abbrev pub content_if : Bool → Option Authorization → Location → ℕ → Bool → Action Standing
content_if forces rights x n true = nil_at forces
content_if forces rights x n false = give (here rights x (suc n))

-- ---- references

-- nil, or a reference that sees so many optionals
abbrev pub reference_by : Authorization → Location → Bool → Option ℕ → Action Tree
reference_by a x wraps None = give nil_tree
reference_by a x wraps (Some n) = refer a x n >>= (λ r. give (wrapped_if wraps r))

-- ---- fields

-- the field at this place of the node with this label
abbrev pub field_in : Bool → Name → Option Authorization → TypeId → ℕ → ℕ → Action Standing
field_in writes n rights id l i = λ s.
    with_some (own_member s n id) (λ m. guard (may_meet s writes id m l rights) (give (here (inner_rights rights) (part l i) 0))) s

-- the node in a place is named, and then its field is met
abbrev pub field_named : Bool → Name → Option Authorization → Location → TypeId → ℕ → Action Standing
field_named writes n rights x id i = name x >>= (λ l. field_in writes n rights id l i)
