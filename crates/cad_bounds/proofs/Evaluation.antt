-- Evaluation: the same while the units last.
use Rattle.std.specs.Prelude.{ℕ, zero, suc, Bool, true, false, List, [], ◌∷◌, Option, Some, None}
use Rattle.cad_syntax.specs.declared.type_id.TypeId.{TypeId}
use Rattle.cad_declarations.specs.Typed as e
use Rattle.cad_world.specs.Rows.{Row, stop}
use Rattle.cad_world.specs.Declared.{bodies_of, function_in}
use Rattle.cad_evaluation.specs.Bodies.{Piece, own_piece, inherited}
use Rattle.cad_evaluation.specs.Callees.{method, function, initializer, destroyed_event, Calls}
use Rattle.cad_evaluation.specs.Making.{initializer_of}
use Rattle.std.proofs.Common.{◌≤◌, ◌-◌}
use Rattle.cad_evaluation.specs.Evaluation.{run, outside, making, defaults, destroyed_body, looking, looked, event_made, destroying_nothing, called, calls_to}
use Rattle.cad_bounds.proofs.Same.{Runs, Same, Near, Now, Enough, a_unit_less, enough_fewer, self_units, none_low, same_self, same_give, same_stuck, same_some, same_bind}
use Rattle.cad_bounds.proofs.Bodies.{same_conditioned, same_entered, same_left}
use Rattle.cad_bounds.proofs.Ending.{same_ended, same_event_of}
use Rattle.cad_bounds.proofs.Terms.{same_eval}
use Rattle.cad_bounds.proofs.Transfers.{same_transferred}
use Rattle.cad_bounds.proofs.Uses.{same_before}
use Rattle.std.proofs.Common.{◌+◌, arith}
use Rattle.cad_evaluation.specs.Callees.{Callee}

pub same_run : (R : Runs) (calls calls' : Calls) (n n' : ℕ) (x4 : Option ℕ) (x5 : Bool) (x6 : Option Piece) (x7 : List Piece) (x8 : Row) → Near R calls calls' → Enough R.units n n' → Same R (run R.first calls n x4 x5 x6 x7 x8) (run R.second calls' n' x4 x5 x6 x7 x8)
same_run R calls calls' n n' self initializes own others arguments near h = same_bind R _ _ _ _ (same_bind R _ _ _ _ (same_entered R None self initializes arguments) (λ u1. (same_conditioned R calls calls' n n' own others near h))) (λ t. (same_bind R _ _ _ _ (same_left R) (λ u2. (same_give R t))))

pub same_defaults : (R : Runs) (calls calls' : Calls) (x3 : List e.TargetedTerm) → Near R calls calls' → Same R (defaults R.first calls x3) (defaults R.second calls' x3)
same_defaults R calls calls' [] near = same_give R stop
same_defaults R calls calls' (x ∷ xs) near = same_bind R _ _ _ _ (same_bind R _ _ _ _ (same_eval R calls calls' x.value near) (λ v1. (same_transferred R x.target v1))) (λ t. (same_bind R _ _ _ _ (same_defaults R calls calls' xs near) (λ v2. (same_before R t v2))))

pub same_looking : (R : Runs) (x1 : TypeId) (x2 : ℕ) → Same R (looking x1 x2) (looking x1 x2)
same_looking R id l = same_self R _ (λ s. self_units s.units)

pub same_looked : (R : Runs) → Same R (looked) (looked)
same_looked R = same_bind R _ _ _ _ (same_ended R 0) (λ u1. (same_self R _ (λ s. self_units s.units)))

pub same_event_made : (R : Runs) (calls calls' : Calls) (x3 : TypeId) (x4 : ℕ) (x5 : e.DestroyedBody) → Near R calls calls' → Same R (event_made R.first calls x3 x4 x5) (event_made R.second calls' x3 x4 x5)
same_event_made R calls calls' id l d near = same_bind R _ _ _ _ (same_bind R _ _ _ _ (same_bind R _ _ _ _ (same_looking R id l) (λ u1. (same_defaults R calls calls' d.arguments near))) (λ v2. (same_event_of R d.event v2))) (λ t. (same_bind R _ _ _ _ (same_looked R) (λ u3. (same_give R t))))

apart_now : (R : Runs) (c d : Calls) → Now R c d → Now R (destroying_nothing c) (destroying_nothing d)
apart_now R c d h (method id name l) r = h (method id name l) r
apart_now R c d h (function name) r = h (function name) r
apart_now R c d h (initializer id l) r = h (initializer id l) r
apart_now R c d h (destroyed_event id l) r = same_stuck R

same_event : (R : Runs) (c d : Calls) (n n' : ℕ) (id : TypeId) (l : ℕ) (r : Row) → Now (a_unit_less R) c d
    → Same R (called R.first c n (destroyed_event id l) r) (called R.second d n' (destroyed_event id l) r)
same_event R c d n n' id l r now = λ s low. same_some R (destroyed_body (bodies_of s id)) _ _
    (λ x. same_event_made R (destroying_nothing c) (destroying_nothing d) id l x ((λ i k q. same_stuck R), apart_now (a_unit_less R) c d now)) s low

same_called : (R : Runs) (c d : Calls) (n n' : ℕ) (callee : Callee) (r : Row) → Near R c d → Enough R.units n n'
    → Same R (called R.first c n callee r) (called R.second d n' callee r)
same_called R c d n n' (method id name l) r near h = λ s low. same_run R c d n n' (Some l) false (own_piece s name id) (inherited s name id) r near h s low
same_called R c d n n' (function name) r near h = λ s low. same_run R c d n n' None false (outside (function_in s.program.bodies.functions name)) [] r near h s low
same_called R c d n n' (initializer id l) r near h = λ s low. same_run R c d n n' (Some l) true (making id (initializer_of (bodies_of s id))) [] r near h s low
same_called R c d n n' (destroyed_event id l) r near h = same_event R c d n n' id l r near.1

-- what is left of two for each unit, in a call
half_none : (N : ℕ) → N + N ≤ 0 → N ≤ 0
half_none N h = omega arith

half_less : (N n n' : ℕ) → Enough (N + N - 1) n n' → Enough (N - 1 + (N - 1)) n n'
half_less N n n' h = enough_fewer (N + N - 1) (N - 1 + (N - 1)) n n' (omega arith) h

half_enough : (N n n' : ℕ) → Enough (N + N - 1) n n' → Enough N n n'
half_enough N n n' h = enough_fewer (N + N - 1) N n n' (omega arith) h

-- and in an event in it
last_none : (N : ℕ) → N + N - 1 ≤ 0 → N ≤ 0
last_none N h = omega arith

last_less : (N n n' : ℕ) → Enough (N + N - 1 - 1) n n' → Enough (N - 1 + (N - 1)) n n'
last_less N n n' h = enough_fewer (N + N - 1 - 1) (N - 1 + (N - 1)) n n' (omega arith) h

-- A bound of two for each unit, and two, is enough: a call takes one, and so does an event in it. So is any bound that both have.
mutual
  pub same_calls : (R : Runs) (n n' : ℕ) → Enough (R.units + R.units) n n' → Now R (calls_to R.first n) (calls_to R.second n')
  same_calls R zero zero h callee r = same_self R _ (λ s. tt)
  same_calls R zero (suc n') h callee r = λ s low. absurd (none_low R.units s.units (half_none R.units h) low)
  same_calls R (suc n) zero h callee r = λ s low. absurd (none_low R.units s.units (half_none R.units h) low)
  same_calls R (suc n) (suc n') h callee r = same_called R (calls_to R.first n) (calls_to R.second n') n n' callee r
      (same_ends R n n' h, same_calls (a_unit_less R) n n' (half_less R.units n n' h)) (half_enough R.units n n' h)

  same_ends : (R : Runs) (n n' : ℕ) → Enough (R.units + R.units - 1) n n' → (id : TypeId) (l : ℕ) (r : Row)
      → Same R (calls_to R.first n (destroyed_event id l) r) (calls_to R.second n' (destroyed_event id l) r)
  same_ends R zero zero h id l r = same_self R _ (λ s. tt)
  same_ends R zero (suc n') h id l r = λ s low. absurd (none_low R.units s.units (last_none R.units h) low)
  same_ends R (suc n) zero h id l r = λ s low. absurd (none_low R.units s.units (last_none R.units h) low)
  same_ends R (suc n) (suc n') h id l r =
      same_event R (calls_to R.first n) (calls_to R.second n') n n' id l r (same_calls (a_unit_less R) n n' (last_less R.units n n' h))

pub near_calls : (R : Runs) (n n' : ℕ) → Enough (R.units + R.units) n n' → Near R (calls_to R.first n) (calls_to R.second n')
near_calls R n n' h =
    ((λ id l r. same_calls R n n' h (destroyed_event id l) r), same_calls (a_unit_less R) n n' (enough_fewer (R.units + R.units) (R.units - 1 + (R.units - 1)) n n' (omega arith) h))
