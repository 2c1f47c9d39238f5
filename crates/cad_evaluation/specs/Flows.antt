-- Leaves of statements: how they end, and what is done once the parts have their values.
use Rattle.std.specs.Prelude.{ℕ, zero, suc, Bool, true, false, Option, Some, None}
use Rattle.cad_syntax.specs.Types.{PureType, optional}
use Rattle.cad_declarations.specs.Typed as e
use Rattle.cad_types.specs.Below.{below}
use Rattle.cad_world.specs.Rows.{Row, stop, gap, node, Tree}
use Rattle.cad_world.specs.State.{Action, ◌>>=◌, ◌>>◌, give, done, stuck, guard, choose, with_some, by_truth, tick, limit}
use Rattle.cad_world.specs.Trees.{wrapped, nil_tree}
use Rattle.cad_world.specs.Declared.{declarations}
use Rattle.cad_world.specs.Locations.{Location, variable, read}
use Rattle.cad_world.specs.Transfers.{transferred}
use Rattle.cad_evaluation.specs.Casts.{with_type}
use Rattle.cad_evaluation.specs.Changing.{opened, fill, take}
use Rattle.cad_evaluation.specs.Containers.{elements_in}
use Rattle.cad_evaluation.specs.Ending.{ended}
use Rattle.cad_evaluation.specs.Numbers.{truth_of}
use Rattle.cad_evaluation.specs.Operators.{compared, same}
use Rattle.cad_evaluation.specs.Standing.{Standing, here, led_by, is_variable}
use Rattle.cad_evaluation.specs.Texts.{int_tree}

pub data Flow : Type 0 where
  next : Flow
  returned : Tree → Flow
  broken : Flow
  continued : Flow

-- the rest runs where the statement came to its end
abbrev pub then_next : Flow → Action Flow → Action Flow
then_next next rest = rest
then_next flow rest = give flow

-- the next turn of a loop
abbrev pub then_turn : Flow → Action Flow → Action Flow
then_turn (returned t) rest = give (returned t)
then_turn broken rest = give next
then_turn _ rest = rest

-- `break` leaves a switch
abbrev pub leave_switch : Flow → Action Flow
leave_switch broken = give next
leave_switch flow = give flow

-- variables from this number on go, however the body ended
abbrev pub closed : ℕ → Action Flow → Action Flow
closed n body = body >>= (λ flow. ended n >> give flow)

-- a value comes to a variable for the time of the body
abbrev pub with_variable : e.VariableEntry → Tree → Action Flow → Action Flow
with_variable x t body = closed x.number (fill (variable x.number) t >> body)

-- ---- loops

-- One unit is taken before a turn: after the test has been true.
abbrev pub turns : ℕ → Action Tree → Action Flow → Action Flow
turns zero test body = λ s. limit
turns (suc n) test body = test >>= (λ t. by_truth (truth_of t) (tick >> body >>= (λ flow. then_turn flow (turns n test body))) (give next))

-- the index comes to its variable, where there is one
abbrev pub with_index : Option e.VariableEntry → ℕ → Action Flow → Action Flow
with_index None i body = body
with_index (Some x) i body = with_some (int_tree i) (λ t. with_variable x t body)

-- a turn for each element
abbrev pub each_turn : Option e.VariableEntry → e.VariableEntry → Action Flow → ℕ → Row → Action Flow
each_turn index x body i stop = give next
each_turn index x body i (gap r) = stuck
each_turn index x body i (node l n s k r) =
    tick >> with_index index i (with_variable x (record { optionals = n; shape = s; parts = k }) body) >>= (λ flow.
    then_turn flow (each_turn index x body (suc i) r))

abbrev pub over_elements : Option e.VariableEntry → e.VariableEntry → Action Flow → Tree → Action Flow
over_elements index x body t = with_some (elements_in t) (each_turn index x body 0)

-- ---- `if let`

-- the variable that a move empties
abbrev pub moved_variable : e.TermTree → Option ℕ
moved_variable (e.take (e.variable n)) = Some n
moved_variable _ = None

-- nil stays in the variable from which it was taken
abbrev pub nil_stays : Option ℕ → Action (Unit {0})
nil_stays None = done
nil_stays (Some n) = fill (variable n) nil_tree

abbrev pub if_content : Option ℕ → e.VariableEntry → Action Flow → Action Flow → Tree → Action Flow
if_content moved x body otherwise t = opened t (nil_stays moved >> otherwise) (λ inside. with_variable x inside body)

-- the value of a place is taken where its own type is below the type; else it stays
abbrev pub cast_from : PureType → Location → Option Tree → (Tree → Action Flow) → Action Flow → Action Flow
cast_from type x None f otherwise = stuck
cast_from type x (Some t) f otherwise = with_type t (λ own s. choose (below (declarations s) own type) (take x >>= transferred type >>= f) otherwise s)

abbrev pub if_cast_at : PureType → e.VariableEntry → Action Flow → Action Flow → Standing → Action Flow
if_cast_at type x body otherwise (here rights place zero) =
    guard (is_variable place) (read place >>= (λ t. cast_from type place t (λ v. transferred (optional type) (wrapped v) >>= if_content None x body otherwise) otherwise))
if_cast_at type x body otherwise _ = stuck

-- ---- switch

abbrev pub is_nil_literal : e.TermTree → Bool
is_nil_literal e.nil = true
is_nil_literal _ = false

-- whether a case is that of the value; the literal nil is compared without units
abbrev pub is_case : Bool → Tree → Tree → Action Bool
is_case true a b = give (same a b)
is_case false a b = compared a b >> give (same a b)

abbrev pub by_case : Bool → Action Flow → Action Flow → Action Flow
by_case true body rest = body
by_case false body rest = rest
