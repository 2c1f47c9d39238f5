-- What a call comes to, against the action of the definition that it carries out.
use Rattle.std.specs.Prelude.{◌≡◌, ℕ, Result, Ok, Err}
use Rattle.cad_world.specs.State.{State, Outcome, ok, failed, limit, ill, Action}
use Rattle.cad_outcomes.specs.declared.error.RunError.{RunError}
use Rattle.cad_outcomes.specs.declared.error.RunError.TheVariants as e
use Rattle.cad_outcomes.specs.declared.stop.Stop.{Stop}
use Rattle.cad_outcomes.specs.declared.stop.Stop.TheVariants.{Failed, Limit, IllTyped, Memory}

-- errors by their numbers
abbrev pub error_number : RunError → ℕ
error_number e.Overflow = 101
error_number e.Underflow = 102
error_number e.DivisionByZero = 103
error_number e.IndexOutOfBounds = 104
error_number e.SliceOutOfBounds = 105
error_number e.ForceNil = 106
error_number e.CastFailed = 107
error_number e.Condition = 108
error_number e.Panic = 109
error_number e.Assertion = 110
error_number e.PathOccupied = 111
error_number e.StoredTypeMismatch = 112
error_number e.ReferenceInvalid = 113
error_number e.DereferenceFailed = 114
error_number e.ForceAssignOccupied = 115
error_number e.PublishOccupied = 116
error_number e.PublishForeign = 117
error_number e.ContractExists = 118
error_number e.ContractRejected = 119
error_number e.ContractName = 120
error_number e.ContractMissing = 121
error_number e.InvalidHex = 122
error_number e.TooLarge = 123
error_number e.CallDepth = 124
error_number e.ContractArguments = 125
error_number e.UpdateRefused = 126
error_number e.AccountsSpent = 127
error_number e.IdentitiesSpent = 128
error_number e.ElementType = 129
error_number e.StoreFull = 130
error_number e.ReplyTooLong = 131
error_number e.ContractUnset = 132
error_number e.NotStorable = 133
error_number e.NotExportable = 134
error_number e.ControllersSpent = 135

-- why there is no value; want of memory is free
abbrev pub Stops : {A : Type 0} → Outcome A → Stop → Type 0
Stops outcome (Failed error) = outcome ≡ failed (error_number error)
Stops outcome Limit = outcome ≡ limit
Stops outcome IllTyped = outcome ≡ ill
Stops outcome Memory = Unit {0}

-- The call does what the action does: it gives the action's value, seen by a view, and leaves its state; or it says why there is none.
abbrev pub Does : {A B : Type 0} → (B → A) → Action A → State → State → Result B Stop → Type 0
Does view action before after (Ok b) = action before ≡ ok (view b) after
Does view action before after (Err stop) = Stops (action before) stop

-- The same of an action that leaves every state as it is: its value stands in a definition of its own.
abbrev pub Gives : {A B : Type 0} → (B → A) → Action A → Result B Stop → Type 0
Gives view action (Ok b) = (s : State) → action s ≡ ok (view b) s
Gives view action (Err stop) = (s : State) → Stops (action s) stop

-- a call that gives no value
abbrev pub no_value : Unit {0} → Unit {0}
no_value x = tt
