-- What is told of a run that gave no value.
use Rattle.std.proofs.Common.{◌≡◌, ◌≢◌, ℕ, Some, arith, ◌∙◌}
use Rattle.serde_json.specs.Data.{Data}
use Rattle.cad_outcomes.specs.declared.error.RunError.{RunError}
use Rattle.cad_outcomes.specs.declared.error.RunError.TheVariants as own
use Rattle.cad_outcomes.specs.declared.stop.Stop.{Stop}
use Rattle.cad_outcomes.specs.declared.stop.Stop.TheVariants.{Failed, Limit, IllTyped, Memory}
use Rattle.cad_runs.specs.Commands.{Reply, failed, limit, ill}
use Rattle.cad_outcomes.specs.Outcomes.{error_number}
use Rattle.cad_run_worlds.specs.Code.{told_stop}

some_is : {A : Type 0} (a b : A) → Some a ≡ Some b → a ≡ b
some_is a b e = cc

-- ---- errors have numbers

pub numbered : (error : RunError) → error_number error ≢ 0
numbered own.Overflow = λ h. omega (arith, h)
numbered own.Underflow = λ h. omega (arith, h)
numbered own.DivisionByZero = λ h. omega (arith, h)
numbered own.IndexOutOfBounds = λ h. omega (arith, h)
numbered own.SliceOutOfBounds = λ h. omega (arith, h)
numbered own.ForceNil = λ h. omega (arith, h)
numbered own.CastFailed = λ h. omega (arith, h)
numbered own.Condition = λ h. omega (arith, h)
numbered own.Panic = λ h. omega (arith, h)
numbered own.Assertion = λ h. omega (arith, h)
numbered own.PathOccupied = λ h. omega (arith, h)
numbered own.StoredTypeMismatch = λ h. omega (arith, h)
numbered own.ReferenceInvalid = λ h. omega (arith, h)
numbered own.DereferenceFailed = λ h. omega (arith, h)
numbered own.ForceAssignOccupied = λ h. omega (arith, h)
numbered own.PublishOccupied = λ h. omega (arith, h)
numbered own.PublishForeign = λ h. omega (arith, h)
numbered own.ContractExists = λ h. omega (arith, h)
numbered own.ContractRejected = λ h. omega (arith, h)
numbered own.ContractName = λ h. omega (arith, h)
numbered own.ContractMissing = λ h. omega (arith, h)
numbered own.InvalidHex = λ h. omega (arith, h)
numbered own.TooLarge = λ h. omega (arith, h)
numbered own.CallDepth = λ h. omega (arith, h)
numbered own.ContractArguments = λ h. omega (arith, h)
numbered own.UpdateRefused = λ h. omega (arith, h)
numbered own.AccountsSpent = λ h. omega (arith, h)
numbered own.IdentitiesSpent = λ h. omega (arith, h)
numbered own.ElementType = λ h. omega (arith, h)
numbered own.StoreFull = λ h. omega (arith, h)
numbered own.ReplyTooLong = λ h. omega (arith, h)
numbered own.ContractUnset = λ h. omega (arith, h)
numbered own.NotStorable = λ h. omega (arith, h)
numbered own.NotExportable = λ h. omega (arith, h)
numbered own.ControllersSpent = λ h. omega (arith, h)

pub failed_is : (n m : ℕ) → ◌≡◌ {A = Reply Data} (failed n) (failed m) → n ≡ m
failed_is n m same = cc

pub stop_known : (stop : Stop) (reply : Reply Data) → told_stop stop ≡ Some reply → reply ≢ failed 0
stop_known (Failed error) reply told = λ h. numbered error (failed_is (error_number error) 0 (some_is (failed (error_number error)) reply told ∙ h))
stop_known Limit reply told = λ h. let o : ◌≡◌ {A = Reply Data} limit (failed 0) = some_is limit reply told ∙ h in cc o
stop_known IllTyped reply told = λ h. let o : ◌≡◌ {A = Reply Data} ill (failed 0) = some_is ill reply told ∙ h in cc o
stop_known Memory reply told = absurd cc
