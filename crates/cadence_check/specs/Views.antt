-- The requests and verdicts that values of the program are.
use Rattle.std.specs.Prelude.{ℕ, map, Result, Ok, Err}
use Rattle.cadence_check.specs.Requests as r
use Rattle.cadence_check.specs.Verdicts as v
use Rattle.cadence_check.specs.declared.request.Contract.{Contract}
use Rattle.cadence_check.specs.declared.request.Subject.{Subject}
use Rattle.cadence_check.specs.declared.request.Subject.TheVariants as subject
use Rattle.cadence_check.specs.declared.request.Asked.{Asked}
use Rattle.cadence_check.specs.declared.verdict.Refusal.{Refusal}
use Rattle.cadence_check.specs.declared.verdict.Refusal.TheVariants as refusal
use Rattle.cadence_check.specs.declared.verdict.Verdict.{Verdict}
use Rattle.cadence_check.specs.declared.verdict.Verdict.TheVariants as verdict

abbrev pub contract_of : Contract → r.Contract
contract_of x = record { address = x.address.0; name = x.name.now; code = x.code.now }

abbrev pub subject_of : Subject → r.Subject
subject_of (subject.Program code) = r.program code.now
subject_of (subject.Contract c) = r.contract (contract_of c)

abbrev pub asked_of : Asked → r.Asked
asked_of x = record { contracts = map contract_of x.contracts.items; subject = subject_of x.subject }

abbrev pub refusal_of : Refusal → v.Refusal
refusal_of (refusal.Stopped r) = v.stopped r
refusal_of (refusal.Bad n) = v.bad n

abbrev pub verdict_of : Verdict → v.Verdict
verdict_of verdict.Accepted = v.accepted
verdict_of (verdict.Refused number f) = v.refused number (refusal_of f)

abbrev pub subject_result : Result Subject ℕ → Result r.Subject ℕ
subject_result (Ok x) = Ok (subject_of x)
subject_result (Err n) = Err n

abbrev pub asked_result : Result Asked ℕ → Result r.Asked ℕ
asked_result (Ok x) = Ok (asked_of x)
asked_result (Err n) = Err n
