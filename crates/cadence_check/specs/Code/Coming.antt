-- What becomes of contracts, as the code tells it.
use Rattle.std.specs.Prelude.{◌≡◌, Result, Ok, Err, List, []}
use Rattle.cad_declarations.specs.Imports.{ContractEntry}
use Rattle.cad_declarations.specs.declared.program.Checked.{Checked}
use Rattle.cad_declarations.specs.declared.program.Deployed.{Deployed}
use Rattle.cad_acceptance.specs.Acceptance.{CheckedProgram, checked_of}
use Rattle.cad_tables.specs.Views.{contracts_of}
use Rattle.cadence_check.specs.Requests.{Contract, Subject}
use Rattle.cadence_check.specs.Verdicts as v
use Rattle.cadence_check.specs.Verdicts.{Comes, Judges, JudgesAll, beside}
use Rattle.cadence_check.specs.Views.{refusal_of, verdict_of}
use Rattle.cadence_check.specs.declared.verdict.Refusal.{Refusal}
use Rattle.cadence_check.specs.declared.verdict.Verdict.{Verdict}

abbrev pub MayCome : List ContractEntry → Contract → Result Checked Refusal → Type 0
MayCome deployed c (Ok checked) = Comes deployed c (Ok (checked_of checked))
MayCome deployed c (Err f) = Comes deployed c (Err (refusal_of f))

-- a contract that is accepted stands beside those before it
abbrev pub NextStands : List ContractEntry → Contract → Result Deployed Refusal → Type 0
NextStands deployed c (Ok all) = (checked : CheckedProgram) × (Comes deployed c (Ok checked) × (contracts_of all ≡ beside deployed c checked))
NextStands deployed c (Err f) = Comes deployed c (Err (refusal_of f))

-- all of a list stand, or the first that is refused is the verdict on whatever is judged beside them
abbrev pub AllStand : List Contract → Result Deployed Verdict → Type 0
AllStand cs (Ok all) = (s : Subject) (x : v.Verdict) → Judges (contracts_of all) s x → JudgesAll [] 0 cs s x
AllStand cs (Err x) = (s : Subject) → JudgesAll [] 0 cs s (verdict_of x)
