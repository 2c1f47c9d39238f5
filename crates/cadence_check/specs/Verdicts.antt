-- What is answered to a line.
use Rattle.std.specs.Prelude.{◌≡◌, ℕ, Bool, suc, false, true, List, [], ◌∷◌, ◌++◌, codes, Option, Some, None, Result, Ok, Err}
use Rattle.std.specs.Fmt.{decimal}
use Rattle.std.specs.Str.{IsUtf8}
use Rattle.serde_json.specs.Data.{Data}
use Rattle.serde_json.specs.Read.{read}
use Rattle.cad_syntax.specs.TypeIds.{same_id}
use Rattle.cad_syntax.specs.declared.address.Address.{Address}
use Rattle.cad_syntax.specs.declared.type_id.TypeId.{TypeId}
use Rattle.cad_declarations.specs.Imports.{ContractEntry, contract_id, contract_entry}
use Rattle.cad_declarations.specs.declared.stop.Rejected.{Rejected}
use Rattle.cad_acceptance.specs.Acceptance.{CheckedProgram, AcceptsText}
use Rattle.cad_acceptance.specs.Stops.{FirstStop}
use Rattle.cad_tables.specs.Views.{with_entry}
use Rattle.cad_rejections.specs.Texts.{rejected_text}
use Rattle.cadence_check.specs.Requests.{Contract, Subject, program, contract, Asked, asked}

-- a phase refuses the code, or else a number tells that it isn't one contract of its name
pub data Refusal : Type 0 where
  stopped : Rejected → Refusal
  bad : ℕ → Refusal

-- accepted, or refused: one of the contracts that are judged first, by its place in the list from 0, or the subject
pub data Verdict : Type 0 where
  accepted : Verdict
  refused : Option ℕ → Refusal → Verdict

-- ---- one contract

abbrev pub account_of : Contract → Option Address
account_of c = Some (record { 0 = c.address })

abbrev pub id_of : Contract → TypeId
id_of c = contract_id c.address (record { 0 = c.name })

-- a program is the contract of this identifier
abbrev pub is_contract : TypeId → Option TypeId → Bool
is_contract id None = false
is_contract id (Some own) = same_id id own

-- the contracts with one that is accepted
abbrev pub beside : List ContractEntry → Contract → CheckedProgram → List ContractEntry
beside deployed c checked = with_entry deployed (contract_entry (id_of c) checked.tables)

-- what becomes of a contract beside those that stand: 26 where its code is accepted and is no contract of its name
pub data Comes (deployed : List ContractEntry) (c : Contract) : Result CheckedProgram Refusal → Type 0 where
  stops : {r : Rejected} → FirstStop deployed (account_of c) c.code r → Comes deployed c (Err (stopped r))
  of_another_name : {checked : CheckedProgram} → AcceptsText deployed (account_of c) c.code checked
      → is_contract (id_of c) checked.tables.contract ≡ false → Comes deployed c (Err (bad 26))
  stands : {checked : CheckedProgram} → AcceptsText deployed (account_of c) c.code checked
      → is_contract (id_of c) checked.tables.contract ≡ true → Comes deployed c (Ok checked)

-- ---- all that is asked

pub data Judges (deployed : List ContractEntry) : Subject → Verdict → Type 0 where
  program_stops : {code : List ℕ} {r : Rejected} → FirstStop deployed None code r → Judges deployed (program code) (refused None (stopped r))
  program_accepted : {code : List ℕ} {checked : CheckedProgram} → AcceptsText deployed None code checked → Judges deployed (program code) accepted
  contract_refused : {c : Contract} {f : Refusal} → Comes deployed c (Err f) → Judges deployed (contract c) (refused None f)
  contract_accepted : {c : Contract} {checked : CheckedProgram} → Comes deployed c (Ok checked) → Judges deployed (contract c) accepted

-- The contracts are judged in order, each beside those before it; the first that is refused ends it. This many went before.
pub data JudgesAll : List ContractEntry → ℕ → List Contract → Subject → Verdict → Type 0 where
  last : {deployed : List ContractEntry} {number : ℕ} {s : Subject} {v : Verdict} → Judges deployed s v → JudgesAll deployed number [] s v
  refuses : {deployed : List ContractEntry} {number : ℕ} {c : Contract} {more : List Contract} {s : Subject} {f : Refusal}
      → Comes deployed c (Err f) → JudgesAll deployed number (c ∷ more) s (refused (Some number) f)
  goes_on : {deployed : List ContractEntry} {number : ℕ} {c : Contract} {more : List Contract} {s : Subject} {v : Verdict} {checked : CheckedProgram}
      → Comes deployed c (Ok checked) → JudgesAll (beside deployed c checked) (suc number) more s v → JudgesAll deployed number (c ∷ more) s v

-- ---- lines

-- the text of JSON that a line is
pub record IsJson (line : List ℕ) (d : Data) : Type 0 where
  pub utf8 : IsUtf8 line
  pub json : read line ≡ Some d

abbrev pub bad_text : ℕ → List ℕ
bad_text n = codes "{\"error\":\"" ++ decimal n ++ codes "\",\"reply\":\"bad\"}"

abbrev pub verdict_text : Verdict → List ℕ
verdict_text accepted = codes "{\"reply\":\"accepted\"}"
verdict_text (refused number (stopped r)) = rejected_text number r
verdict_text (refused number (bad n)) = bad_text n

-- what is answered to a line
pub data Replies (line : List ℕ) : List ℕ → Type 0 where
  no_json : ((d : Data) → IsJson line d → ⊥) → Replies line (bad_text 21)
  no_request : {d : Data} {n : ℕ} → IsJson line d → asked d ≡ Err n → Replies line (bad_text n)
  judged : {d : Data} {a : Asked} {v : Verdict} → IsJson line d → asked d ≡ Ok a → JudgesAll [] 0 a.contracts a.subject v → Replies line (verdict_text v)
