-- Verdicts and replies, as the code tells them.
use Rattle.std.specs.Prelude.{Bool, true, false, Option, None, Result, Ok, Err, List, [], map}
use Rattle.std.proofs.Common.{◌≡◌, ◌↔◌, sym, ◌∙◌, ap, subst, ℕ, IfOk, IsTrue}
use Rattle.std.specs.Str.{IsUtf8}
use Rattle.serde_json.specs.Data.{Data}
use Rattle.serde_json.specs.Read.{read}
use Rattle.cad_syntax.specs.declared.address.Address.{Address}
use Rattle.cad_declarations.specs.Imports.{ContractEntry}
use Rattle.cad_declarations.specs.declared.program.Checked.{Checked}
use Rattle.cad_declarations.specs.declared.stop.Rejected.{Rejected}
use Rattle.cad_acceptance.specs.Acceptance.{AcceptsText, checked_of}
use Rattle.cad_acceptance.specs.Stops.{FirstStop}
use Rattle.cad_check.specs.Answers.{TextVerdict}
use Rattle.cadence_check.specs.Requests.{asked}
use Rattle.cadence_check.specs.Verdicts.{Verdict, JudgesAll, IsJson, Replies, judged, no_request, bad_text, verdict_text}
use Rattle.cadence_check.specs.Views.{contract_of, subject_of, asked_result}
use Rattle.cadence_check.specs.declared.request.Asked.{Asked}
use Rattle.cadence_check.specs.declared.request.Contract.{Contract}

-- ---- verdicts on texts

pub accepted_as : (deployed : List ContractEntry) (place : Option Address) (text code : List ℕ) (x : Result Checked Rejected) (checked : Checked)
    → x ≡ Ok checked → text ≡ code → TextVerdict deployed place text x → AcceptsText deployed place code (checked_of checked)
accepted_as deployed place text code x checked is same h =
    subst (λ (t : List ℕ). AcceptsText deployed place t (checked_of checked)) same (subst (TextVerdict deployed place text) is h)

pub stopped_as : (deployed : List ContractEntry) (place : Option Address) (text code : List ℕ) (x : Result Checked Rejected) (r : Rejected)
    → x ≡ Err r → text ≡ code → TextVerdict deployed place text x → FirstStop deployed place code r
stopped_as deployed place text code x r is same h =
    subst (λ (t : List ℕ). FirstStop deployed place t r) same (subst (TextVerdict deployed place text) is h)

-- ---- replies

-- where there is memory, what holds of the text that is wanted holds of what was made
pub as_told : {E : Type 0} (r : Result (List ℕ) E) (want : List ℕ) (P : List ℕ → Type 0) → IfOk r (λ text. text ≡ want) → P want → IfOk r P
as_told (Ok text) want P is h = subst P (sym is) h
as_told (Err e) want P is h = tt

-- what is refused, and not for want of memory, is no JSON
pub refuted : {P : Type 0} (line : List ℕ) (b : Bool) → b ≡ false → IsTrue b ↔ P → ((P → ⊥) → IsUtf8 line → read line ≡ None) → (d : Data) → IsJson line d → ⊥
refuted line b is told refuses d json =
    let none : read line ≡ None = refuses (λ p. let e : b ≡ true = told.1 p in cc (sym is ∙ e)) json.utf8 in
    cc (sym none ∙ json.json)

-- a request that asks for something has the reply of its verdict
pub judged_so : {E : Type 0} (d : Data) (x : Result Asked ℕ) (a : Asked) (cs : List Contract) (v : Verdict) (r : Result (List ℕ) E)
    → x ≡ Ok a → asked_result x ≡ asked d → cs ≡ a.contracts.items → JudgesAll [] 0 (map contract_of cs) (subject_of a.subject) v → IfOk r (λ text. text ≡ verdict_text v)
    → IfOk r (λ text. (line : List ℕ) → IsJson line d → Replies line text)
judged_so d x a cs v r is asks same judges told =
    as_told r (verdict_text v) (λ text. (line : List ℕ) → IsJson line d → Replies line text) told
    (λ line json. judged json (sym asks ∙ ap asked_result is) (subst (λ (l : List Contract). JudgesAll [] 0 (map contract_of l) (subject_of a.subject) v) same judges))

-- one that asks for nothing has that of its fault
pub not_asked : {E : Type 0} (d : Data) (x : Result Asked ℕ) (n : ℕ) (r : Result (List ℕ) E)
    → x ≡ Err n → asked_result x ≡ asked d → IfOk r (λ text. text ≡ bad_text n) → IfOk r (λ text. (line : List ℕ) → IsJson line d → Replies line text)
not_asked d x n r is asks told =
    as_told r (bad_text n) (λ text. (line : List ℕ) → IsJson line d → Replies line text) told (λ line json. no_request json (sym asks ∙ ap asked_result is))
