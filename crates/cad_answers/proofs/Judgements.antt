-- Code that is checked beside the contracts of a World.
use Rattle.std.proofs.Common.{◌≡◌, ◌∙◌, ℕ, List, Option, Some, None, Result, IfOk, ap, sym, subst, arith}
use Rattle.std.specs.Prelude.{unwrap_or}
use Rattle.serde_json.specs.Data.{Data}
use Rattle.cad_syntax.specs.declared.address.Address.{Address}
use Rattle.cad_acceptance.specs.Acceptance.{AcceptsText, checked_of}
use Rattle.cad_acceptance.specs.Stops.{FirstStop}
use Rattle.cad_declarations.specs.Imports.{ContractEntry}
use Rattle.cad_declarations.specs.declared.program.Checked.{Checked}
use Rattle.cad_declarations.specs.declared.stop.Rejected.{Rejected}
use Rattle.cad_fronts.specs.Passed.{TextVerdict}
use Rattle.cad_runs.specs.Commands.{Command, account, deploy, transaction, script, refused, rejected}
use Rattle.cad_run_outcomes.specs.Outcomes.{stays}
use Rattle.cad_world.specs.State.{World}
use Rattle.cad_answers.specs.Answer.{Does, beside, transacts, runs, refused_transaction, refused_script}
use Rattle.cad_answers.specs.Code.Programs.{code_of}

-- the verdict on a text beside entries, by the same text and entries
pub verdict_beside : {E : Type 0} (listed entries : List ContractEntry) (place : Option Address) (text code : List ℕ) (r : Result (Result Checked Rejected) E)
    → listed ≡ entries → text ≡ code → IfOk r (λ verdict. TextVerdict listed place text verdict) → IfOk r (λ verdict. TextVerdict entries place code verdict)
verdict_beside listed entries place text code r is same h =
    subst (λ (t : List ℕ). IfOk r (λ verdict. TextVerdict entries place t verdict)) same
    (subst (λ (cs : List ContractEntry). IfOk r (λ verdict. TextVerdict cs place text verdict)) is h)

-- ---- the code of a command

some_same : {A : Type 0} (a b : A) → Some a ≡ Some b → a ≡ b
some_same a b is = ap (λ (o : Option _). unwrap_or o a) is

none_some : {A : Type 0} (a : A) → None ≡ Some a → ⊥
none_some a is = grind arith

-- a command has one code
pub accepted_so : (w : World) (command : Command Data) (text code : List ℕ) (checked : Checked) → code_of command ≡ Some text → code_of command ≡ Some code
    → AcceptsText (beside w) None text (checked_of checked) → AcceptsText (beside w) None code (checked_of checked)
accepted_so w command text code checked has is accepts = subst (λ (t : List ℕ). AcceptsText (beside w) None t (checked_of checked)) (some_same text code (sym has ∙ is)) accepts

-- a transaction or a script whose code is refused
pub refused_so : (w : World) (command : Command Data) (code : List ℕ) (r : Rejected) → code_of command ≡ Some code → FirstStop (beside w) None code r → Does w command (stays (rejected r))
refused_so w account code r is stop = absurd (none_some code is)
refused_so w (deploy place name text arguments units) code r is stop = absurd (none_some code is)
refused_so w (transaction text arguments signers units) code r is stop =
    transacts (refused_transaction (subst (λ (t : List ℕ). FirstStop (beside w) None t r) (sym (some_same text code is)) stop))
refused_so w (script text arguments units) code r is stop = runs (refused_script (subst (λ (t : List ℕ). FirstStop (beside w) None t r) (sym (some_same text code is)) stop))
refused_so w (refused n) code r is stop = absurd (none_some code is)
