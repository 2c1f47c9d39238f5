-- What holds of every command.
use Rattle.std.specs.Prelude.{◌≡◌, ◌≢◌, ℕ, false, List, [], ◌∷◌, ◌++◌, Option, Some}
use Rattle.cad_syntax.specs.declared.address.Address.{Address}
use Rattle.cad_declarations.specs.Typed as e
use Rattle.cad_world.specs.Fronts.{Front}
use Rattle.cad_world.specs.Marks.{AreGivenOnce}
use Rattle.cad_world.specs.Rows.{Row, bare}
use Rattle.cad_world.specs.Sound.{Sound, accepted_by}
use Rattle.cad_world.specs.Begin.{begun, left_world}
use Rattle.cad_world.specs.State.{Program, World, State, ok}
use Rattle.cad_evaluation.specs.Evaluation.{calls_to}
use Rattle.cad_runs.specs.Batch.{step}
use Rattle.cad_runs.specs.Commands.{Command, script, is_ok}
use Rattle.cad_runs.specs.Run.{run_transaction}
use Rattle.cad_runs.specs.Surroundings.{Surroundings, front_of}

-- every reply but one that all went as it was asked for leaves the World
abbrev pub FailuresLeave : Type 0 → Type 0
FailuresLeave Json = (x : Surroundings Json) (w : World) (c : Command Json) → is_ok (step x w c).reply ≡ false → (step x w c).world ≡ w

-- a script leaves the World, whatever its reply is
abbrev pub ScriptsLeave : Type 0 → Type 0
ScriptsLeave Json = (x : Surroundings Json) (w : World) (code : List ℕ) (js : List Json) (units : ℕ) → (step x w (script code js units)).world ≡ w

-- a sound World is read back from the state that it begins
abbrev pub SoundReadsBack : Type 0
SoundReadsBack = (front : Front) (program : Program) (units : ℕ) (w : World) → Sound (accepted_by front) w → left_world (begun program units w) ≡ w

-- a label that was given is never given again, and stands on one node; arguments come without labels
abbrev pub LabelsAreGivenOnce : Type 0
LabelsAreGivenOnce = (front : Front) (n : ℕ) (t : e.TransactionBody) (r : Row) (signers : List Address) (s s' : State)
    → bare r ≡ r → run_transaction front (calls_to front n) n t r signers s ≡ ok tt s' → AreGivenOnce s → AreGivenOnce s'
