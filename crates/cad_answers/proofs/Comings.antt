-- What the program's values say of requests.
use Rattle.std.proofs.Common.{◌≡◌, ℕ, List, map, Result, IfOk, sym, subst}
use Rattle.serde_json.specs.Data.{Data}
use Rattle.serde_json.specs.View.{view}
use Rattle.serde_json.specs.declared.value.Value.{Value as Json}
use Rattle.cad_syntax.specs.declared.address.Address.{Address}
use Rattle.cad_accounts.specs.Registers.{Map}
use Rattle.cad_commands.specs.Views.{pure_command}
use Rattle.cad_commands.specs.declared.kinds.Command as own
use Rattle.cad_runs.proofs.Kept.{is_kept}
use Rattle.cad_runs.specs.Commands.{Command, deploy, script, transaction}
use Rattle.cad_run_outcomes.specs.Outcomes as spec
use Rattle.cad_world.specs.Begin.{IsKept}
use Rattle.cad_world.specs.State.{World}
use Rattle.cad_worlds.specs.Standing.{StandsFor, any_accepted}
use Rattle.cad_answers.specs.Answer.{Does}
use Rattle.cad_answers.specs.Code.Outcomes.{ComesBy, Comes}
use Rattle.cad_answers.specs.declared.outcome.Outcome.{Outcome}
use Rattle.cad_answers.specs.declared.outcome.Outcome.TheVariants.{Stays, Leads as Leading}

-- what comes may be allowed by more
pub comes_as : {P Q : spec.Outcome → Type 0} (o : Outcome) (base : Map) → ((x : spec.Outcome) → P x → Q x) → ComesBy o base P → ComesBy o base Q
comes_as (Stays reply) base f h = (h.0, h.1, f (spec.stays h.0) h.2)
comes_as (Leading reply changes) base f h = (h.0, h.1, h.2, h.3, f (spec.leads h.0 h.2) h.4, h.5, h.6, h.7, h.8)

-- ---- Worlds

-- what registers stand for stands as it stands between runs
pub stands_kept : (m : Map) (w : World) → StandsFor m w → IsKept w
stands_kept m w stands = is_kept any_accepted w stands.sound.0

-- ---- commands

-- over each World that registers stand for
abbrev pub ComesOver : Map → Command Data → Outcome → Type 0
ComesOver base command o = (w : World) → StandsFor base w → Comes o base w command

-- what a command comes to, by the value that it is
pub comes_command : {E : Type 0} (r : Result Outcome E) (base : Map) (c d : own.Command) → c ≡ d → IfOk r (ComesOver base (pure_command d)) → IfOk r (ComesOver base (pure_command c))
comes_command r base c d is h = subst (λ (x : own.Command). IfOk r (ComesOver base (pure_command x))) (sym is) h

-- a command that is known
pub does_command : (w : World) (c d : own.Command) (o : spec.Outcome) → c ≡ d → Does w (pure_command d) o → Does w (pure_command c) o
does_command w c d o is h = subst (λ (x : own.Command). Does w (pure_command x) o) (sym is) h

-- the parts of a transaction, by the values that were handed on
pub comes_transaction : {E : Type 0} (r : Result Outcome E) (base : Map) (code text : List ℕ) (arguments all : List Json) (signers named : List Address) (units : ℕ) → text ≡ code → all ≡ arguments → named ≡ signers
    → IfOk r (ComesOver base (transaction text (map view all) named units)) → IfOk r (ComesOver base (transaction code (map view arguments) signers units))
comes_transaction r base code text arguments all signers named units same_code same_arguments same_signers h =
    subst (λ (c : List ℕ). IfOk r (ComesOver base (transaction c (map view arguments) signers units))) same_code
    (subst (λ (l : List Json). IfOk r (ComesOver base (transaction text (map view l) signers units))) same_arguments
    (subst (λ (l : List Address). IfOk r (ComesOver base (transaction text (map view all) l units))) same_signers h))

-- of a script
pub comes_script : {E : Type 0} (r : Result Outcome E) (base : Map) (code text : List ℕ) (arguments all : List Json) (units : ℕ) → text ≡ code → all ≡ arguments
    → IfOk r (ComesOver base (script text (map view all) units)) → IfOk r (ComesOver base (script code (map view arguments) units))
comes_script r base code text arguments all units same_code same_arguments h =
    subst (λ (c : List ℕ). IfOk r (ComesOver base (script c (map view arguments) units))) same_code
    (subst (λ (l : List Json). IfOk r (ComesOver base (script text (map view l) units))) same_arguments h)

-- of a deploy
pub comes_deploy : {E : Type 0} (r : Result Outcome E) (base : Map) (place : Address) (name named code text : List ℕ) (arguments all : List Json) (units : ℕ) → named ≡ name → text ≡ code → all ≡ arguments
    → IfOk r (ComesOver base (deploy place named text (map view all) units)) → IfOk r (ComesOver base (deploy place name code (map view arguments) units))
comes_deploy r base place name named code text arguments all units same_name same_code same_arguments h =
    subst (λ (n : List ℕ). IfOk r (ComesOver base (deploy place n code (map view arguments) units))) same_name
    (subst (λ (c : List ℕ). IfOk r (ComesOver base (deploy place named c (map view arguments) units))) same_code
    (subst (λ (l : List Json). IfOk r (ComesOver base (deploy place named text (map view l) units))) same_arguments h))
