-- A front end that says as much changes nothing, and one that is joined of two says as much as each.
use Rattle.std.proofs.Common.{◌≡◌, ◌≢◌, ℕ, suc, ◌+◌, ◌≤◌, arith, sym, refl}
use Rattle.cad_world.specs.Fronts.{Front, Verdict, accepted, refused, unknown}
use Rattle.cad_world.specs.State.{Outcome, failed}
use Rattle.cad_evaluation.specs.Evaluation.{calls_to}
use Rattle.cad_bounds.specs.Fronts.{Extends, or_else}
use Rattle.cad_bounds.specs.Laws.{TransactionsExtend, DeploymentsExtend, ScriptsExtend, JoinsExtendTheFirst, JoinsExtendTheSecond}
use Rattle.cad_bounds.proofs.Adding.{accepted_said, refused_said}
use Rattle.cad_bounds.proofs.Same.{Runs, Alike, as_many}
use Rattle.cad_bounds.proofs.Evaluation.{same_calls, near_calls}
use Rattle.cad_bounds.proofs.Run.{same_run_transaction, same_run_deploy, same_run_script}

-- by a front end and one that says more, where the first is free to fail by 0
abbrev by_both : (f g : Front) → Extends f g → ℕ → Runs
by_both f g more u = record { units = suc u; Free = Unit {0}; first = f; second = g; reaches = λ contracts address code w. sym (more contracts address code (w tt)) }

other_outcome : {A : Type 0} {o o' : Outcome A} → Alike (Unit {0}) o o' → o ≢ failed 0 → o' ≡ o
other_outcome h w = sym (h (λ free. w))

low : (u : ℕ) → suc u ≤ suc u
low u = omega arith

pub transactions_extend : TransactionsExtend
transactions_extend f g t r signers s n more w =
    other_outcome (same_run_transaction (by_both f g more s.units) (calls_to f n) (calls_to g n) n n t r signers
    (near_calls (by_both f g more s.units) n n (as_many (suc s.units + suc s.units) n)) (as_many (suc s.units) n) s (low s.units)).0 w

pub deployments_extend : DeploymentsExtend
deployments_extend f g c r s n more w =
    other_outcome (same_run_deploy (by_both f g more s.units) (calls_to f n) (calls_to g n) c r
    (same_calls (by_both f g more s.units) n n (as_many (suc s.units + suc s.units) n)) s (low s.units)).0 w

pub scripts_extend : ScriptsExtend
scripts_extend f g r s n more w =
    other_outcome (same_run_script (by_both f g more s.units) (calls_to f n) (calls_to g n) r
    (same_calls (by_both f g more s.units) n n (as_many (suc s.units + suc s.units) n)) s (low s.units)).0 w

-- ---- joined

first_said : (v other : Verdict) → v ≢ unknown → or_else v other ≡ v
first_said (accepted p) other said = refl
first_said refused other said = refl
first_said unknown other said = absurd (said refl)

second_said : (v other : Verdict) → (v ≢ unknown → other ≢ unknown → v ≡ other) → other ≢ unknown → or_else v other ≡ other
second_said (accepted p) other agree said = agree (λ e. accepted_said p e) said
second_said refused other agree said = agree (λ e. refused_said e) said
second_said unknown other agree said = refl

pub joins_extend_the_first : JoinsExtendTheFirst
joins_extend_the_first f g contracts address code said = first_said (f contracts address code) (g contracts address code) said

pub joins_extend_the_second : JoinsExtendTheSecond
joins_extend_the_second f g agree contracts address code said =
    second_said (f contracts address code) (g contracts address code) (agree contracts address code) said
