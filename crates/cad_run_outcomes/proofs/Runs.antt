-- What a run comes to, as an outcome.
use Rattle.std.proofs.Common.{◌≡◌, ◌≢◌, List, Some, Result, Ok, Err, IfOk, sym, ap, ◌∙◌, subst}
use Rattle.serde_json.specs.Data.{Data}
use Rattle.cad_outcomes.specs.Outcomes.{Does, Stops, no_value}
use Rattle.cad_outcomes.specs.declared.stop.Stop.{Stop}
use Rattle.cad_outcomes.specs.declared.stop.Stop.TheVariants.{Failed, Limit, IllTyped, Memory}
use Rattle.cad_runs.specs.Commands.{Reply, failed}
use Rattle.cad_run_worlds.proofs.Stops.{stop_known}
use Rattle.cad_run_worlds.specs.Code.{told_stop}
use Rattle.cad_run_worlds.specs.Views as script
use Rattle.cad_run_worlds.specs.declared.reply.ScriptReply.{ScriptReply}
use Rattle.cad_world.specs.State as s
use Rattle.cad_run_outcomes.proofs.Results.{if_ok}
use Rattle.cad_run_outcomes.specs.Outcomes.{Outcome, stays, settled}
use Rattle.cad_run_outcomes.specs.Views.{TellsOver}
use Rattle.cad_run_outcomes.specs.declared.outcome.RunOutcome.{RunOutcome}
use Rattle.cad_run_outcomes.specs.declared.outcome.RunOutcome.TheVariants as own

-- what is told of a run that asked of no code of which nothing is said
abbrev pub IsSettled : List s.Account → Outcome → RunOutcome → Type 0
IsSettled base o it = (o ≢ stays (failed 0)) × TellsOver base it o

ended_known : (after : s.State) → settled (s.ok tt after) ≢ stays (failed 0)
ended_known after = λ e. cc e

-- a run that ended is settled by its state
pub tells_ended : {E : Type 0} (base : List s.Account) (given : Result RunOutcome E) (run : Result (Unit {0}) Stop) (u : Unit {0}) (action : s.Action (Unit {0})) (before after : s.State) → run ≡ Ok u
    → Does no_value action before after run → IfOk given (λ it. TellsOver base it (settled (s.ok tt after))) → IfOk given (IsSettled base (settled (action before)))
tells_ended base given run u action before after is does h =
    subst (λ (o : Outcome). IfOk given (IsSettled base o)) (ap settled (sym (subst (Does no_value action before after) is does))) (if_ok given (λ it told. (ended_known after, told)) h)

some_is : {A : Type 0} (a b : A) → Some a ≡ Some b → a ≡ b
some_is a b e = cc

stays_is : (a b : Reply Data) → stays a ≡ stays b → a ≡ b
stays_is a b e = cc

-- a stop that is told is what the run settles
settled_stop : (stop : Stop) (outcome : s.Outcome (Unit {0})) (reply : Reply Data) → Stops outcome stop → told_stop stop ≡ Some reply → stays reply ≡ settled outcome
settled_stop (Failed error) outcome reply is told = ap stays (sym (some_is _ _ told)) ∙ ap settled (sym is)
settled_stop Limit outcome reply is told = ap stays (sym (some_is _ _ told)) ∙ ap settled (sym is)
settled_stop IllTyped outcome reply is told = ap stays (sym (some_is _ _ told)) ∙ ap settled (sym is)
settled_stop Memory outcome reply is told = absurd cc

pub tells_stop : (base : List s.Account) (stop : Stop) (run : Result (Unit {0}) Stop) (action : s.Action (Unit {0})) (before after : s.State) (it : ScriptReply) → run ≡ Err stop → Does no_value action before after run
    → (reply : Reply Data) × (told_stop stop ≡ Some reply) × script.Tells it reply → IsSettled base (settled (action before)) (own.Stays it)
tells_stop base stop run action before after it is does told =
    subst (λ (o : Outcome). IsSettled base o (own.Stays it)) (settled_stop stop (action before) told.0 (subst (Does no_value action before after) is does) told.1)
    ((λ e. stop_known stop told.0 told.1 (stays_is told.0 (failed 0) e)), told.2)
