-- Parts of a deployment, one behind the other.
use Rattle.std.proofs.Common.{◌≡◌, refl}
use Rattle.std.specs.Prelude.{Result, Ok, Err}
use Rattle.cad_command_runs.specs.Code.Deployments.{entered, deploy_ended}
use Rattle.cad_evaluation.specs.Adding.{install}
use Rattle.cad_evaluation.specs.Callees.{Calls}
use Rattle.cad_evaluation.specs.Ending.{dropped}
use Rattle.cad_labels.specs.Laws.{AnyOne}
use Rattle.cad_labels.proofs.Forms.{keeps_spend}
use Rattle.cad_outcomes.proofs.Steps.{then, does_same, stops_on}
use Rattle.cad_outcomes.specs.Outcomes.{Gives, no_value}
use Rattle.cad_outcomes.specs.declared.stop.Stop.{Stop}
use Rattle.cad_rows.specs.Views.{pure_tree}
use Rattle.cad_rows.specs.declared.tree.Tree.{Tree as CodeTree}
use Rattle.cad_runs.specs.Run.{run_deploy}
use Rattle.cad_state.proofs.Finding.{find_any, find_same, find_stopped, find_then}
use Rattle.cad_state.specs.Views.{state_over, CarriesOut, FindsAndCarriesOut}
use Rattle.cad_state.specs.declared.state.RunState.{RunState}
use Rattle.cad_transaction_ends.specs.OverStorable.{CarriesOutOverStorable, FindsAndCarriesOutOverStorable}
use Rattle.cad_world.specs.Rows.{Row, Tree}
use Rattle.cad_world.specs.State.{Contract, Outcome, ok, failed, limit, ill, bind, ◌>>=◌, tick}
use Rattle.cad_world.specs.Storable.{values_last}

-- ---- the entry

pub entry_goes : (calls : Calls) (c : Contract) (r : Row) (x y z : RunState) (q : Result CodeTree Stop) → CarriesOut no_value tick x y (Ok tt) → FindsAndCarriesOut pure_tree (install calls c r) y z q
    → FindsAndCarriesOut pure_tree (entered calls c r) x z q
entry_goes calls c r x y z q first second = find_then AnyOne tick (keeps_spend 1) no_value pure_tree (λ _. install calls c r) tt x y z q (find_any no_value tick x y (Ok tt) first) (λ h. second)

pub entry_stops : (calls : Calls) (c : Contract) (r : Row) (x y z : RunState) (why : Stop) → CarriesOut {B = Unit {0}} no_value tick x y (Err why)
    → FindsAndCarriesOut {B = CodeTree} pure_tree (entered calls c r) x z (Err why)
entry_stops calls c r x y z why first = find_stopped {D = CodeTree} no_value pure_tree tick (λ _. install calls c r) x y z why (find_any {B = Unit {0}} no_value tick x y (Err why) first)

-- ---- the end

pub end_goes : (t : Tree) (x z : RunState) (q : Result (Unit {0}) Stop) → Gives no_value (dropped t) (Ok tt) → CarriesOutOverStorable no_value values_last x z q → CarriesOutOverStorable no_value (deploy_ended t) x z q
end_goes t x z q first second w storable = then no_value (dropped t) (λ _. values_last) tt (state_over w x) (state_over w x) (state_over w z) q (first (state_over w x)) (second w storable)

pub end_stops : (t : Tree) (x z : RunState) (why : Stop) → Gives {B = Unit {0}} no_value (dropped t) (Err why) → CarriesOutOverStorable {B = Unit {0}} no_value (deploy_ended t) x z (Err why)
end_stops t x z why first w storable = stops_on (dropped t (state_over w x)) (λ _. values_last) why (first (state_over w x))

-- ---- the whole

regrouped : (o : Outcome Tree) → bind (bind o (λ t. dropped t)) (λ _. values_last) ≡ bind o (λ t. deploy_ended t)
regrouped (ok t s) = refl
regrouped (failed e) = refl
regrouped limit = refl
regrouped ill = refl

pub deploy_goes : (calls : Calls) (c : Contract) (r : Row) (tree : CodeTree) (x y z : RunState) (q : Result (Unit {0}) Stop) → FindsAndCarriesOut pure_tree (entered calls c r) x y (Ok tree)
    → CarriesOutOverStorable no_value (deploy_ended (pure_tree tree)) y z q → FindsAndCarriesOutOverStorable no_value (run_deploy calls c r) x z q
deploy_goes calls c r tree x y z q first second w storable ready =
    does_same no_value (run_deploy calls c r) (entered calls c r >>= (λ t. deploy_ended t)) (state_over w x) (state_over w z) q (regrouped (entered calls c r (state_over w x)))
    (then no_value (entered calls c r) (λ t. deploy_ended t) (pure_tree tree) (state_over w x) (state_over w y) (state_over w z) q (first w ready) (second w storable))

pub deploy_stops : (calls : Calls) (c : Contract) (r : Row) (x y z : RunState) (why : Stop) → FindsAndCarriesOut {B = CodeTree} pure_tree (entered calls c r) x y (Err why)
    → FindsAndCarriesOutOverStorable {B = Unit {0}} no_value (run_deploy calls c r) x z (Err why)
deploy_stops calls c r x y z why first w storable =
    find_same {B = Unit {0}} no_value (run_deploy calls c r) (entered calls c r >>= (λ t. deploy_ended t)) x z (Err why) (λ w ready. regrouped (entered calls c r (state_over w x)))
    (find_stopped {D = Unit {0}} pure_tree no_value (entered calls c r) (λ t. deploy_ended t) x y z why first) w
