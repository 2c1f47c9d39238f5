-- An outcome under a front end is one under each that says more.
use Rattle.std.proofs.Common.{◌≢◌, ℕ, List, sym, ap, ◌∙◌}
use Rattle.cad_bounds.specs.Fronts.{Extends}
use Rattle.cad_bounds.specs.Laws.{TransactionsExtend}
use Rattle.cad_declarations.specs.Typed.{TransactionBody}
use Rattle.cad_runs.specs.Commands.{failed}
use Rattle.cad_runs.specs.Run.{bound}
use Rattle.cad_syntax.specs.declared.address.Address.{Address}
use Rattle.cad_world.specs.Begin.{begun}
use Rattle.cad_world.specs.Fronts.{Front}
use Rattle.cad_world.specs.Rows.{Row}
use Rattle.cad_world.specs.State.{Program, World}
use Rattle.cad_run_outcomes.specs.Outcomes.{Outcome, settled, stays}
use Rattle.cad_replies.specs.Transactions.{OutcomesExtend, Ran, no_transaction, unsigned, miscounted, unfit, runs}

run_extends : TransactionsExtend → (f g : Front) (w : World) (p : Program) (t : TransactionBody) (r : Row) (signers : List Address) (units : ℕ) (outcome : Outcome)
    → Extends f g → Ran f w p t r signers units outcome → outcome ≢ stays (failed 0) → Ran g w p t r signers units outcome
run_extends law f g w p t r signers units outcome more told known =
    ap settled (law f g t r signers (begun p units w) (bound units) more (λ e. known (sym told ∙ ap settled e))) ∙ told

pub outcomes_extend : TransactionsExtend → OutcomesExtend
outcomes_extend law f g w p all signers units outcome more (no_transaction e) known = no_transaction e
outcomes_extend law f g w p all signers units outcome more (unsigned e k) known = unsigned e k
outcomes_extend law f g w p all signers units outcome more (miscounted e k n) known = miscounted e k n
outcomes_extend law f g w p all signers units outcome more (unfit e k n h) known = unfit e k n h
outcomes_extend law f g w p all signers units outcome more (runs {t = t} {r = row} e k d h told) known =
    runs e k d h (run_extends law f g w p t row signers units outcome more told known)
