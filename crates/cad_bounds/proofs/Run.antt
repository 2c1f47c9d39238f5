-- Run: the same while the units last.
use Rattle.std.specs.Prelude.{ℕ, ◌+◌, List, length, Option, Some, None}
use Rattle.cad_syntax.specs.Types.{basic}
use Rattle.cad_syntax.specs.declared.address.Address.{Address}
use Rattle.cad_syntax.specs.declared.types.Basic.TheVariants as b
use Rattle.cad_declarations.specs.Typed as e
use Rattle.cad_values.specs.Forms.{is_told}
use Rattle.cad_world.specs.Rows.{Row, Tree}
use Rattle.cad_world.specs.State.{Contract}
use Rattle.cad_world.specs.Trees.{value_of}
use Rattle.cad_evaluation.specs.Callees.{function, Calls}
use Rattle.cad_runs.specs.Run.{deeper, shallower, entry, signer_row, begin_transaction, with_signers, prepared, end_transaction, run_transaction, run_deploy, main_name, told, run_script}
use Rattle.cad_bounds.proofs.Same.{Runs, Same, Near, Now, Enough, self_units, same_self, same_give, same_done, same_spend, same_require, same_bind}
use Rattle.cad_bounds.proofs.Adding.{same_install}
use Rattle.cad_bounds.proofs.Bodies.{same_all_tested, same_value_of_flow, same_values_before}
use Rattle.cad_bounds.proofs.Ending.{same_dropped, same_ended}
use Rattle.cad_bounds.proofs.Statements.{same_exec_block}
use Rattle.cad_bounds.proofs.Storable.{same_values_last}

pub same_deeper : (R : Runs) → Same R (deeper) (deeper)
same_deeper R = same_self R _ (λ s. self_units s.units)

pub same_shallower : (R : Runs) → Same R (shallower) (shallower)
same_shallower R = same_self R _ (λ s. self_units s.units)

pub same_entry : (R : Runs) (calls calls' : Calls) (n n' : ℕ) (x4 : Option e.BlockTree) → Near R calls calls' → Enough R.units n n' → Same R (entry R.first calls n x4) (entry R.second calls' n' x4)
same_entry R calls calls' n n' None near h = same_done R
same_entry R calls calls' n n' (Some body) near h = same_bind R _ _ _ _ (same_bind R _ _ _ _ (same_bind R _ _ _ _ (same_bind R _ _ _ _ (same_bind R _ _ _ _ (same_spend R 1) (λ u1. (same_deeper R))) (λ u2. (same_exec_block R calls calls' n n' body near h))) (λ v3. (same_value_of_flow R (basic b.Void) v3))) (λ v4. (same_dropped R v4))) (λ u5. (same_shallower R))

pub same_begin_transaction : (R : Runs) (x1 : e.TransactionBody) (x2 : Row) → Same R (begin_transaction x1 x2) (begin_transaction x1 x2)
same_begin_transaction R x arguments = same_self R _ (λ s. self_units s.units)

pub same_with_signers : (R : Runs) (x1 : Row) → Same R (with_signers x1) (with_signers x1)
same_with_signers R r = same_self R _ (λ s. self_units s.units)

pub same_prepared : (R : Runs) (calls calls' : Calls) (n n' : ℕ) (x4 : e.TransactionBody) (x5 : List Address) → Near R calls calls' → Enough R.units n n' → Same R (prepared R.first calls n x4 x5) (prepared R.second calls' n' x4 x5)
same_prepared R calls calls' n n' x signers near h = same_bind R _ _ _ _ (same_bind R _ _ _ _ (same_with_signers R (signer_row x.signers signers)) (λ u1. (same_entry R calls calls' n n' x.prepare near h))) (λ u2. (same_ended R (length x.fields + length x.parameters)))

pub same_end_transaction : (R : Runs) → Same R (end_transaction) (end_transaction)
same_end_transaction R = same_bind R _ _ _ _ (same_ended R 0) (λ u1. (same_self R _ (λ s. self_units s.units)))

pub same_run_transaction : (R : Runs) (calls calls' : Calls) (n n' : ℕ) (x4 : e.TransactionBody) (x5 : Row) (x6 : List Address) → Near R calls calls' → Enough R.units n n' → Same R (run_transaction R.first calls n x4 x5 x6) (run_transaction R.second calls' n' x4 x5 x6)
same_run_transaction R calls calls' n n' x arguments signers near h = same_bind R _ _ _ _ (same_bind R _ _ _ _ (same_bind R _ _ _ _ (same_bind R _ _ _ _ (same_bind R _ _ _ _ (same_bind R _ _ _ _ (same_bind R _ _ _ _ (same_begin_transaction R x arguments) (λ u1. (same_prepared R calls calls' n n' x signers near h))) (λ u2. (same_all_tested R calls calls' x.pre near))) (λ u3. (same_values_before R calls calls' x.before near))) (λ u4. (same_entry R calls calls' n n' x.execute near h))) (λ u5. (same_all_tested R calls calls' x.post near))) (λ u6. (same_end_transaction R))) (λ u7. (same_values_last R))

pub same_run_deploy : (R : Runs) (calls calls' : Calls) (x2 : Contract) (x3 : Row) → Now R calls calls' → Same R (run_deploy calls x2 x3) (run_deploy calls' x2 x3)
same_run_deploy R calls calls' c arguments now = same_bind R _ _ _ _ (same_bind R _ _ _ _ (same_bind R _ _ _ _ (same_spend R 1) (λ u1. (same_install R calls calls' c arguments now))) (λ v2. (same_dropped R v2))) (λ u3. (same_values_last R))

pub same_told : (R : Runs) (x1 : Tree) → Same R (told x1) (told x1)
same_told R t = same_require R 134 (is_told (value_of t)) _ _ (same_give R (value_of t))

pub same_run_script : (R : Runs) (calls calls' : Calls) (x2 : Row) → Now R calls calls' → Same R (run_script calls x2) (run_script calls' x2)
same_run_script R calls calls' arguments now = same_bind R _ _ _ _ (same_bind R _ _ _ _ (same_spend R 1) (λ u1. (now (function main_name) arguments))) (λ v2. (same_told R v2))
