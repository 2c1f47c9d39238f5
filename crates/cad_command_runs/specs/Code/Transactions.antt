-- Parts of the run of a transaction, each of which a function carries out.
use Rattle.std.specs.Prelude.{ℕ, List, ◌∷◌}
use Rattle.cad_syntax.specs.Types.{basic}
use Rattle.cad_syntax.specs.declared.address.Address.{Address}
use Rattle.cad_syntax.specs.declared.types.Basic.TheVariants as b
use Rattle.cad_declarations.specs.Typed as e
use Rattle.cad_evaluation.specs.Bodies.{all_tested, values_before, value_of_flow}
use Rattle.cad_evaluation.specs.Callees.{Calls, Front}
use Rattle.cad_evaluation.specs.Ending.{dropped}
use Rattle.cad_evaluation.specs.Flows.{Flow}
use Rattle.cad_evaluation.specs.Statements.{exec_block}
use Rattle.cad_runs.specs.Run.{deeper, shallower, entry, signer_row, transaction_frame, begin_transaction, with_signers, prepared, end_transaction}
use Rattle.cad_world.specs.Rows.{Row, Tree}
use Rattle.cad_world.specs.State.{Action, ok, ◌>>=◌, ◌>>◌, tick}

-- ---- `prepare` and `execute`

abbrev pub entry_begun : Action (Unit {0})
entry_begun = tick >> deeper

abbrev pub entry_flow : Front → Calls → ℕ → e.BlockTree → Action Flow
entry_flow front calls n body = entry_begun >> exec_block front calls n body

abbrev pub entry_value : Front → Calls → ℕ → e.BlockTree → Action Tree
entry_value front calls n body = entry_flow front calls n body >>= value_of_flow (basic b.Void)

abbrev pub entry_run : Front → Calls → ℕ → e.BlockTree → Action (Unit {0})
entry_run front calls n body = entry_value front calls n body >>= dropped

abbrev pub entry_written : Front → Calls → ℕ → e.BlockTree → Action (Unit {0})
entry_written front calls n body = entry_run front calls n body >> shallower

-- ---- stages

-- code outside of types begins over these variables
abbrev pub begun_over : Row → Action (Unit {0})
begun_over r = λ s. ok tt (record s { frames = transaction_frame r ∷ s.frames })

-- the signers, and `prepare` over them
abbrev pub over_signers : Front → Calls → ℕ → e.TransactionBody → List Address → Action (Unit {0})
over_signers front calls n x signers = with_signers (signer_row x.signers signers) >> entry front calls n x.prepare

-- up to `prepare`
abbrev pub to_prepare : Front → Calls → ℕ → e.TransactionBody → Row → List Address → Action (Unit {0})
to_prepare front calls n x arguments signers = begin_transaction x arguments >> prepared front calls n x signers

-- up to `pre`
abbrev pub to_pre : Front → Calls → ℕ → e.TransactionBody → Row → List Address → Action (Unit {0})
to_pre front calls n x arguments signers = to_prepare front calls n x arguments signers >> all_tested front calls x.pre

-- up to the values of `before`
abbrev pub to_before : Front → Calls → ℕ → e.TransactionBody → Row → List Address → Action (Unit {0})
to_before front calls n x arguments signers = to_pre front calls n x arguments signers >> values_before front calls x.before

-- up to `execute`
abbrev pub to_execute : Front → Calls → ℕ → e.TransactionBody → Row → List Address → Action (Unit {0})
to_execute front calls n x arguments signers = to_before front calls n x arguments signers >> entry front calls n x.execute

-- up to `post`
abbrev pub to_post : Front → Calls → ℕ → e.TransactionBody → Row → List Address → Action (Unit {0})
to_post front calls n x arguments signers = to_execute front calls n x arguments signers >> all_tested front calls x.post

-- up to the end of fields and parameters
abbrev pub to_end : Front → Calls → ℕ → e.TransactionBody → Row → List Address → Action (Unit {0})
to_end front calls n x arguments signers = to_post front calls n x arguments signers >> end_transaction
