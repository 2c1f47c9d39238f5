-- The variables and parts of transactions that values of the program are.
use Rattle.std.specs.Prelude.{option_map, map}
use Rattle.cad_declarations.specs.Views as typed
use Rattle.cad_environment.specs.Views.{local_of}
use Rattle.cad_routines.specs.Passed.{judged, conditions_in}
use Rattle.cad_transactions.specs.Code.Parts as parts
use Rattle.cad_transactions.specs.declared.transaction.TransactionLocals.{TransactionLocals}
use Rattle.cad_transactions.specs.declared.transaction.TransactionTyping.{TransactionTyping}

abbrev pub locals_of : TransactionLocals → parts.TransactionLocals
locals_of x = record { fields = map local_of x.fields.items; parameters = map local_of x.parameters.items; signers = map local_of x.signers.items }

abbrev pub typing_of : TransactionTyping → parts.TransactionTyping
typing_of x = record {
  prepare = option_map (judged typed.block_of) x.prepare;
  pre = judged conditions_in x.pre;
  execute = option_map (judged typed.block_of) x.execute;
  post = judged conditions_in x.post;
}
