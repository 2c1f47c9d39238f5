use Rattle.std.proofs.Common.{◌∙◌, ap, rules}
use Rattle.std.specs.Prelude.{option_copied}
use Rattle.cad_declarations.specs.Views.{function_of, part_of, tables_of, transaction_of}
use Rattle.cad_check.proofs.Refused.{initializer_told, transaction_told}
use Rattle.cad_check.proofs.refusals.unset_at.Goals as goal

pub returns-in_ok-own-in-Initializer : goal.returns-in_ok-own-in-Initializer
returns-in_ok-own-in-Initializer c =
    initializer_told (tables_of c.args.tables.now) (option_copied c.args.owner) c.args.rules.now _ (part_of c.args.body.now) (function_of c.in-Initializer.field-0) c.initialised.result
    (ap part_of c.in-Initializer.is) (c.as_slice.ensures.value ∙ c.in_ok-own-in-Initializer.ensures) c.initialised.ensures

pub returns-in-Transaction : goal.returns-in-Transaction
returns-in-Transaction c =
    transaction_told (tables_of c.args.tables.now) (option_copied c.args.owner) c.args.rules.now (part_of c.args.body.now) (transaction_of c.in-Transaction.field-0) c.initialised-in-Transaction.result
    (ap part_of c.in-Transaction.is) c.initialised-in-Transaction.ensures
