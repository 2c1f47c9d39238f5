use Rattle.std.proofs.Common.{◌≡◌, ◌∙◌, ap, sym, refl}
use Rattle.std.specs.Prelude.{Ok, Err}
use Rattle.cad_acceptance.specs.Stops.{as_a_whole, subject}
use Rattle.cad_grammar.specs.Views.{program_of}
use Rattle.cad_declarations.specs.Views.{tables_of}
use Rattle.cad_tables.specs.Views.{contracts_of, outcome_of}
use Rattle.cad_check.proofs.Verdicts.{subject_built, subject_high, subject_told, unresolved}
use Rattle.cad_check.proofs.checking.check.Goals as goal

pub returns-in-Ok-Ok : goal.returns-in-Ok-Ok
returns-in-Ok-Ok c =
    subject_told (subject (contracts_of c.args.deployed.now) c.args.place (program_of c.args.program)) (program_of c.args.program) (tables_of c.in-Ok-Ok.tables) c.check_with.result c.check_with.ensures refl
    (subject_built c.imports_are_enough.ensures (contracts_of c.args.deployed.now) c.args.place (program_of c.args.program) (Ok (tables_of c.in-Ok-Ok.tables)) (sym c.is_too_high.ensures ∙ c.if-is_too_high.false) (sym (ap outcome_of c.in-Ok-Ok.field-0-is) ∙ c.in-Ok-Ok.ensures))

pub returns-in-Ok-Err : goal.returns-in-Ok-Err
returns-in-Ok-Err c =
    unresolved (subject (contracts_of c.args.deployed.now) c.args.place (program_of c.args.program)) c.in-Ok-Err.stop c.rejected.result c.rejected.ensures
    (subject_built c.imports_are_enough.ensures (contracts_of c.args.deployed.now) c.args.place (program_of c.args.program) (Err c.in-Ok-Err.stop) (sym c.is_too_high.ensures ∙ c.if-is_too_high.false) (sym (ap outcome_of c.in-Ok-Err.field-0-is) ∙ c.in-Ok-Err.ensures))

pub returns-then-is_too_high : goal.returns-then-is_too_high
returns-then-is_too_high c =
    unresolved (subject (contracts_of c.args.deployed.now) c.args.place (program_of c.args.program)) as_a_whole c.too_high.result c.too_high.ensures
    (subject_high (contracts_of c.args.deployed.now) c.args.place (program_of c.args.program) (sym c.is_too_high.ensures ∙ c.if-is_too_high.true))
