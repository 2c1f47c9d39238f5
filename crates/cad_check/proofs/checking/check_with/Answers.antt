use Rattle.std.proofs.Common.{◌≡◌, refl, subst}
use Rattle.std.specs.Prelude.{Result}
use Rattle.cad_grammar.specs.Views.{program_of}
use Rattle.cad_grammar.specs.declared.phase.Phase.{Phase}
use Rattle.cad_declarations.specs.Views.{tables_of}
use Rattle.cad_declarations.specs.declared.body.Bodies.{Bodies}
use Rattle.cad_declarations.specs.declared.stop.Stop.{Stop}
use Rattle.cad_check.specs.Answers.{Gathered}
use Rattle.cad_check.proofs.Verdicts.{accepted, refused}
use Rattle.cad_check.proofs.checking.check_with.Goals as goal

pub returns-in-Ok-Ok : goal.returns-in-Ok-Ok
returns-in-Ok-Ok c =
    let told = subst (λ (r : Result Bodies (Phase × Stop)). Gathered (tables_of c.args.tables) (program_of c.args.program) r) c.in-Ok-Ok.field-0-is c.in-Ok-Ok.ensures in
    λ s is builds. accepted s (program_of c.args.program) is (tables_of c.args.tables) builds (record { program = c.args.program; tables = c.args.tables; bodies = c.in-Ok-Ok.bodies }) refl refl told.0 told.1

pub returns-in-Ok-Err : goal.returns-in-Ok-Err
returns-in-Ok-Err c =
    let told = subst (λ (r : Result Bodies (Phase × Stop)). Gathered (tables_of c.args.tables) (program_of c.args.program) r) c.in-Ok-Err.field-0-is c.in-Ok-Err.ensures in
    λ s is builds. refused s (program_of c.args.program) is (tables_of c.args.tables) builds c.in-Ok-Err.refusal.0 c.in-Ok-Err.refusal.1 c.rejected.result c.rejected.ensures told
