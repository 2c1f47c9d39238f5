use Rattle.std.proofs.Common.{subst}
use Rattle.std.specs.Prelude.{List, Option, None, Some}
use Rattle.cad_grammar.specs.Views.{program_of}
use Rattle.cad_grammar.specs.declared.phase.Phase.{Phase}
use Rattle.cad_declarations.specs.Views.{tables_of}
use Rattle.cad_declarations.specs.declared.stop.Stop.{Stop}
use Rattle.cad_pieces.specs.Views.{pieces_of}
use Rattle.cad_pieces.specs.declared.piece.Piece.{Piece}
use Rattle.cad_check.specs.Answers.{FirstOf}
use Rattle.cad_check.proofs.checking.gathered.Goals as goal

pub returns-in-Ok-None : goal.returns-in-Ok-None
returns-in-Ok-None c =
    let told = subst (λ (r : Option (Phase × Stop)). FirstOf (tables_of c.args.tables.now) (pieces_of c.as_slice.result.now) r) c.in-Ok-None.field-0-is c.in-Ok-None.ensures in
    let here = subst (λ (xs : List Piece). FirstOf (tables_of c.args.tables.now) (pieces_of xs) None) c.as_slice.ensures.value told in
    c.accepted_bodies.ensures c.in_ok-pieces.ensures here

pub returns-in-Ok-Some : goal.returns-in-Ok-Some
returns-in-Ok-Some c =
    let told = subst (λ (r : Option (Phase × Stop)). FirstOf (tables_of c.args.tables.now) (pieces_of c.as_slice.result.now) r) c.in-Ok-Some.field-0-is c.in-Ok-Some.ensures in
    let here = subst (λ (xs : List Piece). FirstOf (tables_of c.args.tables.now) (pieces_of xs) (Some c.in-Ok-Some.refusal)) c.as_slice.ensures.value told in
    here (program_of c.args.program.now) c.in_ok-pieces.ensures
