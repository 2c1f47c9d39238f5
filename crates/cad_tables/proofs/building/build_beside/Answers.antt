use Rattle.std.proofs.Common.{◌≡◌, ap, subst, map}
use Rattle.std.specs.Prelude.{Result, IfOk, option_map}
use Rattle.cad_grammar.specs.Views.{program_of}
use Rattle.cad_declarations.specs.Tables.{ProgramTables}
use Rattle.cad_declarations.specs.declared.stop.Stop.{Stop}
use Rattle.cad_entries.specs.Views.{imports_of, known_scope}
use Rattle.cad_contracts.specs.Views.{entry_of, own_of}
use Rattle.cad_tables.specs.Views.{contracts_of, outcome_of}
use Rattle.cad_tables.proofs.Turns.{beside_known}
use Rattle.cad_tables.proofs.building.build_beside.Goals as goal

pub returns : goal.returns
returns c =
    let P : Result ProgramTables Stop → Type 0 = λ t. IfOk c.build_within.result (λ made. outcome_of made ≡ t) in
    subst P
    (beside_known (contracts_of c.args.deployed.now) c.args.place (program_of c.args.program.now) (imports_of c.in_ok-known.known) (map (λ x. entry_of x.now) c.in_ok-imports.imports.items)
    (option_map own_of c.in_ok-known.known.own) (option_map own_of c.args.own) (known_scope c.in_ok-known.known)
    c.in_ok-known.ensures.imports (ap (option_map own_of) c.in_ok-known.ensures.own) c.in_ok-known.ensures.scope c.in_ok-imports.ensures c.requires.own c.requires.imports)
    c.build_within.ensures
