use Rattle.std.proofs.Common.{◌≡◌, ◌∙◌, sym}
use Rattle.std.specs.Prelude.{option_map}
use Rattle.cad_grammar.specs.Views.{program_of}
use Rattle.cad_contracts.specs.Views.{own_of}
use Rattle.cad_tables.specs.Views.{contracts_of}
use Rattle.cad_tables.proofs.Turns.{refused}
use Rattle.cad_tables.proofs.building.build.Goals as goal

pub returns-in-Some : goal.returns-in-Some
returns-in-Some c =
    refused (contracts_of c.args.deployed.now) c.args.place (program_of c.args.program.now) (option_map own_of c.in_ok-own.own) c.in-Some.stop
    c.in_ok-own.ensures (sym c.in-Some.is ∙ c.in_ok-stop.ensures)

pub returns : goal.returns
returns c = c.build_beside.ensures
