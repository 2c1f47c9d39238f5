use Rattle.std.proofs.Common.{map}
use Rattle.cad_rows.specs.Views.{pure_row}
use Rattle.cad_state.specs.Views.{account_of}
use Rattle.cad_world.specs.Registers.{stored_from, stored_registers, row_values}
use Rattle.cad_worlds.proofs.Sections.{grown}
use Rattle.cad_worlds.specs.Standing.{coding, register_of}
use Rattle.cad_worlds.proofs.writing.push_stored.Goals as goal

pub returns : goal.returns
returns c =
    let names = c.as_slice-names in
    let places = c.as_slice-places in
    grown c.push_places.result (map register_of c.push_places.new.rows.items) (map register_of c.args.rows.now.items) (stored_from coding c.args.address names.result.now (row_values (pure_row places.result.now))) (stored_registers coding c.args.address (account_of c.args.account.now))
    (λ i. stored_from coding c.args.address (names.ensures.value i) (row_values (pure_row (places.ensures.value i)))) c.push_places.ensures
