use Rattle.std.proofs.Common.{◌≡◌, sym}
use Rattle.cad_json_read.proofs.Identifiers.{spells_found, none_found}
use Rattle.cad_json_read.proofs.composite.id_at.Goals as goal

pub returns-in-Some : goal.returns-in-Some
returns-in-Some c = let h = rw c.in-Some.is at c.in_ok-id.ensures in sym (spells_found c.args.text.now c.in-Some.id c.address_number-number.ensures.in_range h)

pub returns-in-None : goal.returns-in-None
returns-in-None c = let h = rw c.in-None.is at c.in_ok-id.ensures in none_found c.args.text.now h
