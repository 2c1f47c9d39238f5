use Rattle.std.proofs.Common.{map}
use Rattle.cad_worlds.proofs.Sections.{part_kinds}
use Rattle.cad_worlds.specs.Standing.{register_of}
use Rattle.cad_worlds.proofs.known_changes.part_registers.Goals as goal

pub returns : goal.returns
returns c =
    part_kinds c.args.part.now c.as_slice-known.result.now c.as_slice-contracts.result.now
    (map register_of c.in_ok-rows.rows.items) (map register_of c.push_known.new.rows.items) (map register_of c.push_codes.new.rows.items) (map register_of c.push_values.new.rows.items)
    (map register_of c.push_known-2.new.rows.items) (map register_of c.push_known-3.new.rows.items) (map register_of c.push_known-4.new.rows.items)
    c.as_slice-known.ensures.value c.as_slice-contracts.ensures.value c.in_ok-rows.ensures
    (record {
      next = c.in_ok-push_known.ensures;
      codes = c.in_ok-push_codes.ensures;
      values = c.in_ok-push_values.ensures;
      stored = c.in_ok-push_known-2.ensures;
      published = c.in_ok-push_known-3.ensures;
      controlled = c.in_ok-push_known-4.ensures;
    })
