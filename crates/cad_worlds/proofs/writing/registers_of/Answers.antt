use Rattle.std.proofs.Common.{map, length, refl}
use Rattle.cad_worlds.proofs.Sections.{all_kinds}
use Rattle.cad_worlds.specs.Standing.{register_of}
use Rattle.cad_worlds.proofs.writing.registers_of.Goals as goal

pub returns : goal.returns
returns c =
    all_kinds c.as_slice-accounts.result.now c.args.world.now.accounts.items c.as_slice-contracts.result.now c.args.world.now.contracts.items (length c.as_slice-accounts.result.now) c.args.world.now.next_identity
    (map register_of c.in_ok-rows.rows.items) (map register_of c.push_section.new.rows.items) (map register_of c.push_codes.new.rows.items) (map register_of c.push_values.new.rows.items)
    (map register_of c.push_section-2.new.rows.items) (map register_of c.push_section-3.new.rows.items) (map register_of c.push_section-4.new.rows.items)
    c.as_slice-accounts.ensures.value c.as_slice-contracts.ensures.value refl c.in_ok-rows.ensures
    (record {
      next = c.in_ok-push_section.ensures;
      codes = c.in_ok-push_codes.ensures;
      values = c.in_ok-push_values.ensures;
      stored = c.in_ok-push_section-2.ensures;
      published = c.in_ok-push_section-3.ensures;
      controlled = c.in_ok-push_section-4.ensures;
    })
