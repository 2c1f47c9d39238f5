use Rattle.std.proofs.Common.{◌≡◌, ◌∙◌, arith, refl, sym, ap}
use Rattle.cad_accounts.specs.Memory.{spare, spare_at}
use Rattle.cad_accounts.specs.Room.{rows_of}
use Rattle.cad_accounts.proofs.Places.{size_fits}
use Rattle.cad_accounts.proofs.BlockEdits.{rows_inserted, spends_edit, spare_there}
use Rattle.cad_accounts.proofs.Storing.{stored_in, stored_inserted, belongs_here}
use Rattle.cad_accounts.proofs.registers.MapRegisters.insert_at.Goals as goal

pub insert-requires : goal.insert-requires
insert-requires c =
    let blocks = c.args.self.now.blocks.items in
    let was = c.index_mut.result.now in
    let there : spare_at blocks c.args.block ≡ spare was = spare_there blocks c.args.block was c.requires.block ∙ ap spare (sym c.index_mut.ensures.value) in
    let room = c.requires.room in
    record {
      fitting = belongs_here blocks c.args.block was was c.requires.block c.index_mut.ensures.value refl c.args.row.key.0 c.args.i c.requires.fitting;
      room = omega (arith, there, room);
    }

pub overflow_add-self : goal.overflow_add-self
overflow_add-self c = let m = c.args.self.now in omega (arith, size_fits (rows_of m) m.size c.size_of_row.result c.args.row m.short m.few m.sized c.requires.short c.size_of_row.ensures)

pub overflow_add-self-2 : goal.overflow_add-self-2
overflow_add-self-2 c =
    let m = c.args.self.now in
    let few = c.requires.few in
    omega (arith, m.counted, few)

pub invariant_of-self : goal.invariant_of-self
invariant_of-self c =
    let m = c.args.self.now in
    let s = stored_inserted m.blocks.items c.args.block c.index_mut.result.now c.insert.new.self c.requires.block c.index_mut.ensures.value c.insert.ensures.from
    m.count m.size c.args.i c.size_of_row.result c.args.row (stored_in m) c.requires.few c.requires.place c.requires.fitting c.requires.short c.insert.ensures.rows c.size_of_row.ensures in
    record { ascending = s.ascending; short = s.short; few = s.few; counted = s.counted; sized = s.sized; parted = s.parted; whole = s.whole }

pub returns : goal.returns
returns c =
    let m = c.args.self.now in
    let was = c.index_mut.result.now in
    let new = c.insert.new.self in
    let from = c.insert.ensures.from in
    let h = belongs_here m.blocks.items c.args.block was new c.requires.block c.index_mut.ensures.value from c.args.row.key.0 c.args.i c.requires.fitting in
    record {
      rows = rows_inserted m.blocks.items c.args.block was new c.requires.block c.index_mut.ensures.value c.args.i c.args.row h.within c.insert.ensures.rows;
      room = let r = c.insert.ensures.room in spends_edit m.blocks.items c.args.block was new c.requires.block c.index_mut.ensures.value from (omega (arith, r));
    }
