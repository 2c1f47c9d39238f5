use Rattle.std.proofs.Common.{arith, refl, take}
use Rattle.cad_accounts.specs.Memory.{rows_in_blocks}
use Rattle.cad_accounts.specs.Room.{rows_of}
use Rattle.cad_accounts.specs.Code.Places.{past}
use Rattle.cad_accounts.proofs.BlockEdits.{inside_all, rows_removed, spends_edit}
use Rattle.cad_accounts.proofs.Storing.{stored_in, stored_removed, inside_here, row_there, size_covers}
use Rattle.cad_accounts.proofs.registers.MapRegisters.remove_at.Goals as goal

pub remove-row-requires : goal.remove-row-requires
remove-row-requires c =
    inside_here c.args.self.now.blocks.items c.args.block c.index_mut.result.now c.index_mut.result.now c.requires.block c.index_mut.ensures.value refl c.args.i c.requires.row

pub overflow_sub-self : goal.overflow_sub-self
overflow_sub-self c =
    let m = c.args.self.now in
    let was = c.index_mut.result.now in
    let h = inside_here m.blocks.items c.args.block was was c.requires.block c.index_mut.ensures.value refl c.args.i c.requires.row in
    omega (arith, m.counted, inside_all m.blocks.items c.args.block was was c.requires.block c.index_mut.ensures.value c.args.i h)

pub overflow_sub-self-2 : goal.overflow_sub-self-2
overflow_sub-self-2 c =
    let m = c.args.self.now in
    let was = c.index_mut.result.now in
    let h = inside_here m.blocks.items c.args.block was was c.requires.block c.index_mut.ensures.value refl c.args.i c.requires.row in
    size_covers (rows_of m) m.size c.size_of_row.result (past (rows_in_blocks (take c.args.block m.blocks.items)) c.args.i) c.remove-row.result m.sized
    (inside_all m.blocks.items c.args.block was was c.requires.block c.index_mut.ensures.value c.args.i h)
    (row_there m.blocks.items c.args.block was was c.requires.block c.index_mut.ensures.value refl c.args.i c.remove-row.result h c.remove-row.ensures.was) c.size_of_row.ensures

pub invariant_of-self : goal.invariant_of-self
invariant_of-self c =
    let m = c.args.self.now in
    let s = stored_removed m.blocks.items c.args.block c.index_mut.result.now c.remove-row.new.self c.requires.block c.index_mut.ensures.value c.remove-row.ensures.from
    m.count m.size c.args.i c.size_of_row.result c.remove-row.result (stored_in m) c.requires.row c.remove-row.ensures.was c.remove-row.ensures.rows c.size_of_row.ensures in
    record { ascending = s.ascending; short = s.short; few = s.few; counted = s.counted; sized = s.sized; parted = s.parted; whole = s.whole }

pub returns : goal.returns
returns c =
    let m = c.args.self.now in
    let was = c.index_mut.result.now in
    let new = c.remove-row.new.self in
    let from = c.remove-row.ensures.from in
    let h = inside_here m.blocks.items c.args.block was new c.requires.block c.index_mut.ensures.value from c.args.i c.requires.row in
    record {
      rows = rows_removed m.blocks.items c.args.block was new c.requires.block c.index_mut.ensures.value c.args.i h c.remove-row.ensures.rows;
      room = let r = c.remove-row.ensures.room in spends_edit m.blocks.items c.args.block was new c.requires.block c.index_mut.ensures.value from (omega (arith, r));
    }
