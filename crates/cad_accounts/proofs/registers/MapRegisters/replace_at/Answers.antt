use Rattle.std.proofs.Common.{arith, refl, take}
use Rattle.cad_accounts.specs.Memory.{rows_in_blocks}
use Rattle.cad_accounts.specs.Room.{rows_of}
use Rattle.cad_accounts.specs.Code.Places.{past}
use Rattle.cad_accounts.proofs.Places.{size_fits}
use Rattle.cad_accounts.proofs.BlockEdits.{inside_all, rows_replaced, spends_edit}
use Rattle.cad_accounts.proofs.Storing.{stored_in, stored_replaced, stands_here, row_there, size_covers}
use Rattle.cad_accounts.proofs.registers.MapRegisters.replace_at.Goals as goal

pub replace-was-requires : goal.replace-was-requires
replace-was-requires c =
    stands_here c.args.self.now.blocks.items c.args.block c.index_mut.result.now c.index_mut.result.now c.requires.block c.index_mut.ensures.value refl c.args.row.key.0 c.args.i c.requires.same

pub overflow_sub-self : goal.overflow_sub-self
overflow_sub-self c =
    let m = c.args.self.now in
    let was = c.index_mut.result.now in
    let h = stands_here m.blocks.items c.args.block was was c.requires.block c.index_mut.ensures.value refl c.args.row.key.0 c.args.i c.requires.same in
    size_covers (rows_of m) m.size c.size_of_row.result (past (rows_in_blocks (take c.args.block m.blocks.items)) c.args.i) c.replace-was.result m.sized
    (inside_all m.blocks.items c.args.block was was c.requires.block c.index_mut.ensures.value c.args.i h.within)
    (row_there m.blocks.items c.args.block was was c.requires.block c.index_mut.ensures.value refl c.args.i c.replace-was.result h.within c.replace-was.ensures.was) c.size_of_row.ensures

pub overflow_add-self : goal.overflow_add-self
overflow_add-self c =
    let m = c.args.self.now in
    omega (arith, size_fits (rows_of m) m.size c.size_of_row-size.result c.args.row m.short m.few m.sized c.requires.short c.size_of_row-size.ensures)

pub invariant_of-self : goal.invariant_of-self
invariant_of-self c =
    let m = c.args.self.now in
    let s = stored_replaced m.blocks.items c.args.block c.index_mut.result.now c.replace-was.new.self c.requires.block c.index_mut.ensures.value c.replace-was.ensures.from
    m.count m.size c.args.i c.size_of_row.result c.size_of_row-size.result c.args.row c.replace-was.result (stored_in m) c.requires.same c.requires.short c.replace-was.ensures.was c.replace-was.ensures.rows c.size_of_row.ensures c.size_of_row-size.ensures in
    record { ascending = s.ascending; short = s.short; few = s.few; counted = s.counted; sized = s.sized; parted = s.parted; whole = s.whole }

pub returns : goal.returns
returns c =
    let m = c.args.self.now in
    let was = c.index_mut.result.now in
    let new = c.replace-was.new.self in
    let from = c.replace-was.ensures.from in
    let h = stands_here m.blocks.items c.args.block was new c.requires.block c.index_mut.ensures.value from c.args.row.key.0 c.args.i c.requires.same in
    record {
      rows = rows_replaced m.blocks.items c.args.block was new c.requires.block c.index_mut.ensures.value c.args.i c.args.row h.within c.replace-was.ensures.rows;
      room = let r = c.replace-was.ensures.room in spends_edit m.blocks.items c.args.block was new c.requires.block c.index_mut.ensures.value from (omega (arith, r));
    }
