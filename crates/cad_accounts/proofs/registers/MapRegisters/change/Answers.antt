use Rattle.std.proofs.Common.{◌≡◌, ◌∙◌, ◌+◌, ◌<◌, ◌≤◌, List, ℕ, length, take, refl, sym, ap, subst, arith}
use Rattle.std.proofs.lemmas.List.{length-set}
use Rattle.std.proofs.lemmas.List.Edits.{length-insert, length-remove}
use Rattle.cad_accounts.specs.declared.row.Row.{Row}
use Rattle.cad_accounts.specs.Memory.{rows_in_blocks, block_at, spare_at}
use Rattle.cad_accounts.specs.Room.{rows_of}
use Rattle.cad_accounts.specs.Code.Blocks.{rows_at}
use Rattle.cad_accounts.specs.Code.Places.{past, StandsAt, BelongsAt}
use Rattle.cad_accounts.specs.KeyOrder.{row_key}
use Rattle.cad_accounts.proofs.Order.{stands_there, belongs_there}
use Rattle.cad_accounts.proofs.Places.{replaced, inserted, removed, unchanged}
use Rattle.cad_accounts.proofs.Storing.{spent, unspent, has_spare, block_inside, few_more, stands_of, belongs_of, short_of}
use Rattle.cad_accounts.proofs.registers.MapRegisters.change.Goals as goal

pub find-requires : goal.find-requires
find-requires c =
    let m = c.args.self.now in
    let is : c.block_of-block.result ≡ block_at m.blocks.items c.args.entry.key.0 = c.block_of-block.ensures ∙ ap (block_at m.blocks.items) c.as_slice.ensures in
    omega (arith, is, block_inside m c.args.entry c.requires.room)

pub replace_at-requires : goal.replace_at-requires
replace_at-requires c =
    let m = c.args.self.now in
    let is : c.block_of-block.result ≡ block_at m.blocks.items c.args.entry.key.0 = c.block_of-block.ensures ∙ ap (block_at m.blocks.items) c.as_slice.ensures in
    record {
      block = omega (arith, is, block_inside m c.args.entry c.requires.room);
      same = stands_there row_key c.args.entry.key.0 c.as_slice-2.result.now (rows_at m.blocks.items c.block_of-block.result) (rows_at m.blocks.items c.block_of-block.result) c.in-Ok-Some.i c.as_slice-2.ensures refl c.in-Ok-Some.ensures;
      short = short_of c.args.entry c.in-Ok-Some.value c.requires.fits c.in-Ok-Some.is-1;
    }

pub remove_at-requires : goal.remove_at-requires
remove_at-requires c =
    let m = c.args.self.now in
    let is : c.block_of-block.result ≡ block_at m.blocks.items c.args.entry.key.0 = c.block_of-block.ensures ∙ ap (block_at m.blocks.items) c.as_slice.ensures in
    let h : StandsAt row_key c.as_slice-2.result.now (rows_at m.blocks.items c.block_of-block.result) c.in-Ok-None.i = c.in-Ok-None.ensures in
    record {
      block = omega (arith, is, block_inside m c.args.entry c.requires.room);
      row = h.within;
    }

pub insert_at-requires : goal.insert_at-requires
insert_at-requires c =
    let m = c.args.self.now in
    let is : c.block_of-block.result ≡ block_at m.blocks.items c.args.entry.key.0 = c.block_of-block.ensures ∙ ap (block_at m.blocks.items) c.as_slice.ensures in
    record {
      block = omega (arith, is, block_inside m c.args.entry c.requires.room);
      place = is;
      fitting = belongs_there row_key c.args.entry.key.0 c.as_slice-2.result.now (rows_at m.blocks.items c.block_of-block.result) (rows_at m.blocks.items c.block_of-block.result) c.in-Err-Some.i c.as_slice-2.ensures refl c.in-Err-Some.ensures;
      short = short_of c.args.entry c.in-Err-Some.value c.requires.fits c.in-Err-Some.is-1;
      room = subst (λ n. 1 ≤ spare_at m.blocks.items n) (sym is) (has_spare m c.args.entry c.requires.room);
      few = few_more m c.args.entry c.requires.room;
    }

pub returns-in-Ok-Some : goal.returns-in-Ok-Some
returns-in-Ok-Some c =
    let m = c.args.self.now in
    let e = c.args.entry in
    let block = c.block_of-block.result in
    let is : block ≡ block_at m.blocks.items e.key.0 = c.block_of-block.ensures ∙ ap (block_at m.blocks.items) c.as_slice.ensures in
    let inside : block < length m.blocks.items = omega (arith, is, block_inside m e c.requires.room) in
    let here = stands_there row_key e.key.0 c.as_slice-2.result.now (rows_at m.blocks.items block) (rows_at m.blocks.items block) c.in-Ok-Some.i c.as_slice-2.ensures refl c.in-Ok-Some.ensures in
    let h = stands_of m.blocks.items block e.key.0 c.in-Ok-Some.i inside here in
    let index = past (rows_in_blocks (take block m.blocks.items)) c.in-Ok-Some.i in
    let row : Row = record { key = e.key; value = c.in-Ok-Some.value } in
    let count : length (rows_of c.replace_at.new.self) ≡ length (rows_of m) = ap length c.replace_at.ensures.rows ∙ length-set (rows_of m) index row in
    record {
      is = λ key. replaced (rows_of m) (rows_of c.replace_at.new.self) index row e.value key m.ascending h c.replace_at.ensures.rows c.in-Ok-Some.is-1;
      room = λ changes room. spent m c.replace_at.new.self e changes block is c.replace_at.ensures.room (omega (arith, count)) room;
    }

pub returns-in-Ok-None : goal.returns-in-Ok-None
returns-in-Ok-None c =
    let m = c.args.self.now in
    let e = c.args.entry in
    let block = c.block_of-block.result in
    let is : block ≡ block_at m.blocks.items e.key.0 = c.block_of-block.ensures ∙ ap (block_at m.blocks.items) c.as_slice.ensures in
    let inside : block < length m.blocks.items = omega (arith, is, block_inside m e c.requires.room) in
    let here = stands_there row_key e.key.0 c.as_slice-2.result.now (rows_at m.blocks.items block) (rows_at m.blocks.items block) c.in-Ok-None.i c.as_slice-2.ensures refl c.in-Ok-None.ensures in
    let h = stands_of m.blocks.items block e.key.0 c.in-Ok-None.i inside here in
    let index = past (rows_in_blocks (take block m.blocks.items)) c.in-Ok-None.i in
    let count = ap length c.remove_at.ensures.rows in
    record {
      is = λ key. removed (rows_of m) (rows_of c.remove_at.new.self) index e.key.0 e.value key m.ascending h c.remove_at.ensures.rows c.in-Ok-None.is-1;
      room = λ changes room. spent m c.remove_at.new.self e changes block is c.remove_at.ensures.room (omega (arith, count, length-remove (rows_of m) index h.within)) room;
    }

pub returns-in-Err-Some : goal.returns-in-Err-Some
returns-in-Err-Some c =
    let m = c.args.self.now in
    let e = c.args.entry in
    let block = c.block_of-block.result in
    let is : block ≡ block_at m.blocks.items e.key.0 = c.block_of-block.ensures ∙ ap (block_at m.blocks.items) c.as_slice.ensures in
    let inside : block < length m.blocks.items = omega (arith, is, block_inside m e c.requires.room) in
    let here = belongs_there row_key e.key.0 c.as_slice-2.result.now (rows_at m.blocks.items block) (rows_at m.blocks.items block) c.in-Err-Some.i c.as_slice-2.ensures refl c.in-Err-Some.ensures in
    let h = belongs_of m.blocks.items block e.key.0 c.in-Err-Some.i m.parted m.whole inside is here in
    let index = past (rows_in_blocks (take block m.blocks.items)) c.in-Err-Some.i in
    let row : Row = record { key = e.key; value = c.in-Err-Some.value } in
    let count = ap length c.insert_at.ensures.rows in
    record {
      is = λ key. inserted (rows_of m) (rows_of c.insert_at.new.self) index row e.value key h c.insert_at.ensures.rows c.in-Err-Some.is-1;
      room = λ changes room. spent m c.insert_at.new.self e changes block is c.insert_at.ensures.room (omega (arith, count, length-insert (rows_of m) index row h.within)) room;
    }

pub returns-in-Err-None : goal.returns-in-Err-None
returns-in-Err-None c =
    let m = c.args.self.now in
    let e = c.args.entry in
    let block = c.block_of-block.result in
    let is : block ≡ block_at m.blocks.items e.key.0 = c.block_of-block.ensures ∙ ap (block_at m.blocks.items) c.as_slice.ensures in
    let inside : block < length m.blocks.items = omega (arith, is, block_inside m e c.requires.room) in
    let here = belongs_there row_key e.key.0 c.as_slice-2.result.now (rows_at m.blocks.items block) (rows_at m.blocks.items block) c.in-Err-None.field-0-0 c.as_slice-2.ensures refl c.in-Err-None.ensures in
    let h = belongs_of m.blocks.items block e.key.0 c.in-Err-None.field-0-0 m.parted m.whole inside is here in
    record {
      is = λ key. unchanged (rows_of m) (past (rows_in_blocks (take block m.blocks.items)) c.in-Err-None.field-0-0) e.key.0 e.value key h c.in-Err-None.is-1;
      room = λ changes room. unspent m e changes room;
    }
