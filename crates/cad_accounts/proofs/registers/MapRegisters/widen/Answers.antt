use Rattle.std.proofs.Common.{◌≡◌, ◌∙◌, length, sym, arith}
use Rattle.std.proofs.lemmas.List.{length-set}
use Rattle.cad_accounts.proofs.BlockEdits.{widens_edit}
use Rattle.cad_accounts.proofs.Promising.{on_ok}
use Rattle.cad_accounts.proofs.Splitting.{stored_same, rows_same}
use Rattle.cad_accounts.proofs.Storing.{stored_in}
use Rattle.cad_accounts.proofs.registers.MapRegisters.widen.Goals as goal

pub invariant_of-self : goal.invariant_of-self
invariant_of-self c =
    let m = c.args.self.now in
    let s = stored_same m.blocks.items c.args.block c.index_mut.result.now c.reserve.new.self c.requires c.index_mut.ensures.value c.reserve.ensures.from c.reserve.ensures.rows m.count m.size (stored_in m) in
    record { ascending = s.ascending; short = s.short; few = s.few; counted = s.counted; sized = s.sized; parted = s.parted; whole = s.whole }

pub returns : goal.returns
returns c =
    let blocks = c.args.self.now.blocks.items in
    let was = c.index_mut.result.now in
    let new = c.reserve.new.self in
    let there = c.requires in
    record {
      rows = rows_same blocks c.args.block was new c.requires c.index_mut.ensures.value c.reserve.ensures.from c.reserve.ensures.rows;
      some = omega (arith, there, length-set blocks c.args.block new);
      ok = on_ok c.reserve.result (λ enough. widens_edit blocks c.args.block was new c.requires c.index_mut.ensures.value c.args.more c.reserve.ensures.from c.reserve.ensures.room enough) c.reserve.ensures.ok;
    }
