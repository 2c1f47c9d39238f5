use Rattle.std.proofs.Common.{◌++◌, ◌∙◌, List, map, drop, suc, sym, ap, arith, add-one}
use Rattle.std.proofs.lemmas.Result.{err_from_is_err_and}
use Rattle.cad_accounts.specs.Memory.{rows_in_blocks}
use Rattle.cad_accounts.specs.declared.row.Row.{Row}
use Rattle.cad_worlds.proofs.Lists.{none_past, from_item}
use Rattle.cad_worlds.specs.Standing.{register_of}
use Rattle.cad_world_registers.specs.Meaning.{parts_of}
use Rattle.cad_world_registers.specs.Told.{all_made, make_one}
use Rattle.cad_world_registers.proofs.Made.{part_taken, part_refused, parts_taken}
use Rattle.cad_world_registers.proofs.making.take_blocks.Goals as goal

pub returns-in_err-take_rows : goal.returns-in_err-take_rows
returns-in_err-take_rows c =
    let p = err_from_is_err_and c.from_residual.result c.from_residual.ensures.1 in
    let blocks = c.args.blocks.now in
    let i = c.loop-block.block-index in
    let all = all_made (map register_of (rows_in_blocks blocks)) (parts_of c.args.parts.now) in
    let parts = ap rows_in_blocks (from_item blocks i c.block-item.result c.loop-block-test.true c.block-item.is) ∙ ap (λ (l : List Row). l ++ rows_in_blocks (drop (suc i) blocks)) (sym c.rows.ensures.rows) in
    rw (p.1, p.2) (part_refused make_one (rows_in_blocks (drop i blocks)) c.rows.result.now (rows_in_blocks (drop (suc i) blocks)) (parts_of c.loop-block.parts) all c.in_err-take_rows.field-0.0 parts c.loop-block.invariant c.in_err-take_rows.ensures)

pub loop-block-preserved : goal.loop-block-preserved
loop-block-preserved c =
    let blocks = c.args.blocks.now in
    let i = c.loop-block.block-index in
    let all = all_made (map register_of (rows_in_blocks blocks)) (parts_of c.args.parts.now) in
    let parts = ap rows_in_blocks (from_item blocks i c.block-item.result c.loop-block-test.true c.block-item.is) ∙ ap (λ (l : List Row). l ++ rows_in_blocks (drop (suc i) blocks)) (sym c.rows.ensures.rows) in
    rw add-one (part_taken make_one (rows_in_blocks (drop i blocks)) c.rows.result.now (rows_in_blocks (drop (suc i) blocks)) (parts_of c.loop-block.parts) (parts_of c.take_rows.new.parts) all parts c.loop-block.invariant c.in_ok-take_rows.ensures)

pub returns : goal.returns
returns c =
    let blocks = c.args.blocks.now in
    let i = c.loop-block.block-index in
    parts_taken make_one (rows_in_blocks (drop i blocks)) (parts_of c.loop-block.parts) (all_made (map register_of (rows_in_blocks blocks)) (parts_of c.args.parts.now)) (ap rows_in_blocks (none_past blocks i (omega arith))) c.loop-block.invariant
