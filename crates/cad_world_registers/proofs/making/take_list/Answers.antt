use Rattle.std.proofs.Common.{Option, map, refl, subst}
use Rattle.std.proofs.lemmas.Result.{err_from_is_err_and}
use Rattle.cad_accounts.specs.Memory.{rows_in_blocks}
use Rattle.cad_codec.specs.Answers.{GivesAs}
use Rattle.cad_worlds.specs.Items.{Draft}
use Rattle.cad_worlds.specs.RowLists.{rows_listed}
use Rattle.cad_worlds.specs.Standing.{register_of}
use Rattle.cad_world_registers.specs.Meaning.{parts_of}
use Rattle.cad_world_registers.specs.Told.{all_made, make_one}
use Rattle.cad_world_registers.proofs.Made.{part_taken, part_refused}
use Rattle.cad_world_registers.proofs.making.take_list.Goals as goal

pub returns-in_err-take_rows : goal.returns-in_err-take_rows
returns-in_err-take_rows c =
    let p = err_from_is_err_and c.from_residual.result c.from_residual.ensures.1 in
    let list = c.args.list in
    let all = all_made (map register_of (rows_listed list)) (parts_of c.args.parts.now) in
    rw (p.1, p.2) (part_refused make_one (rows_listed list) list.rows.now (rows_in_blocks list.blocks.now) (parts_of c.args.parts.now) all c.in_err-take_rows.field-0.0 refl refl c.in_err-take_rows.ensures)

pub returns : goal.returns
returns c =
    let list = c.args.list in
    let all = all_made (map register_of (rows_listed list)) (parts_of c.args.parts.now) in
    let rest = part_taken make_one (rows_listed list) list.rows.now (rows_in_blocks list.blocks.now) (parts_of c.args.parts.now) (parts_of c.take_rows.new.parts) all refl refl c.in_ok-take_rows.ensures in
    subst (λ (o : Option Draft). GivesAs (λ done. parts_of c.take_blocks.new.parts) c.take_blocks.result o) rest c.take_blocks.ensures
