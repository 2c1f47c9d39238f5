use Rattle.std.proofs.Common.{◌++◌, add-one, arith}
use Rattle.std.specs.List.{flat_map}
use Rattle.cad_worlds.proofs.Sections.{flat_turn, flat_end}
use Rattle.cad_worlds.specs.Sections.{name_bytes}
use Rattle.cad_worlds.proofs.rows.push_names.Goals as goal

pub loop-name-preserved : goal.loop-name-preserved
loop-name-preserved c =
    let all = c.args.bytes.now.items ++ flat_map name_bytes c.args.names.now in
    rw add-one (flat_turn name_bytes c.args.names.now c.loop-name.name-index c.name-item.result c.loop-name.bytes.items c.push_name.new.bytes.items all (omega arith) c.name-item.is c.loop-name.invariant c.in_ok-push_name.ensures)

pub returns : goal.returns
returns c =
    let all = c.args.bytes.now.items ++ flat_map name_bytes c.args.names.now in
    flat_end name_bytes c.args.names.now c.loop-name.name-index c.loop-name.bytes.items all (omega arith) c.loop-name.invariant
