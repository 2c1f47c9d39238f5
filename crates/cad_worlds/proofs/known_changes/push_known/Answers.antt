use Rattle.std.proofs.Common.{◌++◌, map, add-one, arith}
use Rattle.std.specs.List.{flat_map}
use Rattle.cad_worlds.proofs.Sections.{flat_turn, flat_end}
use Rattle.cad_worlds.specs.Code.KnownRegisters.{known_section}
use Rattle.cad_worlds.specs.Standing.{register_of}
use Rattle.cad_worlds.proofs.known_changes.push_known.Goals as goal

pub loop-one-preserved : goal.loop-one-preserved
loop-one-preserved c =
    let all = map register_of c.args.rows.now.items ++ flat_map (known_section c.args.section) c.args.known.now in
    rw add-one (flat_turn (known_section c.args.section) c.args.known.now c.loop-one.one-index c.one-item.result (map register_of c.loop-one.rows.items) (map register_of c.push_known_account.new.rows.items) all (omega arith) c.one-item.is c.loop-one.invariant c.in_ok-push_known_account.ensures)

pub returns : goal.returns
returns c =
    let all = map register_of c.args.rows.now.items ++ flat_map (known_section c.args.section) c.args.known.now in
    flat_end (known_section c.args.section) c.args.known.now c.loop-one.one-index (map register_of c.loop-one.rows.items) all (omega arith) c.loop-one.invariant
