use Rattle.std.proofs.Common.{◌*◌, length, arith}
use Rattle.cad_keys.proofs.Kept.{of_none, turns, room, all_taken}
use Rattle.cad_keys.proofs.keys.filled.Goals as goal

pub loop-row-init : goal.loop-row-init
loop-row-init c = of_none c.in_ok-index.index.heads.items c.in_ok-index.index.links.items (2 * length c.args.rows.now) (omega arith) c.in_ok-index.ensures.heads c.in_ok-index.ensures.links

pub push-requires-clause-buckets : goal.push-requires-clause-buckets
push-requires-clause-buckets c =
    let some = c.loop-row.invariant.buckets in
    let same = c.loop-row.index.heads.ok.0 in
    omega arith

pub push-requires-clause-room : goal.push-requires-clause-room
push-requires-clause-room c =
    let fewer = room c.loop-row.index.heads.items c.loop-row.index.links.items c.args.rows.now c.loop-row.row-index 2147483647 (omega arith) c.requires.room c.loop-row.invariant in
    let same = c.loop-row.index.links.ok.0 in
    omega arith

pub loop-row-preserved : goal.loop-row-preserved
loop-row-preserved c =
    turns c.loop-row.index.heads.items c.loop-row.index.links.items c.push.new.self.heads.items c.push.new.self.links.items c.args.rows.now c.loop-row.row-index c.row-item.result c.in_ok-hash.hash
    (omega arith) c.row-item.is c.loop-row.invariant c.in_ok-hash.ensures c.in_ok-push.ensures.heads c.in_ok-push.ensures.links

pub returns : goal.returns
returns c = all_taken c.loop-row.index.heads.items c.loop-row.index.links.items c.args.rows.now c.loop-row.row-index (omega arith) c.loop-row.invariant
