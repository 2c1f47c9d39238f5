use Rattle.std.proofs.Common.{◌-◌, refl}
use Rattle.cad_values.specs.Values.{pure_value}
use Rattle.cad_keys.proofs.Walks.{begins, turns, goes_down, found_at_end, found_within}
use Rattle.cad_keys.proofs.keys.walk.Goals as goal

pub loop-next-init : goal.loop-next-init
loop-next-init c =
    begins c.args.index.now.heads.items c.args.index.now.links.items c.args.rows.now (pure_value c.args.key.now) c.in_ok-hash.hash c.last-next.result c.requires c.in_ok-hash.ensures c.last-next.ensures

pub loop-next-preserved : goal.loop-next-preserved
loop-next-preserved c =
    rw c.chosen-found.ensures (turns c.args.index.now.heads.items c.args.index.now.links.items c.args.rows.now (pure_value c.args.key.now) (c.loop-next.next - 1) c.loop-next.next c.before-next.result c.loop-next.found
    c.index-rows-place.result c.in_ok-equal.equal c.requires c.loop-next.invariant refl c.loop-next-test.true c.index-rows-place.is c.in_ok-equal.ensures c.before-next.ensures)

pub loop-next-smaller : goal.loop-next-smaller
loop-next-smaller c =
    goes_down c.args.index.now.heads.items c.args.index.now.links.items c.args.rows.now (c.loop-next.next - 1) c.loop-next.next c.before-next.result c.requires refl c.loop-next-test.true c.loop-next.invariant.within c.before-next.ensures

pub returns : goal.returns
returns c = record {
  value = found_at_end _ _ _ _ _ _ c.loop-next.invariant c.loop-next-test.false;
  bound = found_within _ _ _ _ _ _ c.loop-next.invariant;
}
