use Rattle.std.proofs.Common.{◌≡◌, ℕ, suc, ◌-◌, ◌<◌, map, drop, List, Bor, cond, Some, arith, sym, subst}
use Rattle.std.specs.HashMap.{get}
use Rattle.cad_syntax.specs.TypeIds.{same_id}
use Rattle.cad_syntax.specs.declared.type_id.TypeId.{TypeId}
use Rattle.cad_types.proofs.Placed.{ArePlacedFrom, placed_more, drop_before}
use Rattle.cad_types.proofs.places.places_of.Goals as goal

pub loop-left-preserved : goal.loop-left-preserved
loop-left-preserved c =
    let left = c.loop-left.left in
    let ids = c.args.ids.now in
    let now = λ (id : Bor TypeId). id.now in
    let before = c.loop-left.invariant in
    let within = before.within in
    let some : 0 < left = c.loop-left-test.true in
    let other = c.index-ids-left.result in
    let old = get same_id c.loop-left.places in
    let new = get same_id c.insert.new.self in
    let last : suc (left - 1) ≡ left = omega (arith, some) in
    let was = subst (λ (n : ℕ). ArePlacedFrom old n (map now (drop left ids))) (sym last) before.placed in
    let more = drop_before now ids left other some within c.index-ids-left.is in
    let adds = subst (λ (i : TypeId). (id : TypeId) → new id ≡ cond (same_id i id) (Some (left - 1)) (old id)) c.in_ok-clone.ensures.cases c.in_ok-insert.ensures.updates.0 in
    record {
      within = omega (arith, within);
      placed = subst (λ (x : List TypeId). ArePlacedFrom new (left - 1) x) (sym more) (placed_more old new (now other) (left - 1) (map now (drop left ids)) adds was);
    }
