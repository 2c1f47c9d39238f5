use Rattle.std.proofs.Common.{◌∙◌, ◌<◌, map, length, drop, sym, arith}
use Rattle.std.proofs.lemmas.List.{nil_from_length}
use Rattle.std.specs.Vec.Iter.{into_iter_items}
use Rattle.cad_state.specs.Views.{contract_of}
use Rattle.cad_world_reading.proofs.Joined.{left_from, joined_turn, joined_end, one_longer}
use Rattle.cad_world_reading.proofs.contracts.contracts_from.Goals as goal

pub loop-checked-preserved : goal.loop-checked-preserved
loop-checked-preserved c =
    let longer = one_longer c.loop-checked.contracts.items c.push_contract.new.contracts.items _ c.in_default-push_contract.ensures in
    let inside : c.len-i.result < length c.args.sources.now = omega (arith, c.in-Some.ensures.len, c.loop-checked.invariant.counted) in
    record {
      counted = omega (arith, longer, c.in-Some.ensures.len, c.loop-checked.invariant.counted);
      so_far = joined_turn c.args.sources.now c.args.values.now c.index-sources-i.result c.index-values-i.result c.in-Some.checked (into_iter_items c.loop-checked.left) (into_iter_items c.next.new.self) (left_from c.args.sources.now c.args.programs.items c.args.values.now)
          c.len-i.result c.loop-checked.contracts.items c.push_contract.new.contracts.items (omega arith) inside (omega (arith, inside, c.requires.values)) c.index-sources-i.is c.index-values-i.is c.in-Some.ensures.items c.loop-checked.invariant.so_far c.in_default-push_contract.ensures;
    }

pub returns : goal.returns
returns c =
    joined_end (drop (length c.loop-checked.contracts.items) c.args.sources.now) (into_iter_items c.loop-checked.left) (drop (length c.loop-checked.contracts.items) c.args.values.now) (map contract_of c.loop-checked.contracts.items) (left_from c.args.sources.now c.args.programs.items c.args.values.now)
    (nil_from_length (into_iter_items c.loop-checked.left) (sym c.loop-checked.left.rest.ok.0 ∙ c.in_default.ensures.cases.0)) c.loop-checked.invariant.so_far
