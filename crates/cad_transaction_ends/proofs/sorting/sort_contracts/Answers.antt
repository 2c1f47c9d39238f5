use Rattle.std.proofs.Common.{map, ap, sym, ◌∙◌}
use Rattle.cad_state.specs.Views.{contract_of}
use Rattle.cad_transaction_ends.proofs.Order.{sorted_onto, onto_turn}
use Rattle.cad_world.specs.Orders.{contract_before}
use Rattle.cad_transaction_ends.proofs.sorting.sort_contracts.Goals as goal

pub loop-contract-preserved : goal.loop-contract-preserved
loop-contract-preserved c =
    ap (sorted_onto contract_before (map contract_of c.pop.new.self.items)) c.in-Ok.ensures
    ∙ sym (onto_turn contract_of contract_before c.loop-contract.contracts.items c.pop.new.self.items c.in-Some.contract (map contract_of c.loop-contract.sorted.items) c.in-Some.ensures.items)
    ∙ c.loop-contract.invariant
