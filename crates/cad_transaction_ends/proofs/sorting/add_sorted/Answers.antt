use Rattle.std.proofs.Common.{length, map, ap, ◌∙◌, arith}
use Rattle.std.proofs.lemmas.List.{length-map}
use Rattle.std.specs.List.{insert}
use Rattle.cad_state.specs.Views.{contract_of}
use Rattle.cad_transaction_ends.proofs.Order.{place_bound, placed}
use Rattle.cad_transaction_ends.specs.Code.Sorting.{place_in}
use Rattle.cad_world.specs.Orders.{contract_before}
use Rattle.cad_transaction_ends.proofs.sorting.add_sorted.Goals as goal

pub insert-requires : goal.insert-requires
insert-requires c =
    let bound = place_bound contract_before (contract_of c.args.contract) (map contract_of c.as_slice.result.now) in
    omega (arith, c.in-Ok.ensures, bound, length-map c.as_slice.result.now contract_of, ap length c.as_slice.ensures.value, c.args.sorted.now.ok.0)

pub returns-in-Ok-insert : goal.returns-in-Ok-insert
returns-in-Ok-insert c =
    ap (map contract_of) c.in-Ok-insert.ensures.items
    ∙ ap (λ i. map contract_of (insert c.args.sorted.now.items i c.args.contract))
    (c.in-Ok.ensures ∙ ap (λ l. place_in contract_before (contract_of c.args.contract) (map contract_of l)) c.as_slice.ensures.value)
    ∙ placed contract_of contract_before c.args.contract c.args.sorted.now.items
