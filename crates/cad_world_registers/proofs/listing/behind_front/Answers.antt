use Rattle.std.proofs.Common.{◌++◌, map, ap, ◌∙◌}
use Rattle.cad_state.specs.Views.{account_of}
use Rattle.cad_world.specs.Registers.{next_register, of_accounts}
use Rattle.cad_worlds.specs.RowLists.{rows_listed}
use Rattle.cad_worlds.specs.Standing.{register_of, world_of}
use Rattle.cad_world_registers.proofs.Listed.{then_behind, others_behind}
use Rattle.cad_world_registers.specs.Listed.{front}
use Rattle.cad_world_registers.proofs.listing.behind_front.Goals as goal

pub returns-in-Some : goal.returns-in-Some
returns-in-Some c =
    let w = world_of c.args.world.now in
    let nexts = of_accounts next_register 1 (map account_of c.as_slice-accounts.result.now) in
    let head = ap (map register_of) c.as_slice.ensures.value ∙ c.in_ok-head.ensures in
    let contracts = ap (map register_of) c.as_slice-in-Some.ensures.value ∙ c.in_ok-contracts.ensures in
    let accounts = ap (λ xs. of_accounts next_register 1 (map account_of xs)) c.as_slice-accounts.ensures.value in
    others_behind (map register_of c.as_slice.result.now ++ (nexts ++ map register_of c.as_slice-in-Some.result.now)) (front w) (rows_listed c.args.list) c.behind_both.result (λ i. head i ++ (accounts i ++ contracts i))
    (then_behind (map register_of c.as_slice.result.now) (nexts ++ map register_of c.as_slice-in-Some.result.now) (rows_listed c.args.list) (rows_listed c.in-Some.left) c.behind_both.result c.in-Some.ensures c.behind_both.ensures)
