use Rattle.std.proofs.Common.{arith, add-one}
use Rattle.cad_world_registers.proofs.Listed.{counted_in, held_turn, held_end}
use Rattle.cad_world_registers.proofs.counting.count_registers.Goals as goal

pub loop-account-preserved : goal.loop-account-preserved
loop-account-preserved c =
    rw add-one (held_turn c.args.accounts.now c.loop-account.account-index c.account-item.result c.loop-account.count c.in_ok-count.count (counted_in c.args.accounts.now) c.loop-account-test.true c.account-item.is c.loop-account.invariant c.in_ok-count.ensures)

pub returns : goal.returns
returns c = held_end c.args.accounts.now c.loop-account.account-index c.loop-account.count (counted_in c.args.accounts.now) (omega arith) c.loop-account.invariant
