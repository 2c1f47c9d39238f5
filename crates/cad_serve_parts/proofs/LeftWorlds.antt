-- The World that a run leaves, by its accounts.
use Rattle.std.proofs.Common.{◌≡◌, ℕ, List, map, ap}
use Rattle.std.specs.declared.alloc.Global.{Global}
use Rattle.std.specs.declared.vec.Vec.{Vec}
use Rattle.cad_run_worlds.specs.Worlds.{run_world}
use Rattle.cad_run_worlds.specs.declared.run_worlds.RunWorld.{RunWorld}
use Rattle.cad_state.specs.Views.{accounts_over, contract_of}
use Rattle.cad_state.specs.declared.state.Account.{Account}
use Rattle.cad_state.specs.declared.state.Accounts.{Accounts}
use Rattle.cad_state.specs.declared.state.Accounts.TheVariants as v
use Rattle.cad_state.specs.declared.state.Known.{Known}
use Rattle.cad_world.specs.State as s
use Rattle.cad_worlds.specs.Parts.{world_over}
use Rattle.cad_worlds.specs.Standing.{world_of}

abbrev with_accounts : RunWorld → List s.Account → s.World
with_accounts x all = record { accounts = all; contracts = map contract_of x.contracts.items; next_identity = x.next_identity }

-- all of them
pub all_left : (base : List s.Account) (x : RunWorld) (all : Vec Account Global) → x.accounts ≡ v.All all → run_world base x ≡ world_of (record { accounts = all; contracts = x.contracts; next_identity = x.next_identity })
unfolding accounts_over
all_left base x all is = ap (λ (y : Accounts). with_accounts x (accounts_over base y)) is

-- those that were known
pub part_left : (base : List s.Account) (x : RunWorld) (count : ℕ) (known : Vec Known Global) → x.accounts ≡ v.Part count known
    → run_world base x ≡ world_over base (record { count = count; known = known; contracts = x.contracts; next_identity = x.next_identity })
unfolding accounts_over
part_left base x count known is = ap (λ (y : Accounts). with_accounts x (accounts_over base y)) is
