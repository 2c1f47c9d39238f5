use Rattle.std.proofs.Common.{◌≡◌, true, List, sym, subst}
use Rattle.cad_accounts.specs.declared.row.Row.{Row}
use Rattle.cad_accounts.specs.Registers.{are_rising}
use Rattle.cad_store.proofs.store.Store.blocks.Goals as goal

pub returns-clause-rising : goal.returns-clause-rising
returns-clause-rising c = subst (λ (rows : List Row). are_rising rows ≡ true) (sym c.blocks-2.ensures) c.args.self.now.registers.ascending
