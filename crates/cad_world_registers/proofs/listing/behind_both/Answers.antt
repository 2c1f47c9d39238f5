use Rattle.std.proofs.Common.{map}
use Rattle.cad_worlds.specs.RowLists.{rows_listed}
use Rattle.cad_worlds.specs.Standing.{register_of}
use Rattle.cad_world_registers.proofs.Listed.{nexts_from, then_behind, none_behind}
use Rattle.cad_world_registers.proofs.listing.behind_both.Goals as goal

pub returns-in-Some : goal.returns-in-Some
returns-in-Some c = then_behind (nexts_from c.args.accounts.now 0) (map register_of c.args.contracts.now) (rows_listed c.args.list) (rows_listed c.in-Some.left) c.behind_rows.result c.in-Some.ensures c.behind_rows.ensures

pub returns-in-None : goal.returns-in-None
returns-in-None c = none_behind (nexts_from c.args.accounts.now 0) (map register_of c.args.contracts.now) (rows_listed c.args.list) c.in-None.ensures
