use Rattle.cad_world_registers.proofs.ReadBack.{rising, found, only, none_made}
use Rattle.cad_worlds.specs.RowLists.{rows_listed}
use Rattle.cad_world_reading.proofs.reading.read_world.Goals as goal

pub returns-in-Ok-clause-rising : goal.returns-in-Ok-clause-rising
returns-in-Ok-clause-rising c = rising (rows_listed c.args.list) c.loaded.result c.loaded.ensures.found

pub returns-in-Ok-clause-found : goal.returns-in-Ok-clause-found
returns-in-Ok-clause-found c = found (rows_listed c.args.list) c.loaded.result c.loaded.ensures.found

pub returns-in-Ok-clause-only : goal.returns-in-Ok-clause-only
returns-in-Ok-clause-only c a v st = only (rows_listed c.args.list) c.in-Ok.parts v c.loaded.result c.in-Ok.ensures c.loaded.ensures.only a st

pub returns-in-Err-Damaged-clause-only : goal.returns-in-Err-Damaged-clause-only
returns-in-Err-Damaged-clause-only c a v st = absurd (none_made (rows_listed c.args.list) v c.in-Err-Damaged.field-0 c.in-Err-Damaged.field-0-is c.in-Err-Damaged.ensures a st)

pub loaded-requires : goal.loaded-requires
loaded-requires c = c.in-Ok.ensures
