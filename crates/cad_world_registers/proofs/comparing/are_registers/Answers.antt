use Rattle.std.proofs.Common.{subst}
use Rattle.cad_worlds.specs.RowLists.{rows_listed}
use Rattle.cad_worlds.specs.Standing.{world_of}
use Rattle.cad_world_registers.specs.Listed.{IsBehind, front}
use Rattle.cad_world_registers.proofs.Judged.{out_of_order, other_front, judged}
use Rattle.cad_world_registers.proofs.comparing.are_registers.Goals as goal

pub returns-then-not-are_in_order : goal.returns-then-not-are_in_order
returns-then-not-are_in_order c = out_of_order (rows_listed c.args.list) (world_of c.args.world.now) c.are_in_order.result c.requires.made c.if-not-are_in_order.true c.are_in_order.ensures.rise

pub returns-in-Ok-Some : goal.returns-in-Ok-Some
returns-in-Ok-Some c =
    let w = world_of c.args.world.now in
    let rows = rows_listed c.args.list in
    judged rows (rows_listed c.in-Ok-Some.left) w c.are_as_many.result (c.are_in_order.ensures.fit c.if-not-are_in_order.false) c.requires.made c.requires.sound (c.are_in_order.ensures.rise.0 c.if-not-are_in_order.false)
    (subst (IsBehind (front w) rows) c.in-Ok-Some.field-0-is c.in-Ok-Some.ensures) c.are_as_many.ensures

pub returns-in-Ok-None : goal.returns-in-Ok-None
returns-in-Ok-None c =
    let w = world_of c.args.world.now in
    let rows = rows_listed c.args.list in
    other_front rows w (subst (IsBehind (front w) rows) c.in-Ok-None.field-0-is c.in-Ok-None.ensures)
