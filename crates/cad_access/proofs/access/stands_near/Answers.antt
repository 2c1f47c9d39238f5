use Rattle.std.proofs.Common.{sym, ◌∙◌}
use Rattle.cad_access.specs.Reaches.{reaches}
use Rattle.cad_access.specs.RunContracts.{run_of}
use Rattle.cad_access.proofs.Holders.{else_holder}
use Rattle.cad_access.proofs.access.stands_near.Goals as goal

pub returns-else-reaches : goal.returns-else-reaches
returns-else-reaches c =
    else_holder (run_of c.args.state.now) c.args.name.now c.args.id.now (λ holder. reaches c.args.reach holder c.args.code.now) c.interfaces_of.result.now c.some_is_holder.result
    (sym c.reaches.ensures ∙ c.if-reaches.false) c.interfaces_of.ensures c.some_is_holder.ensures
