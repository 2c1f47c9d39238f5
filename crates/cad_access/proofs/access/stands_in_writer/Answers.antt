use Rattle.std.proofs.Common.{sym, ◌∙◌}
use Rattle.cad_world.specs.Declared.{is_within}
use Rattle.cad_access.specs.RunContracts.{run_of}
use Rattle.cad_access.proofs.Holders.{else_writer}
use Rattle.cad_access.proofs.access.stands_in_writer.Goals as goal

pub returns-else-is_writer : goal.returns-else-is_writer
returns-else-is_writer c =
    else_writer (run_of c.args.state.now) c.args.name.now c.args.id.now (λ holder. is_within holder c.args.code.now) c.interfaces_of.result.now c.some_is_writer.result
    (sym c.is_writer.ensures ∙ c.if-is_writer.false) c.interfaces_of.ensures c.some_is_writer.ensures
