use Rattle.cad_commands.proofs.Lines.{found}
use Rattle.cad_commands.proofs.field.taken.Goals as goal

pub returns-in-Object : goal.returns-in-Object
returns-in-Object c = found c.args.request c.in-Object.members c.args.field.now c.remove.result c.in-Object.is c.remove.ensures.value
