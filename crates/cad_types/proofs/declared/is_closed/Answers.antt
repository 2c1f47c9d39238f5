use Rattle.std.proofs.Common.{map}
use Rattle.cad_types.specs.Declarations.{declaration_of}
use Rattle.cad_types.proofs.Closed.{closed_tells}
use Rattle.cad_types.proofs.declared.is_closed.Goals as goal

pub returns : goal.returns
returns c = closed_tells (map declaration_of c.args.declared.now) c.all_closed.result c.all_closed.ensures
