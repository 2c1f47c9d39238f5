use Rattle.cad_declarations.specs.Views.{function_of}
use Rattle.cad_pieces.proofs.Lacking.{lacks_exactly}
use Rattle.cad_pieces.proofs.returns.lacks_return.Goals as goal

pub returns : goal.returns
returns c = lacks_exactly (function_of c.args.function.now) c.lacks.result c.lacks.ensures
