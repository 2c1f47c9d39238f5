use Rattle.cad_installations.proofs.Coming.{told_parameters}
use Rattle.cad_installations.proofs.fitting.written_parameters.Goals as goal

pub returns-in-Some : goal.returns-in-Some
returns-in-Some c = told_parameters c.args.declared.now.initializer c.in-Some.signature c.as_slice.result.now c.in-Some.is c.as_slice.ensures.value
