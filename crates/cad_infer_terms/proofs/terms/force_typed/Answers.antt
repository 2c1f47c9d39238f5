use Rattle.std.proofs.Common.{◌∙◌, ap}
use Rattle.cad_syntax.specs.Types.{pure_type}
use Rattle.cad_typing.specs.Environments.{typed}
use Rattle.cad_infer_terms.proofs.terms.force_typed.Goals as goal

pub returns-in-Ok : goal.returns-in-Ok
returns-in-Ok c = c.typed.ensures ∙ ap (λ t. typed t (pure_type c.args.declared)) c.in-Ok.ensures
