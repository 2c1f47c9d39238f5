use Rattle.std.proofs.Common.{◌∙◌, ap}
use Rattle.cad_syntax.specs.Types.{pure_type}
use Rattle.cad_declarations.specs.Typed.{array, terms_of}
use Rattle.cad_typing.specs.Environments.{typed}
use Rattle.cad_infer_containers.proofs.containers.array_with.Goals as goal

pub returns-in-Ok : goal.returns-in-Ok
returns-in-Ok c =
    c.typed.ensures ∙ ap (λ t. typed t (pure_type c.args.declared)) (c.array_term.ensures ∙ ap (λ ts. array (pure_type c.args.t) (terms_of ts)) c.in-Ok.ensures)
