use Rattle.std.proofs.Common.{◌∙◌, ap}
use Rattle.cad_syntax.specs.Types.{pure_type}
use Rattle.cad_declarations.specs.Typed.{dictionary, entries_of}
use Rattle.cad_typing.specs.Environments.{typed}
use Rattle.cad_infer_containers.proofs.containers.dictionary_as.Goals as goal

pub returns-in-Ok : goal.returns-in-Ok
returns-in-Ok c =
    c.typed.ensures ∙ ap (λ t. typed t (pure_type c.args.declared)) (c.dictionary_term.ensures ∙ ap (λ es. dictionary (pure_type c.args.key) (pure_type c.args.value) (entries_of es)) c.in-Ok.ensures)
