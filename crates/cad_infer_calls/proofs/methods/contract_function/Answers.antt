use Rattle.std.proofs.Common.{◌≡◌, ◌∙◌, ap, map}
use Rattle.cad_grammar.specs.Trees.{annotations_of}
use Rattle.cad_grammar.specs.Views.{annotation_of}
use Rattle.cad_typing.specs.Calls as spec
use Rattle.cad_typing.specs.Receivers as receivers
use Rattle.cad_environment.specs.Views.{environment_of}
use Rattle.cad_infer_calls.proofs.methods.contract_function.Goals as goal

pub returns : goal.returns
returns c =
    c.in_ok-call.ensures
    ∙ ap (λ (r : receivers.Receiver). spec.method_call (environment_of c.args.env) (annotations_of (map annotation_of c.args.types.now)) c.args.name.now r) c.in_ok-receiver.ensures
