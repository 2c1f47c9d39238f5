use Rattle.std.specs.Prelude.{Option}
use Rattle.std.specs.Option.{option_or}
use Rattle.std.proofs.Common.{◌≡◌, ◌∙◌, ap, map}
use Rattle.cad_syntax.specs.declared.type_id.TypeId.{TypeId}
use Rattle.cad_grammar.specs.Trees.{annotations_of}
use Rattle.cad_grammar.specs.Views.{annotation_of}
use Rattle.cad_typing.specs.Calls as spec
use Rattle.cad_typing.specs.Receivers as receivers
use Rattle.cad_environment.specs.Views.{environment_of}
use Rattle.cad_infer_calls.proofs.methods.contract_call.Goals as goal

pub returns : goal.returns
returns c =
    let same : c.in_ok-own.own ≡ c.args.id.now = c.in_ok-own.ensures.cases in
    c.in_ok-call.ensures
    ∙ ap (λ (o : Option spec.Call). option_or o (spec.type_inside_call (environment_of c.args.env) (annotations_of (map annotation_of c.args.types.now)) c.args.id.now c.args.name.now))
    (c.in_ok-found.ensures
    ∙ ap (λ (id : TypeId). spec.method_call (environment_of c.args.env) (annotations_of (map annotation_of c.args.types.now)) c.args.name.now (receivers.of_contract id)) same)
