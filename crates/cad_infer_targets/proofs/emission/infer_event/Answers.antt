use Rattle.std.specs.Prelude.{option_map}
use Rattle.std.proofs.Common.{rules}
use Rattle.cad_typing.specs.Places as spec
use Rattle.cad_environment.specs.Views.{environment_of}
use Rattle.cad_infer_targets.specs.Views.{emission_of}
use Rattle.cad_infer_targets.proofs.Arms.{call_arm}
use Rattle.cad_infer_targets.proofs.emission.infer_event.Goals as goal

pub returns-in-Call : goal.returns-in-Call
returns-in-Call c =
    call_arm (option_map emission_of) (spec.infer_event (environment_of c.args.env)) c.called_event.result c.args.e.now c.in-Call.function c.in-Call.type_arguments c.in-Call.arguments
    c.deref.result.now c.deref-in-Call.result.now c.deref-in-Call-2.result.now
    c.in-Call.is (search rules) (search rules) (search rules) c.called_event.ensures
