use Rattle.std.specs.Prelude.{option_map}
use Rattle.std.proofs.Common.{rules}
use Rattle.cad_syntax.specs.Types.{pure_type}
use Rattle.cad_typing.specs.Places as spec
use Rattle.cad_environment.specs.Views.{environment_of}
use Rattle.cad_infer_targets.proofs.Arms.{member_arm}
use Rattle.cad_infer_targets.proofs.emission.called_type.Goals as goal

pub returns-in-Member : goal.returns-in-Member
returns-in-Member c =
    member_arm (option_map pure_type) (spec.called_type (environment_of c.args.env)) c.member_type.result c.args.f.now c.in-Member.a c.in-Member.name c.deref.result.now
    c.in-Member.is (search rules) c.member_type.ensures
