use Rattle.std.specs.Prelude.{option_map}
use Rattle.std.proofs.Common.{rules}
use Rattle.cad_typing.specs.Places as spec
use Rattle.cad_environment.specs.Views.{environment_of}
use Rattle.cad_infer_targets.specs.Views.{target_of}
use Rattle.cad_infer_targets.proofs.Arms.{member_arm}
use Rattle.cad_infer_targets.proofs.target.infer_target.Goals as goal

pub returns-in-Member : goal.returns-in-Member
returns-in-Member c =
    member_arm (option_map target_of) (spec.infer_target (environment_of c.args.env)) c.member_target.result c.args.e.now c.in-Member.a c.in-Member.name c.deref.result.now
    c.in-Member.is (search rules) c.member_target.ensures
