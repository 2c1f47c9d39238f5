use Rattle.std.proofs.Common.{◌≡◌, ◌∙◌, ap}
use Rattle.cad_typing.specs.Fields as spec
use Rattle.cad_typing.specs.Receivers as receivers
use Rattle.cad_environment.specs.Views.{environment_of}
use Rattle.cad_infer_members.proofs.members.contract_value.Goals as goal

pub returns : goal.returns
returns c =
    c.in_ok-value.ensures
    ∙ ap (λ (r : receivers.Receiver). spec.member_value (environment_of c.args.env) r c.args.name.now) c.in_ok-receiver.ensures
