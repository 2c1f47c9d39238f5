use Rattle.std.proofs.Common.{ap, subst, sym, ◌∙◌}
use Rattle.cad_casts.proofs.References.{reference_is}
use Rattle.cad_receivers.specs.Settled.{settled_value}
use Rattle.cad_receivers.specs.Views.{settled_of}
use Rattle.cad_state.specs.Views.{FindsAndCarriesOut}
use Rattle.cad_values.specs.Values.{PureValue, pure_value}
use Rattle.cad_receivers.proofs.settle.settle_value.Goals as goal

pub returns-in-Reference : goal.returns-in-Reference
returns-in-Reference c =
    subst (λ (x : PureValue). FindsAndCarriesOut settled_of (settled_value x) c.args.state.now c.settle_target.new.state c.settle_target.result)
    (sym (ap pure_value c.in-Reference.is ∙ reference_is c.in-Reference.reference)) c.settle_target.ensures
