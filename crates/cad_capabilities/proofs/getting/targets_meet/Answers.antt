use Rattle.std.proofs.Common.{Bool, ap, sym, ◌∙◌}
use Rattle.std.specs.Prelude.{List, ◌≡◌}
use Rattle.std.proofs.lemmas.Result.{IfOk-weaker}
use Rattle.cad_capabilities.specs.Code.{is_one_below}
use Rattle.cad_evaluation.specs.Capabilities.{targets_meet}
use Rattle.cad_state.specs.Views.{state_over}
use Rattle.cad_syntax.specs.Types.{pure_type, reference}
use Rattle.cad_syntax.specs.declared.types.CadType.{CadType}
use Rattle.cad_world.specs.Declared.{declarations}
use Rattle.cad_world.specs.State.{Account}
use Rattle.cad_capabilities.proofs.getting.targets_meet.Goals as goal

pub returns-in-Reference-wanted : goal.returns-in-Reference-wanted
returns-in-Reference-wanted c =
    let own = c.args.own.now in
    let wanted = c.args.wanted.now in
    let t = c.deref.result.now in
    let u = c.deref-in-Reference-wanted.result.now in
    IfOk-weaker c.is_one_below.result
    (λ (is : Bool). (w : List Account) → is ≡ is_one_below (declarations (state_over w c.args.state.now)) (pure_type t) (pure_type u))
    (λ (is : Bool). (w : List Account) → is ≡ targets_meet (declarations (state_over w c.args.state.now)) (pure_type own) (pure_type wanted))
    (λ is h w.
    let k = declarations (state_over w c.args.state.now) in
    h w
    ∙ sym (
    ap (λ (x : CadType). targets_meet k (pure_type x) (pure_type wanted)) c.in-Reference.is
    ∙ ap (λ (x : CadType). targets_meet k (reference c.in-Reference.field-0 (pure_type x)) (pure_type wanted)) (sym c.deref.ensures)
    ∙ ap (λ (x : CadType). targets_meet k (reference c.in-Reference.field-0 (pure_type t)) (pure_type x)) c.in-Reference-wanted.is
    ∙ ap (λ (x : CadType). is_one_below k (pure_type t) (pure_type x)) (sym c.deref-in-Reference-wanted.ensures)))
    c.is_one_below.ensures
