use Rattle.std.proofs.Common.{Bool, ap, sym, ◌∙◌}
use Rattle.std.specs.Prelude.{List, ◌≡◌, ◌||◌}
use Rattle.std.proofs.lemmas.Result.{IfOk-weaker}
use Rattle.cad_capabilities.specs.Code.{is_one_below}
use Rattle.cad_state.specs.Views.{state_over}
use Rattle.cad_syntax.specs.Types.{pure_type}
use Rattle.cad_types.specs.Below.{below}
use Rattle.cad_world.specs.Declared.{declarations}
use Rattle.cad_world.specs.State.{Account}
use Rattle.cad_capabilities.proofs.getting.is_one_below.Goals as goal

pub returns-in-Ok-true : goal.returns-in-Ok-true
returns-in-Ok-true c = λ w.
    let k = declarations (state_over w c.args.state.now) in
    ap (λ (b : Bool). b || below k (pure_type c.args.u.now) (pure_type c.args.t.now)) (sym c.in-Ok-true.field-0-test ∙ c.in-Ok-true.ensures w)

pub returns-in-Ok-false : goal.returns-in-Ok-false
returns-in-Ok-false c =
    let t = pure_type c.args.t.now in
    let u = pure_type c.args.u.now in
    IfOk-weaker c.is_below-in-Ok-false.result
    (λ (is : Bool). (w : List Account) → is ≡ below (declarations (state_over w c.args.state.now)) u t)
    (λ (is : Bool). (w : List Account) → is ≡ is_one_below (declarations (state_over w c.args.state.now)) t u)
    (λ is h w. let k = declarations (state_over w c.args.state.now) in h w ∙ ap (λ (b : Bool). b || below k u t) (sym c.in-Ok-false.field-0-test ∙ c.in-Ok-false.ensures w))
    c.is_below-in-Ok-false.ensures
