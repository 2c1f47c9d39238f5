use Rattle.std.proofs.Common.{◌≡◌, ℕ, Bool, true, false, refl, sym, ◌∙◌}
use Rattle.std.proofs.lemmas.Bool.{false≢true}
use Rattle.std.specs.Prelude.{◌&&◌, if◌then◌else◌}
use Rattle.cad_evaluation.specs.Capabilities.{grants_type, targets_meet}
use Rattle.cad_state.specs.Views.{state_over}
use Rattle.cad_syntax.specs.Types.{pure_type}
use Rattle.cad_world.specs.Declared.{declarations}
use Rattle.cad_capabilities.proofs.getting.number_granted.Goals as goal

both : (a b : Bool) (n : ℕ) → a ≡ true → b ≡ true → n ≡ (if a && b then n else 0)
both true true n e f = refl
both true false n e f = absurd (false≢true f)
both false b n e f = absurd (false≢true e)

not_both : (a b : Bool) (n : ℕ) → b ≡ false → 0 ≡ (if a && b then n else 0)
not_both true true n f = absurd (false≢true (sym f))
not_both true false n f = refl
not_both false b n f = refl

pub returns-in-Ok-true : goal.returns-in-Ok-true
returns-in-Ok-true c = λ w.
    let lent = pure_type c.args.publication.now.lent in
    let wanted = pure_type c.args.wanted.now in
    both (grants_type lent wanted) (targets_meet (declarations (state_over w c.args.state.now)) lent wanted) c.args.publication.now.number
    (sym c.grants_type.ensures ∙ c.if-not-grants_type.false) (sym (c.in-Ok-true.ensures w) ∙ c.in-Ok-true.field-0-test)

pub returns-in-Ok-false : goal.returns-in-Ok-false
returns-in-Ok-false c = λ w.
    let lent = pure_type c.args.publication.now.lent in
    let wanted = pure_type c.args.wanted.now in
    not_both (grants_type lent wanted) (targets_meet (declarations (state_over w c.args.state.now)) lent wanted) c.args.publication.now.number
    (sym (c.in-Ok-false.ensures w) ∙ c.in-Ok-false.field-0-test)
