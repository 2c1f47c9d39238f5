use Rattle.std.proofs.Common.{Bor, ◌≡◌, ℕ, List, Option, Some, option_map, ap, sym, ◌∙◌}
use Rattle.std.proofs.lemmas.Result.{IfOk-weaker}
use Rattle.cad_evaluation.specs.Capabilities.{number_as, published_at}
use Rattle.cad_state.specs.Views.{publication_of, state_over}
use Rattle.cad_state.specs.declared.state.Publication.{Publication}
use Rattle.cad_syntax.specs.Types.{pure_type}
use Rattle.cad_world.specs.Declared.{declarations}
use Rattle.cad_world.specs.State as world
use Rattle.cad_capabilities.proofs.getting.number_under.Goals as goal

pub returns-in-Ok-Some : goal.returns-in-Ok-Some
returns-in-Ok-Some c =
    let x = c.args.state.now in
    let wanted = pure_type c.args.wanted.now in
    IfOk-weaker c.number_granted.result
    (λ (n : ℕ). (w : List world.Account) → n ≡ number_as (declarations (state_over w x)) wanted (Some (publication_of c.in-Ok-Some.publication.now)))
    (λ (n : ℕ). (w : List world.Account) → n ≡ number_as (declarations (state_over w x)) wanted (published_at (state_over w x) c.args.address c.args.name.now))
    (λ n h w.
    h w
    ∙ ap (λ (o : Option world.Publication). number_as (declarations (state_over w x)) wanted o)
    (sym (ap (λ (o : Option (Bor Publication)). option_map (λ (p : Bor Publication). publication_of p.now) o) c.in-Ok-Some.field-0-is) ∙ c.in-Ok-Some.ensures w))
    c.number_granted.ensures
