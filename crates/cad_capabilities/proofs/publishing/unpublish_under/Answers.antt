use Rattle.std.proofs.Common.{Option, option_map, ap, sym, ◌∙◌}
use Rattle.cad_capabilities.proofs.Acts.{carries_same, unpublished_none, unpublished_so}
use Rattle.cad_capabilities.specs.Code.{unpublished_now, unpublished_under}
use Rattle.cad_capabilities.specs.Views.{capability_of}
use Rattle.cad_evaluation.specs.Capabilities.{published_at}
use Rattle.cad_rows.specs.Views.{pure_tree}
use Rattle.cad_state.specs.Views.{state_over}
use Rattle.cad_values.specs.declared.value.Cap.{Cap}
use Rattle.cad_world.specs.Rows.{Tree}
use Rattle.cad_world.specs.State.{ok}
use Rattle.cad_capabilities.proofs.publishing.unpublish_under.Goals as goal

pub returns-in-Ok-Some : goal.returns-in-Ok-Some
returns-in-Ok-Some c =
    let a = c.args.address in
    let name = c.args.name.now in
    let x = capability_of c.in-Ok-Some.cap in
    carries_same pure_tree (unpublished_under a name) (unpublished_now a name x) c.args.state.now c.unpublish_now.new.state c.unpublish_now.result
    (λ w. unpublished_so a name (published_at (state_over w c.args.state.now) a name) x (state_over w c.args.state.now) (sym (ap (λ (o : Option Cap). option_map capability_of o) c.in-Ok-Some.field-0-is) ∙ c.in-Ok-Some.ensures w))
    c.unpublish_now.ensures

pub returns-in-Ok-None : goal.returns-in-Ok-None
returns-in-Ok-None c = λ w.
    let s = state_over w c.args.state.now in
    unpublished_none c.args.address c.args.name.now (published_at s c.args.address c.args.name.now) s (sym (ap (λ (o : Option Cap). option_map capability_of o) c.in-Ok-None.field-0-is) ∙ c.in-Ok-None.ensures w)
    ∙ ap (λ (t : Tree). ok t s) (sym c.nil_tree.ensures)
