use Rattle.std.proofs.Common.{◌∙◌, sym, ap, List}
use Rattle.cad_syntax.specs.declared.text.Name.{Name}
use Rattle.cad_world.specs.Rows.{composite}
use Rattle.cad_world.specs.State.{ok, give}
use Rattle.cad_world.specs.Trees.{whole}
use Rattle.cad_rows.specs.Views.{pure_row}
use Rattle.cad_state.specs.Views.{state_over}
use Rattle.cad_making.proofs.Acts.{with_names, no_names}
use Rattle.cad_making.proofs.events.event.Goals as goal

pub returns-in-Ok-event_with : goal.returns-in-Ok-event_with
returns-in-Ok-event_with c = λ w.
    with_names (λ (names : List Name). give (whole (composite c.args.id.now 0 names) (pure_row c.args.row.items))) c.args.id.now (state_over w c.args.state.now) c.in-Ok.names (c.in-Ok.ensures w)
    ∙ ap (λ t. ok t (state_over w c.args.state.now)) (sym c.in-Ok-event_with.ensures)

pub returns-in-Err : goal.returns-in-Err
returns-in-Err c = λ w. no_names (λ (names : List Name). give (whole (composite c.args.id.now 0 names) (pure_row c.args.row.items))) c.args.id.now (state_over w c.args.state.now) c.in-Err.stop (c.in-Err.ensures w)
