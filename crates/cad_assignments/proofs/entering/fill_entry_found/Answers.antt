use Rattle.std.proofs.Common.{sym}
use Rattle.cad_evaluation.specs.Changing.{fill}
use Rattle.cad_outcomes.specs.Outcomes.{no_value}
use Rattle.cad_rows.specs.Views.{pure_tree}
use Rattle.cad_state.specs.Views.{state_over}
use Rattle.cad_state.proofs.Finding.{find_same}
use Rattle.cad_values.specs.Values.{pure_value}
use Rattle.cad_world.specs.Locations.{entry}
use Rattle.cad_assignments.specs.Code.Fills.{dropped, set_under, refused}
use Rattle.cad_assignments.proofs.Fills.{entry_nothing, entry_content, entry_refused}
use Rattle.cad_assignments.proofs.entering.fill_entry_found.Goals as goal

pub returns-in-Nothing : goal.returns-in-Nothing
returns-in-Nothing c =
    let k = pure_value c.args.key.now in
    let t = pure_tree c.args.tree in
    find_same no_value (fill (entry c.args.label k) t) (dropped c.args.label k) c.args.state.now c.remove_key.new.state c.remove_key.result
    (λ accounts ready. entry_nothing c.args.label k t (state_over accounts c.args.state.now) (sym c.in-Nothing.ensures)) c.remove_key.ensures

pub returns-in-Content : goal.returns-in-Content
returns-in-Content c =
    let k = pure_value c.args.key.now in
    let t = pure_tree c.args.tree in
    find_same no_value (fill (entry c.args.label k) t) (set_under c.args.label k (pure_tree c.in-Content.content)) c.args.state.now c.set_entry.new.state c.set_entry.result
    (λ accounts ready. entry_content c.args.label k t (pure_tree c.in-Content.content) (state_over accounts c.args.state.now) (sym c.in-Content.ensures)) c.set_entry.ensures

pub returns-in-NoOptional : goal.returns-in-NoOptional
returns-in-NoOptional c =
    let k = pure_value c.args.key.now in
    let t = pure_tree c.args.tree in
    find_same no_value (fill (entry c.args.label k) t) (refused c.args.label) c.args.state.now c.args.state.now c.refuse.result
    (λ accounts ready. entry_refused c.args.label k t (state_over accounts c.args.state.now) (sym c.in-NoOptional.ensures)) c.refuse.ensures
