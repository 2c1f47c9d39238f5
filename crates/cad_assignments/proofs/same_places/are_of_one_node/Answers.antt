use Rattle.std.proofs.Common.{sym, ◌∙◌}
use Rattle.cad_state.specs.Views.{state_over}
use Rattle.cad_world.specs.State.{ok}
use Rattle.cad_assignments.proofs.Swaps.{nodes_asked, gone_node}
use Rattle.cad_assignments.proofs.same_places.are_of_one_node.Goals as goal

pub returns-in-Ok-true : goal.returns-in-Ok-true
returns-in-Ok-true c = nodes_asked c.args.label c.args.other c.args.state.now c.locate.new.self c.has_label.result c.locate.ensures.same c.has_label.ensures

pub returns-in-Ok-false : goal.returns-in-Ok-false
returns-in-Ok-false c = λ accounts ready j.
    ok (gone_node c.args.label c.args.other (state_over accounts c.args.state.now) (c.in-Ok-false.ensures.found accounts ready ∙ c.in-Ok-false.field-0-test) j) (sym (c.locate.ensures.same accounts) j)
