use Rattle.std.proofs.Common.{sym}
use Rattle.cad_world.specs.State.{ok}
use Rattle.cad_assignments.proofs.taking.empty.Goals as goal

pub returns-in-Variable : goal.returns-in-Variable
returns-in-Variable c = λ accounts ready. rw c.in-Variable.is (λ j. ok (sym (c.clear_variable.ensures.tree accounts) j) (sym (c.clear_variable.ensures.state accounts) j))
