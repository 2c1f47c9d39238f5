use Rattle.std.proofs.Common.{arith}
use Rattle.cad_rows.specs.Views.{pure_tree}
use Rattle.cad_state.specs.Views.{state_over}
use Rattle.cad_making.proofs.Seen.{links}
use Rattle.cad_making.proofs.results.link_result.Goals as goal

pub returns-in-Ok : goal.returns-in-Ok
returns-in-Ok c = λ w. links (state_over w c.args.state.now) (state_over w c.name_result.new.state) c.args.optionals _ (pure_tree c.link.result) (omega arith) (c.in-Ok.ensures w) c.link.ensures
