use Rattle.std.proofs.Common.{Bool, ap, sym, ◌∙◌}
use Rattle.cad_capabilities.proofs.Acts.{carries_same}
use Rattle.cad_capabilities.specs.Code.{issued_now, issued_numbered}
use Rattle.cad_rows.specs.Views.{pure_tree}
use Rattle.cad_state.specs.Views.{state_over}
use Rattle.cad_syntax.specs.Types.{pure_type}
use Rattle.cad_world.specs.State.{require}
use Rattle.cad_capabilities.proofs.issuing.issue_numbered.Goals as goal

pub returns-then-is_left : goal.returns-then-is_left
returns-then-is_left c =
    let a = c.args.address in
    let type = pure_type c.args.lent.now in
    let target = c.args.target.now in
    let n = c.args.number in
    carries_same pure_tree (issued_numbered a type target n) (issued_now a type target n) c.args.state.now c.issue_next.new.state c.issue_next.result
    (λ w. ap (λ (is : Bool). require 135 is (issued_now a type target n) (state_over w c.args.state.now)) (sym c.is_left.ensures ∙ c.if-is_left.true))
    c.issue_next.ensures
