use Rattle.std.proofs.Common.{sym, ◌∙◌}
use Rattle.cad_capabilities.proofs.Acts.{carries_same, issued_nowhere, issued_so}
use Rattle.cad_capabilities.specs.Code.{issued_numbered, issued_to}
use Rattle.cad_rows.specs.Views.{pure_tree}
use Rattle.cad_state.specs.Views.{state_over}
use Rattle.cad_syntax.specs.Types.{pure_type}
use Rattle.cad_world.specs.Labels.{account_at}
use Rattle.cad_capabilities.proofs.issuing.issue_to.Goals as goal

pub returns-in-Ok-Some : goal.returns-in-Ok-Some
returns-in-Ok-Some c =
    let a = c.args.address in
    let type = pure_type c.args.lent.now in
    let target = c.args.target.now in
    let n = c.in-Ok-Some.number in
    carries_same pure_tree (issued_to a type target) (issued_numbered a type target n) c.args.state.now c.issue_numbered.new.state c.issue_numbered.result
    (λ w. let s = state_over w c.args.state.now in issued_so a type target (account_at s.accounts a.0) n s (sym c.in-Ok-Some.field-0-is ∙ c.in-Ok-Some.ensures w))
    c.issue_numbered.ensures

pub returns-in-Ok-None : goal.returns-in-Ok-None
returns-in-Ok-None c = λ w.
    let s = state_over w c.args.state.now in
    issued_nowhere c.args.address (pure_type c.args.lent.now) c.args.target.now (account_at s.accounts c.args.address.0) s (sym c.in-Ok-None.field-0-is ∙ c.in-Ok-None.ensures w)
