use Rattle.cad_evaluation.specs.Arguments.{with_argument, with_identifier}
use Rattle.cad_evaluation.specs.Storage.{saved}
use Rattle.cad_outcomes.specs.Outcomes.{Does}
use Rattle.cad_rows.specs.Views.{pure_row, pure_tree}
use Rattle.cad_state.specs.Views.{state_over}
use Rattle.cad_storage.specs.Code.{at_stored}
use Rattle.cad_world.specs.State.{guard}
use Rattle.std.proofs.Common.{Bool, subst, sym, ◌∙◌}
use Rattle.cad_syntax.specs.declared.address.Domain.TheVariants as d
use Rattle.cad_storage.proofs.saves.save.Goals as goal

pub returns-then-is_account : goal.returns-then-is_account
returns-then-is_account c = λ w.
    let s = state_over w c.args.state.now in
    let p = with_argument (pure_row c.args.row.items) (λ t. with_identifier d.Storage 1 (pure_row c.args.row.items) (λ n. at_stored (saved c.args.address n t) c.args.address n)) in
    subst (λ (b : Bool). Does pure_tree (guard b p) s (state_over w c.save_arguments.new.state) c.save_arguments.result) (sym (c.is_account.ensures w ∙ c.if-is_account.true)) (c.save_arguments.ensures w)
