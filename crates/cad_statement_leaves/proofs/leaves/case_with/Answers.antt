use Rattle.cad_rows.specs.Views.{pure_tree}
use Rattle.cad_statement_leaves.proofs.PartLaws.{case_free, case_paid, case_unpaid}
use Rattle.cad_statement_leaves.proofs.leaves.case_with.Goals as goal

pub returns-then-is_free : goal.returns-then-is_free
returns-then-is_free c =
    case_free c.args.is_free (pure_tree c.args.value.now) (pure_tree c.args.case.now) c.args.state.now c.is_same.result c.if-is_free.true c.is_same.ensures

pub returns-in-Ok : goal.returns-in-Ok
returns-in-Ok c =
    case_paid c.args.is_free (pure_tree c.args.value.now) (pure_tree c.args.case.now) c.args.state.now c.compared.new.state c.is_same-in-Ok.result c.if-is_free.false c.in-Ok.ensures c.is_same-in-Ok.ensures

pub returns-in-Err : goal.returns-in-Err
returns-in-Err c =
    case_unpaid c.args.is_free (pure_tree c.args.value.now) (pure_tree c.args.case.now) c.args.state.now c.in-Err.stop c.if-is_free.false c.in-Err.ensures
