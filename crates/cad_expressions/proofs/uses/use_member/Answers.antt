use Rattle.std.proofs.Common.{map, subst, sym}
use Rattle.cad_evaluation.specs.Builtins.{member}
use Rattle.cad_expression_leaves.specs.Passed.{at_spot, receiver_of}
use Rattle.cad_rows.specs.Views.{pure_row}
use Rattle.cad_state.specs.Views.{FindsAndCarriesOut}
use Rattle.cad_syntax.specs.Types.{pure_type}
use Rattle.cad_types.specs.declared.builtin.Builtin.{Builtin}
use Rattle.cad_expression_leaves.specs.Views.{tree_in}
use Rattle.cad_expressions.proofs.uses.use_member.Goals as goal

pub returns-in-ContractsAdd : goal.returns-in-ContractsAdd
returns-in-ContractsAdd g c =
    subst (λ (b : Builtin). FindsAndCarriesOut tree_in (at_spot (receiver_of c.args.receiver.now) (λ spot. member (g.E.Evaluator.front c.args.evaluator.now) (g.E.Evaluator.calls c.args.evaluator.now) b (map pure_type c.args.types.now) spot (pure_row c.args.row.items))) c.args.state.now c.add_contract.new.state c.add_contract.result)
    (sym c.in-ContractsAdd.is) c.add_contract.ensures

pub returns-in_default : goal.returns-in_default
returns-in_default g c = c.member_boxed.ensures (g.E.Evaluator.front c.args.evaluator.now) (g.E.Evaluator.calls c.args.evaluator.now)
