use Rattle.cad_expression_leaves.proofs.Plain.{value_carried, copy_carried, number_arm, address_arm, bool_arm, nil_arm, string_arm, character_arm, path_arm, case_arm, before_arm}
use Rattle.cad_rows.specs.Views.{pure_tree}
use Rattle.std.proofs.Common.{Ok}
use Rattle.cad_expression_leaves.proofs.literals.literal_tree.Goals as goal

pub returns-in-Number : goal.returns-in-Number
returns-in-Number c front calls = number_arm front calls c.args.term.now c.args.state.now (Ok c.number_tree.result) _ c.in-Number.is (value_carried pure_tree _ _ c.args.state.now c.number_tree.ensures)

pub returns-in-Address : goal.returns-in-Address
returns-in-Address c front calls = address_arm front calls c.args.term.now c.args.state.now (Ok c.address_tree.result) _ c.in-Address.is (value_carried pure_tree _ _ c.args.state.now c.address_tree.ensures)

pub returns-in-Bool : goal.returns-in-Bool
returns-in-Bool c front calls = bool_arm front calls c.args.term.now c.args.state.now (Ok c.bool_tree.result) _ c.in-Bool.is (value_carried pure_tree _ _ c.args.state.now c.bool_tree.ensures)

pub returns-in-Nil : goal.returns-in-Nil
returns-in-Nil c front calls = nil_arm front calls c.args.term.now c.args.state.now (Ok c.nil_tree.result) c.in-Nil.is (value_carried pure_tree _ _ c.args.state.now c.nil_tree.ensures)

pub returns-in-String : goal.returns-in-String
returns-in-String c front calls = string_arm front calls c.args.term.now c.args.state.now c.string_copy.result _ c.in-String.is (copy_carried pure_tree _ _ c.args.state.now c.string_copy.ensures)

pub returns-in-Character : goal.returns-in-Character
returns-in-Character c front calls = character_arm front calls c.args.term.now c.args.state.now c.character_copy.result _ c.in-Character.is (copy_carried pure_tree _ _ c.args.state.now c.character_copy.ensures)

pub returns-in-Path : goal.returns-in-Path
returns-in-Path c front calls = path_arm front calls c.args.term.now c.args.state.now c.path_copy.result _ c.in-Path.is (copy_carried pure_tree _ _ c.args.state.now c.path_copy.ensures)

pub returns-in-Case : goal.returns-in-Case
returns-in-Case c front calls = case_arm front calls c.args.term.now c.args.state.now c.case.result _ _ c.in-Case.is c.case.ensures

pub returns-in-Before : goal.returns-in-Before
returns-in-Before c front calls = before_arm front calls c.args.term.now c.args.state.now c.before_value.result _ c.in-Before.is c.before_value.ensures
