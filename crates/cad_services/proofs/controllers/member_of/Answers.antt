use Rattle.cad_rows.specs.Views.{pure_row, pure_tree}
use Rattle.cad_services.specs.Code.Services.{controller_member}
use Rattle.cad_services.specs.declared.groups.ControllerMember.{ControllerMember}
use Rattle.cad_state.specs.Views.{CarriesOut}
use Rattle.std.proofs.Common.{subst, sym}
use Rattle.cad_services.proofs.controllers.member_of.Goals as goal

pub returns-in-Number : goal.returns-in-Number
returns-in-Number c = λ spot is. subst (λ (m : ControllerMember). CarriesOut pure_tree (controller_member m (pure_row c.args.row.now) spot) c.args.state.now c.args.state.now c.read_controller_number.result) (sym c.in-Number.is) (c.read_controller_number.ensures spot is)

pub returns-in-BorrowType : goal.returns-in-BorrowType
returns-in-BorrowType c = λ spot is. subst (λ (m : ControllerMember). CarriesOut pure_tree (controller_member m (pure_row c.args.row.now) spot) c.args.state.now c.args.state.now c.read_borrow_type.result) (sym c.in-BorrowType.is) (c.read_borrow_type.ensures spot is)

pub returns-in-Tag : goal.returns-in-Tag
returns-in-Tag c = λ spot is. subst (λ (m : ControllerMember). CarriesOut pure_tree (controller_member m (pure_row c.args.row.now) spot) c.args.state.now c.args.state.now c.read_tag.result) (sym c.in-Tag.is) (c.read_tag.ensures spot is)

pub returns-in-SetTag : goal.returns-in-SetTag
returns-in-SetTag c = λ spot is. subst (λ (m : ControllerMember). CarriesOut pure_tree (controller_member m (pure_row c.args.row.now) spot) c.args.state.now c.set_tag.new.state c.set_tag.result) (sym c.in-SetTag.is) (c.set_tag.ensures spot is)

pub returns-in-Target : goal.returns-in-Target
returns-in-Target c = λ spot is. subst (λ (m : ControllerMember). CarriesOut pure_tree (controller_member m (pure_row c.args.row.now) spot) c.args.state.now c.args.state.now c.read_target.result) (sym c.in-Target.is) (c.read_target.ensures spot is)

pub returns-in-Retarget : goal.returns-in-Retarget
returns-in-Retarget c = λ spot is. subst (λ (m : ControllerMember). CarriesOut pure_tree (controller_member m (pure_row c.args.row.now) spot) c.args.state.now c.retarget.new.state c.retarget.result) (sym c.in-Retarget.is) (c.retarget.ensures spot is)

pub returns-in-Delete : goal.returns-in-Delete
returns-in-Delete c = λ spot is. subst (λ (m : ControllerMember). CarriesOut pure_tree (controller_member m (pure_row c.args.row.now) spot) c.args.state.now c.delete.new.state c.delete.result) (sym c.in-Delete.is) (c.delete.ensures spot is)
