-- Services: labels are kept apart, and values in hand have none.
use Rattle.std.specs.Prelude.{List}
use Rattle.cad_syntax.specs.Types.{PureType}
use Rattle.cad_syntax.specs.declared.types.Basic.TheVariants as b
use Rattle.cad_types.specs.declared.builtin.Builtin.{Builtin}
use Rattle.cad_types.specs.declared.builtin.Builtin.TheVariants as m
use Rattle.cad_world.specs.Rows.{Row}
use Rattle.cad_world.specs.Receivers.{Spot}
use Rattle.cad_evaluation.specs.Callees.{Calls, Front}
use Rattle.cad_evaluation.specs.Services.{service}
use Rattle.cad_labels.specs.Laws.{HasNone, HasNoneInRow, Keeps, CalleesKeep}
use Rattle.cad_label_runs.proofs.Accounts.{on_account_keeps, read_address_keeps, read_part_of_keeps}
use Rattle.cad_label_runs.proofs.Adding.{add_keeps}
use Rattle.cad_label_runs.proofs.Arguments.{with_type_argument_keeps}
use Rattle.cad_label_runs.proofs.Capabilities.{borrow_published_keeps, delete_keeps, exists_keeps, get_controller_keeps, get_keeps, issue_keeps, lend_keeps, lends_keeps, on_capability_keeps, publish_keeps, read_borrow_type_keeps, read_controller_number_keeps, read_home_keeps, read_number_keeps, read_tag_keeps, read_target_keeps, retarget_keeps, set_tag_keeps, unpublish_keeps}
use Rattle.cad_label_runs.proofs.Storage.{borrow_keeps, check_keeps, type_at_keeps}
use Rattle.cad_labels.proofs.Accounts.{copy_keeps, load_keeps, save_keeps}
use Rattle.cad_labels.proofs.Forms.{keeps_stuck}

pub service_keeps : (front : Front) (calls : Calls) (x3 : Builtin) (x4 : List PureType) (x5 : Spot) (x6 : Row) → CalleesKeep calls → HasNoneInRow x6 → Keeps HasNone (service front calls x3 x4 x5 x6)
service_keeps front calls m.AccountAddress types spot r keep n5 = read_address_keeps spot
service_keeps front calls m.AccountStorage types spot r keep n5 = read_part_of_keeps b.Account b.AccountStorage spot
service_keeps front calls m.AccountContracts types spot r keep n5 = read_part_of_keeps b.Account b.AccountContracts spot
service_keeps front calls m.AccountCapabilities types spot r keep n5 = read_part_of_keeps b.Account b.AccountCapabilities spot
service_keeps front calls m.StorageSave types spot r keep n5 = on_account_keeps b.AccountStorage spot _ (λ v1. save_keeps r v1 n5)
service_keeps front calls m.StorageLoad types spot r keep n5 = with_type_argument_keeps types _ (λ t. on_account_keeps b.AccountStorage spot _ (λ v1. load_keeps t r v1))
service_keeps front calls m.StorageCopy types spot r keep n5 = with_type_argument_keeps types _ (λ t. on_account_keeps b.AccountStorage spot _ (λ v1. copy_keeps t r v1))
service_keeps front calls m.StorageBorrow types spot r keep n5 = with_type_argument_keeps types _ (λ t. on_account_keeps b.AccountStorage spot _ (λ v1. borrow_keeps t r v1))
service_keeps front calls m.StorageCheck types spot r keep n5 = with_type_argument_keeps types _ (λ t. on_account_keeps b.AccountStorage spot _ (λ v1. check_keeps t r v1))
service_keeps front calls m.StorageType types spot r keep n5 = on_account_keeps b.AccountStorage spot _ (λ v1. type_at_keeps r v1)
service_keeps front calls m.ContractsAdd types spot r keep n5 = on_account_keeps b.AccountContracts spot _ (λ v1. add_keeps front calls r v1 keep n5)
service_keeps front calls m.CapabilitiesGet types spot r keep n5 = with_type_argument_keeps types _ (λ t. on_account_keeps b.AccountCapabilities spot _ (λ v1. get_keeps t r v1))
service_keeps front calls m.CapabilitiesBorrow types spot r keep n5 = with_type_argument_keeps types _ (λ t. on_account_keeps b.AccountCapabilities spot _ (λ v1. borrow_published_keeps t r v1))
service_keeps front calls m.CapabilitiesExists types spot r keep n5 = on_account_keeps b.AccountCapabilities spot _ (λ v1. exists_keeps r v1)
service_keeps front calls m.CapabilitiesPublish types spot r keep n5 = on_account_keeps b.AccountCapabilities spot _ (λ v1. publish_keeps r v1)
service_keeps front calls m.CapabilitiesUnpublish types spot r keep n5 = on_account_keeps b.AccountCapabilities spot _ (λ v1. unpublish_keeps r v1)
service_keeps front calls m.CapabilitiesStorage types spot r keep n5 = read_part_of_keeps b.AccountCapabilities b.AccountStorageCapabilities spot
service_keeps front calls m.StorageCapabilitiesIssue types spot r keep n5 = with_type_argument_keeps types _ (λ t. on_account_keeps b.AccountStorageCapabilities spot _ (λ v1. issue_keeps t r v1))
service_keeps front calls m.StorageCapabilitiesGetController types spot r keep n5 = on_account_keeps b.AccountStorageCapabilities spot _ (λ v1. get_controller_keeps r v1)
service_keeps front calls m.ControllerCapabilityId types spot r keep n5 = read_controller_number_keeps spot
service_keeps front calls m.ControllerBorrowType types spot r keep n5 = read_borrow_type_keeps spot
service_keeps front calls m.ControllerTag types spot r keep n5 = read_tag_keeps spot
service_keeps front calls m.ControllerSetTag types spot r keep n5 = set_tag_keeps r spot
service_keeps front calls m.ControllerTarget types spot r keep n5 = read_target_keeps spot
service_keeps front calls m.ControllerRetarget types spot r keep n5 = retarget_keeps r spot
service_keeps front calls m.ControllerDelete types spot r keep n5 = delete_keeps spot
service_keeps front calls m.CapabilityId types spot r keep n5 = on_capability_keeps spot _ (λ v1. read_number_keeps v1)
service_keeps front calls m.CapabilityAddress types spot r keep n5 = on_capability_keeps spot _ (λ v1. read_home_keeps v1)
service_keeps front calls m.CapabilityBorrow types spot r keep n5 = on_capability_keeps spot _ (λ v1. lend_keeps v1)
service_keeps front calls m.CapabilityCheck types spot r keep n5 = on_capability_keeps spot _ (λ v1. lends_keeps v1)
service_keeps front calls member types spot r keep n5 = keeps_stuck HasNone
