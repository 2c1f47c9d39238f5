-- Services: the same while the units last.
use Rattle.std.specs.Prelude.{List}
use Rattle.cad_syntax.specs.Types.{PureType}
use Rattle.cad_syntax.specs.declared.types.Basic.TheVariants as b
use Rattle.cad_types.specs.declared.builtin.Builtin.{Builtin}
use Rattle.cad_types.specs.declared.builtin.Builtin.TheVariants as m
use Rattle.cad_world.specs.Rows.{Row}
use Rattle.cad_world.specs.Receivers.{Spot}
use Rattle.cad_evaluation.specs.Adding as contracts
use Rattle.cad_evaluation.specs.Callees.{Calls}
use Rattle.cad_evaluation.specs.Services.{service}
use Rattle.cad_bounds.proofs.Same.{Runs, Same, same_stuck}
use Rattle.cad_bounds.proofs.Accounts.{same_on_account, same_read_address, same_read_part_of}
use Rattle.cad_bounds.proofs.Arguments.{same_with_type_argument}
use Rattle.cad_bounds.proofs.Capabilities as same_capabilities
use Rattle.cad_bounds.proofs.Storage as same_storage
use Rattle.cad_syntax.specs.declared.address.Address.{Address}

pub same_service : (R : Runs) (calls calls' : Calls) (x3 : Builtin) (x4 : List PureType) (x5 : Spot) (x6 : Row) → ((x : Address) → Same R (contracts.add R.first calls x6 x) (contracts.add R.second calls' x6 x)) → Same R (service R.first calls x3 x4 x5 x6) (service R.second calls' x3 x4 x5 x6)
same_service R calls calls' m.AccountAddress types spot r adds = same_read_address R spot
same_service R calls calls' m.AccountStorage types spot r adds = same_read_part_of R b.Account b.AccountStorage spot
same_service R calls calls' m.AccountContracts types spot r adds = same_read_part_of R b.Account b.AccountContracts spot
same_service R calls calls' m.AccountCapabilities types spot r adds = same_read_part_of R b.Account b.AccountCapabilities spot
same_service R calls calls' m.StorageSave types spot r adds = same_on_account R b.AccountStorage spot _ _ (λ v1. (same_storage.same_save R r v1))
same_service R calls calls' m.StorageLoad types spot r adds = same_with_type_argument R types _ _ (λ t. (same_on_account R b.AccountStorage spot _ _ (λ v1. (same_storage.same_load R t r v1))))
same_service R calls calls' m.StorageCopy types spot r adds = same_with_type_argument R types _ _ (λ t. (same_on_account R b.AccountStorage spot _ _ (λ v1. (same_storage.same_copy R t r v1))))
same_service R calls calls' m.StorageBorrow types spot r adds = same_with_type_argument R types _ _ (λ t. (same_on_account R b.AccountStorage spot _ _ (λ v1. (same_storage.same_borrow R t r v1))))
same_service R calls calls' m.StorageCheck types spot r adds = same_with_type_argument R types _ _ (λ t. (same_on_account R b.AccountStorage spot _ _ (λ v1. (same_storage.same_check R t r v1))))
same_service R calls calls' m.StorageType types spot r adds = same_on_account R b.AccountStorage spot _ _ (λ v1. (same_storage.same_type_at R r v1))
same_service R calls calls' m.ContractsAdd types spot r adds = same_on_account R b.AccountContracts spot _ _ (λ v1. (adds v1))
same_service R calls calls' m.CapabilitiesGet types spot r adds = same_with_type_argument R types _ _ (λ t. (same_on_account R b.AccountCapabilities spot _ _ (λ v1. (same_capabilities.same_get R t r v1))))
same_service R calls calls' m.CapabilitiesBorrow types spot r adds = same_with_type_argument R types _ _ (λ t. (same_on_account R b.AccountCapabilities spot _ _ (λ v1. (same_capabilities.same_borrow_published R t r v1))))
same_service R calls calls' m.CapabilitiesExists types spot r adds = same_on_account R b.AccountCapabilities spot _ _ (λ v1. (same_capabilities.same_exists R r v1))
same_service R calls calls' m.CapabilitiesPublish types spot r adds = same_on_account R b.AccountCapabilities spot _ _ (λ v1. (same_capabilities.same_publish R r v1))
same_service R calls calls' m.CapabilitiesUnpublish types spot r adds = same_on_account R b.AccountCapabilities spot _ _ (λ v1. (same_capabilities.same_unpublish R r v1))
same_service R calls calls' m.CapabilitiesStorage types spot r adds = same_read_part_of R b.AccountCapabilities b.AccountStorageCapabilities spot
same_service R calls calls' m.StorageCapabilitiesIssue types spot r adds = same_with_type_argument R types _ _ (λ t. (same_on_account R b.AccountStorageCapabilities spot _ _ (λ v1. (same_capabilities.same_issue R t r v1))))
same_service R calls calls' m.StorageCapabilitiesGetController types spot r adds = same_on_account R b.AccountStorageCapabilities spot _ _ (λ v1. (same_capabilities.same_get_controller R r v1))
same_service R calls calls' m.ControllerCapabilityId types spot r adds = same_capabilities.same_read_controller_number R spot
same_service R calls calls' m.ControllerBorrowType types spot r adds = same_capabilities.same_read_borrow_type R spot
same_service R calls calls' m.ControllerTag types spot r adds = same_capabilities.same_read_tag R spot
same_service R calls calls' m.ControllerSetTag types spot r adds = same_capabilities.same_set_tag R r spot
same_service R calls calls' m.ControllerTarget types spot r adds = same_capabilities.same_read_target R spot
same_service R calls calls' m.ControllerRetarget types spot r adds = same_capabilities.same_retarget R r spot
same_service R calls calls' m.ControllerDelete types spot r adds = same_capabilities.same_delete R spot
same_service R calls calls' m.CapabilityId types spot r adds = same_capabilities.same_on_capability R spot _ _ (λ v1. (same_capabilities.same_read_number R v1))
same_service R calls calls' m.CapabilityAddress types spot r adds = same_capabilities.same_on_capability R spot _ _ (λ v1. (same_capabilities.same_read_home R v1))
same_service R calls calls' m.CapabilityBorrow types spot r adds = same_capabilities.same_on_capability R spot _ _ (λ v1. (same_capabilities.same_lend R v1))
same_service R calls calls' m.CapabilityCheck types spot r adds = same_capabilities.same_on_capability R spot _ _ (λ v1. (same_capabilities.same_lends R v1))
same_service R calls calls' member types spot r adds = same_stuck R
