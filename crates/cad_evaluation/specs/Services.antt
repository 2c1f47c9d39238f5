-- The built-in members of accounts, storage, capabilities and controllers.
use Rattle.std.specs.Prelude.{List}
use Rattle.cad_syntax.specs.Types.{PureType}
use Rattle.cad_syntax.specs.declared.types.Basic.TheVariants as b
use Rattle.cad_types.specs.declared.builtin.Builtin.{Builtin}
use Rattle.cad_types.specs.declared.builtin.Builtin.TheVariants as m
use Rattle.cad_world.specs.Rows.{Row, Tree}
use Rattle.cad_world.specs.State.{Action, stuck}
use Rattle.cad_world.specs.Receivers.{Spot}
use Rattle.cad_evaluation.specs.Accounts.{on_account, read_address, read_part_of}
use Rattle.cad_evaluation.specs.Adding as contracts
use Rattle.cad_evaluation.specs.Arguments.{with_type_argument}
use Rattle.cad_evaluation.specs.Callees.{Calls, Front}
use Rattle.cad_evaluation.specs.Capabilities as capabilities
use Rattle.cad_evaluation.specs.Storage as storage

-- The member on what the receiver is now, with its type arguments and its arguments, which have been transferred. The rights
-- have been tested, and the unit of a call has been taken. These members take no units but those of what is saved, loaded and
-- copied.
abbrev pub service : Front → Calls → Builtin → List PureType → Spot → Row → Action Tree
service front calls m.AccountAddress types spot r = read_address spot
service front calls m.AccountStorage types spot r = read_part_of b.Account b.AccountStorage spot
service front calls m.AccountContracts types spot r = read_part_of b.Account b.AccountContracts spot
service front calls m.AccountCapabilities types spot r = read_part_of b.Account b.AccountCapabilities spot
service front calls m.StorageSave types spot r = on_account b.AccountStorage spot (storage.save r)
service front calls m.StorageLoad types spot r = with_type_argument types (λ t. on_account b.AccountStorage spot (storage.load t r))
service front calls m.StorageCopy types spot r = with_type_argument types (λ t. on_account b.AccountStorage spot (storage.copy t r))
service front calls m.StorageBorrow types spot r = with_type_argument types (λ t. on_account b.AccountStorage spot (storage.borrow t r))
service front calls m.StorageCheck types spot r = with_type_argument types (λ t. on_account b.AccountStorage spot (storage.check t r))
service front calls m.StorageType types spot r = on_account b.AccountStorage spot (storage.type_at r)
service front calls m.ContractsAdd types spot r = on_account b.AccountContracts spot (contracts.add front calls r)
service front calls m.CapabilitiesGet types spot r = with_type_argument types (λ t. on_account b.AccountCapabilities spot (capabilities.get t r))
service front calls m.CapabilitiesBorrow types spot r = with_type_argument types (λ t. on_account b.AccountCapabilities spot (capabilities.borrow_published t r))
service front calls m.CapabilitiesExists types spot r = on_account b.AccountCapabilities spot (capabilities.exists r)
service front calls m.CapabilitiesPublish types spot r = on_account b.AccountCapabilities spot (capabilities.publish r)
service front calls m.CapabilitiesUnpublish types spot r = on_account b.AccountCapabilities spot (capabilities.unpublish r)
service front calls m.CapabilitiesStorage types spot r = read_part_of b.AccountCapabilities b.AccountStorageCapabilities spot
service front calls m.StorageCapabilitiesIssue types spot r = with_type_argument types (λ t. on_account b.AccountStorageCapabilities spot (capabilities.issue t r))
service front calls m.StorageCapabilitiesGetController types spot r = on_account b.AccountStorageCapabilities spot (capabilities.get_controller r)
service front calls m.ControllerCapabilityId types spot r = capabilities.read_controller_number spot
service front calls m.ControllerBorrowType types spot r = capabilities.read_borrow_type spot
service front calls m.ControllerTag types spot r = capabilities.read_tag spot
service front calls m.ControllerSetTag types spot r = capabilities.set_tag r spot
service front calls m.ControllerTarget types spot r = capabilities.read_target spot
service front calls m.ControllerRetarget types spot r = capabilities.retarget r spot
service front calls m.ControllerDelete types spot r = capabilities.delete spot
service front calls m.CapabilityId types spot r = capabilities.on_capability spot capabilities.read_number
service front calls m.CapabilityAddress types spot r = capabilities.on_capability spot capabilities.read_home
service front calls m.CapabilityBorrow types spot r = capabilities.on_capability spot capabilities.lend
service front calls m.CapabilityCheck types spot r = capabilities.on_capability spot capabilities.lends
service front calls member types spot r = stuck
