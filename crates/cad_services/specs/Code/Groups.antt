-- What members are used on, and what they do there.
use Rattle.cad_services.specs.declared.groups.CapabilitiesMember.{CapabilitiesMember}
use Rattle.cad_services.specs.declared.groups.CapabilitiesMember.TheVariants as c
use Rattle.cad_services.specs.declared.groups.ControllerMember.TheVariants as k
use Rattle.cad_services.specs.declared.groups.Group.{Group}
use Rattle.cad_services.specs.declared.groups.Group.TheVariants as g
use Rattle.cad_services.specs.declared.groups.Held.{Held}
use Rattle.cad_services.specs.declared.groups.Held.TheVariants as h
use Rattle.cad_services.specs.declared.groups.LentMember.TheVariants as l
use Rattle.cad_services.specs.declared.groups.StorageMember.TheVariants as s
use Rattle.cad_services.specs.declared.groups.StoredMember.{StoredMember}
use Rattle.cad_services.specs.declared.groups.StoredMember.TheVariants as t
use Rattle.cad_services.specs.declared.groups.ValueMember.TheVariants as v
use Rattle.cad_syntax.specs.declared.types.Basic.{Basic}
use Rattle.cad_syntax.specs.declared.types.Basic.TheVariants as b
use Rattle.cad_types.specs.declared.builtin.Builtin.{Builtin}
use Rattle.cad_types.specs.declared.builtin.Builtin.TheVariants as m

abbrev pub part_of_capabilities : CapabilitiesMember → Basic
part_of_capabilities c.GetController = b.AccountStorageCapabilities
part_of_capabilities (c.Typed l.Issue) = b.AccountStorageCapabilities
part_of_capabilities _ = b.AccountCapabilities

-- the part of an account that a member is used on
abbrev pub part_of : Held → Basic
part_of (h.Storage member) = b.AccountStorage
part_of (h.Capabilities member) = part_of_capabilities member

abbrev pub of_account : Basic → Group
of_account part = g.Part b.Account part

abbrev pub stored : StoredMember → Group
stored member = g.Held (h.Storage (s.Typed member))

abbrev pub account_group : Builtin → Group
account_group m.AccountAddress = g.Address
account_group m.AccountStorage = of_account b.AccountStorage
account_group m.AccountContracts = of_account b.AccountContracts
account_group m.AccountCapabilities = of_account b.AccountCapabilities
account_group m.StorageSave = g.Held (h.Storage s.Save)
account_group m.StorageLoad = stored t.Load
account_group m.StorageCopy = stored t.Copy
account_group m.StorageBorrow = stored t.Borrow
account_group m.StorageCheck = stored t.Check
account_group m.StorageType = g.Held (h.Storage s.TypeOf)
account_group _ = g.Later

abbrev pub of_capabilities : CapabilitiesMember → Group
of_capabilities member = g.Held (h.Capabilities member)

abbrev pub capabilities_group : Builtin → Group
capabilities_group m.CapabilitiesGet = of_capabilities (c.Typed l.Get)
capabilities_group m.CapabilitiesBorrow = of_capabilities (c.Typed l.Borrow)
capabilities_group m.CapabilitiesExists = of_capabilities c.Exists
capabilities_group m.CapabilitiesPublish = of_capabilities c.Publish
capabilities_group m.CapabilitiesUnpublish = of_capabilities c.Unpublish
capabilities_group m.CapabilitiesStorage = g.Part b.AccountCapabilities b.AccountStorageCapabilities
capabilities_group m.StorageCapabilitiesIssue = of_capabilities (c.Typed l.Issue)
capabilities_group m.StorageCapabilitiesGetController = of_capabilities c.GetController
capabilities_group other = account_group other

abbrev pub group : Builtin → Group
group m.ControllerCapabilityId = g.Controller k.Number
group m.ControllerBorrowType = g.Controller k.BorrowType
group m.ControllerTag = g.Controller k.Tag
group m.ControllerSetTag = g.Controller k.SetTag
group m.ControllerTarget = g.Controller k.Target
group m.ControllerRetarget = g.Controller k.Retarget
group m.ControllerDelete = g.Controller k.Delete
group m.CapabilityId = g.Value v.Number
group m.CapabilityAddress = g.Value v.Home
group m.CapabilityBorrow = g.Value v.Borrow
group m.CapabilityCheck = g.Value v.Check
group other = capabilities_group other
