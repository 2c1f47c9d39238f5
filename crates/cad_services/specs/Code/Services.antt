-- What members give, group by group.
use Rattle.std.specs.Prelude.{Bool, true, false, List, [], ◌∷◌, Option, Some, None}
use Rattle.cad_evaluation.specs.Accounts.{account_in_value, account_reference, on_account, read_address, read_part_of}
use Rattle.cad_evaluation.specs.Callees.{Calls, Front}
use Rattle.cad_evaluation.specs.Capabilities as capabilities
use Rattle.cad_evaluation.specs.Capabilities.{Capability, ControllerId}
use Rattle.cad_evaluation.specs.Services.{service}
use Rattle.cad_evaluation.specs.Storage as storage
use Rattle.cad_evaluation.specs.Texts.{in_tree}
use Rattle.cad_services.specs.Code.Groups.{part_of}
use Rattle.cad_services.specs.declared.groups.CapabilitiesMember.{CapabilitiesMember}
use Rattle.cad_services.specs.declared.groups.CapabilitiesMember.TheVariants as c
use Rattle.cad_services.specs.declared.groups.ControllerMember.{ControllerMember}
use Rattle.cad_services.specs.declared.groups.ControllerMember.TheVariants as k
use Rattle.cad_services.specs.declared.groups.Group.{Group}
use Rattle.cad_services.specs.declared.groups.Group.TheVariants as g
use Rattle.cad_services.specs.declared.groups.Held.{Held}
use Rattle.cad_services.specs.declared.groups.Held.TheVariants as h
use Rattle.cad_services.specs.declared.groups.LentMember.{LentMember}
use Rattle.cad_services.specs.declared.groups.LentMember.TheVariants as l
use Rattle.cad_services.specs.declared.groups.StorageMember.{StorageMember}
use Rattle.cad_services.specs.declared.groups.StorageMember.TheVariants as s
use Rattle.cad_services.specs.declared.groups.StoredMember.{StoredMember}
use Rattle.cad_services.specs.declared.groups.StoredMember.TheVariants as t
use Rattle.cad_services.specs.declared.groups.ValueMember.{ValueMember}
use Rattle.cad_services.specs.declared.groups.ValueMember.TheVariants as v
use Rattle.cad_syntax.specs.Types.{PureType, basic, reference}
use Rattle.cad_syntax.specs.declared.address.Address.{Address}
use Rattle.cad_syntax.specs.declared.types.Authorization.{Authorization}
use Rattle.cad_syntax.specs.declared.types.Basic.{Basic}
use Rattle.cad_types.specs.Basics.{same_basic}
use Rattle.cad_types.specs.declared.builtin.Builtin.{Builtin}
use Rattle.cad_values.specs.Values.{address}
use Rattle.cad_values.specs.declared.value.Target.{Target}
use Rattle.cad_values.specs.declared.value.Target.TheVariants as to
use Rattle.cad_world.specs.Receivers.{Spot}
use Rattle.cad_world.specs.Rows.{Row, Tree}
use Rattle.cad_world.specs.State.{Action, give, stuck, with_some}
use Rattle.cad_world.specs.Trees.{of_plain}

-- ---- accounts and their parts

abbrev pub is_part : Basic → PureType → Bool
is_part part (basic t) = same_basic t part
is_part part _ = false

abbrev pub address_in_target : Target → Option Address
address_in_target (to.Account a) = Some a
address_in_target _ = None

-- the address of the account of which the receiver is this part
abbrev pub address_of : Basic → Spot → Action Address
address_of part spot = with_some (in_tree (account_in_value part) spot.tree) give

abbrev pub address_tree : Address → Tree
address_tree a = of_plain (address a)

-- a part of an account, with these rights
abbrev pub give_part : Authorization → Basic → Address → Action Tree
give_part own part a = give (account_reference (reference own (basic part)) a)

abbrev pub lend_part : Option Authorization → Basic → Address → Action Tree
lend_part rights part a = with_some rights (λ own. give_part own part a)

-- ---- what accounts hold

abbrev pub one_type : List PureType → Option PureType
one_type (type ∷ []) = Some type
one_type _ = None

abbrev pub stored_member : StoredMember → PureType → Row → Address → Action Tree
stored_member t.Load type r a = storage.load type r a
stored_member t.Copy type r a = storage.copy type r a
stored_member t.Borrow type r a = storage.borrow type r a
stored_member t.Check type r a = storage.check type r a

abbrev pub typed_stored : StoredMember → List PureType → Row → Address → Action Tree
typed_stored member types r a = with_some (one_type types) (λ t. stored_member member t r a)

abbrev pub storage_member : StorageMember → List PureType → Row → Address → Action Tree
storage_member s.Save types r a = storage.save r a
storage_member s.TypeOf types r a = storage.type_at r a
storage_member (s.Typed member) types r a = typed_stored member types r a

abbrev pub lent_member : LentMember → PureType → Row → Address → Action Tree
lent_member l.Get type r a = capabilities.get type r a
lent_member l.Borrow type r a = capabilities.borrow_published type r a
lent_member l.Issue type r a = capabilities.issue type r a

abbrev pub typed_lent : LentMember → List PureType → Row → Address → Action Tree
typed_lent member types r a = with_some (one_type types) (λ t. lent_member member t r a)

abbrev pub capabilities_member : CapabilitiesMember → List PureType → Row → Address → Action Tree
capabilities_member c.Exists types r a = capabilities.exists r a
capabilities_member c.Publish types r a = capabilities.publish r a
capabilities_member c.Unpublish types r a = capabilities.unpublish r a
capabilities_member c.GetController types r a = capabilities.get_controller r a
capabilities_member (c.Typed member) types r a = typed_lent member types r a

abbrev pub held_member : Held → List PureType → Row → Address → Action Tree
held_member (h.Storage member) types r a = storage_member member types r a
held_member (h.Capabilities member) types r a = capabilities_member member types r a

-- ---- controllers and capabilities

-- the controller to which the receiver leads
abbrev pub controller_of : Spot → Action ControllerId
controller_of spot = with_some (in_tree capabilities.controller_in_value spot.tree) give

abbrev pub controller_member : ControllerMember → Row → Spot → Action Tree
controller_member k.Number r spot = capabilities.read_controller_number spot
controller_member k.BorrowType r spot = capabilities.read_borrow_type spot
controller_member k.Tag r spot = capabilities.read_tag spot
controller_member k.SetTag r spot = capabilities.set_tag r spot
controller_member k.Target r spot = capabilities.read_target spot
controller_member k.Retarget r spot = capabilities.retarget r spot
controller_member k.Delete r spot = capabilities.delete spot

-- the capability that the receiver is
abbrev pub capability_at : Spot → Action Capability
capability_at spot = with_some (capabilities.capability_in spot.tree) give

abbrev pub value_member : ValueMember → Capability → Action Tree
value_member v.Number x = capabilities.read_number x
value_member v.Home x = capabilities.read_home x
value_member v.Borrow x = capabilities.lend x
value_member v.Check x = capabilities.lends x

-- ---- all members

abbrev pub by_group : Front → Calls → Builtin → List PureType → Spot → Row → Group → Action Tree
by_group front calls b types spot r g.Later = service front calls b types spot r
by_group front calls b types spot r g.Address = read_address spot
by_group front calls b types spot r (g.Part whole part) = read_part_of whole part spot
by_group front calls b types spot r (g.Held member) = on_account (part_of member) spot (held_member member types r)
by_group front calls b types spot r (g.Controller member) = controller_member member r spot
by_group front calls b types spot r (g.Value member) = capabilities.on_capability spot (value_member member)
