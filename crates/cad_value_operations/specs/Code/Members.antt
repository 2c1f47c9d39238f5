-- Built-in members and functions by their groups.
use Rattle.std.specs.Prelude.{ℕ, ◌+◌, ◌-◌, List, [], ◌∷◌, Option, Some, None, option_map, Bool, true, false}
use Rattle.cad_evaluation.specs.Accounts.{any_account}
use Rattle.cad_evaluation.specs.Arguments.{with_argument, with_arguments}
use Rattle.cad_evaluation.specs.Builtins.{account_got, asserted, home, paid_for, plain_member, raw_value, read_account, read_owner, type_member}
use Rattle.cad_evaluation.specs.Callees.{Calls, Front}
use Rattle.cad_evaluation.specs.Casts.{instance_told, target_in, type_in_value, type_told, type_tree, with_type}
use Rattle.cad_evaluation.specs.Containers.{void_tree}
use Rattle.cad_evaluation.specs.Making.{case_from}
use Rattle.cad_evaluation.specs.Numbers.{bool_tree, converted, greatest_tree, least_tree, on_numbers, saturating}
use Rattle.cad_evaluation.specs.Reading.{read_uuid}
use Rattle.cad_evaluation.specs.Services.{service}
use Rattle.cad_evaluation.specs.Texts as texts
use Rattle.cad_evaluation.specs.TypeTexts.{identifier}
use Rattle.cad_value_operations.specs.declared.groups.AddressMember.{AddressMember}
use Rattle.cad_value_operations.specs.declared.groups.AddressMember.TheVariants as a
use Rattle.cad_value_operations.specs.declared.groups.Called.{Called}
use Rattle.cad_value_operations.specs.declared.groups.Called.TheVariants as c
use Rattle.cad_value_operations.specs.declared.groups.Group.{Group}
use Rattle.cad_value_operations.specs.declared.groups.Group.TheVariants as g
use Rattle.cad_value_operations.specs.declared.groups.NumberMember.{NumberMember}
use Rattle.cad_value_operations.specs.declared.groups.NumberMember.TheVariants as n
use Rattle.cad_value_operations.specs.declared.groups.TextMember.{TextMember}
use Rattle.cad_value_operations.specs.declared.groups.TextMember.TheVariants as t
use Rattle.cad_value_operations.specs.declared.types.Told.{Told}
use Rattle.cad_value_operations.specs.declared.types.Told.TheVariants as told
use Rattle.cad_rows.specs.Views.{pure_tree}
use Rattle.cad_syntax.specs.Types.{PureType, basic, declared, pure_type}
use Rattle.cad_syntax.specs.declared.types.Authorization.{Authorization}
use Rattle.cad_syntax.specs.declared.types.Authorization.TheVariants.{Unauthorized}
use Rattle.cad_syntax.specs.declared.types.Basic.TheVariants as b
use Rattle.cad_syntax.specs.declared.address.Address.{Address}
use Rattle.cad_syntax.specs.declared.type_id.TypeId.{TypeId}
use Rattle.cad_types.specs.Below.{below}
use Rattle.cad_types.specs.declared.builtin.Builtin.{Builtin}
use Rattle.cad_types.specs.declared.builtin.Builtin.TheVariants as m
use Rattle.cad_values.specs.Values.{PureValue, reference}
use Rattle.cad_values.specs.declared.value.Target.TheVariants as to
use Rattle.cad_world.specs.Declared.{declarations}
use Rattle.cad_world.specs.Receivers.{Spot}
use Rattle.cad_world.specs.Rows.{Row, stop, Tree}
use Rattle.cad_world.specs.State.{Action, ◌>>◌, fail, give, spend, stuck, with_some}
use Rattle.cad_world.specs.Trees.{row_weight, tree_weight}

-- a result, with a unit for each part of it but the first, and as many more
abbrev pub cost_of : ℕ → Tree → Action (Unit {0})
cost_of n t = spend ((tree_weight t - 1) + n)

abbrev pub paid : ℕ → Tree → Action Tree
paid n t = cost_of n t >> give t

-- ---- of values without parts

abbrev pub text_member : TextMember → List ℕ → Row → Action Tree
text_member t.Length text r = texts.text_length text
text_member t.Bytes text r = texts.bytes_tree text
text_member t.Concat text r = with_argument r (texts.text_joined text)
text_member t.Slice text r = with_arguments r (texts.text_slice text)
text_member t.Decoded text r = texts.text_decoded text

abbrev pub number_member : NumberMember → Tree → Row → Action Tree
number_member n.Told t r = texts.number_text t
number_member n.Bytes t r = texts.number_bytes t
number_member (n.Saturated op) t r = with_argument r (on_numbers (saturating op) t)

abbrev pub address_member : AddressMember → Address → Action Tree
address_member a.Told x = texts.address_told x
address_member a.Bytes x = texts.address_bytes x

abbrev pub leaf_member : Group → Tree → Row → Action Tree
leaf_member (g.Text m) t r = with_some (texts.text_in t) (λ text. text_member m text r)
leaf_member g.Character t r = with_some (texts.in_tree texts.character_in_value t) (λ text. give (texts.text_tree text))
leaf_member (g.Number m) t r = number_member m t r
leaf_member (g.Address m) t r = with_some (texts.in_tree texts.address_in_value t) (address_member m)
leaf_member g.Identifier t r = with_some (texts.in_tree type_in_value t) (λ type. give (texts.text_tree (identifier type)))
leaf_member _ t r = stuck

-- ---- of what a receiver is

-- an account, a part of it or a controller
abbrev pub met_so : Option ℕ → Option Authorization → Bool
met_so None (Some a) = true
met_so l a = false

abbrev pub is_met : Spot → Bool
is_met spot = met_so spot.label spot.rights

-- without its parts
abbrev pub leaf_of : Tree → Tree
leaf_of t = record { optionals = t.optionals; shape = t.shape; parts = stop }

-- what the type of a receiver is told by
pub data PureTold : Type 0 where
  -- a copy of it without its parts
  by_copy : Tree → PureTold
  -- the type that a reference names
  by_name : PureType → PureTold
  by_nothing : PureTold

abbrev pub told_of : Told → PureTold
told_of (told.Copy t) = by_copy (pure_tree t)
told_of (told.Named type) = by_name (pure_type type)
told_of told.Nothing = by_nothing

abbrev pub named : Option PureType → PureTold
named (Some type) = by_name type
named None = by_nothing

abbrev pub told_if : Bool → Tree → PureTold
told_if true t = named (target_in t.shape)
told_if false t = by_copy (leaf_of t)

abbrev pub told_by : Spot → PureTold
told_by spot = told_if (is_met spot) spot.tree

-- with the type that is told, 113 where there is none
abbrev pub with_told : PureTold → (PureType → Action Tree) → Action Tree
with_told (by_copy t) f = with_type t f
with_told (by_name type) f = f type
with_told by_nothing f = fail 113

-- whether what is of the second type is of the first
abbrev pub instance_of : PureType → PureType → Action Tree
instance_of wanted own = λ s. give (bool_tree (below (declarations s) own wanted)) s

-- the type of a value, 113 of a reference to what is gone
abbrev pub type_of : Tree → Action Tree
type_of t = with_type t (λ own. give (type_tree own))

-- whether what is told is of the type that the argument is
abbrev pub instance_by : Row → PureTold → Action Tree
instance_by r t = with_argument r (λ given. with_some (texts.in_tree type_in_value given) (λ type. with_told t (instance_of type)))

-- what a search through it costs beside its result
abbrev pub search_cost : Spot → Action ℕ
search_cost spot = give (row_weight spot.tree.parts)

-- without the charge
abbrev pub spot_member : Group → Spot → Row → Action Tree
spot_member g.OwnType spot r = type_told spot
spot_member g.Instance spot r = with_argument r (instance_told spot)
spot_member g.RawValue spot r = raw_value spot
spot_member x spot r = leaf_member x spot.tree r

-- with the charge, of what changes nothing
abbrev pub read_by : Spot → Row → Group → Action Tree
read_by spot r g.Identity = read_uuid spot
read_by spot r g.Owner = read_owner spot
read_by spot r g.Account = read_account spot
read_by spot r x = paid_for 0 (spot_member x spot r)

abbrev pub by_group : Front → Calls → Builtin → List PureType → Spot → Row → Group → Action Tree
by_group front calls b types spot r g.Service = service front calls b types spot r
by_group front calls b types spot r g.Search = paid_for (row_weight spot.tree.parts) (plain_member b spot r)
by_group front calls b types spot r g.Container = paid_for 0 (plain_member b spot r)
by_group front calls b types spot r x = read_by spot r x

-- ---- accounts

abbrev pub any_account_value : Address → PureValue
any_account_value a = reference Unauthorized (basic b.Account) (to.Account a)

abbrev pub owner_of : ℕ → Action Tree
owner_of l = λ s. give (texts.optional_tree (option_map any_account (home s l))) s

-- ---- functions

-- the declared type that these are
abbrev pub enum_in : List PureType → Option TypeId
enum_in (declared id ∷ []) = Some id
enum_in _ = None

abbrev pub declared_in : PureType → Option TypeId
declared_in (declared id) = Some id
declared_in _ = None

abbrev pub case_of : TypeId → Row → Action Tree
case_of id r = with_argument r (case_from id)

-- without the charge
abbrev pub call_member : Called → List PureType → Row → Action Tree
call_member c.Encoded types r = with_argument r texts.text_encoded
call_member c.Read types r = with_argument r texts.text_from_bytes
call_member (c.Converted kind) types r = with_argument r (converted kind)
call_member (c.Parsed kind) types r = with_argument r (texts.number_read kind)
call_member (c.Least kind) types r = least_tree kind
call_member (c.Greatest kind) types r = greatest_tree kind
call_member c.Case types r = type_member m.EnumFromRawValue types r
call_member _ types r = stuck

abbrev pub by_called : List PureType → Row → Called → Action Tree
by_called types r c.Panic = fail 109
by_called types r c.Assert = asserted r
by_called types r c.Log = give void_tree
by_called types r c.Account = account_got r
by_called types r x = paid_for 0 (call_member x types r)
