-- Accounts as receivers: they and their parts are met through references that name their address.
use Rattle.std.specs.Prelude.{Option, Some, None, if◌then◌else◌}
use Rattle.std.specs.Option.{is_some}
use Rattle.cad_syntax.specs.Types.{PureType, basic, reference}
use Rattle.cad_syntax.specs.declared.address.Address.{Address}
use Rattle.cad_syntax.specs.declared.types.Authorization.TheVariants.{Unauthorized}
use Rattle.cad_syntax.specs.declared.types.Basic.{Basic}
use Rattle.cad_syntax.specs.declared.types.Basic.TheVariants as b
use Rattle.cad_types.specs.Basics.{same_basic}
use Rattle.cad_values.specs.Values as v
use Rattle.cad_values.specs.Values.{PureValue}
use Rattle.cad_values.specs.declared.value.Target.TheVariants as to
use Rattle.cad_world.specs.Rows.{Tree}
use Rattle.cad_world.specs.State.{Account, Action, give, guard, with_some}
use Rattle.cad_world.specs.Labels.{account_at}
use Rattle.cad_world.specs.Receivers.{Spot}
use Rattle.cad_world.specs.Trees.{of_plain, nil_tree}
use Rattle.cad_evaluation.specs.Texts.{in_tree}

-- ---- references to accounts and their parts

abbrev pub account_reference : PureType → Address → Tree
account_reference (reference a type) address = of_plain (v.reference a type (to.Account address))
account_reference _ address = nil_tree

-- a reference without rights
abbrev pub any_account : Address → Tree
any_account address = account_reference (reference Unauthorized (basic b.Account)) address

-- the address that a reference to an account, or to this part of one, names
abbrev pub account_in_value : Basic → PureValue → Option Address
account_in_value part (v.reference a (basic t) (to.Account address)) = if same_basic t part then Some address else None
account_in_value part _ = None

-- with the address of the account, where the receiver is this part of it
abbrev pub on_account : Basic → Spot → (Address → Action Tree) → Action Tree
on_account part spot f = with_some (in_tree (account_in_value part) spot.tree) f

-- the account is there
abbrev pub there : Address → Action Tree → Action Tree
there a p = λ s. guard (is_some (account_at s.accounts a.0)) p s

-- ---- what is read of an account

-- `address`
abbrev pub read_address : Spot → Action Tree
read_address spot = on_account b.Account spot (λ a. give (of_plain (v.address a)))

-- `storage`, `contracts`, `capabilities`, and the part `storage` of these: with the rights of the reference
abbrev pub read_part_of : Basic → Basic → Spot → Action Tree
read_part_of whole part spot = on_account whole spot (λ a. with_some spot.rights (λ own. give (account_reference (reference own (basic part)) a)))
