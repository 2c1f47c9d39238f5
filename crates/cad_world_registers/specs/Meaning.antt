-- What a register said, as an item of the definition, and what is made of it.
use Rattle.std.specs.Prelude.{◌≡◌, ℕ, Bool, ◌&&◌, List, map}
use Rattle.cad_accounts.specs.Registers.{same_key}
use Rattle.cad_accounts.specs.declared.row.Row as kept
use Rattle.cad_loads.specs.Views.{source_of}
use Rattle.cad_state.specs.Views.{account_of, publication_of, controller_of}
use Rattle.cad_values.specs.Values.{pure_value}
use Rattle.cad_values.specs.declared.value.Value.{Value}
use Rattle.cad_world.specs.Registers.{registers}
use Rattle.cad_world.specs.Rows.{Row, alone}
use Rattle.cad_world.specs.State.{Account, World}
use Rattle.cad_world.specs.Trees.{tree_of}
use Rattle.cad_world_registers.specs.declared.parts.Parts.{Parts}
use Rattle.cad_world_registers.specs.declared.saying.Change.{Change}
use Rattle.cad_world_registers.specs.declared.saying.Change.TheVariants as change
use Rattle.cad_world_registers.specs.declared.saying.Said.{Said}
use Rattle.cad_world_registers.specs.declared.saying.Said.TheVariants as said
use Rattle.cad_worlds.specs.Items.{Item, head, next, code, fields, stored, published, controlled, Draft, with_value, with_publication, with_controller}
use Rattle.cad_worlds.specs.Standing.{coding, IsSoundButCode, WorldHasBytes, register_of}

-- that an account has this
abbrev pub item_at : ℕ → Change → Item
item_at n (change.Stored i v) = stored n i (pure_value v)
item_at n (change.Published p) = published n (publication_of p)
item_at n (change.Controlled c) = controlled n (controller_of c)

abbrev pub item_of : Said → Item
item_of (said.Head count identity) = head count identity
item_of (said.Next n number) = next n number
item_of (said.Code id bytes) = code id bytes
item_of (said.Fields id v) = fields id (pure_value v)
item_of (said.Has n c) = item_at n c

-- what an account is then
abbrev pub changed_by : Change → Account → Account
changed_by (change.Stored i v) = with_value i (pure_value v)
changed_by (change.Published p) = with_publication (publication_of p)
changed_by (change.Controlled c) = with_controller (controller_of c)

-- the row of a contract that has this value
abbrev pub value_row : Value → Row
value_row v = alone (tree_of (pure_value v))

-- what registers made, as the definition's
abbrev pub parts_of : Parts → Draft
parts_of x = record {
  accounts = map account_of x.accounts.items;
  sources = map source_of x.sources.items;
  values = map value_row x.values.items;
  next_identity = x.next_identity;
}

-- these rows are the registers of a World that is sound but for its codes, and whose values have bytes of their own
pub record Stands (rows : List kept.Row) (w : World) : Type 0 where
  pub sound : IsSoundButCode w
  pub has_bytes : WorldHasBytes w
  pub are : map register_of rows ≡ registers coding w

-- two rows are the same, by their bytes
abbrev pub is_same_row : kept.Row → kept.Row → Bool
is_same_row a b = same_key a.key.0 b.key.0 && same_key a.value b.value
