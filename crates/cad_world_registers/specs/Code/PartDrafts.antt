-- What is made of the registers that are read of a World of which some accounts are wanted.
use Rattle.std.specs.Prelude.{◌≡◌, ℕ, zero, suc, ◌-◌, ◌==◌, Bool, true, false, List, [], ◌∷◌, ◌++◌, map, Option, Some, None, option_map, if◌then◌else◌}
use Rattle.cad_loads.specs.Loads.{Source}
use Rattle.cad_loads.specs.Views.{source_of}
use Rattle.cad_state.specs.Views.{account_of}
use Rattle.cad_state.specs.declared.state.Known.{Known}
use Rattle.cad_world.specs.Registers.{Register}
use Rattle.cad_world.specs.Rows.{Row, alone}
use Rattle.cad_world.specs.State.{Account}
use Rattle.cad_world.specs.Trees.{tree_of}
use Rattle.cad_world_registers.specs.Code.Selection.{is_selected, is_item_selected}
use Rattle.cad_world_registers.specs.Meaning.{value_row}
use Rattle.cad_world_registers.specs.Told.{item_in, one_by_one}
use Rattle.cad_world_registers.specs.Wanted.{wanted_account}
use Rattle.cad_world_registers.specs.declared.part_draft.PartDraft as own
use Rattle.cad_worlds.specs.Items.{Item, head, next, code, fields, stored, published, controlled, Draft, begun_account, with_value, with_publication, with_controller}

-- an account, and its place among all
abbrev pub KnownAccount : Type 0
KnownAccount = ℕ × Account

abbrev pub known_of : Known → KnownAccount
known_of k = (k.index, account_of k.account)

-- a World of which some accounts are wanted, without the programs of its contracts
pub record PartDraft : Type 0 where
  pub count : ℕ
  pub known : List KnownAccount
  pub sources : List Source
  pub values : List Row
  pub next_identity : ℕ

abbrev pub part_of : own.PartDraft → PartDraft
part_of x = record {
  count = x.count;
  known = map known_of x.known.items;
  sources = map source_of x.sources.items;
  values = map value_row x.values.items;
  next_identity = x.next_identity;
}

abbrev pub empty_part : PartDraft
empty_part = record { count = 0; known = []; sources = []; values = []; next_identity = 1 }

-- ---- accounts

-- whether the account at an index is the one of an address
abbrev pub has_address : ℕ → ℕ → Bool
has_address n i = if n == 0 then false else i == n - 1

-- one more, by its address
abbrev pub add_known : ℕ → Account → List KnownAccount → List KnownAccount
add_known n a all = all ++ (n - 1, a) ∷ []

abbrev pub changed_one : (Account → Account) → KnownAccount → KnownAccount
changed_one g k = (k.0, g k.1)

-- the account of an address changes, where it is known
abbrev pub change_known : ℕ → (Account → Account) → List KnownAccount → List KnownAccount
change_known n g [] = []
change_known n g (k ∷ all) = if has_address n k.0 then changed_one g k ∷ all else k ∷ change_known n g all

-- none of these is the account of an address
abbrev pub HasNone : ℕ → List Known → Type 0
HasNone n [] = Unit {0}
HasNone n (k ∷ all) = (has_address n k.index ≡ false) × HasNone n all

-- none before this place is
abbrev pub HasNoneBefore : ℕ → List Known → ℕ → Type 0
HasNoneBefore n all zero = Unit {0}
HasNoneBefore n [] (suc i) = Unit {0}
HasNoneBefore n (k ∷ all) (suc i) = (has_address n k.index ≡ false) × HasNoneBefore n all i

-- the first that is the account of an address stands here
abbrev pub IsPlace : ℕ → List Known → ℕ → Type 0
IsPlace n [] i = ⊥
IsPlace n (k ∷ all) zero = has_address n k.index ≡ true
IsPlace n (k ∷ all) (suc i) = (has_address n k.index ≡ false) × IsPlace n all i

-- the first at an index
abbrev pub known_at : List KnownAccount → ℕ → Option Account
known_at [] i = None
known_at (k ∷ all) i = if k.0 == i then Some k.1 else known_at all i

-- ---- what registers make

abbrev pub on_known : ℕ → (Account → Account) → PartDraft → PartDraft
on_known n g d = record d { known = change_known n g d.known }

-- values come in the order of codes
abbrev pub put : Item → PartDraft → PartDraft
put (head count identity) d = record d { count = count; next_identity = identity }
put (next n number) d = record d { known = add_known n (begun_account number) d.known }
put (code id bytes) d = record d { sources = d.sources ++ record { id = id; code = bytes } ∷ [] }
put (fields id v) d = record d { values = d.values ++ alone (tree_of v) ∷ [] }
put (stored n i v) d = on_known n (with_value i v) d
put (published n p) d = on_known n (with_publication p) d
put (controlled n c) d = on_known n (with_controller c) d

-- where something is said
abbrev pub put_some : Option Item → PartDraft → Option PartDraft
put_some o d = option_map (λ x. put x d) o

-- by its key and its bytes, where it is read
abbrev pub take : List ℕ → List ℕ → List ℕ → PartDraft → Option PartDraft
take wanted key bytes d = if is_selected wanted key then put_some (item_in key bytes) d else Some d

abbrev pub take_all : List ℕ → List Register → PartDraft → Option PartDraft
take_all wanted = one_by_one (take wanted)

-- what is said by those that are read
abbrev pub put_selected : List ℕ → List Item → PartDraft → PartDraft
put_selected wanted [] d = d
put_selected wanted (x ∷ xs) d = put_selected wanted xs (if is_item_selected wanted x then put x d else d)

-- what is made of the registers that are read is what all of them make, but for accounts that aren't wanted
pub record Follows (wanted : List ℕ) (count : ℕ) (d : Draft) (x : PartDraft) : Type 0 where
  pub count_is : x.count ≡ count
  pub sources_are : x.sources ≡ d.sources
  pub values_are : x.values ≡ d.values
  pub identity_is : x.next_identity ≡ d.next_identity
  pub known_are : (i : ℕ) → known_at x.known i ≡ wanted_account wanted d.accounts i
