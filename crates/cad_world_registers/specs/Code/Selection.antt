-- Which registers are read of a World of which some accounts are wanted.
use Rattle.std.specs.Prelude.{ℕ, ◌-◌, ◌==◌, Bool, true, false, List, [], ◌∷◌, Option, Some, None, option_map, if◌then◌else◌}
use Rattle.cad_wire.specs.Fields.{number_at}
use Rattle.cad_world_registers.specs.Wanted.{is_wanted}
use Rattle.cad_worlds.specs.Code.Passing.{is_of_account}
use Rattle.cad_worlds.specs.Items.{Item, head, next, code, fields, stored, published, controlled}

-- the address at the front of bytes
abbrev pub address_in : List ℕ → Option ℕ
address_in place = option_map (λ n. n.0) (number_at place)

abbrev pub is_address_wanted : List ℕ → ℕ → Bool
is_address_wanted wanted n = if n == 0 then false else is_wanted wanted (n - 1)

abbrev pub is_place_wanted : List ℕ → Option ℕ → Bool
is_place_wanted wanted None = true
is_place_wanted wanted (Some n) = is_address_wanted wanted n

-- whether a register is read, by its key
abbrev pub is_selected : List ℕ → List ℕ → Bool
is_selected wanted [] = true
is_selected wanted (kind ∷ place) = if is_of_account kind then is_place_wanted wanted (address_in place) else true

-- whether the register is that says this
abbrev pub is_item_selected : List ℕ → Item → Bool
is_item_selected wanted (head count identity) = true
is_item_selected wanted (next n number) = is_address_wanted wanted n
is_item_selected wanted (code id bytes) = true
is_item_selected wanted (fields id v) = true
is_item_selected wanted (stored n i v) = is_address_wanted wanted n
is_item_selected wanted (published n p) = is_address_wanted wanted n
is_item_selected wanted (controlled n c) = is_address_wanted wanted n
