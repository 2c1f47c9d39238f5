-- The fields of requests for runs of code.
use Rattle.std.specs.Prelude.{ℕ, List, [], ◌∷◌, codes, Option, Some, None, option_map, option_and_then}
use Rattle.serde_json.specs.Data.{Data, Items, no_items, item}
use Rattle.serde_json.specs.Find.{get, as_str, as_array, as_number, as_u64}
use Rattle.cad_syntax.specs.Addresses.{address_of}
use Rattle.cad_syntax.specs.declared.address.Address.{Address}
use Rattle.cad_request.specs.Fields.{text_at}

-- what is read of a field; one that isn't there has its default
abbrev pub or_default : {A : Type 0} → A → (Data → Option A) → Option Data → Option A
or_default default reading None = Some default
or_default default reading (Some d) = reading d

-- ---- addresses

abbrev pub address_in : Option (List ℕ) → Option Address
address_in text = option_map (λ n. record { 0 = n }) (option_and_then address_of text)

abbrev pub address_at : List ℕ → Data → Option Address
address_at field request = address_in (text_at field request)

abbrev pub put_first : Option Address → Option (List Address) → Option (List Address)
put_first (Some a) (Some all) = Some (a ∷ all)
put_first _ _ = None

-- the addresses of a list, where each item is the text of one
abbrev pub addresses_of : Items → Option (List Address)
addresses_of no_items = Some []
addresses_of (item d ds) = put_first (address_in (as_str d)) (addresses_of ds)

abbrev pub signers_of : Data → Option (List Address)
signers_of request = or_default [] (λ d. option_and_then addresses_of (as_array d)) (get (codes "signers") request)

-- ---- arguments and limit

abbrev pub item_list : Items → List Data
item_list no_items = []
item_list (item d ds) = d ∷ item_list ds

-- the items of a list
abbrev pub list_of : Data → Option (List Data)
list_of d = option_map item_list (as_array d)

abbrev pub arguments_of : Data → Option (List Data)
arguments_of request = or_default [] list_of (get (codes "arguments") request)

-- a number from 0 to 2^64 - 1, written in digits alone
abbrev pub limit_of : Data → Option ℕ
limit_of request = or_default 9999 (λ d. option_and_then as_u64 (as_number d)) (get (codes "limit") request)
