-- What may stand in an account when a command ends.
use Rattle.std.specs.Prelude.{ℕ, Bool, true, false, ◌&&◌, nat_le, List}
use Rattle.std.specs.List.{list_all}
use Rattle.cad_values.specs.Forms.{is_storable_value}
use Rattle.cad_values.specs.Sizes.{most_high}
use Rattle.cad_world.specs.Rows.{NodeShape, plain, link, array, dictionary, composite, Row, stop, gap, node}
use Rattle.cad_world.specs.State.{Account, Contract, State, Action, ◌>>◌, done, require}
use Rattle.cad_world.specs.Trees.{row_height}

-- a node without its parts: no reference, Void, account or controller
abbrev pub is_storable_shape : NodeShape → Bool
is_storable_shape (plain v) = is_storable_value v
is_storable_shape (link a l n) = false
is_storable_shape (array type) = true
is_storable_shape (dictionary key type ks) = list_all is_storable_value ks
is_storable_shape (composite id i ns) = true

-- nothing in the row, at any depth, is a reference, Void, an account or a controller
abbrev pub is_storable : Row → Bool
is_storable stop = true
is_storable (gap r) = is_storable r
is_storable (node l n s k r) = is_storable_shape s && (is_storable k && is_storable r)

-- no value in the row is higher than what is stored may be
abbrev pub is_low : Row → Bool
is_low r = nat_le (row_height r) most_high

-- every value that is stored, and of every contract
abbrev pub all_in_accounts : (Row → Bool) → List Account → List Contract → Bool
all_in_accounts test accounts contracts = list_all (λ a. test a.stored) accounts && list_all (λ c. test c.value) contracts

-- the end of a command: 133 where a value in an account can't be stored, then 123 where one is too high
abbrev pub values_last : Action (Unit {0})
values_last = λ s.
    require 133 (all_in_accounts is_storable s.accounts s.contracts)
    (require 123 (all_in_accounts is_low s.accounts s.contracts) done) s
