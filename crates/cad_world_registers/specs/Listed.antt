-- What is tested of rows that stand in parts.
use Rattle.std.specs.Prelude.{◌≡◌, ℕ, Bool, true, ◌&&◌, List, [], ◌∷◌, ◌++◌, map, Option, MatchOption}
use Rattle.std.specs.List.{flat_map}
use Rattle.cad_accounts.specs.KeyOrder.{before}
use Rattle.cad_accounts.specs.declared.row.Row.{Row}
use Rattle.cad_world.specs.Registers.{Register, head_registers, of_accounts, next_register, code_register, fields_registers, stored_registers, published_registers, controller_registers}
use Rattle.cad_world.specs.State.{Account, World}
use Rattle.cad_worlds.specs.RowLists.{rows_listed}
use Rattle.cad_worlds.specs.Standing.{coding, register_of}
use Rattle.cad_worlds.specs.declared.row_list.RowList.{RowList}

-- rows that say these registers are the first ones, and those are behind them
abbrev pub Begin : List Register → List Row → List Row → Type 0
Begin own rows left = map register_of rows ≡ own ++ map register_of left

abbrev pub DontBegin : List Register → List Row → Type 0
DontBegin own rows = (rest : List Register) → map register_of rows ≡ own ++ rest → ⊥

-- the rows behind those, where there are such
abbrev pub IsBehind : List Register → List Row → Option RowList → Type 0
IsBehind own rows found = MatchOption found (DontBegin own rows) (λ left. Begin own rows (rows_listed left))

-- each key stands behind the one before it, and the first one behind this key
abbrev pub rise_behind : List ℕ → List Row → Bool
rise_behind key [] = true
rise_behind key (r ∷ rows) = before key r.key.0 && rise_behind r.key.0 rows

-- the registers of a World in front of those of what accounts store, publish and control
abbrev pub front : World → List Register
front w = head_registers w ++ (of_accounts next_register 1 w.accounts ++ (map code_register w.contracts ++ flat_map (fields_registers coding) w.contracts))

abbrev pub back : List Account → List Register
back all = of_accounts (stored_registers coding) 1 all ++ (of_accounts (published_registers coding) 1 all ++ of_accounts (controller_registers coding) 1 all)
