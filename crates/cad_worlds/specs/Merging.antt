-- What leads from rows to other rows, both in byte order of their keys.
use Rattle.std.specs.Prelude.{ℕ, Bool, true, false, not, ◌&&◌, List, [], ◌∷◌, ◌++◌, Option, Some, None, map, filter, if◌then◌else◌}
use Rattle.cad_accounts.specs.KeyOrder.{before}
use Rattle.cad_accounts.specs.Registers.{same_key, entry_of}
use Rattle.cad_accounts.specs.declared.row.Row.{Row}
use Rattle.cad_state.specs.declared.state.Known.{Known}
use Rattle.cad_wire.specs.declared.entry.Entry.{Entry}
use Rattle.cad_worlds.specs.Code.KnownRegisters.{is_of_part}

-- the register isn't there any more
abbrev pub removal : Row → Entry
removal row = record { key = row.key; value = None }

-- the first rows, whose keys stand before this one
abbrev pub in_front : List ℕ → List Row → List Row
in_front key [] = []
in_front key (o ∷ os) = if before o.key.0 key then o ∷ in_front key os else []

-- the rows behind those
abbrev pub from : List ℕ → List Row → List Row
from key [] = []
from key (o ∷ os) = if before o.key.0 key then from key os else o ∷ os

-- a row is the first of these
abbrev pub is_first : List Row → Row → Bool
is_first [] r = false
is_first (o ∷ os) r = same_key o.key.0 r.key.0 && same_key o.value r.value

-- the rows behind that of a key, where it is the first
abbrev pub behind : List ℕ → List Row → List Row
behind key [] = []
behind key (o ∷ os) = if same_key o.key.0 key then os else o ∷ os

-- a row comes, unless it is the first of those that are there
abbrev pub own : List Row → Row → List Entry
own os r = if is_first os r then [] else entry_of r ∷ []

-- from the one rows to the others, by going once over both
abbrev pub merged : List Row → List Row → List Entry
merged os [] = map removal os
merged os (r ∷ rs) = map removal (in_front r.key.0 os) ++ (own (from r.key.0 os) r ++ merged (behind r.key.0 (from r.key.0 os)) rs)

-- ---- of some registers

-- of which keys registers are compared: of all, or of a part of a World
abbrev pub is_compared : Option (List Known) → List ℕ → Bool
is_compared None key = true
is_compared (Some known) key = is_of_part known key

-- the rows that are compared
abbrev pub chosen : (List ℕ → Bool) → List Row → List Row
chosen p rows = filter (λ row. p row.key.0) rows

-- from the first of them on whose key doesn't stand before this one
abbrev pub left_from : (List ℕ → Bool) → List ℕ → List Row → List Row
left_from p key [] = []
left_from p key (o ∷ os) = if p o.key.0 && not (before o.key.0 key) then o ∷ os else left_from p key os
