-- Values without their parts.
use Rattle.cad_world.specs.Rows.{Row, stop, Tree, Slot, full}

-- the row of what stands in a place
abbrev pub parts_in : Slot → Row
parts_in (full t) = t.parts
parts_in _ = stop

-- the value with these parts
abbrev pub over : Row → Tree → Tree
over parts t = record t { parts = parts }
