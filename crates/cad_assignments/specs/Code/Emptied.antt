-- What leaves its place.
use Rattle.std.specs.Prelude.{Option}
use Rattle.cad_rows.specs.Places.{bare_in}
use Rattle.cad_world.specs.Locations.{Location, slot_of, changed_at, as_read}
use Rattle.cad_world.specs.Rows.{Tree, clear}
use Rattle.cad_world.specs.State.{Action, ok, ◌>>=◌, with_some, give}

-- the place becomes empty; what stood there comes out without labels
abbrev pub emptied : Location → Action (Option Tree)
emptied x = slot_of x >>= (λ o s. ok (bare_in o) (changed_at clear x s))

-- what stands there is taken out, as it is read
abbrev pub taken_out : Location → Action Tree
taken_out x = emptied x >>= (λ o. with_some o (λ t. give (as_read x t)))
