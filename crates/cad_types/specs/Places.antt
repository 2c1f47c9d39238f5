-- Where identifiers stand in a list.
use Rattle.std.specs.Prelude.{◌≡◌, ℕ, suc, List, [], ◌∷◌, Option, Some, None, option_map, if◌then◌else◌}
use Rattle.std.specs.HashMap.{HashMap, get}
use Rattle.cad_syntax.specs.TypeIds.{same_id}
use Rattle.cad_syntax.specs.declared.type_id.TypeId.{TypeId}

-- the first place of an identifier
abbrev pub place_in : List TypeId → TypeId → Option ℕ
place_in [] id = None
place_in (other ∷ ids) id = if same_id other id then Some 0 else option_map suc (place_in ids id)

-- a map has the first place of each identifier of a list, and no other
abbrev pub ArePlaces : {S : Type 0} → HashMap TypeId ℕ S → List TypeId → Type 0
ArePlaces places ids = (id : TypeId) → get same_id places id ≡ place_in ids id
