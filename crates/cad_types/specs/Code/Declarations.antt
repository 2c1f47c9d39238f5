-- Tests of a list of declarations.
use Rattle.std.specs.Prelude.{ℕ, suc, Bool, List, [], ◌∷◌, Option, Some, None, option_map, if◌then◌else◌}
use Rattle.std.specs.List.{list_all}
use Rattle.cad_syntax.specs.TypeIds.{same_id, has}
use Rattle.cad_syntax.specs.declared.type_id.TypeId.{TypeId}
use Rattle.cad_types.specs.Declarations.{Declaration, interfaces_of}

-- the place of the first declaration of an identifier
abbrev pub place_of : List Declaration → TypeId → Option ℕ
place_of [] id = None
place_of (d ∷ ds) id = if same_id d.id id then Some 0 else option_map suc (place_of ds id)

-- the same of one identifier, as a test
abbrev pub closed_at : List Declaration → TypeId → Bool
closed_at k id = list_all (λ j. list_all (has (interfaces_of k id)) (interfaces_of k j)) (interfaces_of k id)

abbrev pub all_closed : List Declaration → Bool
all_closed k = list_all (λ d. closed_at k d.id) k
