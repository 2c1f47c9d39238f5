-- Identifiers in a row.
use Rattle.std.specs.Prelude.{ℕ, List, [], ◌∷◌, ◌++◌}
use Rattle.cad_syntax.specs.TypeIds.{type_text}
use Rattle.cad_syntax.specs.declared.type_id.TypeId.{TypeId}

-- their texts, each with the separator before it
abbrev pub more : List ℕ → List TypeId → List ℕ
more separator [] = []
more separator (id ∷ ids) = (separator ++ type_text id) ++ more separator ids
