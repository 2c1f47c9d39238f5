-- The fields of what is made.
use Rattle.std.specs.Prelude.{ℕ, Bool, false, List, length}
use Rattle.cad_syntax.specs.declared.text.Name.{Name}
use Rattle.cad_syntax.specs.declared.type_id.TypeId.{TypeId}
use Rattle.cad_world.specs.Declared.{entry_of}
use Rattle.cad_world.specs.Rows.{Tree, composite, empty_places, Slot, full, is_full}
use Rattle.cad_world.specs.State.{Action, give, with_some}
use Rattle.cad_evaluation.specs.Making.{field_names}

-- the names of the fields of a type
abbrev pub declared_names : TypeId → Action (List Name)
declared_names id = λ s. with_some (entry_of s id) (λ entry. give (field_names entry.members)) s

-- a composite whose fields are empty places
abbrev pub unset : TypeId → ℕ → List Name → Tree
unset id identity names = record { optionals = 0; shape = composite id identity names; parts = empty_places (length names) }

-- what stands there has all its parts
abbrev pub is_set : Slot → Bool
is_set (full t) = is_full t.parts
is_set _ = false
