-- What initializers make.
use Rattle.std.specs.Prelude.{ℕ}
use Rattle.cad_syntax.specs.declared.type_id.TypeId.{TypeId}
use Rattle.cad_world.specs.Declared.{entry_of}
use Rattle.cad_world.specs.State.{Action, with_some}
use Rattle.cad_evaluation.specs.Making.{begin, field_names}

-- a node with the fields of its type stands first among what is made; IllTyped where the type isn't declared
abbrev pub begun : TypeId → ℕ → Action ℕ
begun id identity = λ s. with_some (entry_of s id) (λ entry. begin id identity (field_names entry.members)) s
