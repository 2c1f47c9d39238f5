-- What a call needs of its receiver.
use Rattle.std.specs.Prelude.{ℕ}
use Rattle.cad_syntax.specs.declared.type_id.TypeId.{TypeId}

-- the type of the composite, and its label
abbrev pub aimed : TypeId × ℕ → TypeId × ℕ
aimed x = x
