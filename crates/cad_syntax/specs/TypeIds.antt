-- The texts of identifiers.
use Rattle.std.specs.Prelude.{◌≡◌, ℕ, ◌^◌, ◌<◌, Bool, true, ◌&&◌, ◌==◌, List, ◌∷◌, ◌++◌, codes}
use Rattle.std.specs.Cmp.Lexicographic.{pointwise}
use Rattle.std.specs.List.{flat_map, list_all, list_any}
use Rattle.cad_syntax.specs.Addresses.{hex_digits}
use Rattle.cad_syntax.specs.Names.{is_name_text}
use Rattle.cad_syntax.specs.declared.text.Name.{Name}
use Rattle.cad_syntax.specs.declared.type_id.TypeId.{TypeId}

-- `.` and the name
abbrev pub dotted : Name → List ℕ
dotted name = 46 ∷ name.0

-- `A.`, the 16 digits of the address, and each name with `.` before it
abbrev pub type_text : TypeId → List ℕ
type_text id = codes "A." ++ hex_digits 16 id.address.0 ++ flat_map dotted id.names

-- whether two identifiers are one
abbrev pub same_id : TypeId → TypeId → Bool
same_id a b = (a.address.0 == b.address.0) && pointwise (λ m n. pointwise ◌==◌ m.0 n.0) a.names b.names

-- whether an identifier is one of a list
abbrev pub has : List TypeId → TypeId → Bool
has ids id = list_any (λ other. same_id other id) ids

-- its names are names
abbrev pub HasNames : TypeId → Type 0
HasNames id = list_all (λ name. is_name_text name.0) id.names ≡ true

-- Spells text id: the text is the identifier's, whose names are names.
pub record Spells (text : List ℕ) (id : TypeId) : Type 0 where
  pub is_text : type_text id ≡ text
  pub has_names : HasNames id

-- a text is that of one identifier at most
abbrev pub OneIdentifier : Type 0
OneIdentifier = (text : List ℕ) (a b : TypeId) → a.address.0 < 2 ^ 64 → b.address.0 < 2 ^ 64 → Spells text a → Spells text b → a ≡ b
