-- What looking at one identifier after another does, and how many looks are left.
use Rattle.std.specs.Prelude.{ℕ, ◌+◌, Option, Some, None, List, [], ◌∷◌, ◌++◌, length, if◌then◌else◌}
use Rattle.cad_syntax.specs.TypeIds.{has}
use Rattle.cad_syntax.specs.declared.type_id.TypeId.{TypeId}
use Rattle.cad_declarations.specs.Reached.{linked}
use Rattle.cad_declarations.specs.declared.link.Link.{Link}

-- an identifier is seen once
abbrev pub seen_after : List TypeId → TypeId → List TypeId
seen_after seen id = if has seen id then seen else seen ++ id ∷ []

-- those to which it leads come next, the first time
abbrev pub next_after : List Link → List TypeId → TypeId → List TypeId
next_after links seen id = if has seen id then [] else linked links id

-- those that links of identifiers not seen can still bring
abbrev pub unseen : List Link → List TypeId → ℕ
unseen [] seen = 0
unseen (l ∷ links) seen = (if has seen l.id then 0 else length l.to) + unseen links seen

-- how many looks are left at most
abbrev pub left : List Link → List TypeId → List TypeId → ℕ
left links seen ahead = length ahead + unseen links seen

-- where a link leads, if there is one
abbrev pub targets : Option Link → List TypeId
targets None = []
targets (Some link) = link.to
