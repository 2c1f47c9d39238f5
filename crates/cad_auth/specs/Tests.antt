-- The same as tests.
use Rattle.std.specs.Prelude.{◌≡◌, ◌↔◌, Bool, true, List}
use Rattle.std.specs.List.{list_any, list_all}
use Rattle.cad_syntax.specs.declared.type_id.TypeId.{TypeId}
use Rattle.cad_syntax.specs.declared.types.Authorization.{Authorization}
use Rattle.cad_auth.specs.Grants.{sets, Covers, Grants}
use Rattle.cad_auth.specs.Images.{includes}

-- each of these sets contains some set of those
abbrev pub covers : List (List TypeId) → List (List TypeId) → Bool
covers these those = list_all (λ set. list_any (includes set) those) these

-- what a holder has serves where need is asked for
abbrev pub grants : Authorization → Authorization → Bool
grants holder need = covers (sets holder) (sets need)

-- Law: the tests tell.
abbrev pub CoversTells : Type 0
CoversTells = (these those : List (List TypeId)) → (covers these those ≡ true) ↔ Covers these those

abbrev pub GrantsTells : Type 0
GrantsTells = (holder need : Authorization) → (grants holder need ≡ true) ↔ Grants holder need
