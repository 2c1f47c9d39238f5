-- The tests tell.
use Rattle.std.proofs.Common.{◌≡◌, true, List}
use Rattle.std.specs.List.{list_any}
use Rattle.cad_syntax.specs.declared.type_id.TypeId.{TypeId}
use Rattle.cad_syntax.proofs.Members.{some_passes, passes_some, each_passes, passes_each}
use Rattle.cad_auth.specs.Grants.{sets, Covers}
use Rattle.cad_auth.specs.Images.{includes}
use Rattle.cad_auth.specs.Tests.{covers, CoversTells, GrantsTells}
use Rattle.cad_auth.proofs.Covers.{includes_to, to_includes}

covers_to : (these those : List (List TypeId)) → covers these those ≡ true → Covers these those
covers_to these those e set there =
    let found = some_passes (includes set) those (each_passes (λ s. list_any (includes s) those) these e set there) in
    (found.0, found.1, includes_to set found.0 found.2)

to_covers : (these those : List (List TypeId)) → Covers these those → covers these those ≡ true
to_covers these those h =
    passes_each (λ s. list_any (includes s) those) these (λ set there.
    let found = h set there in passes_some (includes set) those found.0 found.1 (to_includes set found.0 found.2))

pub covers_tells : CoversTells
covers_tells these those = (covers_to these those, to_covers these those)

pub grants_tells : GrantsTells
grants_tells holder need = covers_tells (sets holder) (sets need)
