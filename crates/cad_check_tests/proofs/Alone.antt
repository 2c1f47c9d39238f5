-- Types that have no interfaces are closed.
use Rattle.std.proofs.Common.{◌≡◌, Bool, true, false, cond, List, [], ◌∷◌, Option, Some, refl, subst}
use Rattle.std.specs.Prelude.{map}
use Rattle.std.specs.List.{AllByRecursion}
use Rattle.cad_syntax.specs.TypeIds.{has, same_id}
use Rattle.cad_syntax.specs.declared.type_id.TypeId.{TypeId}
use Rattle.cad_types.specs.Declarations.{Declaration, IsClosed, found, interfaces_in, interfaces_of}
use Rattle.cad_declarations.specs.Kinds.{declaration_of}
use Rattle.cad_declarations.specs.Views.{type_entry_of}
use Rattle.cad_declarations.specs.declared.tables.TypeDeclaration.{TypeDeclaration}

one_or : (b : Bool) (d : Declaration) (o : Option Declaration) → d.interfaces ≡ [] → interfaces_in o ≡ [] → interfaces_in (cond b (Some d) o) ≡ []
one_or true d o this rest = this
one_or false d o this rest = rest

none_of : (types : List TypeDeclaration) → AllByRecursion (λ d. d.interfaces ≡ []) types → (id : TypeId) → interfaces_of (map declaration_of (map type_entry_of types)) id ≡ []
none_of [] h id = refl
none_of (d ∷ types) h id = one_or (same_id d.id id) (declaration_of (type_entry_of d)) (found (map declaration_of (map type_entry_of types)) id) h.0 (none_of types h.1 id)

pub closed_alone : (types : List TypeDeclaration) → AllByRecursion (λ d. d.interfaces ≡ []) types → IsClosed (map declaration_of (map type_entry_of types))
closed_alone types h i j m one two =
    let none : false ≡ true = subst (λ (ids : List TypeId). has ids j ≡ true) (none_of types h i) one in
    absurd cc
