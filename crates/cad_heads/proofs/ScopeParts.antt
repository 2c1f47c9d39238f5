-- Scopes by their parts.
use Rattle.std.proofs.Common.{◌≡◌, List, [], ◌∷◌, map, refl, ap}
use Rattle.cad_declarations.specs.Scopes.{Scope}
use Rattle.cad_declarations.specs.Views.{mapping_entry_of}
use Rattle.cad_declarations.specs.declared.tables.MappingDeclaration.{MappingDeclaration}
use Rattle.cad_syntax.specs.declared.type_id.TypeId.{TypeId}

pub mapping_ids : (all : List MappingDeclaration) → map {B = TypeId} (λ m. m.id) all ≡ map (λ m. m.id) (map mapping_entry_of all)
mapping_ids [] = refl
mapping_ids (m ∷ all) = ap (λ ids. m.id ∷ ids) (mapping_ids all)

pub same_scope : (a b : Scope) → a.contract ≡ b.contract → a.imports ≡ b.imports → a.types ≡ b.types → a.entitlements ≡ b.entitlements → a.mappings ≡ b.mappings → a ≡ b
same_scope a b contract imports types entitlements mappings =
    λ i. record { contract = contract i; imports = imports i; types = types i; entitlements = entitlements i; mappings = mappings i }
