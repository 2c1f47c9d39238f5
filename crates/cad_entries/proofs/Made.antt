-- The parts of tables, put together.
use Rattle.std.specs.Prelude.{Option, Some, None, option_map, option_to_list, List, ◌++◌, flat_map, filter_map, map}
use Rattle.std.proofs.Common.{◌≡◌, ◌∙◌, refl}
use Rattle.cad_contracts.specs.Views.{own_of}
use Rattle.cad_contracts.specs.declared.own.Own.{Own}
use Rattle.cad_grammar.specs.Trees as t
use Rattle.cad_syntax.specs.declared.address.Address.{Address}
use Rattle.cad_syntax.specs.declared.type_id.TypeId.{TypeId}
use Rattle.cad_declarations.specs.Build.{own_mappings}
use Rattle.cad_declarations.specs.Deployed.{linked_type}
use Rattle.cad_declarations.specs.Entries.{types_in, top_function}
use Rattle.cad_declarations.specs.Imports.{ContractEntry}
use Rattle.cad_declarations.specs.Own.{OwnContract}
use Rattle.cad_declarations.specs.Scopes.{Scope}
use Rattle.cad_declarations.specs.Tables.{ProgramTables, TypeEntry, MappingEntry, MemberEntry}
use Rattle.cad_declarations.specs.declared.link.Link.{Link}

pub same_tables : (place : Option Address) (contract contract' : Option TypeId) (imports imports' : List TypeId) (types types' : List TypeEntry) (entitlements entitlements' : List TypeId)
    (mappings mappings' : List MappingEntry) (functions functions' : List MemberEntry)
    → contract ≡ contract' → imports ≡ imports' → types ≡ types' → entitlements ≡ entitlements' → mappings ≡ mappings' → functions ≡ functions'
    → ◌≡◌ {A = ProgramTables}
    (record { place = place; contract = contract; imports = imports; types = types; entitlements = entitlements; mappings = mappings; functions = functions })
    (record { place = place; contract = contract'; imports = imports'; types = types'; entitlements = entitlements'; mappings = mappings'; functions = functions' })
same_tables place contract contract' imports imports' types types' entitlements entitlements' mappings mappings' functions functions' a b c d e f = rw a (rw b (rw c (rw d (rw e (rw f refl)))))

pub types_made : (l l' : List Link) (i i' : List ContractEntry) (s s' : Scope) (own : Option OwnContract) (types : List TypeEntry)
    → types ≡ map (linked_type l) (flat_map (λ c. c.types) i) ++ flat_map (types_in s l) (option_to_list own) → l ≡ l' → i ≡ i' → s ≡ s'
    → types ≡ map (linked_type l') (flat_map (λ c. c.types) i') ++ flat_map (types_in s' l') (option_to_list own)
types_made l l' i i' s s' own types is a b c = is ∙ rw a (rw b (rw c refl))

pub mappings_made : (i i' : List ContractEntry) (s s' : Scope) (own : Option OwnContract) (mappings : List MappingEntry)
    → mappings ≡ flat_map (λ c. c.mappings) i ++ flat_map (own_mappings s) (option_to_list own) → i ≡ i' → s ≡ s'
    → mappings ≡ flat_map (λ c. c.mappings) i' ++ flat_map (own_mappings s') (option_to_list own)
mappings_made i i' s s' own mappings is a b = is ∙ rw a (rw b refl)

pub functions_made : (d d' : List t.DeclTree) (s s' : Scope) (functions : List MemberEntry)
    → functions ≡ filter_map (top_function s) d → d ≡ d' → s ≡ s' → functions ≡ filter_map (top_function s') d'
functions_made d d' s s' functions is a b = is ∙ rw a (rw b refl)

-- the identifier of the program's own contract, as the code has it and as it is defined
pub own_ids : (own : Option Own) → option_map (λ o. o.id) own ≡ option_map (λ o. o.id) (option_map own_of own)
own_ids None = refl
own_ids (Some o) = refl
