-- The declared types of all deployed contracts.
use Rattle.std.specs.Prelude.{List, map, flat_map}
use Rattle.cad_types.specs.Declarations.{Declaration}
use Rattle.cad_declarations.specs.Imports.{ContractEntry}
use Rattle.cad_declarations.specs.Kinds.{declaration_of}
use Rattle.cad_declarations.specs.Reached.{linearised}
use Rattle.cad_declarations.specs.Tables.{TypeEntry}
use Rattle.cad_declarations.specs.declared.link.Link.{Link}

-- to the interfaces that the types of a contract name
abbrev pub parent_links_of : ContractEntry → List Link
parent_links_of c = map (λ t. record { id = t.id; to = t.parents }) c.types

-- a type with all interfaces that it has by these links
abbrev pub linked_type : List Link → TypeEntry → TypeEntry
linked_type links t = record t { interfaces = linearised links t.id }

abbrev pub deployed_types : List ContractEntry → List TypeEntry
deployed_types deployed = map (linked_type (flat_map parent_links_of deployed)) (flat_map (λ c. c.types) deployed)

-- the types that deployed contracts declare, by which the order of types is judged
abbrev pub deployed_kinds : List ContractEntry → List Declaration
deployed_kinds deployed = map declaration_of (deployed_types deployed)
