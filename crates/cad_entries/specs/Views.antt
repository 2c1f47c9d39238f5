-- What the names of a program are looked up in.
use Rattle.std.specs.Prelude.{List, map, option_map}
use Rattle.cad_types.specs.Views.{declarations}
use Rattle.cad_declarations.specs.Imports.{ContractEntry}
use Rattle.cad_declarations.specs.Scopes.{Scope}
use Rattle.cad_contracts.specs.Views.{entry_of}
use Rattle.cad_entries.specs.declared.known.Known.{Known}

-- the contracts of a program's closure
abbrev pub imports_of : Known → List ContractEntry
imports_of x = map (λ c. entry_of c.now) x.imports.items

abbrev pub known_scope : Known → Scope
known_scope x = record {
  contract = option_map (λ o. o.id) x.own;
  imports = x.imported;
  types = declarations x.types;
  entitlements = x.entitlements;
  mappings = map (λ m. m.id) x.mappings;
}
