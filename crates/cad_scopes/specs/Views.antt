-- The scope and the meanings that values of the program are.
use Rattle.std.specs.Prelude.{map, option_copied}
use Rattle.cad_types.specs.Views.{declarations}
use Rattle.cad_declarations.specs.Scopes as s
use Rattle.cad_scopes.specs.declared.scope.Scope.{Scope}
use Rattle.cad_scopes.specs.declared.names.Meaning.{Meaning}
use Rattle.cad_scopes.specs.declared.names.Meaning.TheVariants as m

abbrev pub scope_of : Scope → s.Scope
scope_of x = record {
  contract = option_copied x.contract;
  imports = x.imports.now;
  types = declarations x.types.now;
  entitlements = x.entitlements.now;
  mappings = map (λ m. m.id) x.mappings.now;
}

abbrev pub meaning_view : Meaning → s.Meaning
meaning_view (m.Basic b) = s.basic_meaning b
meaning_view m.Capability = s.capability_meaning
meaning_view (m.Type id sort) = s.type_meaning id sort
meaning_view (m.Entitlement id) = s.entitlement_meaning id
meaning_view (m.Mapping id) = s.mapping_meaning id
