use Rattle.std.proofs.Common.{rules, ◌≡◌, ◌∙◌, ap, map, option_map, Bor}
use Rattle.cad_grammar.specs.Views.{decl_of}
use Rattle.cad_contracts.specs.Views.{entry_of, own_of}
use Rattle.cad_declarations.specs.Views.{type_entry_of, mapping_entry_of, member_of}
use Rattle.cad_declarations.specs.declared.program.Installed.{Installed}
use Rattle.cad_entries.proofs.Made.{own_ids, same_tables, types_made, mappings_made, functions_made}
use Rattle.cad_entries.proofs.tables.made_tables.Goals as goal

pub returns : goal.returns
returns c =
    let own = option_map own_of c.args.known.now.own in
    let entries = map (λ (x : Bor Installed). entry_of x.now) in
    let contract : c.in_ok-contract.contract ≡ option_map (λ o. o.id) own = c.in_ok-contract.ensures ∙ c.own_id.ensures ∙ own_ids c.args.known.now.own in
    let imports : c.in_ok-imports.imports ≡ c.args.known.now.imported = search rules in
    let entitlements : c.in_ok-entitlements.entitlements ≡ c.args.known.now.entitlements = search rules in
    let types = types_made _ _ _ _ _ _ own _ c.in_ok-types.ensures c.requires.linked (ap entries c.as_slice-3.ensures.value) c.scope-within.ensures in
    let mappings = mappings_made _ _ _ _ own _ c.in_ok-mappings.ensures (ap entries c.as_slice.ensures.value) c.scope-within.ensures in
    let functions = functions_made _ _ _ _ _ c.in_ok-functions.ensures (ap (map decl_of) c.as_slice-2.ensures.value) c.scope-within.ensures in
    same_tables c.args.place _ _ _ _ _ _ _ _ _ _ _ _ contract (imports ∙ c.requires.imported) types entitlements mappings functions
