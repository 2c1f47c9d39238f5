-- Tables rest on the contracts that are imported.
use Rattle.std.specs.Prelude.{ℕ, Bool, true, false, ◌&&◌, not, Option, Some, None, Result, List, [], ◌∷◌, ◌++◌, map, flat_map}
use Rattle.std.specs.Option.{is_some}
use Rattle.std.proofs.Common.{◌≡◌, ◌∙◌, refl, ap, sym, subst, ◌⊎◌, inl, inr}
use Rattle.std.proofs.lemmas.Bool.{false≢true}
use Rattle.cad_syntax.specs.TypeIds.{has}
use Rattle.cad_syntax.specs.declared.text.Name.{Name}
use Rattle.cad_syntax.specs.declared.address.Address.{Address}
use Rattle.cad_syntax.specs.declared.type_id.TypeId.{TypeId}
use Rattle.cad_grammar.specs.Trees.{ProgramTree}
use Rattle.cad_grammar.specs.declared.declaration.Import.{Import}
use Rattle.cad_declarations.specs.Build.{build, built, tables_by, first_stop, resolve_stop, setting, setting_by, Setting, program_points, import_points, name_points, import_point, leads_to, all_declaration_points, import_names, with_names}
use Rattle.cad_declarations.specs.Imports.{ContractEntry, contract_id, imported, all_imported, is_deployed, import_links, closure}
use Rattle.cad_declarations.specs.Own.{OwnContract, own_contract}
use Rattle.cad_declarations.specs.Points.{Point, is_new, declaration_point}
use Rattle.cad_declarations.specs.Reached.{reached_from}
use Rattle.cad_declarations.specs.Tables.{ProgramTables}
use Rattle.cad_declarations.specs.declared.stop.Stop.{Stop}
use Rattle.cad_table_laws.specs.Laws.{ImportsAreEnough, OthersDontCount}
use Rattle.cad_table_laws.proofs.Contracts.{Agree, same_reached, same_closure, agree_on, agrees_closure, agrees_without}
use Rattle.cad_table_laws.proofs.Reaching.{Has, Within, at_head, in_tail, in_front, in_back, head_or_tail, holds_start}

-- ---- imports

only_one : (ids : List TypeId) (id : TypeId) → Has ids id → Within (id ∷ []) ids
only_one ids id h other k = by_head (head_or_tail id [] other k)
  where
    by_head : (id ≡ other) ⊎ Has [] other → Has ids other
    by_head (inl same) = subst (Has ids) same h
    by_head (inr none) = absurd (false≢true none)

same_deployed : (d e : List ContractEntry) (ids : List TypeId) → Agree d e ids → (id : TypeId) → Has ids id → is_deployed d id ≡ is_deployed e id
same_deployed d e ids same id h = ap is_some (same id (holds_start (import_links d) ids id h))

same_leads : (d e : List ContractEntry) (ids : List TypeId) → Agree d e ids → (own : Option OwnContract) (id : TypeId) → Has ids id → leads_to d own id ≡ leads_to e own id
same_leads d e ids same None id h = refl
same_leads d e ids same (Some own) id h =
    ap (λ (all : List TypeId). has all own.id) (same_reached d e (id ∷ []) (agree_on d e (id ∷ []) ids (only_one ids id h) same))

same_point : (d e : List ContractEntry) (ids : List TypeId) → Agree d e ids → (own : Option OwnContract) (before : List Name) (address : ℕ) (name : Name)
    → Has ids (contract_id address name) → import_point d own before address name ≡ import_point e own before address name
same_point d e ids same own before address name h =
    ap (λ (q : Bool). declaration_point (name ∷ []) (is_new before name && (q && not (leads_to d own (contract_id address name))))) (same_deployed d e ids same (contract_id address name) h)
    ∙ ap (λ (q : Bool). declaration_point (name ∷ []) (is_new before name && (is_deployed e (contract_id address name) && not q))) (same_leads d e ids same own (contract_id address name) h)

same_names : (d e : List ContractEntry) (ids : List TypeId) → Agree d e ids → (own : Option OwnContract) (before : List Name) (address : ℕ) (names : List Name)
    → Within (map (contract_id address) names) ids → name_points d own before address names ≡ name_points e own before address names
same_names d e ids same own before address [] inside = refl
same_names d e ids same own before address (name ∷ more) inside =
    ap (λ (p : Point). p ∷ name_points d own (name ∷ before) address more)
    (same_point d e ids same own before address name (inside (contract_id address name) (at_head (contract_id address name) (map (contract_id address) more))))
    ∙ ap (λ (all : List Point). import_point e own before address name ∷ all)
    (same_names d e ids same own (name ∷ before) address more (λ id h. inside id (in_tail (contract_id address name) (map (contract_id address) more) id h)))

same_imports : (d e : List ContractEntry) (ids : List TypeId) → Agree d e ids → (own : Option OwnContract) (before : List Name) (imports : List Import)
    → Within (all_imported imports) ids → import_points d own before imports ≡ import_points e own before imports
same_imports d e ids same own before [] inside = refl
same_imports d e ids same own before (i ∷ more) inside =
    ap (λ (all : List Point). all ++ import_points d own (with_names i.names before) more)
    (same_names d e ids same own before i.address i.names (λ id h. inside id (in_front (imported i) (all_imported more) id h)))
    ∙ ap (λ (all : List Point). name_points e own before i.address i.names ++ all)
    (same_imports d e ids same own (with_names i.names before) more (λ id h. inside id (in_back (imported i) (all_imported more) id h)))

-- ---- programs

abbrev with_setting : List ContractEntry → Option Address → ProgramTree → Setting → Result ProgramTables Stop
with_setting d place program by = built (first_stop by.scope (program_points d place program by)) (tables_by place program by)

same_build : (d e : List ContractEntry) (place : Option Address) (program : ProgramTree) → Agree d e (all_imported program.imports) → build d place program ≡ build e place program
same_build d e place program same =
    let by : setting d place program ≡ setting e place program =
    ap (λ (c : List ContractEntry). setting_by c (own_contract place program) program) (same_closure d e (all_imported program.imports) same) in
    ap (with_setting d place program) by
    ∙ ap (λ (points : List Point). built (first_stop (setting e place program).scope
    (points ++ all_declaration_points (setting e place program).scope (setting e place program).links (is_some place) (setting e place program).own true
    (with_names (import_names program.imports) []) program.declarations)) (tables_by place program (setting e place program)))
    (same_imports d e (all_imported program.imports) same (setting e place program).own [] program.imports (λ id h. h))

pub imports_enough : ImportsAreEnough
imports_enough deployed place program =
    sym (same_build deployed (closure deployed (all_imported program.imports)) place program (agrees_closure deployed (all_imported program.imports)))

pub others_aside : OthersDontCount
others_aside before after other place program lacks =
    let same = agrees_without before after other (all_imported program.imports) lacks in (
      sym (same_closure (before ++ after) (before ++ other ∷ after) (all_imported program.imports) same),
      sym (same_build (before ++ after) (before ++ other ∷ after) place program same),
    )
