-- The tables of a program, or where its names are refused.
use Rattle.std.specs.Prelude.{ℕ, ◌-◌, ◌^◌, Bool, true, false, ◌&&◌, not, Option, Some, None, Result, Ok, Err, List, [], ◌∷◌, ◌++◌, map, min, filter_map, flat_map, option_map, option_to_list, if◌then◌else◌}
use Rattle.std.specs.List.{position_from}
use Rattle.std.specs.Option.{is_some, option_or}
use Rattle.cad_syntax.specs.TypeIds.{has}
use Rattle.cad_syntax.specs.declared.text.Name.{Name}
use Rattle.cad_syntax.specs.declared.address.Address.{Address}
use Rattle.cad_syntax.specs.declared.type_id.TypeId.{TypeId}
use Rattle.cad_grammar.specs.Trees as t
use Rattle.cad_grammar.specs.declared.declaration.Import.{Import}
use Rattle.cad_declarations.specs.Entries.{types_in, mappings_by, top_function}
use Rattle.cad_declarations.specs.Deployed.{linked_type}
use Rattle.cad_declarations.specs.Imports.{ContractEntry, contract_id, all_imported, is_deployed, import_links, closure}
use Rattle.cad_declarations.specs.Own.{OwnContract, own_contract, program_scope, parent_links}
use Rattle.cad_declarations.specs.Points.{Point, is_new, misplaced, declaration_point, types_are_there, transaction_name, contract_points, function_point, transaction_points}
use Rattle.cad_declarations.specs.Reached.{reached_from}
use Rattle.cad_declarations.specs.declared.link.Link.{Link}
use Rattle.cad_declarations.specs.Scopes.{Scope}
use Rattle.cad_declarations.specs.Tables.{MappingEntry, ProgramTables}
use Rattle.cad_declarations.specs.declared.stop.Stop.{Stop}

-- ---- the first stop

-- a number over 2^64-1 is told as 2^64-1
abbrev pub told : ℕ → ℕ
told n = min n (2 ^ 64 - 1)

abbrev pub stop_at : List Name → ℕ → Stop
stop_at names n = record { inside = names; at = told n }

-- the first statement that names a type that isn't there
abbrev pub missing_row : Scope → List (List t.TypeTree) → Option ℕ
missing_row scope rows = position_from (λ row. not (types_are_there scope row)) 0 rows

abbrev pub point_stop : Scope → Point → Option Stop
point_stop scope p = if p.is_right then option_map (stop_at p.inside) (missing_row scope p.rows) else Some (stop_at p.inside 0)

abbrev pub first_stop : Scope → List Point → Option Stop
first_stop scope [] = None
first_stop scope (p ∷ points) = option_or (point_stop scope p) (first_stop scope points)

-- ---- imports

-- a contract, or a program that isn't one, is reached by imports from a contract
abbrev pub leads_to : List ContractEntry → Option OwnContract → TypeId → Bool
leads_to deployed None id = false
leads_to deployed (Some own) id = has (reached_from (import_links deployed) (id ∷ [])) own.id

-- an import counts as a declaration of its name: a contract that is deployed, and that doesn't lead back to the program
abbrev pub import_point : List ContractEntry → Option OwnContract → List Name → ℕ → Name → Point
import_point deployed own before address name =
    declaration_point (name ∷ [])
    (is_new before name && (is_deployed deployed (contract_id address name) && not (leads_to deployed own (contract_id address name))))

abbrev pub name_points : List ContractEntry → Option OwnContract → List Name → ℕ → List Name → List Point
name_points deployed own before address [] = []
name_points deployed own before address (name ∷ more) = import_point deployed own before address name ∷ name_points deployed own (name ∷ before) address more

-- names in front of others, the last first
abbrev pub with_names : List Name → List Name → List Name
with_names [] before = before
with_names (name ∷ more) before = with_names more (name ∷ before)

abbrev pub import_points : List ContractEntry → Option OwnContract → List Name → List Import → List Point
import_points deployed own before [] = []
import_points deployed own before (i ∷ more) =
    name_points deployed own before i.address i.names ++ import_points deployed own (with_names i.names before) more

-- ---- declarations

-- A contract has its place in an account, where no other stands before it.
abbrev pub contract_declaration_points : Scope → List Link → Option OwnContract → Bool → List Name → t.ContractTree → List Point
contract_declaration_points scope links (Some own) true before x = contract_points scope links own.id before x
contract_declaration_points scope links (Some own) false before x = misplaced (x.name ∷ []) ∷ []
contract_declaration_points scope links None is_first before x = misplaced (x.name ∷ []) ∷ []

-- Functions and transactions have their place in programs that no account has.
abbrev pub declaration_points : Scope → List Link → Bool → Option OwnContract → Bool → List Name → t.DeclTree → List Point
declaration_points scope links is_placed own is_first before (t.contract x) = contract_declaration_points scope links own is_first before x
declaration_points scope links is_placed own is_first before (t.top_function x) =
    if is_placed then misplaced (x.name ∷ []) ∷ [] else function_point scope [] before x ∷ []
declaration_points scope links is_placed own is_first before (t.transaction x) =
    if is_placed then misplaced (transaction_name ∷ []) ∷ [] else transaction_points scope before x

abbrev pub declaration_name : t.DeclTree → Name
declaration_name (t.contract x) = x.name
declaration_name (t.top_function x) = x.name
declaration_name (t.transaction x) = transaction_name

abbrev pub is_contract : t.DeclTree → Bool
is_contract (t.contract x) = true
is_contract (t.top_function x) = false
is_contract (t.transaction x) = false

-- by whether no contract stands before, and the names before
abbrev pub all_declaration_points : Scope → List Link → Bool → Option OwnContract → Bool → List Name → List t.DeclTree → List Point
all_declaration_points scope links is_placed own is_first before [] = []
all_declaration_points scope links is_placed own is_first before (d ∷ more) =
    declaration_points scope links is_placed own is_first before d
    ++ all_declaration_points scope links is_placed own (is_first && not (is_contract d)) (declaration_name d ∷ before) more

-- ---- programs

-- the names that a program's imports bring in
abbrev pub import_names : List Import → List Name
import_names imports = flat_map (λ i. i.names) imports

-- What a program's names are judged by: the closure of its imports, its own contract, the scope, and the links from types to
-- the interfaces that they name.
pub record Setting : Type 0 where
  pub imports : List ContractEntry
  pub own : Option OwnContract
  pub scope : Scope
  pub links : List Link

abbrev pub setting_in : List ContractEntry → Option OwnContract → Scope → Setting
setting_in imports own scope = record { imports = imports; own = own; scope = scope; links = parent_links imports scope own }

abbrev pub setting_by : List ContractEntry → Option OwnContract → t.ProgramTree → Setting
setting_by imports own program = setting_in imports own (program_scope imports program own)

abbrev pub setting : List ContractEntry → Option Address → t.ProgramTree → Setting
setting deployed place program = setting_by (closure deployed (all_imported program.imports)) (own_contract place program) program

-- the imports in front, and then the declarations
abbrev pub program_points : List ContractEntry → Option Address → t.ProgramTree → Setting → List Point
program_points deployed place program by =
    import_points deployed by.own [] program.imports
    ++ all_declaration_points by.scope by.links (is_some place) by.own true (with_names (import_names program.imports) []) program.declarations

-- where the names of a program are refused first
abbrev pub resolve_stop : List ContractEntry → Option Address → t.ProgramTree → Option Stop
resolve_stop deployed place program =
    first_stop (setting deployed place program).scope (program_points deployed place program (setting deployed place program))

-- ---- tables

abbrev pub own_mappings : Scope → OwnContract → List MappingEntry
own_mappings scope own = flat_map (mappings_by scope own.id) own.members

abbrev pub tables_by : Option Address → t.ProgramTree → Setting → ProgramTables
tables_by place program by = record {
  place = place;
  contract = option_map (λ o. o.id) by.own;
  imports = all_imported program.imports;
  types = map (linked_type by.links) (flat_map (λ c. c.types) by.imports) ++ flat_map (types_in by.scope by.links) (option_to_list by.own);
  entitlements = by.scope.entitlements;
  mappings = flat_map (λ c. c.mappings) by.imports ++ flat_map (own_mappings by.scope) (option_to_list by.own);
  functions = filter_map (top_function by.scope) program.declarations;
}

abbrev pub built : Option Stop → ProgramTables → Result ProgramTables Stop
built (Some stop) tables = Err stop
built None tables = Ok tables

-- The tables of a program at a place, beside deployed contracts; else where its names are refused.
abbrev pub build : List ContractEntry → Option Address → t.ProgramTree → Result ProgramTables Stop
build deployed place program = built (resolve_stop deployed place program) (tables_by place program (setting deployed place program))
