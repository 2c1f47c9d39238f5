-- Steps of building, over plain variables.
use Rattle.std.specs.Prelude.{Option, Some, None, Result, Err, List, []}
use Rattle.std.proofs.Common.{◌≡◌, ◌∙◌, ap, sym}
use Rattle.cad_syntax.specs.declared.address.Address.{Address}
use Rattle.cad_grammar.specs.Trees.{ProgramTree}
use Rattle.cad_declarations.specs.Build as b
use Rattle.cad_declarations.specs.Imports.{ContractEntry, all_imported, closure}
use Rattle.cad_declarations.specs.Own.{OwnContract, own_contract, program_scope}
use Rattle.cad_declarations.specs.Scopes.{Scope}
use Rattle.cad_declarations.specs.Tables.{ProgramTables}
use Rattle.cad_declarations.specs.declared.stop.Stop.{Stop}
use Rattle.cad_tables.specs.Code.Beside.{no_scope, built_by}
use Rattle.cad_tables.proofs.Imports.{at_imports, behind_imports}

-- what is built where all imports are right
pub beside : (deployed imports : List ContractEntry) (place : Option Address) (program : ProgramTree) (own : Option OwnContract) (scope : Scope) (made : Result ProgramTables Stop)
    → made ≡ built_by place program (b.setting_in imports own scope)
    → imports ≡ closure deployed (all_imported program.imports) → own ≡ own_contract place program → scope ≡ program_scope imports program own
    → b.first_stop no_scope (b.import_points deployed own [] program.imports) ≡ None
    → made ≡ b.build deployed place program
beside deployed imports place program own scope made is imports_are own_is scope_is none =
    is
    ∙ ap (λ s. built_by place program (b.setting_in imports own s)) scope_is
    ∙ ap (λ o. built_by place program (b.setting_by imports o program)) own_is
    ∙ ap (λ all. built_by place program (b.setting_by all (own_contract place program) program)) imports_are
    ∙ ap (λ s. b.built s (b.tables_by place program (b.setting deployed place program)))
    (sym (behind_imports deployed place program (ap (λ o. b.first_stop no_scope (b.import_points deployed o [] program.imports)) (sym own_is) ∙ none)))

-- the same by what the code holds
pub beside_known : (deployed : List ContractEntry) (place : Option Address) (program : ProgramTree) (imports found : List ContractEntry) (own held : Option OwnContract) (scope : Scope)
    → imports ≡ found → own ≡ held → scope ≡ program_scope found program held
    → found ≡ closure deployed (all_imported program.imports) → held ≡ own_contract place program
    → b.first_stop no_scope (b.import_points deployed held [] program.imports) ≡ None
    → built_by place program (b.setting_in imports own scope) ≡ b.build deployed place program
beside_known deployed place program imports found own held scope imports_is own_is scope_is found_is held_is none =
    beside deployed found place program held scope (built_by place program (b.setting_in imports own scope))
    (ap (λ i. built_by place program (b.setting_in i own scope)) imports_is ∙ ap (λ o. built_by place program (b.setting_in found o scope)) own_is)
    found_is held_is scope_is none

-- a program whose imports are refused
pub refused : (deployed : List ContractEntry) (place : Option Address) (program : ProgramTree) (own : Option OwnContract) (stop : Stop)
    → own ≡ own_contract place program → Some stop ≡ b.first_stop no_scope (b.import_points deployed own [] program.imports)
    → Err stop ≡ b.build deployed place program
refused deployed place program own stop own_is is =
    ap (λ s. b.built s (b.tables_by place program (b.setting deployed place program)))
    (sym (at_imports deployed place program stop (ap (λ o. b.first_stop no_scope (b.import_points deployed o [] program.imports)) (sym own_is) ∙ sym is)))
