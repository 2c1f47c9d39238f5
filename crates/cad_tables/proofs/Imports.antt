-- The stops of imports, and of declarations behind imports that are right.
use Rattle.std.specs.Prelude.{ℕ, true, Option, Some, None, List, [], ◌∷◌}
use Rattle.std.specs.Option.{is_some, option_or}
use Rattle.std.proofs.Common.{◌≡◌, ◌∙◌, refl, ap, sym}
use Rattle.cad_syntax.specs.declared.text.Name.{Name}
use Rattle.cad_syntax.specs.declared.address.Address.{Address}
use Rattle.cad_grammar.specs.Trees.{ProgramTree}
use Rattle.cad_grammar.specs.declared.declaration.Import.{Import}
use Rattle.cad_declarations.specs.Build as b
use Rattle.cad_declarations.specs.Imports.{ContractEntry}
use Rattle.cad_declarations.specs.Own.{OwnContract}
use Rattle.cad_declarations.specs.Scopes.{Scope}
use Rattle.cad_declarations.specs.declared.stop.Stop.{Stop}
use Rattle.cad_stop_points.proofs.Stops.{first_of_both, stops_there, goes_on}
use Rattle.cad_tables.specs.Code.Beside.{no_scope, declared_stop}

-- what names mean doesn't matter to imports
names_alone : (scope : Scope) (deployed : List ContractEntry) (own : Option OwnContract) (before names : List Name) (address : ℕ)
    → b.first_stop scope (b.name_points deployed own before address names) ≡ b.first_stop no_scope (b.name_points deployed own before address names)
names_alone scope deployed own before [] address = refl
names_alone scope deployed own before (name ∷ more) address =
    ap (option_or (b.point_stop no_scope (b.import_point deployed own before address name))) (names_alone scope deployed own (name ∷ before) more address)

pub imports_alone : (scope : Scope) (deployed : List ContractEntry) (own : Option OwnContract) (before : List Name) (imports : List Import)
    → b.first_stop scope (b.import_points deployed own before imports) ≡ b.first_stop no_scope (b.import_points deployed own before imports)
imports_alone scope deployed own before [] = refl
imports_alone scope deployed own before (i ∷ more) =
    first_of_both scope (b.name_points deployed own before i.address i.names) (b.import_points deployed own (b.with_names i.names before) more)
    ∙ ap (λ o. option_or o (b.first_stop scope (b.import_points deployed own (b.with_names i.names before) more))) (names_alone scope deployed own before i.names i.address)
    ∙ ap (option_or (b.first_stop no_scope (b.name_points deployed own before i.address i.names))) (imports_alone scope deployed own (b.with_names i.names before) more)
    ∙ sym (first_of_both no_scope (b.name_points deployed own before i.address i.names) (b.import_points deployed own (b.with_names i.names before) more))

-- behind imports that are right comes the stop of declarations
pub behind_imports : (deployed : List ContractEntry) (place : Option Address) (program : ProgramTree)
    → b.first_stop no_scope (b.import_points deployed (b.setting deployed place program).own [] program.imports) ≡ None
    → b.resolve_stop deployed place program ≡ declared_stop place program (b.setting deployed place program)
behind_imports deployed place program none =
    let by = b.setting deployed place program in
    goes_on by.scope (b.import_points deployed by.own [] program.imports)
    (b.all_declaration_points by.scope by.links (is_some place) by.own true (b.with_names (b.import_names program.imports) []) program.declarations)
    (imports_alone by.scope deployed by.own [] program.imports ∙ none)

pub at_imports : (deployed : List ContractEntry) (place : Option Address) (program : ProgramTree) (stop : Stop)
    → b.first_stop no_scope (b.import_points deployed (b.setting deployed place program).own [] program.imports) ≡ Some stop
    → b.resolve_stop deployed place program ≡ Some stop
at_imports deployed place program stop some =
    let by = b.setting deployed place program in
    stops_there by.scope (b.import_points deployed by.own [] program.imports)
    (b.all_declaration_points by.scope by.links (is_some place) by.own true (b.with_names (b.import_names program.imports) []) program.declarations)
    stop (imports_alone by.scope deployed by.own [] program.imports ∙ some)
