use Rattle.std.proofs.Common.{◌≡◌, ◌++◌, map, drop}
use Rattle.std.specs.Prelude.{filter_map}
use Rattle.cad_scopes.specs.Views.{scope_of}
use Rattle.cad_declarations.specs.Views.{member_of}
use Rattle.cad_declarations.specs.Entries as e
use Rattle.cad_grammar.specs.Views as g
use Rattle.cad_entries.proofs.tables.top_functions.Given as goal

abbrev pub invariant-loop-declaration : goal.invariant-loop-declaration
invariant-loop-declaration l =
    map member_of l.all.items ++ filter_map (e.top_function (scope_of l.scope)) (map g.decl_of (drop l.declaration-index l.declarations)) ≡ filter_map (e.top_function (scope_of l.scope)) (map g.decl_of l.declarations)
