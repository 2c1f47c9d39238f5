use Rattle.std.proofs.Common.{◌≡◌, map, drop, reverse, []}
use Rattle.std.specs.Prelude.{option_map, true}
use Rattle.cad_contracts.specs.Views.{own_of}
use Rattle.cad_scopes.specs.Views.{scope_of}
use Rattle.cad_declarations.specs.Build as b
use Rattle.cad_grammar.specs.Views as g
use Rattle.cad_tables.proofs.program_points.each_declaration_stop.Given as goal

abbrev pub invariant-loop-declaration : goal.invariant-loop-declaration
invariant-loop-declaration l =
    b.first_stop (scope_of l.scope) (b.all_declaration_points (scope_of l.scope) l.links l.is_placed (option_map own_of l.own) l.is_first (reverse l.before) (map g.decl_of (drop l.declaration-index l.declarations))) ≡ b.first_stop (scope_of l.scope) (b.all_declaration_points (scope_of l.scope) l.links l.is_placed (option_map own_of l.own) true (b.with_names (b.import_names l.imports) []) (map g.decl_of l.declarations))
