use Rattle.std.proofs.Common.{◌≡◌, map, drop}
use Rattle.cad_grammar.specs.Views.{event_parameter_of}
use Rattle.cad_declarations.specs.Scopes.{each_of}
use Rattle.cad_declarations.specs.Views.{argument_of, tables_of}
use Rattle.cad_routines.specs.Code.Parts.{behind, default_of}
use Rattle.cad_routines.proofs.destroyed.push_defaults.Given as goal

abbrev pub invariant-loop-parameter : goal.invariant-loop-parameter
invariant-loop-parameter l =
    behind (map argument_of l.all.items) (each_of (default_of (tables_of l.known.tables.now) l.id) (map event_parameter_of (drop l.parameter-index l.parameters)))
    ≡ behind (map argument_of l.initial.all.items) (each_of (default_of (tables_of l.known.tables.now) l.id) (map event_parameter_of l.parameters))
