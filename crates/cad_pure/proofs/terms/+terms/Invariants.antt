use Rattle.std.proofs.Common.{◌≡◌, map, drop}
use Rattle.cad_declarations.specs.Typed.{terms_of, arguments_of, entries_of}
use Rattle.cad_declarations.specs.Views.{tables_of, term_of, argument_of, pair_of}
use Rattle.cad_paths.specs.Purity as spec
use Rattle.cad_pure.proofs.terms.+terms.Given as goal

abbrev pub invariant-are_pure-loop-term : goal.invariant-are_pure-loop-term
invariant-are_pure-loop-term l =
    spec.are_pure (tables_of l.tables) (terms_of (map term_of (drop l.term-index l.all))) ≡ spec.are_pure (tables_of l.tables) (terms_of (map term_of l.all))

abbrev pub invariant-are_pure_arguments-loop-argument : goal.invariant-are_pure_arguments-loop-argument
invariant-are_pure_arguments-loop-argument l =
    spec.are_pure_arguments (tables_of l.tables) (arguments_of (map argument_of (drop l.argument-index l.all)))
    ≡ spec.are_pure_arguments (tables_of l.tables) (arguments_of (map argument_of l.all))

abbrev pub invariant-are_pure_entries-loop-entry : goal.invariant-are_pure_entries-loop-entry
invariant-are_pure_entries-loop-entry l =
    spec.are_pure_entries (tables_of l.tables) (entries_of (map pair_of (drop l.entry-index l.all)))
    ≡ spec.are_pure_entries (tables_of l.tables) (entries_of (map pair_of l.all))
