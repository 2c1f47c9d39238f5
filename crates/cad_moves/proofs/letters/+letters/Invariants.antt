use Rattle.std.proofs.Common.{◌≡◌, map, drop}
use Rattle.cad_declarations.specs.Typed.{terms_of, arguments_of, entries_of}
use Rattle.cad_declarations.specs.Views.{term_of, argument_of, pair_of}
use Rattle.cad_paths.specs.Letters as spec
use Rattle.cad_moves.specs.Views.{item_of, reading_of}
use Rattle.cad_moves.specs.Code.Rows.{row_over}
use Rattle.cad_moves.proofs.letters.+letters.Given as goal

abbrev pub invariant-terms_letters-loop-term : goal.invariant-terms_letters-loop-term
invariant-terms_letters-loop-term l = row_over (map item_of l.items.items) (spec.terms_letters (reading_of l.reading) l.at (terms_of (map term_of (drop l.term-index l.all))))
    ≡ spec.terms_letters (reading_of l.reading) l.at (terms_of (map term_of l.all))

abbrev pub invariant-arguments_letters-loop-argument : goal.invariant-arguments_letters-loop-argument
invariant-arguments_letters-loop-argument l = row_over (map item_of l.items.items) (spec.arguments_letters (reading_of l.reading) l.at (arguments_of (map argument_of (drop l.argument-index l.all))))
    ≡ spec.arguments_letters (reading_of l.reading) l.at (arguments_of (map argument_of l.all))

abbrev pub invariant-entries_letters-loop-entry : goal.invariant-entries_letters-loop-entry
invariant-entries_letters-loop-entry l = row_over (map item_of l.items.items) (spec.entries_letters (reading_of l.reading) l.at (entries_of (map pair_of (drop l.entry-index l.all))))
    ≡ spec.entries_letters (reading_of l.reading) l.at (entries_of (map pair_of l.all))
