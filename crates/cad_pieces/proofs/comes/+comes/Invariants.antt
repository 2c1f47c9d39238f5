use Rattle.std.proofs.Common.{◌≡◌, map, drop}
use Rattle.cad_declarations.specs.Typed.{terms_of, arguments_of, entries_of}
use Rattle.cad_declarations.specs.Views.{term_of, argument_of, pair_of}
use Rattle.cad_pieces.specs.Code.Comes as spec
use Rattle.cad_pieces.proofs.comes.+comes.Given as goal

abbrev pub invariant-terms_come-loop-term : goal.invariant-terms_come-loop-term
invariant-terms_come-loop-term l = spec.terms_come (terms_of (map term_of (drop l.term-index l.all))) ≡ spec.terms_come (terms_of (map term_of l.all))

abbrev pub invariant-arguments_come-loop-argument : goal.invariant-arguments_come-loop-argument
invariant-arguments_come-loop-argument l =
    spec.arguments_come (arguments_of (map argument_of (drop l.argument-index l.all))) ≡ spec.arguments_come (arguments_of (map argument_of l.all))

abbrev pub invariant-entries_come-loop-entry : goal.invariant-entries_come-loop-entry
invariant-entries_come-loop-entry l = spec.entries_come (entries_of (map pair_of (drop l.entry-index l.all))) ≡ spec.entries_come (entries_of (map pair_of l.all))
