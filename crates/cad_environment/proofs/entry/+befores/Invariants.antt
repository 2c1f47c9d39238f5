use Rattle.std.proofs.Common.{◌≡◌, ◌++◌, drop, map}
use Rattle.cad_grammar.specs.Trees.{exprs_of, arguments_of, entries_of}
use Rattle.cad_grammar.specs.Views.{expr_of, argument_of, entry_of}
use Rattle.cad_typing.specs.Befores.{befores_of_all, befores_of_arguments, befores_of_entries}
use Rattle.cad_environment.proofs.entry.+befores.Given as goal

abbrev pub invariant-push_of_all-loop-element : goal.invariant-push_of_all-loop-element
invariant-push_of_all-loop-element l =
    map (λ e. expr_of e.now) l.all.items ++ befores_of_all (exprs_of (map expr_of (drop l.element-index l.elements)))
    ≡ map (λ e. expr_of e.now) l.initial.all.items ++ befores_of_all (exprs_of (map expr_of l.elements))

abbrev pub invariant-push_of_arguments-loop-argument : goal.invariant-push_of_arguments-loop-argument
invariant-push_of_arguments-loop-argument l =
    map (λ e. expr_of e.now) l.all.items ++ befores_of_arguments (arguments_of (map argument_of (drop l.argument-index l.arguments)))
    ≡ map (λ e. expr_of e.now) l.initial.all.items ++ befores_of_arguments (arguments_of (map argument_of l.arguments))

abbrev pub invariant-push_of_entries-loop-entry : goal.invariant-push_of_entries-loop-entry
invariant-push_of_entries-loop-entry l =
    map (λ e. expr_of e.now) l.all.items ++ befores_of_entries (entries_of (map entry_of (drop l.entry-index l.entries)))
    ≡ map (λ e. expr_of e.now) l.initial.all.items ++ befores_of_entries (entries_of (map entry_of l.entries))
