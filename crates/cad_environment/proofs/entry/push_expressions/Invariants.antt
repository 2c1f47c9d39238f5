use Rattle.std.proofs.Common.{◌≡◌, ◌++◌, drop, map}
use Rattle.cad_grammar.specs.Trees.{arguments_of}
use Rattle.cad_grammar.specs.Views.{expr_of, argument_of}
use Rattle.cad_typing.specs.Befores.{expressions}
use Rattle.cad_environment.proofs.entry.push_expressions.Given as goal

abbrev pub invariant-loop-argument : goal.invariant-loop-argument
invariant-loop-argument l =
    map (λ e. expr_of e.now) l.all.items ++ expressions (arguments_of (map argument_of (drop l.argument-index l.arguments)))
    ≡ map (λ e. expr_of e.now) l.initial.all.items ++ expressions (arguments_of (map argument_of l.arguments))
