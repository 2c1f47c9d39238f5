use Rattle.std.proofs.Common.{◌≡◌, ◌++◌, drop, filter_map}
use Rattle.cad_access.specs.RunContracts.{run_of}
use Rattle.cad_evaluation.specs.Bodies as spec
use Rattle.cad_function_sources.specs.Sources as view
use Rattle.cad_syntax.specs.declared.text.Name.{Name}
use Rattle.cad_function_sources.proofs.sources.add_interfaces.Given as goal

abbrev pub invariant-loop-interface : goal.invariant-loop-interface
invariant-loop-interface l =
    (name : Name) → view.pieces name l.all.items ++ filter_map (λ id. spec.own_piece (run_of l.state) name id) (drop l.interface-index l.interface-items) ≡ view.pieces name l.fn.all.items ++ spec.inherited (run_of l.state) name l.id
