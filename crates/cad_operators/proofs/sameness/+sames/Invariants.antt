use Rattle.std.proofs.Common.{◌≡◌, drop, map}
use Rattle.cad_rows.specs.Views.{pure_row}
use Rattle.cad_values.specs.Values.{pure_value}
use Rattle.cad_world.specs.Same.{equal_elements, all_under}
use Rattle.cad_world.specs.Trees.{keyed, values_in}
use Rattle.cad_operators.proofs.sameness.+sames.Given as goal

abbrev pub invariant-same_elements-loop-i : goal.invariant-same_elements-loop-i
invariant-same_elements-loop-i l =
    equal_elements (values_in (pure_row (drop l.i l.a))) (values_in (pure_row (drop l.i l.b))) ≡ equal_elements (values_in (pure_row l.a)) (values_in (pure_row l.b))

abbrev pub invariant-same_entries-loop-i : goal.invariant-same_entries-loop-i
invariant-same_entries-loop-i l =
    all_under (keyed (map pure_value (drop l.i l.a_keys)) (values_in (pure_row (drop l.i l.a)))) (keyed (map pure_value l.b_keys) (values_in (pure_row l.b)))
    ≡ all_under (keyed (map pure_value l.a_keys) (values_in (pure_row l.a))) (keyed (map pure_value l.b_keys) (values_in (pure_row l.b)))
