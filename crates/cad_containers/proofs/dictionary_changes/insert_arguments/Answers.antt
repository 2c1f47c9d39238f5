use Rattle.std.proofs.Common.{◌∙◌}
use Rattle.cad_evaluation.specs.Arguments.{argument}
use Rattle.cad_rows.specs.Views.{pure_row, pure_tree}
use Rattle.cad_syntax.specs.Types.{pure_type}
use Rattle.cad_values.specs.Values.{pure_value}
use Rattle.cad_containers.proofs.KeyChanges.{insert_over, key_is}
use Rattle.cad_containers.proofs.dictionary_changes.insert_arguments.Goals as goal

pub returns-in-Some-take_argument : goal.returns-in-Some-take_argument
returns-in-Some-take_argument c = λ same.
    let a = c.args.aim.now in
    let r = pure_row c.args.arguments.items in
    let first = c.in-Some-take_argument.ensures ∙ c.take_second.ensures.first in
    insert_over a.label (pure_type a.key) (pure_type a.value) a.count (pure_value c.args.key) a.position r (pure_tree c.in-Some-take_argument.k) (pure_tree c.in-Some.tree) c.args.state.now c.insert.new.state c.insert.result
    first c.in-Some.ensures.second (c.insert.ensures (key_is (argument 0 r) (pure_tree c.in-Some-take_argument.k) (pure_value c.args.key) same first))
