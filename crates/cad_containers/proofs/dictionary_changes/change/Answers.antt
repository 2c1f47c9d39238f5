use Rattle.std.proofs.Common.{sym, subst}
use Rattle.cad_evaluation.specs.Arguments.{argument}
use Rattle.cad_rows.specs.Views.{pure_row}
use Rattle.cad_syntax.specs.Types.{pure_type}
use Rattle.cad_types.specs.declared.builtin.Builtin.{Builtin}
use Rattle.cad_values.specs.Values.{pure_value}
use Rattle.cad_world.specs.Locations.{keys_in}
use Rattle.cad_containers.specs.Code.Changes.{Changes}
use Rattle.cad_containers.specs.Code.Dictionaries.{IsDictionary}
use Rattle.cad_containers.specs.Code.Members.{dictionary_change}
use Rattle.cad_containers.proofs.KeyChanges.{remove_over}
use Rattle.cad_containers.proofs.dictionary_changes.change.Goals as goal

pub returns-in-DictionaryInsert : goal.returns-in-DictionaryInsert
returns-in-DictionaryInsert c = λ same.
    let a = c.args.aim.now in
    subst (λ (b : Builtin). Changes a.label (IsDictionary (pure_type a.key) (pure_type a.value) a.count (pure_value c.args.key) a.position)
    (λ f. dictionary_change b (pure_row c.args.arguments.items) a.label (pure_type a.key) (pure_type a.value) (keys_in f.tree.shape) f.tree.parts) c.args.state.now c.insert_arguments.new.state c.insert_arguments.result)
    (sym c.in-DictionaryInsert.is) (c.insert_arguments.ensures same)

pub returns-in-DictionaryRemove : goal.returns-in-DictionaryRemove
returns-in-DictionaryRemove c = λ same.
    let a = c.args.aim.now in
    subst (λ (b : Builtin). Changes a.label (IsDictionary (pure_type a.key) (pure_type a.value) a.count (pure_value c.args.key) a.position)
    (λ f. dictionary_change b (pure_row c.args.arguments.items) a.label (pure_type a.key) (pure_type a.value) (keys_in f.tree.shape) f.tree.parts) c.args.state.now c.remove.new.state c.remove.result)
    (sym c.in-DictionaryRemove.is)
    (remove_over a.label (pure_type a.key) (pure_type a.value) a.count (pure_value c.args.key) a.position (argument 0 (pure_row c.args.arguments.items)) c.args.state.now c.remove.new.state c.remove.result same
    (λ k. c.remove.ensures (pure_type a.key) (pure_type a.value) a.count k))
