use Rattle.cad_evaluation.specs.Containers as spec
use Rattle.cad_rows.specs.Views.{pure_tree}
use Rattle.cad_syntax.specs.Types.{pure_type}
use Rattle.cad_values.specs.Values.{pure_value}
use Rattle.cad_world.specs.Locations.{key_position, keys_in}
use Rattle.cad_world.specs.State.{done}
use Rattle.cad_world.specs.Trees.{value_of}
use Rattle.cad_containers.specs.Code.Dictionaries.{IsDictionary}
use Rattle.cad_containers.proofs.Changing.{test_then, test_refuses, told_type}
use Rattle.cad_containers.proofs.dictionary_changes.insert_value.Goals as goal

pub returns-in-Ok : goal.returns-in-Ok
returns-in-Ok c = λ k same.
    let l = c.args.aim.now.label in
    let kt = pure_type c.args.aim.now.key in
    let vt = pure_type c.args.aim.now.value in
    let t = pure_tree c.args.tree in
    test_then l (IsDictionary kt vt c.args.aim.now.count (pure_value c.args.key) c.args.aim.now.position) (spec.of_type vt t done)
    (λ f. spec.of_type vt t (spec.key_put l kt vt (keys_in f.tree.shape) f.tree.parts k t (key_position (value_of k) (keys_in f.tree.shape))))
    (λ f. spec.key_put l kt vt (keys_in f.tree.shape) f.tree.parts k t (key_position (value_of k) (keys_in f.tree.shape)))
    c.args.state.now c.check_type.new.state c.put.new.state c.in-Ok.field-0 c.put.result
    (λ f s. told_type vt t (spec.key_put l kt vt (keys_in f.tree.shape) f.tree.parts k t (key_position (value_of k) (keys_in f.tree.shape))) s) c.in-Ok.ensures (c.put.ensures kt vt k same)

pub returns-in-Err : goal.returns-in-Err
returns-in-Err c = λ k same.
    let l = c.args.aim.now.label in
    let kt = pure_type c.args.aim.now.key in
    let vt = pure_type c.args.aim.now.value in
    let t = pure_tree c.args.tree in
    test_refuses l (IsDictionary kt vt c.args.aim.now.count (pure_value c.args.key) c.args.aim.now.position) (spec.of_type vt t done)
    (λ f. spec.of_type vt t (spec.key_put l kt vt (keys_in f.tree.shape) f.tree.parts k t (key_position (value_of k) (keys_in f.tree.shape))))
    (λ f. spec.key_put l kt vt (keys_in f.tree.shape) f.tree.parts k t (key_position (value_of k) (keys_in f.tree.shape)))
    c.args.state.now c.check_type.new.state c.check_type.new.state c.in-Err.stop
    (λ f s. told_type vt t (spec.key_put l kt vt (keys_in f.tree.shape) f.tree.parts k t (key_position (value_of k) (keys_in f.tree.shape))) s) c.in-Err.ensures
