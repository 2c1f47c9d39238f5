use Rattle.std.proofs.Common.{subst}
use Rattle.std.specs.Prelude.{Result}
use Rattle.cad_evaluation.specs.Containers as spec
use Rattle.cad_outcomes.specs.Outcomes.{no_value}
use Rattle.cad_outcomes.specs.declared.stop.Stop.{Stop}
use Rattle.cad_rows.specs.Views.{pure_tree}
use Rattle.cad_state.specs.Views.{FindsAndCarriesOut}
use Rattle.cad_syntax.specs.Types.{pure_type}
use Rattle.cad_values.specs.Values.{pure_value}
use Rattle.cad_world.specs.Locations.{key_position, keys_in}
use Rattle.cad_world.specs.State.{done}
use Rattle.cad_world.specs.Trees.{value_of}
use Rattle.cad_containers.specs.Code.Dictionaries.{IsDictionary}
use Rattle.cad_containers.proofs.Changing.{test_then, test_refuses, told_type}
use Rattle.cad_containers.proofs.dictionary_changes.insert.Goals as goal

pub returns-in-Ok : goal.returns-in-Ok
returns-in-Ok c = λ same.
    let l = c.args.aim.now.label in
    let kt = pure_type c.args.aim.now.key in
    let vt = pure_type c.args.aim.now.value in
    let k = pure_tree c.args.k in
    let t = pure_tree c.args.tree in
    test_then l (IsDictionary kt vt c.args.aim.now.count (pure_value c.args.key) c.args.aim.now.position) (spec.of_type kt k done)
    (λ f. spec.dictionary_insert l kt vt (keys_in f.tree.shape) f.tree.parts k t)
    (λ f. spec.of_type vt t (spec.key_put l kt vt (keys_in f.tree.shape) f.tree.parts k t (key_position (value_of k) (keys_in f.tree.shape))))
    c.args.state.now c.check_type-done.new.state c.insert_value.new.state c.in-Ok.field-0 c.insert_value.result
    (λ f s. told_type kt k (spec.of_type vt t (spec.key_put l kt vt (keys_in f.tree.shape) f.tree.parts k t (key_position (value_of k) (keys_in f.tree.shape)))) s)
    (subst (λ (q : Result (Unit {0}) Stop). FindsAndCarriesOut no_value (spec.of_type kt k done) c.args.state.now c.check_type-done.new.state q) c.in-Ok.is c.check_type-done.ensures) (c.insert_value.ensures k same)

pub returns-in-Err : goal.returns-in-Err
returns-in-Err c = λ same.
    let l = c.args.aim.now.label in
    let kt = pure_type c.args.aim.now.key in
    let vt = pure_type c.args.aim.now.value in
    let k = pure_tree c.args.k in
    let t = pure_tree c.args.tree in
    test_refuses l (IsDictionary kt vt c.args.aim.now.count (pure_value c.args.key) c.args.aim.now.position) (spec.of_type kt k done)
    (λ f. spec.dictionary_insert l kt vt (keys_in f.tree.shape) f.tree.parts k t)
    (λ f. spec.of_type vt t (spec.key_put l kt vt (keys_in f.tree.shape) f.tree.parts k t (key_position (value_of k) (keys_in f.tree.shape))))
    c.args.state.now c.check_type-done.new.state c.check_type-done.new.state c.in-Err.stop
    (λ f s. told_type kt k (spec.of_type vt t (spec.key_put l kt vt (keys_in f.tree.shape) f.tree.parts k t (key_position (value_of k) (keys_in f.tree.shape)))) s)
    (subst (λ (q : Result (Unit {0}) Stop). FindsAndCarriesOut no_value (spec.of_type kt k done) c.args.state.now c.check_type-done.new.state q) c.in-Err.is c.check_type-done.ensures)
