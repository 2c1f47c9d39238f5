use Rattle.cad_rows.specs.Views.{pure_tree}
use Rattle.cad_values.specs.Values.{pure_value}
use Rattle.cad_containers.proofs.KeyChanges.{put_some, put_none}
use Rattle.cad_containers.proofs.dictionary_changes.put.Goals as goal

pub returns-in-Some : goal.returns-in-Some
returns-in-Some c = λ kt vt k same.
    put_some c.args.label kt vt c.args.count (pure_value c.args.key) k (pure_tree c.args.tree) c.args.position c.in-Some.i c.args.state.now c.replace.new.state c.replace.result c.in-Some.is same (c.replace.ensures kt vt k)

pub returns-in-None : goal.returns-in-None
returns-in-None c = λ kt vt k same.
    put_none c.args.label kt vt c.args.count (pure_value c.args.key) k (pure_tree c.args.tree) c.args.position c.args.state.now c.add.new.state c.add.result c.in-None.is same (c.add.ensures kt vt k same)
