use Rattle.std.proofs.Common.{subst}
use Rattle.std.specs.Prelude.{Result}
use Rattle.cad_outcomes.specs.declared.stop.Stop.{Stop}
use Rattle.cad_rows.specs.declared.tree.Tree.{Tree}
use Rattle.cad_containers.specs.Code.Dictionaries.{IsWrapped}
use Rattle.cad_containers.proofs.KeyChanges.{dropped, dropped_at, not_dropped}
use Rattle.cad_containers.proofs.dictionary_changes.remove.Goals as goal

pub returns-in-Some : goal.returns-in-Some
returns-in-Some c = λ kt vt n k.
    dropped_at c.args.label kt vt n k c.args.position c.in-Some.i c.args.state.now c.drop_key-taken.new.state c.taken_value.result c.in-Some.is
    (dropped c.args.label kt vt n k c.in-Some.i c.args.state.now c.drop_key-taken.new.state c.drop_key-taken.result c.taken_value.result
    (subst (λ (r : Result Tree Stop). IsWrapped r c.taken_value.result) c.taken_out.ensures c.taken_value.ensures) c.drop_key-taken.ensures)

pub returns-in-None : goal.returns-in-None
returns-in-None c = λ kt vt n k. not_dropped c.args.label kt vt n k c.args.position c.args.state.now c.nil_tree.result c.in-None.is c.nil_tree.ensures
