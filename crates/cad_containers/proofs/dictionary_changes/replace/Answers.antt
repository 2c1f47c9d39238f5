use Rattle.std.specs.Prelude.{Result}
use Rattle.cad_outcomes.specs.declared.stop.Stop.{Stop}
use Rattle.cad_rows.specs.Views.{pure_tree}
use Rattle.cad_rows.specs.declared.tree.Tree.{Tree}
use Rattle.std.proofs.Common.{subst}
use Rattle.cad_containers.specs.Code.Dictionaries.{IsWrapped}
use Rattle.cad_containers.proofs.KeyChanges.{replaced_value}
use Rattle.cad_containers.proofs.dictionary_changes.replace.Goals as goal

pub returns : goal.returns
returns c = λ key value k.
    replaced_value c.args.label key value k (pure_tree c.args.tree) c.args.i c.args.state.now c.exchange_in-taken.new.state c.exchange_in-taken.result c.taken_value.result
    (subst (λ (r : Result Tree Stop). IsWrapped r c.taken_value.result) c.taken_out.ensures c.taken_value.ensures) c.exchange_in-taken.ensures
