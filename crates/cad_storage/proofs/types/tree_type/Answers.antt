use Rattle.cad_casts.proofs.Settles.{as_whole}
use Rattle.cad_evaluation.specs.Casts.{with_type}
use Rattle.cad_rows.specs.Views.{pure_shape, pure_tree}
use Rattle.cad_state.specs.Views.{FindsAndCarriesOut}
use Rattle.cad_syntax.specs.Types.{pure_type}
use Rattle.cad_world.specs.Rows.{Tree}
use Rattle.cad_world.specs.State.{give}
use Rattle.std.proofs.Common.{subst}
use Rattle.cad_storage.proofs.types.tree_type.Goals as goal

pub returns : goal.returns
returns c = let t = pure_tree c.args.tree.now in
    subst (λ (o : Tree). FindsAndCarriesOut pure_type (with_type o (λ own. give own)) c.args.state.now c.args.state.now c.type_here.result)
    (as_whole t c.optionals.result (pure_shape c.shape.result.now) c.optionals.ensures c.shape.ensures) (c.type_here.ensures t.parts)
