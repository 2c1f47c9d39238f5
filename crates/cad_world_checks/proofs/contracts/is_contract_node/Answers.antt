use Rattle.std.proofs.Common.{Bool, IsTrue}
use Rattle.std.specs.Prelude.{◌↔◌}
use Rattle.cad_fits.proofs.Each.{not_so, is_so}
use Rattle.cad_rows.specs.Views.{pure_tree, taken}
use Rattle.cad_shapes.specs.Held.{shapes_of}
use Rattle.cad_values.specs.Fits as of
use Rattle.cad_world.specs.Fits.{Lasts}
use Rattle.cad_world.specs.Trees.{value_of}
use Rattle.cad_world_checks.proofs.Soundness.{never, passed}
use Rattle.cad_world_checks.proofs.WholeWorld.{contract_place}
use Rattle.cad_world_checks.specs.Checks.{HoldsContract}
use Rattle.cad_world_checks.proofs.contracts.is_contract_node.Goals as goal

pub returns-then-not-is_empty : goal.returns-then-not-is_empty
returns-then-not-is_empty c =
    never {P = HoldsContract (shapes_of c.args.shapes.now) c.args.id.now (taken c.args.labels.now (pure_tree c.args.tree.now))} (λ held. not_so c.is_empty.result c.is_empty.ensures c.if-not-is_empty.true held.0)

pub returns : goal.returns
returns c =
    let k = shapes_of c.args.shapes.now in
    let id = c.args.id.now in
    let t = pure_tree c.args.tree.now in
    passed (λ (b : Bool). IsTrue b ↔ (of.FitsContract k (value_of t) id × Lasts k t)) (λ (b : Bool). IsTrue b ↔ HoldsContract k id (taken c.args.labels.now t)) c.is_contract_tree.result
    (λ b tells. contract_place b k id c.args.labels.now t (is_so c.is_empty.result c.is_empty.ensures c.if-not-is_empty.false) tells) c.is_contract_tree.ensures
