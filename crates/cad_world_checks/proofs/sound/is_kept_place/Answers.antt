use Rattle.std.proofs.Common.{IsTrue, subst, sym}
use Rattle.std.specs.Prelude.{IfOk, ◌↔◌}
use Rattle.cad_rows.specs.Views.{PlaceView}
use Rattle.cad_shapes.specs.Held.{shapes_of}
use Rattle.cad_worlds.proofs.Sections.{place_at}
use Rattle.cad_world_checks.specs.Checks.{IsKept}
use Rattle.cad_world_checks.proofs.sound.is_kept_place.Goals as goal

pub returns-in-Full : goal.returns-in-Full
returns-in-Full c =
    subst (λ (v : PlaceView). IfOk c.is_kept_node.result (λ b. IsTrue b ↔ IsKept (shapes_of c.args.shapes.now) c.args.name.now v)) (sym (place_at c.args.place.now c.in-Full.labels c.in-Full.tree c.in-Full.is)) c.is_kept_node.ensures
