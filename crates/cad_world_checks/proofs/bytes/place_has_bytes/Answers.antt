use Rattle.std.proofs.Common.{IsTrue, subst, sym}
use Rattle.std.specs.Prelude.{IfOk, ◌↔◌}
use Rattle.cad_rows.specs.Views.{PlaceView}
use Rattle.cad_worlds.proofs.Sections.{place_at}
use Rattle.cad_world_checks.specs.Checks.{PlaceHasBytes}
use Rattle.cad_world_checks.proofs.bytes.place_has_bytes.Goals as goal

pub returns-in-Full : goal.returns-in-Full
returns-in-Full c =
    subst (λ (v : PlaceView). IfOk c.tree_has_bytes.result (λ b. IsTrue b ↔ PlaceHasBytes v)) (sym (place_at c.args.place.now c.in-Full.field-0 c.in-Full.tree c.in-Full.is)) c.tree_has_bytes.ensures
