use Rattle.std.proofs.Common.{◌≡◌}
use Rattle.cad_moves.specs.Views.{body_of}
use Rattle.cad_pure.proofs.Settings.{answer_is}
use Rattle.cad_pure.proofs.initialisation.initialised.Goals as goal

pub returns : goal.returns
returns c =
    answer_is (body_of c.in_ok-paths.paths) _ c.in_ok-found.found.misuse c.place.result c.in_ok-paths.ensures c.in_ok-found.ensures.first c.place.ensures
