use Rattle.std.proofs.Common.{◌≡◌, ◌∙◌}
use Rattle.cad_syntax.specs.Types.{declared}
use Rattle.cad_json_read.specs.Judged.{is_importable_in}
use Rattle.cad_json_read.proofs.Identifiers.{importable_is}
use Rattle.cad_json_read.proofs.composite.is_importable_id.Goals as goal

pub returns : goal.returns
returns c =
    let h = importable_is c.types.result.now c.is_importable.result (declared c.in_ok-copy.copy) c.is_importable.ensures in
    h ∙ (λ i. is_importable_in (c.types.ensures.same i) (declared (c.in_ok-copy.ensures.cases i)))
