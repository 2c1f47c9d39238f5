use Rattle.std.proofs.Common.{◌∙◌}
use Rattle.std.proofs.lemmas.Result.{IfOk-weaker}
use Rattle.cad_serve.specs.Generated.{counts_text}
use Rattle.cad_serve.proofs.counting.Counts.line.Goals as goal

pub returns : goal.returns
returns c =
    IfOk-weaker c.counts_text.result _ _
    (λ text is answers w h lives. is ∙ (λ i. counts_text (h.destroyed i) (h.failed i) (h.lines i) (lives i) (h.made i) (h.ok i)))
    c.counts_text.ensures
