use Rattle.std.proofs.Common.{ℕ, List, map, ap, ◌∙◌}
use Rattle.std.specs.Borrow.{Bor}
use Rattle.cad_syntax.specs.Code.TypeIds.{id_of}
use Rattle.cad_syntax.proofs.DottedTexts.{found}
use Rattle.cad_syntax.proofs.type_id.TypeId.from_text.Goals as goal

pub returns : goal.returns
returns c =
    let of_parts = ap (λ (parts : List (Bor (List ℕ))). id_of (map (λ part. part.now) parts)) c.as_slice.ensures.value in
    found c.args.text.now c.in_ok-id.id (c.in_ok-id.ensures ∙ of_parts ∙ ap id_of c.in_ok-parts.ensures)
