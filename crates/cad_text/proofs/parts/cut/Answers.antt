-- Each character stands before the places, between them, or after them, where the loop stops.
use Rattle.std.proofs.Common.{◌++◌, length, take, string_bytes, sym, ap, ◌∙◌, arith}
use Rattle.std.proofs.lemmas.Iterator.Consumers.{YieldsList-turn, YieldsList-end}
use Rattle.std.proofs.lemmas.List.{length_push}
use Rattle.std.specs.List.{concat, slice_range}
use Rattle.unicode_segmentation.proofs.SegmentsLemmas.{YieldsList-from_gives}
use Rattle.unicode_segmentation.specs.Iter.{graphemes_left}
use Rattle.cad_text.specs.Texts.{characters}
use Rattle.cad_text.proofs.Pieces.{next_piece, all_pieces, next_before, next_between, past_places}
use Rattle.cad_text.proofs.parts.cut.Goals as goal
use Rattle.cad_text.proofs.parts.cut.Goals.{then-place-from+in_ok-push_str, else-place-from}

pub returns-then-place-up_to : goal.returns-then-place-up_to
returns-then-place-up_to c =
    c.loop-character.invariant.1 ∙ past_places (characters c.args.text.now) (length c.loop-character.yielded) c.args.from c.args.up_to (omega arith)

pub loop-character-preserved : goal.loop-character-preserved
loop-character-preserved c =
    let text = c.args.text.now in
    let n = length c.loop-character.yielded in
    let t = YieldsList-turn (YieldsList-from_gives _ _ c.into_iter-character-iterator.result) c.loop-character.yielded _ c.loop-character.yielded_by _ _ c.in-Some.character c.in-Some.is c.next.ensures.steps in
    let all = ap graphemes_left c.into_iter-character-iterator.ensures.into_iter_gives ∙ c.graphemes-character-items.ensures.left in
    let next = next_piece _ (characters text) n c.in-Some.character.now all t in
    let longer = length_push c.loop-character.yielded c.in-Some.character in
    let here = ap (λ k. concat (slice_range (take k (characters text)) c.args.from c.args.up_to)) longer in (
      omega arith,
      elim c.if-place-from.branch [
        | then-place-from+in_ok-push_str w ↦
            ap string_bytes w.between-is ∙ w.in_ok-push_str.ensures.bytes ∙
            ap (λ bs. bs ++ c.in-Some.character.now) c.loop-character.invariant.1 ∙
            ap (λ bs. concat (slice_range (take n (characters text)) c.args.from c.args.up_to) ++ bs) next.1 ∙
            sym (next_between (characters text) n c.args.from c.args.up_to next.0 (omega arith) (omega arith)) ∙ sym here
        | else-place-from w ↦
            ap string_bytes w.between-is ∙ c.loop-character.invariant.1 ∙
            sym (next_before (characters text) n c.args.from c.args.up_to next.0 (omega arith)) ∙ sym here
      ],
    )

pub returns : goal.returns
returns c =
    let text = c.args.text.now in
    let t = YieldsList-end (YieldsList-from_gives _ _ c.into_iter-character-iterator.result) c.loop-character.yielded _ c.loop-character.yielded_by _ _ c.in-None.is c.next.ensures.steps in
    let all = ap graphemes_left c.into_iter-character-iterator.ensures.into_iter_gives ∙ c.graphemes-character-items.ensures.left in
    c.loop-character.invariant.1 ∙ ap (λ ps. concat (slice_range ps c.args.from c.args.up_to)) (all_pieces _ (characters text) (length c.loop-character.yielded) all t.1)
