use Rattle.std.proofs.Common.{◌≡◌, ◌∙◌, sym, ap, drop, length}
use Rattle.cad_types.specs.Views.{declarations}
use Rattle.cad_type_classes.specs.Classes.{failing_beside}
use Rattle.cad_type_classes.proofs.Turns.{turns_stay}
use Rattle.cad_type_classes.proofs.classes.failing.Goals as goal

pub returns-then-same_ids : goal.returns-then-same_ids
returns-then-same_ids c =
    let turn = failing_beside (declarations c.args.types.now) c.args.class in
    let ids = c.loop-turn.ids in
    let same : c.in_ok-next.next ≡ ids = c.same_ids.ensures.0 c.if-same_ids.true in
    let stays : turn ids ≡ ids = sym (c.in_ok-next.ensures ∙ ap turn c.as_slice.ensures) ∙ same in
    sym (turns_stay turn (length (drop c.loop-turn._turn-index c.declared-declared.result.now)) ids stays) ∙ c.loop-turn.invariant
