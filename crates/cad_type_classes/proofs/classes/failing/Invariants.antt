use Rattle.std.proofs.Common.{◌≡◌, drop, length}
use Rattle.cad_types.specs.Views.{declarations}
use Rattle.cad_typing.specs.Types.{turns}
use Rattle.cad_type_classes.specs.Classes.{failing_beside, failing_class}
use Rattle.cad_type_classes.proofs.classes.failing.Given as goal

abbrev pub invariant-loop-turn : goal.invariant-loop-turn
invariant-loop-turn l =
    turns (length (drop l._turn-index l.declared)) (failing_beside (declarations l.types) l.class) l.ids ≡ failing_class (declarations l.types) l.class
