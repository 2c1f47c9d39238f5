use Rattle.std.proofs.Common.{[], sym, ◌∙◌}
use Rattle.cad_syntax.specs.Types.{pure_type}
use Rattle.cad_type_classes.proofs.Alone.{storable_alone}
use Rattle.cad_type_classes.proofs.classes.is_storable.Goals as goal

pub returns-then-has_no_declared_part : goal.returns-then-has_no_declared_part
returns-then-has_no_declared_part c =
    let alone = sym c.has_no_declared_part.ensures ∙ c.if-has_no_declared_part.true in
    c.is_storable_but.ensures ∙ storable_alone [] _ (pure_type c.args.t.now) alone
