use Rattle.std.proofs.Common.{option_map, sym, ap, ◌∙◌}
use Rattle.cad_parse_type.specs.Code.Views.{seen}
use Rattle.cad_parse_expr.proofs.Closed.{none_close}
use Rattle.cad_parse_expr.proofs.tail.type_arguments.Goals as goal

pub returns-then-not-closes : goal.returns-then-not-closes
unfolding seen
returns-then-not-closes c =
    sym (none_close (seen c.args.spot) (seen c.in-Some.inside) c.if-not-spot.false (sym c.opening.ensures ∙ ap (option_map seen) c.in-Some.is) (sym c.closes.ensures ∙ c.if-not-closes.true))
