use Rattle.std.proofs.Common.{option_map}
use Rattle.cad_num.specs.Numbers.{value_of}
use Rattle.cad_selections.proofs.Handing.{element_full}
use Rattle.cad_rows.specs.Views.{pure_row, pure_tree}
use Rattle.cad_syntax.specs.Types.{pure_type}
use Rattle.cad_selections.proofs.indices.read_element.Goals as goal

pub returns-in-Full : goal.returns-in-Full
returns-in-Full c = λ s. element_full (option_map (λ own. own.now) c.args.spot.rights) (pure_type c.args.element.now) c.args.label (value_of c.args.x) (pure_row c.args.spot.parts.now)
    (pure_tree c.in-Full.tree.now) c.lends-is_lent.result s c.read_present.result c.in-Full.ensures c.lends-is_lent.ensures (c.read_present.ensures s)
