use Rattle.std.proofs.Common.{option_map}
use Rattle.cad_evaluation.specs.Reading.{right_given}
use Rattle.cad_selections.proofs.Handing.{part_full}
use Rattle.cad_rows.specs.Views.{pure_row, pure_tree}
use Rattle.cad_syntax.specs.Types.{pure_type}
use Rattle.cad_world.specs.Locations.{part}
use Rattle.cad_world.specs.Rows.{slot}
use Rattle.cad_selections.proofs.fields.read_part.Goals as goal

pub returns-in-Full : goal.returns-in-Full
returns-in-Full c = λ s. part_full (option_map (λ own. own.now) c.args.spot.rights) (right_given c.args.access.now c.args.right.now) (pure_type c.args.declared.now)
    (part c.args.label c.args.i) (slot c.args.i (pure_row c.args.spot.parts.now)) (pure_tree c.in-Full.tree.now) c.lends-is_lent.result s c.read_full.result
    c.in-Full.ensures c.lends-is_lent.ensures (c.read_full.ensures s)
