use Rattle.cad_casts.proofs.CastLaws.{handed_optional}
use Rattle.cad_rows.specs.Views.{pure_tree}
use Rattle.cad_casts.proofs.casts.hand.Goals as goal

pub returns-in-Failable : goal.returns-in-Failable
returns-in-Failable c = handed_optional c.args.kind (pure_tree c.args.tree) c.wrap.result c.in-Failable.is c.wrap.ensures
