use Rattle.cad_standing.proofs.FieldLaws.{made_follows}
use Rattle.cad_standing.proofs.fields.is_made.Goals as goal

pub returns-in-Some : goal.returns-in-Some
returns-in-Some c = made_follows c.made_label_tells.ensures c.args.state.now c.args.label c.in-Some.made c.is_label_of.result (λ w. c.in-Some.ensures) c.is_label_of.ensures
