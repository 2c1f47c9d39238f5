use Rattle.cad_text_operators.proofs.Pushes.{listed_pushed}
use Rattle.cad_text_operators.proofs.type_texts.push_listed.Goals as goal

pub returns-in_ok-push_id-in-len1-up : goal.returns-in_ok-push_id-in-len1-up
returns-in_ok-push_id-in-len1-up c =
    listed_pushed c.push_more.result c.args.text.now c.push_id.new.text c.push_more.new.text c.args.separator.now c.args.ids.now c.first-item.result
    c.in-len1-up.len_at_least c.first-item.is c.in_ok-push_id-in-len1-up.ensures c.push_more.ensures
