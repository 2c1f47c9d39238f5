use Rattle.cad_rows.proofs.OnlyOne.{is_found, is_changed}
use Rattle.cad_rows.proofs.laws.a_node_with_the_label_is_the_node.Goals as goal

pub returns : goal.returns
returns c = λ p way row x m e h. (is_found p way row x m e h, λ shape parts. is_changed p way shape parts row x m e h)
