use Rattle.std.specs.Prelude.{option_and_then}
use Rattle.cad_capabilities.proofs.Acts.{carries_with}
use Rattle.cad_capabilities.specs.Views.{id_of}
use Rattle.cad_evaluation.specs.Arguments.{argument}
use Rattle.cad_evaluation.specs.Capabilities.{becomes}
use Rattle.cad_evaluation.specs.Texts.{text_in}
use Rattle.cad_rows.specs.Views.{pure_row, pure_tree}
use Rattle.cad_capabilities.proofs.controllers.set_tag_there.Goals as goal

pub returns-in-Some : goal.returns-in-Some
returns-in-Some c =
    carries_with pure_tree (λ text. becomes (λ x. record x { tag = text }) (id_of c.args.id)) (option_and_then text_in (argument 0 (pure_row c.args.row.now))) c.in-Some.tag.now c.args.state.now c.change_tag.new.state c.change_tag.result
    c.in-Some.ensures c.change_tag.ensures
