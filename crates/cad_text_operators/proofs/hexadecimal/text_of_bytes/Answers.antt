use Rattle.std.proofs.Common.{◌∙◌}
use Rattle.cad_rows.specs.Views.{pure_tree}
use Rattle.cad_text_operators.proofs.Utf8.{text_there, text_missing}
use Rattle.cad_text_operators.proofs.hexadecimal.text_of_bytes.Goals as goal

pub returns-in_ok-from_str-in-Ok : goal.returns-in_ok-from_str-in-Ok
returns-in_ok-from_str-in-Ok c =
    text_there c.args.bytes.now c.in_ok-from_str-in-Ok.field-0 (pure_tree c.text_tree.result) (pure_tree c.wrapped.result) c.in-Ok.ensures.cases.1
    (c.in_ok-from_str-in-Ok.ensures ∙ c.in-Ok.ensures.cases.0) c.text_tree.ensures c.wrapped.ensures

pub returns-in-Err : goal.returns-in-Err
returns-in-Err c = text_missing c.args.bytes.now (pure_tree c.nil_tree.result) c.in-Err.ensures.cases.0 c.nil_tree.ensures
