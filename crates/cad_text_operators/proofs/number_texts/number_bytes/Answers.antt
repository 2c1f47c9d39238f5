use Rattle.std.proofs.Common.{refl}
use Rattle.cad_evaluation.specs.Numbers as numbers
use Rattle.cad_evaluation.specs.Texts as spec
use Rattle.cad_num.specs.Numbers.{twos_complement, value_of}
use Rattle.cad_rows.specs.Views.{pure_tree}
use Rattle.cad_syntax.specs.declared.num.Num.{Num}
use Rattle.cad_world.specs.State.{with_some}
use Rattle.cad_operators.proofs.Kept.{with_this}
use Rattle.cad_text_operators.proofs.number_texts.number_bytes.Goals as goal

pub returns-in-Some : goal.returns-in-Some
returns-in-Some c =
    with_this pure_tree (λ (x : Num). with_some (spec.width x.kind) (λ n. spec.bytes_tree (spec.big_endian n (twos_complement x.kind (value_of x)))))
    (numbers.number_in (pure_tree c.args.tree.now)) c.in-Some.x _ c.bytes_of_number.result c.in-Some.ensures refl c.bytes_of_number.ensures
