use Rattle.std.proofs.Common.{refl}
use Rattle.std.specs.Prelude.{Ok}
use Rattle.cad_evaluation.specs.Arguments.{argument}
use Rattle.cad_evaluation.specs.Containers as spec
use Rattle.cad_operators.proofs.Kept.{with_this}
use Rattle.cad_rows.specs.Views.{pure_row, pure_tree}
use Rattle.cad_syntax.specs.Types.{pure_type}
use Rattle.cad_types.specs.declared.builtin.Builtin.TheVariants as m
use Rattle.cad_containers.proofs.MemberLaws.{array_member}
use Rattle.cad_containers.proofs.arrays.read_array.Goals as goal

pub returns-in-ArrayLength : goal.returns-in-ArrayLength
returns-in-ArrayLength c =
    array_member c.args.member m.ArrayLength (pure_row c.args.arguments.now) (pure_type c.args.array.element.now) (pure_row c.args.array.parts.now) (Ok c.length.result) c.in-ArrayLength.is c.length.ensures

pub returns-in-Some : goal.returns-in-Some
returns-in-Some c =
    array_member c.args.member m.ArrayContains (pure_row c.args.arguments.now) (pure_type c.args.array.element.now) (pure_row c.args.array.parts.now) c.contains.result c.in-ArrayContains.is
    (with_this pure_tree (spec.array_contains (pure_row c.args.array.parts.now)) (argument 0 (pure_row c.args.arguments.now)) (pure_tree c.in-Some.value.now) _ c.contains.result c.in-Some.ensures refl c.contains.ensures)

pub returns-in-Some-argument_at : goal.returns-in-Some-argument_at
returns-in-Some-argument_at c =
    array_member c.args.member m.ArrayFirstIndex (pure_row c.args.arguments.now) (pure_type c.args.array.element.now) (pure_row c.args.array.parts.now) c.first_index.result c.in-ArrayFirstIndex.is
    (with_this pure_tree (spec.array_first_index (pure_row c.args.array.parts.now)) (argument 0 (pure_row c.args.arguments.now)) (pure_tree c.in-Some-argument_at.value.now) _ c.first_index.result c.in-Some-argument_at.ensures refl c.first_index.ensures)

pub returns-in-ArrayReverse : goal.returns-in-ArrayReverse
returns-in-ArrayReverse c =
    array_member c.args.member m.ArrayReverse (pure_row c.args.arguments.now) (pure_type c.args.array.element.now) (pure_row c.args.array.parts.now) c.array_reverse.result c.in-ArrayReverse.is c.array_reverse.ensures
