use Rattle.cad_rows.specs.Views.{pure_row, pure_shape}
use Rattle.cad_syntax.specs.Types.{pure_type}
use Rattle.cad_containers.specs.Code.Members.{array_read}
use Rattle.cad_containers.proofs.MemberLaws.{by_elements}
use Rattle.cad_containers.proofs.reads.read_elements.Goals as goal

pub returns-in-Some : goal.returns-in-Some
returns-in-Some c =
    let x = c.in-Some.array in
    by_elements c.args.spot.optionals (pure_shape c.args.spot.shape.now) (pure_row c.args.spot.parts.now) (pure_row x.parts.now) (pure_type x.element.now)
    (array_read c.args.member (pure_row c.args.arguments.now)) c.read_array.result c.in-Some.ensures.0 c.in-Some.ensures.1 c.in-Some.ensures.2 c.read_array.ensures
