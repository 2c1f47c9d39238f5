use Rattle.cad_num.specs.Numbers.{value_of}
use Rattle.cad_rows.specs.Views.{pure_row, pure_tree}
use Rattle.cad_syntax.specs.Types.{pure_type}
use Rattle.cad_containers.proofs.Places.{counted}
use Rattle.cad_containers.proofs.MemberLaws.{out_of_order, sliced}
use Rattle.cad_containers.proofs.arrays.slice.Goals as goal

pub returns-in-None-bounds_of : goal.returns-in-None-bounds_of
returns-in-None-bounds_of c = λ s.
    out_of_order (value_of c.in-Some.x) (value_of c.in-Some-integer_in.y) _ (pure_type c.args.array.element.now) (pure_row c.args.array.parts.now) (pure_tree c.args.from.now) (pure_tree c.args.up_to.now) s
    c.in-Some.ensures c.in-Some-integer_in.ensures (counted c.args.array.parts.now) c.in-None-bounds_of.ensures

pub returns-in-Some-bounds_of : goal.returns-in-Some-bounds_of
returns-in-Some-bounds_of c =
    let told = c.in-Some-bounds_of.ensures in
    sliced (value_of c.in-Some.x) (value_of c.in-Some-integer_in.y) c.in-Some-bounds_of.bounds.from c.in-Some-bounds_of.bounds.up_to _ (pure_type c.args.array.element.now) (pure_row c.args.array.parts.now)
    (pure_tree c.args.from.now) (pure_tree c.args.up_to.now) c.stretch.result
    c.in-Some.ensures c.in-Some-integer_in.ensures (counted c.args.array.parts.now) told.0 told.1 told.2 c.stretch.ensures
