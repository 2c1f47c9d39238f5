use Rattle.std.proofs.Common.{map, subst, arith}
use Rattle.serde_json.specs.View.{view}
use Rattle.cad_rows.specs.Views.{pure_row}
use Rattle.cad_shapes.specs.Held.{shapes_of}
use Rattle.cad_run_worlds.specs.Code.{Adds}
use Rattle.cad_run_worlds.proofs.Turns.{turn, type_at, stands_not, lacks, ends}
use Rattle.cad_run_worlds.proofs.arguments.push_arguments.Goals as goal

pub returns-in_default : goal.returns-in_default
returns-in_default c =
    lacks (shapes_of c.args.shapes.now) (map type_at c.args.types.now) (map view c.args.arguments.now) (pure_row c.args.row.now.items) c.args.types.now c.loop-want.want-index c.loop-want.left.now (pure_row c.loop-want.row.items) c.want-item.result _ (pure_row c.loop-want.row.items)
    c.loop-want-test.true c.want-item.is c.in_default.len_below c.loop-want.invariant

pub returns-then-not-branch : goal.returns-then-not-branch
returns-then-not-branch c =
    stands_not (shapes_of c.args.shapes.now) (map type_at c.args.types.now) (map view c.args.arguments.now) (pure_row c.args.row.now.items) c.args.types.now c.loop-want.want-index c.loop-want.left.now (pure_row c.loop-want.row.items) c.want-item.result _ c.json-item.result (pure_row c.push_argument.new.row.items) (pure_row c.push_argument.new.row.items)
    c.loop-want-test.true c.want-item.is c.in-len1-up.len_at_least c.json-item.is c.loop-want.invariant
    (subst (Adds (shapes_of c.args.shapes.now) (type_at c.want-item.result) (view c.json-item.result) (pure_row c.loop-want.row.items) (pure_row c.push_argument.new.row.items)) c.if-not-branch.true c.in_ok-push_argument.ensures)

pub loop-want-preserved : goal.loop-want-preserved
loop-want-preserved c =
    turn (shapes_of c.args.shapes.now) (map type_at c.args.types.now) (map view c.args.arguments.now) (pure_row c.args.row.now.items) c.args.types.now c.loop-want.want-index c.loop-want.left.now (pure_row c.loop-want.row.items) c.want-item.result _ c.json-item.result (pure_row c.push_argument.new.row.items)
    c.loop-want-test.true c.want-item.is c.in-len1-up.len_at_least c.json-item.is c.loop-want.invariant
    (subst (Adds (shapes_of c.args.shapes.now) (type_at c.want-item.result) (view c.json-item.result) (pure_row c.loop-want.row.items) (pure_row c.push_argument.new.row.items)) c.if-not-branch.false c.in_ok-push_argument.ensures)

pub returns : goal.returns
returns c =
    ends (shapes_of c.args.shapes.now) (map type_at c.args.types.now) (map view c.args.arguments.now) (pure_row c.args.row.now.items) c.args.types.now c.loop-want.want-index c.loop-want.left.now (pure_row c.loop-want.row.items) c.is_empty.result
    (omega arith) c.is_empty.ensures c.loop-want.invariant
