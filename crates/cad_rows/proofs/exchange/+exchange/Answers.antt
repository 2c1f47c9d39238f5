use Rattle.std.proofs.Common.{rules, is_some, ap, ◌∙◌, arith}
use Rattle.cad_rows.specs.Views.{pure_row, pure_shape}
use Rattle.cad_rows.specs.Exchanges.{shape_of, parts_of}
use Rattle.cad_rows.proofs.FarLaws.{far_there}
use Rattle.cad_rows.proofs.exchange.+exchange.Goals as goal

pub swap_from-returns-then-i-len-clause-there : goal.swap_from-returns-then-i-len-clause-there
swap_from-returns-then-i-len-clause-there t c =
    c.swap_below.ensures.there ∙ ap is_some (far_there c.args.i c.args.rest.now c.args.row.now.items c.index_mut.result.now (omega arith) (search rules) c.index_mut.ensures.value)

pub swap_from-returns-then-i-len-clause-shape : goal.swap_from-returns-then-i-len-clause-shape
swap_from-returns-then-i-len-clause-shape t c =
    c.swap_below.ensures.shape ∙ ap (shape_of (pure_shape c.args.shape.now)) (far_there c.args.i c.args.rest.now c.args.row.now.items c.index_mut.result.now (omega arith) (search rules) c.index_mut.ensures.value)

pub swap_from-returns-then-i-len-clause-parts : goal.swap_from-returns-then-i-len-clause-parts
swap_from-returns-then-i-len-clause-parts t c =
    c.swap_below.ensures.parts ∙ ap (parts_of (pure_row c.args.parts.now.items)) (far_there c.args.i c.args.rest.now c.args.row.now.items c.index_mut.result.now (omega arith) (search rules) c.index_mut.ensures.value)
