-- Transfers: the same while the units last.
use Rattle.std.specs.Prelude.{◌-◌, nat_le}
use Rattle.cad_syntax.specs.Types.{PureType}
use Rattle.cad_values.specs.Sizes.{most_high}
use Rattle.cad_world.specs.Rows.{Tree}
use Rattle.cad_world.specs.Trees.{tree_weight, tree_height}
use Rattle.cad_world.specs.Transfers.{come_to, charged, transferred}
use Rattle.cad_bounds.proofs.Same.{Runs, Same, same_give, same_spend, same_require, same_bind}

pub same_charged : (R : Runs) (x1 : Tree) → Same R (charged x1) (charged x1)
same_charged R t = same_require R 123 (nat_le (tree_height t) most_high) _ _ (same_spend R (tree_weight t - 1))

pub same_transferred : (R : Runs) (x1 : PureType) (x2 : Tree) → Same R (transferred x1 x2) (transferred x1 x2)
same_transferred R type t = same_bind R _ _ _ _ (same_charged R t) (λ u1. (same_give R (come_to type t)))
