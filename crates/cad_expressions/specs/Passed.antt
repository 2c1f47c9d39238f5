-- What the crates above name of the ones below.
pub use Rattle.cad_expression_leaves.specs.Views.{callee_of, items_row, tree_in}
pub use Rattle.cad_expression_leaves.specs.declared.callees.Callee.{Callee}
pub use Rattle.cad_expression_leaves.specs.Passed.{standing_of}
