-- What the crates above name of the ones below.
pub use Rattle.cad_expressions.specs.Passed.{callee_of, items_row, tree_in}
pub use Rattle.cad_expressions.specs.Passed.{Callee}
pub use Rattle.cad_statement_leaves.specs.Views.{flow_of}
pub use Rattle.cad_statement_leaves.specs.declared.flow.Flow.{Flow}
pub use Rattle.cad_statement_leaves.specs.declared.flow.Flow.TheVariants.{Next}
