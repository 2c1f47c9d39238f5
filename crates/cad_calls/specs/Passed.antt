-- What the crates above name of the ones below.
pub use Rattle.cad_execution.specs.Passed.{callee_of, flow_of, tree_in}
pub use Rattle.cad_execution.specs.Passed.{Flow}
