-- What the crates above name of the ones below.
pub use Rattle.cad_expression_leaves.proofs.Boxing.{carries_boxed, finds_boxed, gives_boxed}
