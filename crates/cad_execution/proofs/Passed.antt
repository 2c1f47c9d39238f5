-- What the crates above name of the ones below.
pub use Rattle.cad_expressions.proofs.Passed.{carries_boxed, finds_boxed, gives_boxed}
