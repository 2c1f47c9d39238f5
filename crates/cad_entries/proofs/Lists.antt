-- What is collected, one after the other.
pub use Rattle.cad_contracts.proofs.Lists.{one_more}
