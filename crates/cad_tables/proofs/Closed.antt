-- The types of deployed contracts are closed.
pub use Rattle.cad_entries.proofs.Closed.{deployed_closed}
