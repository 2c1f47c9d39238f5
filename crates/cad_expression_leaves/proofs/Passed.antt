-- What the crates above name of the ones below.
pub use Rattle.cad_receivers.proofs.Passing.{after_settled, settled_stops}
pub use Rattle.cad_standing.proofs.CastLaws.{casts_first}
