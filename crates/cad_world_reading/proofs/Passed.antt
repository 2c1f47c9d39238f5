-- What the crates above name of the ones below.
pub use Rattle.cad_loading.proofs.Again.{sources_tell}
