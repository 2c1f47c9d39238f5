-- What the crates above name of the ones below.
pub use Rattle.cad_loading.specs.Again.{same_source}
