-- What the crates above name of the ones below.
pub use Rattle.cad_statements.specs.Views.{conditions_in, judged}
