-- What the crates above name of the ones below.
pub use Rattle.cad_routines.specs.Passed.{conditions_in, judged}
