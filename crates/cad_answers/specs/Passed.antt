-- What the crates above name of the ones below.
pub use Rattle.cad_run_outcomes.specs.Views.{event_items}
