-- What the crates above name of the ones below.
pub use Rattle.cad_command_runs.specs.Passed.{contract_named, is_taken}
