-- What the crates above name of the ones below.
pub use Rattle.cad_world_reading.specs.Laws.{OneWorld}
pub use Rattle.cad_world_reading.specs.Wanted.{IsPartOf}
