-- What the crates above name of the ones below.
pub use Rattle.cad_containers.specs.Literals.{pure_pair}
pub use Rattle.cad_containers.specs.declared.literals.Pair.{Pair}
