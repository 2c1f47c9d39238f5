-- Laws of names and of points.
pub use Rattle.cad_stop_points.proofs.Lists.{reversed_one}
pub use Rattle.cad_stop_points.proofs.Stops.{told_rows, first_of_both}
