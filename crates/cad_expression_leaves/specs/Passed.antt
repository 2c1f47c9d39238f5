-- What the crates above name of the ones below.
pub use Rattle.cad_value_operations.specs.Optionals.{content_or_none, left_or_none}
pub use Rattle.cad_members.specs.Passed.{Pair, pure_pair}
pub use Rattle.cad_receivers.specs.Uses.{aimed}
pub use Rattle.cad_receivers.specs.Views.{at_spot, receiver_of}
pub use Rattle.cad_receivers.specs.declared.receivers.Receiver.{Receiver}
pub use Rattle.cad_standing.specs.CastPlaces.{cast_content, cast_place, cast_value, if_cast}
pub use Rattle.cad_standing.specs.Views.{is_nowhere, standing_of}
pub use Rattle.cad_standing.specs.declared.standing.Standing.{Standing}
