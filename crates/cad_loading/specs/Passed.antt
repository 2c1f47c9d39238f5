-- What the crates above name of the ones below.
pub use Rattle.cad_check.specs.Answers.{TextVerdict}
pub use Rattle.cad_check.specs.Laws.{AcceptedTextsHaveNoStop, OneAcceptance, OneFirstStop}
