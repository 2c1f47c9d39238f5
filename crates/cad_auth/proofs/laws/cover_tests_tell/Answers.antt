use Rattle.cad_auth.proofs.CoverTests.{covers_tells}
use Rattle.cad_auth.proofs.laws.cover_tests_tell.Goals as goal

pub returns : goal.returns
returns c = covers_tells
