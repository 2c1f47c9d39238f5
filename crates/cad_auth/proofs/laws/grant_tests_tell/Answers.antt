use Rattle.cad_auth.proofs.CoverTests.{grants_tells}
use Rattle.cad_auth.proofs.laws.grant_tests_tell.Goals as goal

pub returns : goal.returns
returns c = grants_tells
