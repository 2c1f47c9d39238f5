use Rattle.cad_auth.specs.Grants.{Grants}
use Rattle.cad_auth.specs.Tests as tests
use Rattle.cad_access.proofs.FieldTypes.{both_tell}
use Rattle.cad_access.proofs.access.is_granted.Goals as goal

pub returns : goal.returns
returns c =
    let own = c.args.own.now in
    let need = c.args.need.now in
    both_tell (Grants own need) _ (tests.grants own need) c.grants.ensures (c.grant_tests_tell.ensures own need)
