use Rattle.cad_loading.proofs.Verdicts.{entry_named}
use Rattle.cad_loading.proofs.deployed.installed.Goals as goal

pub returns : goal.returns
returns c =
    entry_named c.args.id.now c.in_ok-name.name.now c.in_ok-clone.field-0 c.args.checked.now.value c.in_ok-hold.field-0.value c.in_ok-name.ensures c.in_ok-clone.ensures.cases c.in_ok-hold.ensures
