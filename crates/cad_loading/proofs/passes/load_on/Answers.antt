use Rattle.std.proofs.Common.{map}
use Rattle.std.specs.Prelude.{[]}
use Rattle.cad_loading.specs.Slots.{gathered}
use Rattle.cad_loading.specs.Views.{programs_of, slots_of}
use Rattle.cad_loads.specs.Views.{source_of}
use Rattle.cad_tables.specs.Views.{contracts_of}
use Rattle.cad_loading.proofs.Settled.{settled}
use Rattle.cad_loading.proofs.Verdicts.{loading_told}
use Rattle.cad_loading.proofs.passes.load_on.Goals as goal

pub returns-in-Ok : goal.returns-in-Ok
returns-in-Ok c =
    loading_told (map source_of c.args.sources.now) programs_of (gathered [] (slots_of c.settle.new.state.slots)) c.finished.result
    (settled c.one_acceptance.ensures c.imports_are_enough.ensures (map source_of c.args.sources.now) (slots_of c.settle.new.state.slots) (contracts_of c.settle.new.state.deployed)
    c.in-Ok.ensures.loaded c.in-Ok.ensures.rests)
    c.finished.ensures
