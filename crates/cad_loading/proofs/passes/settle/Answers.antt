use Rattle.std.proofs.Common.{map}
use Rattle.cad_loading.specs.Views.{slots_of}
use Rattle.cad_loads.specs.Views.{source_of}
use Rattle.cad_tables.specs.Views.{contracts_of}
use Rattle.cad_loading.proofs.Turns.{at_rest, comes_on}
use Rattle.cad_loading.proofs.passes.settle.Goals as goal

pub loop-is_any-preserved : goal.loop-is_any-preserved
loop-is_any-preserved c =
    (comes_on (map source_of c.args.sources.now) (slots_of c.loop-is_any.state.slots) (slots_of c.pass.new.state.slots) (contracts_of c.loop-is_any.state.deployed) (contracts_of c.pass.new.state.deployed)
    c.in_ok-is_any.is_any c.in_ok-is_any.ensures c.if-not-is_any.false).0

pub loop-is_any-smaller : goal.loop-is_any-smaller
loop-is_any-smaller c =
    (comes_on (map source_of c.args.sources.now) (slots_of c.loop-is_any.state.slots) (slots_of c.pass.new.state.slots) (contracts_of c.loop-is_any.state.deployed) (contracts_of c.pass.new.state.deployed)
    c.in_ok-is_any.is_any c.in_ok-is_any.ensures c.if-not-is_any.false).1

pub returns-then-not-is_any : goal.returns-then-not-is_any
returns-then-not-is_any c =
    let both = at_rest (map source_of c.args.sources.now) (slots_of c.loop-is_any.state.slots) (slots_of c.pass.new.state.slots) (contracts_of c.loop-is_any.state.deployed) (contracts_of c.pass.new.state.deployed)
    c.in_ok-is_any.is_any c.loop-is_any.invariant c.in_ok-is_any.ensures c.if-not-is_any.true in
    record { loaded = both.0; rests = both.1 }
