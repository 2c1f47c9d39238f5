use Rattle.std.proofs.Common.{◌≡◌, ◌∙◌, map, length, refl, ap, arith}
use Rattle.std.proofs.lemmas.List.{length-map}
use Rattle.std.proofs.lemmas.Option.{slice_get-map, slice_get_read}
use Rattle.std.specs.Prelude.{Some, option_map, slice_get}
use Rattle.cad_loading.specs.Views.{slots_of}
use Rattle.cad_loads.specs.Views.{source_of}
use Rattle.cad_tables.specs.Views.{contracts_of}
use Rattle.cad_loading.proofs.Turns.{all_passed, loaded_now, none_passed, turn}
use Rattle.cad_loading.proofs.passes.pass.Goals as goal

pub loop-at-init : goal.loop-at-init
loop-at-init c = none_passed (map source_of c.args.sources.now) (slots_of c.args.state.now.slots) (contracts_of c.args.state.now.deployed)

pub loop-at-preserved : goal.loop-at-preserved
loop-at-preserved c =
    let ss = map source_of c.args.sources.now in
    let before = slots_of c.args.state.now.slots in
    let deployed = contracts_of c.args.state.now.deployed in
    let now = slots_of c.loop-at.state.slots in
    let there = contracts_of c.loop-at.state.deployed in
    let it : slice_get (map source_of c.args.sources.now) c.loop-at.at ≡ Some (source_of c.index-sources-at.result) =
    slice_get-map source_of c.args.sources.now c.loop-at.at
    ∙ ap (option_map source_of) (slice_get_read c.args.sources.now (length c.args.sources.now) c.loop-at.at c.index-sources-at.result refl (omega arith) c.index-sources-at.is) in
    turn ss before now (slots_of c.load_at.new.state.slots) deployed there (contracts_of c.load_at.new.state.deployed) c.loop-at.at c.loop-at.is_any c.in_ok-is_loaded.is_loaded c.loop-at.invariant
    (c.in_ok-is_loaded.ensures ss it (loaded_now ss before now deployed there c.loop-at.at c.loop-at.is_any c.requires c.loop-at.invariant))

pub returns : goal.returns
returns c =
    let many = length-map c.args.sources.now source_of in
    all_passed (map source_of c.args.sources.now) (slots_of c.args.state.now.slots) (slots_of c.loop-at.state.slots) (contracts_of c.args.state.now.deployed) (contracts_of c.loop-at.state.deployed)
    c.loop-at.at c.loop-at.is_any (omega arith) c.loop-at.invariant
