use Rattle.std.proofs.Common.{◌≡◌, ◌∙◌, ◌++◌, map, ap, sym}
use Rattle.std.specs.Prelude.{List, Option}
use Rattle.std.specs.declared.alloc.Global.{Global}
use Rattle.std.specs.declared.rc.Rc.{Rc}
use Rattle.cad_declarations.specs.declared.program.Checked.{Checked}
use Rattle.cad_loading.specs.Again.{slots_by}
use Rattle.cad_loading.specs.Views.{held_of, slot_of, slots_of}
use Rattle.cad_loads.specs.Views.{source_of}
use Rattle.cad_tables.specs.Views.{contracts_of}
use Rattle.cad_loading.proofs.Again.{kept_loaded}
use Rattle.cad_loading.proofs.Turns.{begins}
use Rattle.cad_loading.proofs.meeting.begun.Goals as goal

pub returns-in_ok-state-in-Ok-true : goal.returns-in_ok-state-in-Ok-true
returns-in_ok-state-in-Ok-true c =
    let ss = map source_of c.args.sources.now in
    let ks = map held_of c.args.kept.now in
    let slots : slots_of c.push_met.new.slots ≡ slots_by ss ks =
    c.in-Ok-true.ensures.slots ∙ ap (λ (all : List (Option (Rc Checked Global))). map slot_of all ++ slots_by ss ks) c.new-slots.ensures.items in
    kept_loaded ss ks (slots_of c.in_ok-state-in-Ok-true.state.slots) (contracts_of c.in_ok-state-in-Ok-true.state.deployed) c.requires (sym c.in-Ok-true.ensures.all ∙ c.in-Ok-true.field-0-test)
    (c.in_ok-state-in-Ok-true.ensures.0 ∙ slots) c.in_ok-state-in-Ok-true.ensures.1

pub returns-in_ok-state-in-Ok-false : goal.returns-in_ok-state-in-Ok-false
returns-in_ok-state-in-Ok-false c =
    begins source_of c.args.sources.now (slots_of c.in_ok-state-in-Ok-false.state.slots) (contracts_of c.in_ok-state-in-Ok-false.state.deployed) c.in_ok-state-in-Ok-false.ensures.slots c.in_ok-state-in-Ok-false.ensures.deployed
