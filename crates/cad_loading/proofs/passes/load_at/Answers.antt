use Rattle.std.proofs.Common.{◌∙◌, refl, sym, subst}
use Rattle.std.specs.Prelude.{Option, option_map}
use Rattle.cad_declarations.specs.declared.program.Checked.{Checked}
use Rattle.cad_loading.specs.Slots.{Standing}
use Rattle.cad_loading.specs.Views.{slots_of}
use Rattle.cad_loads.specs.Views.{source_of}
use Rattle.cad_state.specs.Views.{program_of}
use Rattle.cad_tables.specs.Views.{contracts_of}
use Rattle.cad_loading.proofs.Turns.{gap_within, loaded_there, rests_full, rests_refused, rests_taken}
use Rattle.cad_loading.proofs.passes.load_at.Goals as goal

pub returns-then-not-is_left : goal.returns-then-not-is_left
returns-then-not-is_left c = λ sources h x. (
  refl,
  refl,
  rests_full (contracts_of c.args.state.now.deployed) sources (slots_of c.args.state.now.slots) c.args.at (sym c.is_left.ensures ∙ c.if-not-is_left.true),
)

pub returns-then-is_there : goal.returns-then-is_there
returns-then-is_there c = λ sources h x. (
  refl,
  refl,
  rests_taken (contracts_of c.args.state.now.deployed) sources (slots_of c.args.state.now.slots) c.args.at (source_of c.args.source.now) h (sym c.in_ok-is_there.ensures ∙ c.if-is_there.true),
)

pub returns-in-None : goal.returns-in-None
returns-in-None c = λ sources h x. (
  refl,
  refl,
  rests_refused (contracts_of c.args.state.now.deployed) sources (slots_of c.args.state.now.slots) c.args.at (source_of c.args.source.now) h
      (subst (λ (o : Option Checked). Standing (contracts_of c.args.state.now.deployed) (source_of c.args.source.now) (option_map program_of o)) c.in-None.is c.in_ok-found.ensures),
)

pub put-requires : goal.put-requires
put-requires c = gap_within (slots_of c.args.state.now.slots) c.args.at (sym c.is_left.ensures ∙ c.if-not-is_left.false)

pub returns-in_ok-put-in-Some : goal.returns-in_ok-put-in-Some
returns-in_ok-put-in-Some c = λ sources h x.
    loaded_there sources (slots_of c.args.state.now.slots) (slots_of c.put.new.state.slots) (contracts_of c.args.state.now.deployed) (contracts_of c.put.new.state.deployed)
    c.args.at (source_of c.args.source.now) (program_of c.in-Some.checked) x h (sym c.is_left.ensures ∙ c.if-not-is_left.false) (sym c.in_ok-is_there.ensures ∙ c.if-is_there.false)
    (subst (λ (o : Option Checked). Standing (contracts_of c.args.state.now.deployed) (source_of c.args.source.now) (option_map program_of o)) c.in-Some.is c.in_ok-found.ensures)
    c.in_ok-put-in-Some.ensures.slots c.in_ok-put-in-Some.ensures.deployed
