use Rattle.std.proofs.Common.{ap, ◌∙◌, sym, option_map}
use Rattle.cad_calls.specs.Pieces.{event_in}
use Rattle.cad_declarations.specs.Views.{destroyed_of}
use Rattle.cad_calls.proofs.Telling.{told_none, told_some}
use Rattle.cad_calls.proofs.events.tell_event.Goals as goal

pub returns-in-Some : goal.returns-in-Some
returns-in-Some g c =
    told_some (g.C.Callees.front c.args.callees.now) (g.C.Callees.calls c.args.callees.now) c.args.id.now c.args.label (event_in c.args.own.now) (destroyed_of c.in-Some.destroyed.now) c.args.state.now c.make_event.new.state c.make_event.result (sym c.own_event.ensures ∙ ap (option_map (λ d. destroyed_of d.now)) c.in-Some.is) c.make_event.ensures

pub returns-in-None : goal.returns-in-None
returns-in-None g c =
    told_none (g.C.Callees.front c.args.callees.now) (g.C.Callees.calls c.args.callees.now) c.args.id.now c.args.label (event_in c.args.own.now) c.args.state.now (sym c.own_event.ensures ∙ ap (option_map (λ d. destroyed_of d.now)) c.in-None.is)
