use Rattle.cad_calls.proofs.level.call_at.Goals as goal

pub returns-in-Method : goal.returns-in-Method
returns-in-Method g c =
    rw (c.in-Method.is) c.call_method.ensures

pub returns-in-Function : goal.returns-in-Function
returns-in-Function g c =
    rw (c.in-Function.is) c.call_function.ensures

pub returns-in-Initializer : goal.returns-in-Initializer
returns-in-Initializer g c =
    rw (c.in-Initializer.is) c.call_initializer.ensures

pub returns-in-DestroyedEvent : goal.returns-in-DestroyedEvent
returns-in-DestroyedEvent g c =
    rw (c.in-DestroyedEvent.is) (λ none. c.call_event.ensures)
