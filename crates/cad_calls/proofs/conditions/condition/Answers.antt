use Rattle.std.proofs.Common.{option_map, ap, ◌∙◌, sym}
use Rattle.cad_declarations.specs.Typed as e
use Rattle.cad_declarations.specs.Views.{condition_of, targeted, term_of}
use Rattle.cad_calls.proofs.Laws.{tested_as}
use Rattle.cad_calls.proofs.conditions.condition.Goals as goal

pub returns-in-Test : goal.returns-in-Test
returns-in-Test g c =
    tested_as (g.C.Callees.front c.args.callees.now) (g.C.Callees.calls c.args.callees.now) (condition_of c.args.condition.now) (e.test c.in-Test.at (term_of c.in-Test.tested) (option_map term_of c.in-Test.message)) c.args.state.now c.test.new.state c.test.result (ap condition_of c.in-Test.is) (c.test.ensures c.in-Test.at)

pub returns-in-Emit : goal.returns-in-Emit
returns-in-Emit g c =
    tested_as (g.C.Callees.front c.args.callees.now) (g.C.Callees.calls c.args.callees.now) (condition_of c.args.condition.now) (e.emitted c.in-Emit.at c.in-Emit.event (targeted c.as_slice.result.now)) c.args.state.now c.emit.new.state c.emit.result (ap condition_of c.in-Emit.is ∙ ap (λ l. e.emitted c.in-Emit.at c.in-Emit.event (targeted l)) (sym c.as_slice.ensures.value)) (c.emit.ensures c.in-Emit.at)
