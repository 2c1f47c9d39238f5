use Rattle.cad_expressions.proofs.Arms.{target_arm, field_arm, element_arm, content_arm}
use Rattle.cad_expressions.proofs.Standings.{variable_arm, self_arm, contract_arm}
use Rattle.std.proofs.Common.{refl}
use Rattle.cad_expressions.proofs.places.+evaluate_place.Goals as goal

pub returns-in-Variable : goal.returns-in-Variable
returns-in-Variable g t c = variable_arm (g.E.Evaluator.front c.args.evaluator.now) (g.E.Evaluator.calls c.args.evaluator.now) c.args.writes c.args.place.now c.args.state.now _ c.in-Variable.n _ c.in-Variable.is refl c.here_variable.ensures

pub returns-in-Self_ : goal.returns-in-Self_
returns-in-Self_ g t c = self_arm (g.E.Evaluator.front c.args.evaluator.now) (g.E.Evaluator.calls c.args.evaluator.now) c.args.writes c.args.place.now c.args.state.now _ c.in-Self_.is c.own_self.ensures

pub returns-in-Contract : goal.returns-in-Contract
returns-in-Contract g t c = contract_arm (g.E.Evaluator.front c.args.evaluator.now) (g.E.Evaluator.calls c.args.evaluator.now) c.args.writes c.args.place.now c.args.state.now _ _ c.in-Contract.is c.here_contract.ensures

pub returns-in-Target : goal.returns-in-Target
returns-in-Target g t c = target_arm (g.E.Evaluator.front c.args.evaluator.now) (g.E.Evaluator.calls c.args.evaluator.now) (g.met.E.Evaluator.keeps c.args.evaluator.now) _ _ _ _ c.args.state.now _ _ _ _ c.in-Target.is c.deref.ensures c.value-found.ensures (c.lead.ensures c.value-found.new.state)

pub returns-in-Field : goal.returns-in-Field
returns-in-Field g t c = field_arm (g.E.Evaluator.front c.args.evaluator.now) (g.E.Evaluator.calls c.args.evaluator.now) (g.met.E.Evaluator.keeps c.args.evaluator.now) _ _ _ _ _ _ c.args.state.now _ _ _ _ c.in-Field.is c.deref-in-Field.ensures c.evaluate_place-found.ensures c.field_at.ensures

pub returns-in-Element : goal.returns-in-Element
returns-in-Element g t c = element_arm (g.E.Evaluator.front c.args.evaluator.now) (g.E.Evaluator.calls c.args.evaluator.now) (g.met.E.Evaluator.keeps c.args.evaluator.now) _ _ _ _ _ _ _ c.args.state.now _ _ _ _ c.in-Element.is c.deref-in-Element.ensures c.deref-in-Element-2.ensures c.evaluate_place-found-in-Element.ensures c.element_at.ensures

pub returns-in-Content : goal.returns-in-Content
returns-in-Content g t c = content_arm (g.E.Evaluator.front c.args.evaluator.now) (g.E.Evaluator.calls c.args.evaluator.now) (g.met.E.Evaluator.keeps c.args.evaluator.now) _ _ _ _ _ c.args.state.now _ _ _ _ c.in-Content.is c.deref-in-Content.ensures c.evaluate_place-found-in-Content.ensures c.content_at.ensures
