use Rattle.cad_expression_leaves.proofs.callees.QuietCallees.call.Goals as goal

pub returns-in-Method : goal.returns-in-Method
returns-in-Method g c = rw (c.in-Method.is) c.call.ensures

pub returns-in-Function : goal.returns-in-Function
returns-in-Function g c = rw (c.in-Function.is) c.call-in-Function.ensures

pub returns-in-Initializer : goal.returns-in-Initializer
returns-in-Initializer g c = rw (c.in-Initializer.is) c.call-in-Initializer.ensures
