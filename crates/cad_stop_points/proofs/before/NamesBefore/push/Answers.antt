use Rattle.std.proofs.Common.{List, ap, sym, ◌∙◌}
use Rattle.cad_syntax.specs.declared.text.Name.{Name}
use Rattle.cad_declarations.specs.Names.{has_name}
use Rattle.cad_stop_points.proofs.before.NamesBefore.push.Goals as goal

pub invariant_of-self-in_err-copy : goal.invariant_of-self-in_err-copy
invariant_of-self-in_err-copy c name = c.reserve.ensures.keys.2 name ∙ c.self.invariant name

pub invariant_of-self-in_err-push : goal.invariant_of-self-in_err-push
invariant_of-self-in_err-push c name =
    c.reserve.ensures.keys.2 name ∙ c.self.invariant name ∙ ap (λ (names : List Name). has_name names name) (sym c.in_err-push.ensures.items)
