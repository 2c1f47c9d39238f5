use Rattle.std.proofs.Common.{◌∙◌, ◌∷◌, ap, sym, map}
use Rattle.std.proofs.lemmas.List.{nil_from_length}
use Rattle.cad_declarations.specs.Views.{term_of, block_of, case_of}
use Rattle.cad_statement_trees.proofs.Cases.{case_turn, no_body, no_value}
use Rattle.cad_statement_trees.proofs.switches.push_cases.Goals as goal

pub loop-value-preserved : goal.loop-value-preserved
loop-value-preserved c =
    let left = map term_of c.pop_front.new.self.items in
    let rest = map block_of c.pop_front-in-Some.new.self.items in
    case_turn (map term_of c.loop-value.left.items) left (map block_of c.loop-value.rest.items) rest
    (map case_of c.loop-value.all.items) (map case_of c.push_case.new.all.items) (case_of c.case_with.result) _
    (ap (map term_of) c.in-Some.ensures.items ∙ ap (λ z. z ∷ left) (sym c.case_with.ensures.value))
    (ap (map block_of) c.in-Some-pop_front.ensures.items ∙ ap (λ z. z ∷ rest) (sym c.case_with.ensures.body))
    c.in_ok-push_case-in-Some-pop_front.ensures c.loop-value.invariant

pub returns-in-None : goal.returns-in-None
returns-in-None c =
    no_body (term_of c.in-Some.value) (map term_of c.loop-value.left.items) (map term_of c.pop_front.new.self.items) (map block_of c.loop-value.rest.items)
    (map case_of c.loop-value.all.items) _ (ap (map term_of) c.in-Some.ensures.items)
    (ap (map block_of) (nil_from_length c.loop-value.rest.items (sym c.loop-value.rest.ok.0 ∙ c.in-None.ensures.cases.0))) c.loop-value.invariant

pub returns : goal.returns
returns c =
    no_value (map term_of c.loop-value.left.items) (map block_of c.loop-value.rest.items) (map case_of c.loop-value.all.items) _
    (ap (map term_of) (nil_from_length c.loop-value.left.items (sym c.loop-value.left.ok.0 ∙ c.in_default.ensures.cases.0))) c.loop-value.invariant
