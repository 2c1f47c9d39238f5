-- Contracts that are collected, one after the other.
use Rattle.std.specs.Prelude.{Option, Some, None, option_map, List, [], ◌∷◌, ◌++◌}
use Rattle.std.proofs.Common.{◌≡◌, ◌∙◌, refl, ap, sym, append_assoc}
use Rattle.serde_json.specs.Data.{Data}
use Rattle.serde_json.specs.View.{items_of}
use Rattle.cad_declarations.specs.Scopes.{option_cons}
use Rattle.cadence_check.specs.Requests.{Contract, contract_in, each_contract}

-- what was collected stands in front of what comes
abbrev pub behind : List Contract → Option (List Contract) → Option (List Contract)
behind done more = option_map (λ cs. done ++ cs) more

goes_on : (done : List Contract) (c : Contract) (more : Option (List Contract)) → behind done (option_cons (Some c) more) ≡ behind (done ++ c ∷ []) more
goes_on done c None = refl
goes_on done c (Some cs) = ap Some (sym (append_assoc done (c ∷ []) cs))

-- one more of them
pub one_more : (ds rest : List Data) (d : Data) (c : Contract) (done : List Contract) (whole : Option (List Contract))
    → ds ≡ d ∷ rest → contract_in d ≡ Some c → behind done (each_contract (items_of ds)) ≡ whole → behind (done ++ c ∷ []) (each_contract (items_of rest)) ≡ whole
one_more ds rest d c done whole split some so_far =
    sym (goes_on done c (each_contract (items_of rest)))
    ∙ ap (λ o. behind done (option_cons o (each_contract (items_of rest)))) (sym some)
    ∙ ap (λ all. behind done (each_contract (items_of all))) (sym split)
    ∙ so_far
