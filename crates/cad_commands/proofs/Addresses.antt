-- Addresses that are collected, one after the other.
use Rattle.std.proofs.Common.{◌≡◌, List, [], ◌∷◌, ◌++◌, Option, Some, None, option_map, refl, sym, ap, ◌∙◌, append_assoc}
use Rattle.serde_json.specs.Data.{Data}
use Rattle.serde_json.specs.Find.{as_str}
use Rattle.serde_json.specs.View.{items_of}
use Rattle.cad_syntax.specs.declared.address.Address.{Address}
use Rattle.cad_commands.specs.Fields.{put_first, address_in, addresses_of}

-- what was collected stands in front of what comes
abbrev pub behind : List Address → Option (List Address) → Option (List Address)
behind done more = option_map (λ all. done ++ all) more

goes_on : (done : List Address) (a : Address) (more : Option (List Address)) → behind done (put_first (Some a) more) ≡ behind (done ++ a ∷ []) more
goes_on done a None = refl
goes_on done a (Some all) = ap Some (sym (append_assoc done (a ∷ []) all))

-- one more of them
pub one_more : (ds rest : List Data) (d : Data) (a : Address) (done : List Address) (whole : Option (List Address))
    → ds ≡ d ∷ rest → address_in (as_str d) ≡ Some a → behind done (addresses_of (items_of ds)) ≡ whole → behind (done ++ a ∷ []) (addresses_of (items_of rest)) ≡ whole
one_more ds rest d a done whole split some so_far =
    sym (goes_on done a (addresses_of (items_of rest)))
    ∙ ap (λ o. behind done (put_first o (addresses_of (items_of rest)))) (sym some)
    ∙ ap (λ all. behind done (addresses_of (items_of all))) (sym split)
    ∙ so_far
