-- Registers of other accounts than those that are known aren't known with a part.
use Rattle.std.proofs.Common.{◌≡◌, ℕ, zero, suc, true, false, List, [], ◌∷◌, refl, sym, ap, ◌∙◌, inl, inr}
use Rattle.std.specs.Prelude.{is_some, ◌||◌, ◌==◌}
use Rattle.std.specs.List.{list_any}
use Rattle.std.proofs.lemmas.Bool.{cases_eq, eq-eqb}
use Rattle.cad_state.specs.declared.state.Known.{Known}
use Rattle.cad_wire.proofs.FieldLaws.{number_again}
use Rattle.cad_wire.specs.Fields.{number_at}
use Rattle.cad_worlds.proofs.KnownPlaces.{known_past}
use Rattle.cad_worlds.proofs.Passing.{either_left, either_right, of_account_only}
use Rattle.cad_worlds.specs.Code.KnownRegisters.{has_index, indexes_of, is_known, is_known_at, is_of_part}
use Rattle.cad_worlds.specs.Code.Passing.{is_among, RefusesOthers}

none_known : (known : List Known) (i : ℕ) → list_any (λ j. j == i) (indexes_of known) ≡ false → has_index known i ≡ false
none_known [] i none = refl
none_known (k ∷ known) i none =
    let here = either_left (k.index == i) (list_any (λ j. j == i) (indexes_of known)) none in
    let rest = none_known known i (either_right (k.index == i) (list_any (λ j. j == i) (indexes_of known)) none) in
    elim (cases_eq k.index i) [
      | inl e ↦ let wrong : true ≡ false = sym (eq-eqb k.index i e) ∙ here in absurd cc
      | inr n ↦ ap is_some (known_past k known i n) ∙ rest
    ]

other_unknown : (known : List Known) (n : ℕ) → is_among (indexes_of known) n ≡ false → is_known known n ≡ false
other_unknown known zero none = refl
other_unknown known (suc i) none = none_known known i none

pub part_refuses : (known : List Known) → RefusesOthers (indexes_of known) (is_of_part known)
part_refuses known [] h = absurd h
part_refuses known (kind ∷ rest) h =
    let a = h.1 in
    ap (λ b. b || is_known_at known (number_at rest)) (of_account_only kind h.0)
    ∙ ap (λ (l : List ℕ). is_known_at known (number_at l)) a.rest_is
    ∙ ap (is_known_at known) (number_again a.address a.name a.fits)
    ∙ other_unknown known a.address h.2
