-- Registers of accounts that aren't wanted make nothing.
use Rattle.std.proofs.Common.{◌≡◌, ◌-◌, ℕ, zero, suc, Bool, true, false, cond, List, [], ◌∷◌, map, Option, Some, None, refl, sym, ap, ◌∙◌, arith, inl, inr}
use Rattle.std.specs.Prelude.{option_map}
use Rattle.std.proofs.lemmas.Bool.{cases_Bool, ne_eqb}
use Rattle.cad_accounts.specs.Registers.{are_rising}
use Rattle.cad_accounts.specs.declared.row.Row.{Row}
use Rattle.cad_wire.proofs.FieldLaws.{number_again}
use Rattle.cad_wire.specs.Fields.{◌>>=◌}
use Rattle.cad_worlds.proofs.Choosing.{filter_yes, filter_no}
use Rattle.cad_worlds.specs.Code.Passing.{AreTold, is_among, RefusesOthers, LeavesOut}
use Rattle.cad_worlds.specs.Merging.{chosen}
use Rattle.cad_worlds.specs.Standing.{register_of}
use Rattle.cad_world_registers.proofs.Again.{then_is}
use Rattle.cad_world_registers.specs.Code.PartDrafts.{PartDraft, put_some, take, take_all}
use Rattle.cad_world_registers.specs.Code.Selection.{address_in, is_address_wanted, is_place_wanted, is_selected}
use Rattle.cad_world_registers.specs.Told.{item_in}
use Rattle.cad_world_registers.specs.Wanted.{is_wanted}

module _ (wanted : List ℕ) where
  unwanted : (n : ℕ) → is_among wanted n ≡ false → is_address_wanted wanted n ≡ false
  unwanted zero none = refl
  unwanted (suc i) none =
      let back : suc i - 1 ≡ i = omega arith in
      ap (λ b. cond b false (is_wanted wanted (suc i - 1))) (ne_eqb (suc i) 0 (λ z. omega (arith, z))) ∙ ap (is_wanted wanted) back ∙ none

  selection_refuses : RefusesOthers wanted (is_selected wanted)
  selection_refuses [] h = absurd h
  selection_refuses (kind ∷ rest) h =
      let a = h.1 in
      let front : address_in rest ≡ Some a.address = ap address_in a.rest_is ∙ ap (option_map (λ n. n.0)) (number_again a.address a.name a.fits) in
      ap (λ b. cond b (is_place_wanted wanted (address_in rest)) true) h.0 ∙ ap (is_place_wanted wanted) front ∙ unwanted a.address h.2

  abbrev picked : List Row → List Row
  picked rows = chosen (is_selected wanted) rows

  -- what isn't selected changes nothing
  take_picked : (rows : List Row) (d : PartDraft) → take_all wanted (map register_of (picked rows)) d ≡ take_all wanted (map register_of rows) d
  take_picked [] d = refl
  take_picked (r ∷ rows) d =
      elim (cases_Bool (is_selected wanted r.key.0)) [
        | inl t ↦
            ap (λ (l : List Row). take_all wanted (map register_of l) d) (filter_yes (λ (row : Row). is_selected wanted row.key.0) r rows t)
            ∙ (λ i. take wanted r.key.0 r.value d >>= λ e. take_picked rows e i)
        | inr f ↦
            ap (λ (l : List Row). take_all wanted (map register_of l) d) (filter_no (λ (row : Row). is_selected wanted row.key.0) r rows f)
            ∙ take_picked rows d
            ∙ sym (then_is (ap (λ b. cond b (put_some (item_in r.key.0 r.value) d) (Some d)) f) (λ e. take_all wanted (map register_of rows) e) refl)
      ]

  -- rows without some of other accounts
  pub take_left : (found rows : List Row) (d : PartDraft) → LeavesOut wanted found rows → AreTold rows → are_rising rows ≡ true → take_all wanted (map register_of found) d ≡ take_all wanted (map register_of rows) d
  take_left found rows d leaves t a =
      sym (take_picked found d) ∙ ap (λ (l : List Row). take_all wanted (map register_of l) d) (leaves (is_selected wanted) selection_refuses t a) ∙ take_picked rows d
