-- The registers of a sound World stand in byte order of their keys.
use Rattle.std.proofs.Common.{◌≡◌, ℕ, suc, ◌+◌, ◌*◌, ◌^◌, ◌<◌, ◌≤◌, Bool, true, false, cond, List, [], ◌∷◌, ◌++◌, map, length, refl, sym, ap, ◌∙◌, append-nil, arith, inl}
use Rattle.std.specs.Prelude.{◌==◌}
use Rattle.std.specs.List.{AllByRecursion, flat_map}
use Rattle.std.specs.Ordering.{is_lt}
use Rattle.std.proofs.lemmas.Bool.{ltb-true}
use Rattle.std.proofs.lemmas.List.Elements.{recursion_from_All}
use Rattle.cad_accounts.specs.Code.Places.{AllBehind}
use Rattle.cad_accounts.specs.KeyOrder.{before, rise}
use Rattle.cad_accounts.proofs.Order.{both, both_left, both_right, join}
use Rattle.cad_syntax.specs.declared.text.Name.{Name}
use Rattle.cad_values.specs.Shapes.{Shapes}
use Rattle.cad_values.specs.Values.{PureValue}
use Rattle.cad_wire.specs.Fields.{number_field}
use Rattle.cad_world.specs.Orders.{rises, name_before, publication_before, controller_before, contract_before}
use Rattle.cad_world.specs.Registers.{Register, register, head_key, code_register, fields_registers, of_accounts, next_register, stored_from, stored_registers, published_register, published_registers, controller_register, controller_registers, row_values}
use Rattle.cad_world.specs.Shapes.{shapes}
use Rattle.cad_world.specs.Sound.{SoundAccount, SoundPublication, SoundController, most_next, most_accounts}
use Rattle.cad_world.specs.State.{Publication, Controller, Account, Contract}
use Rattle.cad_worlds.specs.Laws.{register_key, RegistersRise}
use Rattle.cad_worlds.specs.Standing.{coding}
use Rattle.cad_worlds.proofs.ContractParts.{codes_part, values_part}
use Rattle.cad_worlds.proofs.Known.{IsKnown, are_known}
use Rattle.cad_worlds.proofs.Numbers.{less_step, number_before}
use Rattle.cad_worlds.proofs.Parts.{key_of, in_one, Placed, Part, two_parts, wider_part, section, here, map_rises, map_placed}

-- ---- the registers of one account

one_next : (n : ℕ) (a : Account) → n < 2 ^ 64 → Part (1 * 2 ^ 64 + n) (1 * 2 ^ 64 + suc n) (next_register n a)
one_next n a fits = record { rises = refl; placed = (here 1 n [] (register (1 ∷ number_field n) (number_field a.next_controller)) fits (ap (λ (l : List ℕ). 1 ∷ l) (sym (append-nil (number_field n)))), tt) }

stored_rise : (n : ℕ) (is : List Name) (vs : List PureValue) → rises name_before is ≡ true → rise register_key (stored_from coding n is vs) ≡ true
stored_rise n [] vs e = refl
stored_rise n (i ∷ is) [] e = refl
stored_rise n (i ∷ []) (v ∷ vs) e = refl
stored_rise n (i ∷ j ∷ is) (v ∷ []) e = refl
stored_rise n (i ∷ j ∷ is) (v ∷ u ∷ vs) e =
    both (before (key_of 4 n i.0) (key_of 4 n j.0)) (rise register_key (stored_from coding n (j ∷ is) (u ∷ vs)))
    (in_one 4 n i.0 j.0 (both_left (name_before i j) (rises name_before (j ∷ is)) e))
    (stored_rise n (j ∷ is) (u ∷ vs) (both_right (name_before i j) (rises name_before (j ∷ is)) e))

stored_placed : (n : ℕ) (is : List Name) (vs : List PureValue) → n < 2 ^ 64 → AllByRecursion (Placed (4 * 2 ^ 64 + n) (4 * 2 ^ 64 + suc n)) (stored_from coding n is vs)
stored_placed n [] vs fits = tt
stored_placed n (i ∷ is) [] fits = tt
stored_placed n (i ∷ is) (v ∷ vs) fits = (here 4 n i.0 (register (key_of 4 n i.0) (coding.value v)) fits refl, stored_placed n is vs fits)

published_part : (k : Shapes) (n : ℕ) (ps : List Publication) → n < 2 ^ 64 → rises publication_before ps ≡ true → AllByRecursion (SoundPublication k) ps
    → Part (5 * 2 ^ 64 + n) (5 * 2 ^ 64 + suc n) (map (published_register coding n) ps)
published_part k n ps fits e s = record {
  rises = map_rises publication_before (SoundPublication k) (published_register coding n) (λ x y p q h. in_one 5 n x.identifier.0 y.identifier.0 h) ps s e;
  placed = map_placed (5 * 2 ^ 64 + n) (5 * 2 ^ 64 + suc n) (SoundPublication k) (published_register coding n) (λ x p. here 5 n x.identifier.0 (published_register coding n x) fits refl) ps s;
}

abbrev HasNumber : Controller → Type 0
HasNumber c = c.number < 2 ^ 64

numbers_fit : (k : Shapes) (next : ℕ) (cs : List Controller) → next ≤ most_next → AllByRecursion (SoundController k next) cs → AllByRecursion HasNumber cs
numbers_fit k next [] le s = tt
numbers_fit k next (c ∷ cs) le s = (let lt = s.0.number in omega arith, numbers_fit k next cs le s.1)

controllers_before : (n : ℕ) (c d : Controller) → HasNumber d → controller_before c d ≡ true → before (controller_register coding n c).key (controller_register coding n d).key ≡ true
controllers_before n c d fits e = in_one 6 n (number_field c.number) (number_field d.number) (ap is_lt (number_before c.number d.number (ltb-true c.number d.number e) fits))

controlled_part : (n : ℕ) (cs : List Controller) → n < 2 ^ 64 → rises controller_before cs ≡ true → AllByRecursion HasNumber cs → Part (6 * 2 ^ 64 + n) (6 * 2 ^ 64 + suc n) (map (controller_register coding n) cs)
controlled_part n cs fits e s = record {
  rises = map_rises controller_before HasNumber (controller_register coding n) (λ x y p q h. controllers_before n x y q h) cs s e;
  placed = map_placed (6 * 2 ^ 64 + n) (6 * 2 ^ 64 + suc n) HasNumber (controller_register coding n) (λ x p. here 6 n (number_field x.number) (controller_register coding n x) fits refl) cs s;
}

-- ---- all registers

-- those of a kind, before those of later kinds
kind_before : (k low : ℕ) (xs ys : List Register) → low ≤ k * 2 ^ 64 + 1 → k * 2 ^ 64 + 2 ^ 64 ≤ 7 * 2 ^ 64 → Part (k * 2 ^ 64 + 1) (k * 2 ^ 64 + 2 ^ 64) xs → Part (k * 2 ^ 64 + 2 ^ 64) (7 * 2 ^ 64) ys → Part low (7 * 2 ^ 64) (xs ++ ys)
kind_before k low xs ys from below p q =
    two_parts low (k * 2 ^ 64 + 2 ^ 64) (7 * 2 ^ 64) xs ys (omega (arith, from)) below (wider_part low (k * 2 ^ 64 + 2 ^ 64) (k * 2 ^ 64 + 1) (k * 2 ^ 64 + 2 ^ 64) xs from (omega arith) p) q

module _ (k : Shapes) (all : List Account) (few : length all ≤ most_accounts) (s : AllByRecursion (SoundAccount k) all) (cs : List Contract) (contracts_rise : rises contract_before cs ≡ true) (known : AllByRecursion IsKnown cs) where
  next_part : Part (1 * 2 ^ 64 + 1) (1 * 2 ^ 64 + 2 ^ 64) (of_accounts next_register 1 all)
  next_part = section 1 next_register (SoundAccount k) (λ n a fits p. one_next n a fits) 1 all (omega arith) s

  stored_part : Part (4 * 2 ^ 64 + 1) (4 * 2 ^ 64 + 2 ^ 64) (of_accounts (stored_registers coding) 1 all)
  stored_part = section 4 (stored_registers coding) (SoundAccount k) (λ n a fits p. record {
    rises = stored_rise n a.identifiers (row_values a.stored) p.identifiers;
    placed = stored_placed n a.identifiers (row_values a.stored) fits;
  }) 1 all (omega arith) s

  publications : Part (5 * 2 ^ 64 + 1) (5 * 2 ^ 64 + 2 ^ 64) (of_accounts (published_registers coding) 1 all)
  publications = section 5 (published_registers coding) (SoundAccount k)
      (λ n a fits p. published_part k n a.published fits p.published_rise (recursion_from_All (SoundPublication k) a.published p.published)) 1 all (omega arith) s

  controlled : Part (6 * 2 ^ 64 + 1) (6 * 2 ^ 64 + 2 ^ 64) (of_accounts (controller_registers coding) 1 all)
  controlled = section 6 (controller_registers coding) (SoundAccount k)
      (λ n a fits p. controlled_part n a.controllers fits p.controllers_rise (numbers_fit k a.next_controller a.controllers p.next (recursion_from_All (SoundController k a.next_controller) a.controllers p.controllers)))
      1 all (omega arith) s

  abbrev after_published : List Register
  after_published = of_accounts (published_registers coding) 1 all ++ of_accounts (controller_registers coding) 1 all

  abbrev after_stored : List Register
  after_stored = of_accounts (stored_registers coding) 1 all ++ after_published

  abbrev after_values : List Register
  after_values = flat_map (fields_registers coding) cs ++ after_stored

  abbrev after_codes : List Register
  after_codes = map code_register cs ++ after_values

  from_published : Part (4 * 2 ^ 64 + 2 ^ 64) (7 * 2 ^ 64) after_published
  from_published = kind_before 5 (4 * 2 ^ 64 + 2 ^ 64) (of_accounts (published_registers coding) 1 all) (of_accounts (controller_registers coding) 1 all) (omega arith) (omega arith) publications
      (wider_part (5 * 2 ^ 64 + 2 ^ 64) (7 * 2 ^ 64) (6 * 2 ^ 64 + 1) (6 * 2 ^ 64 + 2 ^ 64) (of_accounts (controller_registers coding) 1 all) (omega arith) (omega arith) controlled)

  from_stored : Part (3 * 2 ^ 64 + 2 ^ 64) (7 * 2 ^ 64) after_stored
  from_stored = kind_before 4 (3 * 2 ^ 64 + 2 ^ 64) (of_accounts (stored_registers coding) 1 all) after_published (omega arith) (omega arith) stored_part from_published

  from_values : Part (2 * 2 ^ 64 + 2 ^ 64) (7 * 2 ^ 64) after_values
  from_values = kind_before 3 (2 * 2 ^ 64 + 2 ^ 64) (flat_map (fields_registers coding) cs) after_stored (omega arith) (omega arith) (values_part cs contracts_rise known) from_stored

  from_codes : Part (1 * 2 ^ 64 + 2 ^ 64) (7 * 2 ^ 64) after_codes
  from_codes = kind_before 2 (1 * 2 ^ 64 + 2 ^ 64) (map code_register cs) after_values (omega arith) (omega arith) (codes_part cs contracts_rise known) from_values

  -- all but the first
  others : Part (1 * 2 ^ 64 + 1) (7 * 2 ^ 64) (of_accounts next_register 1 all ++ after_codes)
  others = kind_before 1 (1 * 2 ^ 64 + 1) (of_accounts next_register 1 all) after_codes (omega arith) (omega arith) next_part from_codes

-- the first stands before all of them
head_before : (low high : ℕ) (x : Register) → 2 ^ 64 ≤ low → Placed low high x → before head_key x.key ≡ true
head_before low high x le p =
    let later : 0 < p.kind = kind_later p.kind p.address low (p.at_least) p.fits le in
    ap (before head_key) p.key_is ∙ ap is_lt (less_step 0 p.kind [] (number_field p.address ++ p.name) (inl later))
  where
    kind_later : (k n l : ℕ) → l ≤ k * 2 ^ 64 + n → n < 2 ^ 64 → 2 ^ 64 ≤ l → 0 < k
    kind_later k n l a b c = omega arith

head_behind : (low high : ℕ) (xs : List Register) → 2 ^ 64 ≤ low → AllByRecursion (Placed low high) xs → AllBehind register_key head_key xs
head_behind low high [] le p = tt
head_behind low high (x ∷ xs) le p = (head_before low high x le p.0, head_behind low high xs le p.1)

with_head : (b : Bool) (bytes : List ℕ) (low high : ℕ) (xs : List Register) → 2 ^ 64 ≤ low → Part low high xs → rise register_key (cond b [] (register head_key bytes ∷ []) ++ xs) ≡ true
with_head true bytes low high xs le p = p.rises
with_head false bytes low high xs le p = join register_key (register head_key bytes) xs (head_behind low high xs le p.placed) p.rises

pub registers_rise_lem : RegistersRise
registers_rise_lem w s =
    let k = shapes w.contracts in
    with_head (length w.accounts == 0) (number_field (length w.accounts) ++ number_field w.next_identity) (1 * 2 ^ 64 + 1) (7 * 2 ^ 64) _ (omega arith)
    (others k w.accounts s.few (recursion_from_All (SoundAccount k) w.accounts s.accounts) w.contracts s.contracts_rise (are_known w s))
