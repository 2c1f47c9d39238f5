-- The registers of the contracts of a sound World stand in byte order of their keys.
use Rattle.std.proofs.Common.{◌≡◌, ℕ, ◌+◌, ◌*◌, ◌^◌, ◌<◌, ◌≤◌, true, List, [], ◌∷◌, ◌++◌, map, refl, sym, ap, subst, ◌∙◌, arith, inl, inr}
use Rattle.std.specs.Prelude.{◌==◌, ◌&&◌, ◌||◌, nat_lt}
use Rattle.std.specs.List.{AllByRecursion, flat_map}
use Rattle.std.proofs.lemmas.Bool.{cases_lt, le-ltb, eqb-true}
use Rattle.cad_accounts.specs.KeyOrder.{before}
use Rattle.cad_accounts.proofs.Order.{both_left, both_right}
use Rattle.cad_codec.specs.ValueBytes.{value_bytes}
use Rattle.cad_syntax.specs.declared.type_id.TypeId.{TypeId}
use Rattle.cad_values.specs.Values.{PureValue}
use Rattle.cad_world.specs.Orders.{rises, contract_before, contract_name}
use Rattle.cad_world.specs.Registers.{Register, register, fields_key, code_register, fields_registers, row_values}
use Rattle.cad_world.specs.State.{Contract}
use Rattle.cad_worlds.specs.Sections.{fields_register}
use Rattle.cad_worlds.specs.Standing.{coding}
use Rattle.cad_worlds.proofs.Known.{IsKnown}
use Rattle.cad_worlds.proofs.Parts.{key_of, ahead, in_one, Placed, Part, at_key, map_rises, map_placed}

-- ---- keys of a kind, an address and a name

by_name : (k a b : ℕ) (x y : List ℕ) → b < 2 ^ 64 → (nat_lt a b || ((a == b) && before x y)) ≡ true → before (key_of k a x) (key_of k b y) ≡ true
by_name k a b x y fits e =
    elim (cases_lt a b) [
      | inl lt ↦ ahead k k a b x y (inr (refl, lt)) fits
      | inr le ↦
          let rest : ((a == b) && before x y) ≡ true = ap (λ c. c || ((a == b) && before x y)) (sym (le-ltb a b le)) ∙ e in
          subst (λ (n : ℕ). before (key_of k a x) (key_of k n y) ≡ true) (eqb-true a b (both_left (a == b) (before x y) rest)) (in_one k a x y (both_right (a == b) (before x y) rest))
    ]

in_kind : (k n : ℕ) (name : List ℕ) (x : Register) → 1 ≤ n → n < 2 ^ 64 → at_key k n name x → Placed (k * 2 ^ 64 + 1) (k * 2 ^ 64 + 2 ^ 64) x
in_kind k n name x one fits e = record { kind = k; address = n; name = name; key_is = e; fits = fits; at_least = omega (arith, one); below = omega (arith, fits) }

-- registers of contracts, of one kind
module _ (k : ℕ) (g : Contract → Register) (keyed : (c : Contract) → at_key k c.id.address.0 (contract_name c.id) (g c)) where
  in_order : (c d : Contract) → IsKnown c → IsKnown d → contract_before c d ≡ true → before (g c).key (g d).key ≡ true
  in_order c d p q e = (λ i. before (keyed c i) (keyed d i)) ∙ by_name k c.id.address.0 d.id.address.0 (contract_name c.id) (contract_name d.id) q.fits e

  kind_part : (cs : List Contract) → rises contract_before cs ≡ true → AllByRecursion IsKnown cs → Part (k * 2 ^ 64 + 1) (k * 2 ^ 64 + 2 ^ 64) (map g cs)
  kind_part cs e s = record {
    rises = map_rises contract_before IsKnown g in_order cs s e;
    placed = map_placed (k * 2 ^ 64 + 1) (k * 2 ^ 64 + 2 ^ 64) IsKnown g (λ c p. in_kind k c.id.address.0 (contract_name c.id) (g c) p.from_one p.fits (keyed c)) cs s;
  }

pub codes_part : (cs : List Contract) → rises contract_before cs ≡ true → AllByRecursion IsKnown cs → Part (2 * 2 ^ 64 + 1) (2 * 2 ^ 64 + 2 ^ 64) (map code_register cs)
codes_part cs e s = kind_part 2 code_register (λ c. refl) cs e s

-- ---- values

abbrev first_bytes : List PureValue → List ℕ
first_bytes [] = []
first_bytes (v ∷ vs) = value_bytes v

-- the register of the one value
abbrev content_register : Contract → Register
content_register c = register (fields_key c.id.address.0 (contract_name c.id)) (first_bytes (row_values c.value))

one_value : (id : TypeId) (vs : List PureValue) (v : PureValue) → vs ≡ v ∷ [] → map (fields_register id) vs ≡ register (fields_key id.address.0 (contract_name id)) (first_bytes vs) ∷ []
one_value id vs v e =
    ap (map (fields_register id)) e ∙ ap (λ (ws : List PureValue). register (fields_key id.address.0 (contract_name id)) (first_bytes ws) ∷ []) (sym e)

values_are : (cs : List Contract) → AllByRecursion IsKnown cs → flat_map (fields_registers coding) cs ≡ map content_register cs
values_are [] s = refl
values_are (c ∷ cs) s = λ i. one_value c.id (row_values c.value) s.0.has.content s.0.has.only i ++ values_are cs s.1 i

pub values_part : (cs : List Contract) → rises contract_before cs ≡ true → AllByRecursion IsKnown cs → Part (3 * 2 ^ 64 + 1) (3 * 2 ^ 64 + 2 ^ 64) (flat_map (fields_registers coding) cs)
values_part cs e s = subst (Part (3 * 2 ^ 64 + 1) (3 * 2 ^ 64 + 2 ^ 64)) (sym (values_are cs s)) (kind_part 3 content_register (λ c. refl) cs e s)
