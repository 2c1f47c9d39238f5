-- The registers of a World are of all accounts, or of one whose address is in their keys.
use Rattle.std.proofs.Common.{◌≡◌, ◌≢◌, ℕ, suc, ◌+◌, ◌^◌, ◌<◌, ◌≤◌, Bool, true, false, cond, List, [], ◌∷◌, ◌++◌, Option, Some, None, map, length, refl, sym, ap, subst, ◌∙◌, append-nil, arith, inl, inr}
use Rattle.std.specs.Prelude.{flat_map, ◌==◌}
use Rattle.std.specs.List.{AllByRecursion}
use Rattle.std.proofs.lemmas.Bool.{cases_Bool}
use Rattle.cad_accounts.proofs.Keys.{same_is}
use Rattle.cad_accounts.proofs.OneSize.{at_first}
use Rattle.cad_accounts.specs.Registers.{same_key, at}
use Rattle.cad_accounts.specs.declared.row.Row.{Row}
use Rattle.cad_syntax.specs.declared.text.Name.{Name}
use Rattle.cad_values.specs.Values.{PureValue}
use Rattle.cad_wire.specs.Fields.{number_field}
use Rattle.cad_world.specs.Orders.{contract_name}
use Rattle.cad_world.specs.Registers.{Register, register, head_key, fields_key, registers, bytes_under, map_of, of_accounts, next_register, code_register, fields_registers, row_values, stored_from, stored_registers, published_register, published_registers, controller_register, controller_registers}
use Rattle.cad_world.specs.State.{Publication, Controller, Account, Contract, World}
use Rattle.cad_worlds.specs.Code.Passing.{IsTold, AreTold}
use Rattle.cad_worlds.specs.Sections.{head, of_section}
use Rattle.cad_worlds.specs.Standing.{coding}
use Rattle.cad_worlds.specs.declared.writing.Section.{Section}
use Rattle.cad_worlds.specs.declared.writing.Section.TheVariants as section

abbrev HaveTold : List Register → Type 0
HaveTold xs = AllByRecursion (λ x. IsTold x.key) xs

both_told : (xs ys : List Register) → HaveTold xs → HaveTold ys → HaveTold (xs ++ ys)
both_told [] ys h g = g
both_told (x ∷ xs) ys h g = (h.0, both_told xs ys h.1 g)

-- ---- of one account

key_told : (kind n : ℕ) (name : List ℕ) → n < 2 ^ 64 → IsTold (kind ∷ (number_field n ++ name))
key_told kind n name fits = inr (record { address = n; name = name; rest_is = refl; fits = fits })

next_told : (n : ℕ) (a : Account) → n < 2 ^ 64 → HaveTold (next_register n a)
next_told n a fits = (inr (record { address = n; name = []; rest_is = sym (append-nil (number_field n)); fits = fits }), tt)

stored_told : (n : ℕ) (names : List Name) (vs : List PureValue) → n < 2 ^ 64 → HaveTold (stored_from coding n names vs)
stored_told n [] vs fits = tt
stored_told n (i ∷ is) [] fits = tt
stored_told n (i ∷ is) (v ∷ vs) fits = (key_told 4 n i.0 fits, stored_told n is vs fits)

published_told : (n : ℕ) (ps : List Publication) → n < 2 ^ 64 → HaveTold (map (published_register coding n) ps)
published_told n [] fits = tt
published_told n (p ∷ ps) fits = (key_told 5 n p.identifier.0 fits, published_told n ps fits)

controlled_told : (n : ℕ) (cs : List Controller) → n < 2 ^ 64 → HaveTold (map (controller_register coding n) cs)
controlled_told n [] fits = tt
controlled_told n (c ∷ cs) fits = (key_told 6 n (number_field c.number) fits, controlled_told n cs fits)

section_told : (kind : Section) (n : ℕ) (a : Account) → n < 2 ^ 64 → HaveTold (of_section kind n a)
section_told section.Next n a fits = next_told n a fits
section_told section.Stored n a fits = stored_told n a.identifiers (row_values a.stored) fits
section_told section.Published n a fits = published_told n a.published fits
section_told section.Controllers n a fits = controlled_told n a.controllers fits

-- ---- of all

accounts_told : (kind : Section) (n : ℕ) (all : List Account) → n + length all ≤ 2 ^ 64 → HaveTold (of_accounts (of_section kind) n all)
accounts_told kind n [] fits = tt
accounts_told kind n (a ∷ all) fits =
    both_told (of_section kind n a) (of_accounts (of_section kind) (suc n) all) (section_told kind n a (omega (arith, fits))) (accounts_told kind (suc n) all (omega (arith, fits)))

head_either : (b : Bool) (bytes : List ℕ) → HaveTold (cond b [] (register head_key bytes ∷ []))
head_either true bytes = tt
head_either false bytes = (inl refl, tt)

codes_told : (cs : List Contract) → HaveTold (map code_register cs)
codes_told [] = tt
codes_told (c ∷ cs) = (inl refl, codes_told cs)

contents_told : (c : Contract) (vs : List PureValue) → HaveTold (map (λ v. register (fields_key c.id.address.0 (contract_name c.id)) (coding.value v)) vs)
contents_told c [] = tt
contents_told c (v ∷ vs) = (inl refl, contents_told c vs)

fields_told : (cs : List Contract) → HaveTold (flat_map (fields_registers coding) cs)
fields_told [] = tt
fields_told (c ∷ cs) = both_told (fields_registers coding c) (flat_map (fields_registers coding) cs) (contents_told c (row_values c.value)) (fields_told cs)

all_told : (w : World) → length w.accounts < 2 ^ 64 → HaveTold (registers coding w)
all_told w fits =
    let n = length w.accounts in
    let all = w.accounts in
    let few : 1 + n ≤ 2 ^ 64 = omega (arith, fits) in
    let first = head n w.next_identity in
    let nexts = of_accounts next_register 1 all in
    let codes = map code_register w.contracts in
    let fields = flat_map (fields_registers coding) w.contracts in
    let stored = of_accounts (stored_registers coding) 1 all in
    let published = of_accounts (published_registers coding) 1 all in
    let controlled = of_accounts (controller_registers coding) 1 all in
    both_told first (nexts ++ (codes ++ (fields ++ (stored ++ (published ++ controlled))))) (head_either (n == 0) (number_field n ++ number_field w.next_identity))
    (both_told nexts (codes ++ (fields ++ (stored ++ (published ++ controlled)))) (accounts_told section.Next 1 all few)
    (both_told codes (fields ++ (stored ++ (published ++ controlled))) (codes_told w.contracts)
    (both_told fields (stored ++ (published ++ controlled)) (fields_told w.contracts)
    (both_told stored (published ++ controlled) (accounts_told section.Stored 1 all few)
    (both_told published controlled (accounts_told section.Published 1 all few) (accounts_told section.Controllers 1 all few))))))

-- ---- rows that are the registers of a World

under_told : (xs : List Register) (key : List ℕ) → HaveTold xs → bytes_under xs key ≢ None → IsTold key
under_told [] key h n = absurd (n refl)
under_told (x ∷ xs) key h n =
    elim (cases_Bool (same_key key x.key)) [
      | inl t ↦ subst IsTold (sym (same_is key x.key t)) h.0
      | inr f ↦ under_told xs key h.1 (λ e. n (ap (λ b. cond b (Some x.bytes) (bytes_under xs key)) f ∙ e))
    ]

behind_either : (b : Bool) (bytes : List ℕ) (o : Option (List ℕ)) → cond b (Some bytes) o ≡ None → o ≡ None
behind_either true bytes o e = absurd cc
behind_either false bytes o e = e

rows_told : (rows all : List Row) → ((key : List ℕ) → at rows key ≢ None → at all key ≢ None) → ((key : List ℕ) → at all key ≢ None → IsTold key) → AreTold rows
rows_told [] all among told = tt
rows_told (r ∷ rows) all among told = (
  told r.key.0 (among r.key.0 (λ e. let wrong : Some r.value ≡ None = sym (at_first r rows) ∙ e in absurd cc)),
  rows_told rows all (λ key n. among key (λ e. n (behind_either (same_key key r.key.0) r.value (at rows key) e))) told,
)

pub are_told : (rows : List Row) (w : World) → length w.accounts < 2 ^ 64 → ((key : List ℕ) → at rows key ≡ map_of coding w key) → AreTold rows
are_told rows w fits are = rows_told rows rows (λ key n. n) (λ key n. under_told (registers coding w) key (all_told w fits) (λ e. n (are key ∙ e)))
