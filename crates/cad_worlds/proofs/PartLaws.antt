-- The registers that are known with a part of a World, and the others.
use Rattle.std.proofs.Common.{◌≡◌, ℕ, zero, suc, ◌+◌, ◌^◌, ◌<◌, ◌≤◌, Bool, true, false, cond, List, [], ◌∷◌, ◌++◌, Option, Some, None, map, length, refl, sym, ap, subst, ◌∙◌, append-nil, arith, inl, inr}
use Rattle.std.specs.Prelude.{filter, flat_map, not, is_some, ◌==◌}
use Rattle.std.specs.List.{AllByRecursion}
use Rattle.std.proofs.lemmas.Bool.{cases_Bool, cases_eq}
use Rattle.std.proofs.lemmas.List.Elements.{filter-append}
use Rattle.cad_accounts.proofs.Keys.{not_same}
use Rattle.cad_accounts.specs.KeyOrder.{rise}
use Rattle.cad_accounts.specs.Registers.{same_key, at, are_rising, Leads}
use Rattle.cad_accounts.specs.declared.row.Row.{Row}
use Rattle.cad_state.specs.Parts.{known_in, known_or, among, accounts_from}
use Rattle.cad_state.specs.Views.{account_of, contract_of}
use Rattle.cad_state.specs.declared.state.Known.{Known}
use Rattle.cad_syntax.specs.declared.text.Name.{Name}
use Rattle.cad_values.specs.Values.{PureValue}
use Rattle.cad_wire.proofs.FieldLaws.{number_again}
use Rattle.cad_wire.specs.Fields.{number_field, number_at}
use Rattle.cad_world.specs.Registers.{Register, register, head_key, fields_key, registers, bytes_under, map_of, of_accounts, next_register, code_register, fields_registers, row_values, stored_from, stored_registers, published_register, published_registers, controller_register, controller_registers}
use Rattle.cad_world.specs.Orders.{contract_name}
use Rattle.cad_world.specs.State.{Publication, Controller, Account, Contract, World}
use Rattle.cad_worlds.proofs.Choosing.{filter_yes, filter_no, filter_all, filter_none, all_filter, filter_rises, AreCompared, part_leads}
use Rattle.cad_worlds.proofs.KnownPlaces.{known_here, known_past, none_below}
use Rattle.cad_worlds.proofs.OneWorld.{rows_again, at_rows, rise_as_rows}
use Rattle.cad_worlds.proofs.Rising.{registers_rise_lem}
use Rattle.cad_worlds.specs.Laws.{register_key}
use Rattle.cad_worlds.specs.Merging.{chosen, merged}
use Rattle.cad_worlds.specs.Code.KnownRegisters.{has_index, StandBetween, is_known, is_known_at, is_of_part, known_section, part_registers}
use Rattle.cad_worlds.specs.Parts.{world_over}
use Rattle.cad_worlds.specs.Sections.{head, of_section}
use Rattle.cad_worlds.specs.Standing.{coding, IsSoundButCode, register_of}
use Rattle.cad_worlds.specs.declared.part.WorldPart.{WorldPart}
use Rattle.cad_worlds.specs.declared.writing.Section.{Section}
use Rattle.cad_worlds.specs.declared.writing.Section.TheVariants as section

-- ---- the keys of an account

-- all are known with a part, or none of them
abbrev AreSo : List Known → Bool → List Register → Type 0
AreSo known b xs = AllByRecursion (λ x. is_of_part known x.key ≡ b) xs

key_so : (known : List Known) (n : ℕ) (rest : List ℕ) → n < 2 ^ 64 → is_known_at known (number_at (number_field n ++ rest)) ≡ is_known known n
key_so known n rest f = ap (is_known_at known) (number_again n rest f)

next_so : (known : List Known) (n : ℕ) (a : Account) (b : Bool) → n < 2 ^ 64 → is_known known n ≡ b → AreSo known b (next_register n a)
next_so known n a b f e = (ap (λ (l : List ℕ). is_known_at known (number_at l)) (sym (append-nil (number_field n))) ∙ key_so known n [] f ∙ e, tt)

stored_so : (known : List Known) (n : ℕ) (names : List Name) (vs : List PureValue) (b : Bool) → n < 2 ^ 64 → is_known known n ≡ b → AreSo known b (stored_from coding n names vs)
stored_so known n [] vs b f e = tt
stored_so known n (i ∷ is) [] b f e = tt
stored_so known n (i ∷ is) (v ∷ vs) b f e = (key_so known n i.0 f ∙ e, stored_so known n is vs b f e)

published_so : (known : List Known) (n : ℕ) (ps : List Publication) (b : Bool) → n < 2 ^ 64 → is_known known n ≡ b → AreSo known b (map (published_register coding n) ps)
published_so known n [] b f e = tt
published_so known n (p ∷ ps) b f e = (key_so known n p.identifier.0 f ∙ e, published_so known n ps b f e)

controlled_so : (known : List Known) (n : ℕ) (cs : List Controller) (b : Bool) → n < 2 ^ 64 → is_known known n ≡ b → AreSo known b (map (controller_register coding n) cs)
controlled_so known n [] b f e = tt
controlled_so known n (c ∷ cs) b f e = (key_so known n (number_field c.number) f ∙ e, controlled_so known n cs b f e)

section_so : (kind : Section) (known : List Known) (n : ℕ) (a : Account) (b : Bool) → n < 2 ^ 64 → is_known known n ≡ b → AreSo known b (of_section kind n a)
section_so section.Next known n a b f e = next_so known n a b f e
section_so section.Stored known n a b f e = stored_so known n a.identifiers (row_values a.stored) b f e
section_so section.Published known n a b f e = published_so known n a.published b f e
section_so section.Controllers known n a b f e = controlled_so known n a.controllers b f e

-- the others
not_so : (known : List Known) (b : Bool) (xs : List Register) → AreSo known b xs → AllByRecursion (λ x. not (is_of_part known x.key) ≡ not b) xs
not_so known b [] h = tt
not_so known b (x ∷ xs) h = (ap not h.0, not_so known b xs h.1)

-- ---- of all accounts, of one kind

after : (a b : ℕ) → a ≤ b → (b ≡ a → ⊥) → suc a ≤ b
after a b le differs = omega (arith, le, differs)

module _ (known : List Known) (base : List Account) (count : ℕ) (fits : count < 2 ^ 64) (kind : Section) where
  abbrev of_part : Register → Bool
  of_part x = is_of_part known x.key

  abbrev of_others : Register → Bool
  of_others x = not (is_of_part known x.key)

  abbrev all_from : ℕ → ℕ → List Register
  all_from i n = of_accounts (of_section kind) (suc i) (accounts_from base known i n)

  -- a place that isn't known
  part_past : (i n : ℕ) (ks : List Known) → i < count → known_in known i ≡ None → filter of_part (all_from (suc i) n) ≡ flat_map (known_section kind) ks → filter of_part (all_from i (suc n)) ≡ flat_map (known_section kind) ks
  part_past i n ks inside none rest =
      let here = of_section kind (suc i) (known_or (among base i) (known_in known i)) in
      filter-append of_part here (all_from (suc i) n)
      ∙ ap (λ (z : List Register). z ++ filter of_part (all_from (suc i) n)) (filter_none of_part here (section_so kind known (suc i) (known_or (among base i) (known_in known i)) false (omega arith) (ap is_some none)))
      ∙ rest

  -- one that is
  part_here : (i n : ℕ) (k : Known) (ks : List Known) → i < count → k.index ≡ i → known_in known i ≡ Some (account_of k.account) → filter of_part (all_from (suc i) n) ≡ flat_map (known_section kind) ks → filter of_part (all_from i (suc n)) ≡ flat_map (known_section kind) (k ∷ ks)
  part_here i n k ks inside e some rest =
      let here = of_section kind (suc i) (known_or (among base i) (known_in known i)) in
      let same : here ≡ known_section kind k = ap (λ (o : Option Account). of_section kind (suc i) (known_or (among base i) o)) some ∙ ap (λ (m : ℕ). of_section kind (suc m) (account_of k.account)) (sym e) in
      filter-append of_part here (all_from (suc i) n)
      ∙ ap (λ (z : List Register). z ++ filter of_part (all_from (suc i) n)) (filter_all of_part here (section_so kind known (suc i) (known_or (among base i) (known_in known i)) true (omega arith) (ap is_some some)) ∙ same)
      ∙ ap (λ (z : List Register). known_section kind k ++ z) rest

  part_from : (ks : List Known) (i n : ℕ) → i + n ≡ count → StandBetween i count ks → ((j : ℕ) → i ≤ j → known_in known j ≡ known_in ks j) → filter of_part (all_from i n) ≡ flat_map (known_section kind) ks
  part_from [] i zero sum h agree = refl
  part_from (k ∷ ks) i zero sum h agree = absurd (omega (arith, h.0, h.1, sum))
  part_from [] i (suc n) sum h agree =
      part_past i n [] (omega (arith, sum)) (agree i (omega arith)) (part_from [] (suc i) n (omega (arith, sum)) tt (λ j le. agree j (omega (arith, le))))
  part_from (k ∷ ks) i (suc n) sum h agree =
      elim (cases_eq k.index i) [
        | inl e ↦ part_here i n k ks (omega (arith, sum)) e (agree i (omega arith) ∙ known_here k ks i e)
            (part_from ks (suc i) n (omega (arith, sum)) (subst (λ (m : ℕ). StandBetween (suc m) count ks) e h.2) (λ j le. agree j (omega (arith, le)) ∙ known_past k ks j (λ f. absurd (omega (arith, e, f, le)))))
        | inr f ↦ let low : suc i ≤ k.index = after i k.index h.0 f in
            part_past i n (k ∷ ks) (omega (arith, sum)) (agree i (omega arith) ∙ none_below (k ∷ ks) (suc i) count i (low, h.1, h.2) (omega arith))
            (part_from (k ∷ ks) (suc i) n (omega (arith, sum)) (low, h.1, h.2) (λ j le. agree j (omega (arith, le))))
      ]

  -- ---- those that aren't known

  others_none : (i : ℕ) (a : Account) → i < count → has_index known i ≡ true → filter of_others (of_section kind (suc i) a) ≡ []
  others_none i a inside there = filter_none of_others (of_section kind (suc i) a) (not_so known true (of_section kind (suc i) a) (section_so kind known (suc i) a true (omega arith) there))

  others_here : (o : Option Account) (i : ℕ) (a b : Account) → i < count → known_in known i ≡ o → b ≡ a → filter of_others (of_section kind (suc i) a) ≡ filter of_others (of_section kind (suc i) (known_or b o))
  others_here None i a b inside is same = ap (λ (y : Account). filter of_others (of_section kind (suc i) y)) (sym same)
  others_here (Some y) i a b inside is same = others_none i a inside (ap is_some is) ∙ sym (others_none i y inside (ap is_some is))

  others_from : ((j : ℕ) → length base ≤ j → j < count → has_index known j ≡ true) → (all : List Account) (i n : ℕ) → i + n ≡ count → length base ≤ length all + i → length all ≤ n → ((j m : ℕ) → m ≡ j + i → among base m ≡ among all j)
      → filter of_others (of_accounts (of_section kind) (suc i) all) ≡ filter of_others (all_from i n)
  others_from added [] i zero sum covers few agree = refl
  others_from added (a ∷ all) i zero sum covers few agree = absurd (omega (arith, few))
  others_from added [] i (suc n) sum covers few agree =
      let x = known_or (among base i) (known_in known i) in
      let rest = others_from added [] (suc i) n (omega (arith, sum)) (omega (arith, covers)) (omega arith) (λ j m e. agree (suc j) m (omega (arith, e))) in
      rest ∙ sym (filter-append of_others (of_section kind (suc i) x) (all_from (suc i) n) ∙ ap (λ (z : List Register). z ++ filter of_others (all_from (suc i) n)) (others_none i x (omega (arith, sum)) (added i (omega (arith, covers)) (omega (arith, sum)))))
  others_from added (a ∷ all) i (suc n) sum covers few agree =
      let x = known_or (among base i) (known_in known i) in
      let first = others_here (known_in known i) i a (among base i) (omega (arith, sum)) refl (agree 0 i (omega arith)) in
      let rest = others_from added all (suc i) n (omega (arith, sum)) (omega (arith, covers)) (omega (arith, few)) (λ j m e. agree (suc j) m (omega (arith, e))) in
      filter-append of_others (of_section kind (suc i) a) (of_accounts (of_section kind) (suc (suc i)) all)
      ∙ (λ k. first k ++ rest k)
      ∙ sym (filter-append of_others (of_section kind (suc i) x) (all_from (suc i) n))

  pub part_of_all : StandBetween 0 count known → filter of_part (of_accounts (of_section kind) 1 (accounts_from base known 0 count)) ≡ flat_map (known_section kind) known
  part_of_all h = part_from known 0 count (omega arith) h (λ j le. refl)

  pub others_of_all : ((j : ℕ) → length base ≤ j → j < count → has_index known j ≡ true) → length base ≤ count → filter of_others (of_accounts (of_section kind) 1 base) ≡ filter of_others (of_accounts (of_section kind) 1 (accounts_from base known 0 count))
  others_of_all added few = others_from added base 0 count (omega arith) (omega arith) few (λ j m e. ap (among base) (omega (arith, e)))

-- ---- of the head and of contracts

both_so : (known : List Known) (xs ys : List Register) → AreSo known true xs → AreSo known true ys → AreSo known true (xs ++ ys)
both_so known [] ys h g = g
both_so known (x ∷ xs) ys h g = (h.0, both_so known xs ys h.1 g)

head_so : (known : List Known) (b : Bool) (r : Register) → is_of_part known r.key ≡ true → AreSo known true (cond b [] (r ∷ []))
head_so known true r e = tt
head_so known false r e = (e, tt)

codes_so : (known : List Known) (cs : List Contract) → AreSo known true (map code_register cs)
codes_so known [] = tt
codes_so known (c ∷ cs) = (refl, codes_so known cs)

contents_so : (known : List Known) (c : Contract) (vs : List PureValue) → AreSo known true (map (λ v. register (fields_key c.id.address.0 (contract_name c.id)) (coding.value v)) vs)
contents_so known c [] = tt
contents_so known c (v ∷ vs) = (refl, contents_so known c vs)

fields_so : (known : List Known) (cs : List Contract) → AreSo known true (flat_map (fields_registers coding) cs)
fields_so known [] = tt
fields_so known (c ∷ cs) = both_so known (fields_registers coding c) (flat_map (fields_registers coding) cs) (contents_so known c (row_values c.value)) (fields_so known cs)

-- ---- of all kinds

seven : (p : Register → Bool) (a b c d e f g : List Register) → filter p (a ++ (b ++ (c ++ (d ++ (e ++ (f ++ g)))))) ≡ filter p a ++ (filter p b ++ (filter p c ++ (filter p d ++ (filter p e ++ (filter p f ++ filter p g)))))
seven p a b c d e f g = simp (filter-append p)

pub length_from : (base : List Account) (known : List Known) (i n : ℕ) → length (accounts_from base known i n) ≡ n
length_from base known i zero = refl
length_from base known i (suc n) = ap suc (length_from base known (suc i) n)

-- how many accounts a World has of which this is a part
pub count_is : (w : World) (x : WorldPart) → world_over w.accounts x ≡ w → x.count ≡ length w.accounts
count_is w x e = sym (length_from w.accounts x.known.items 0 x.count) ∙ ap (λ (v : World). length v.accounts) e

-- those that are known with a part
part_is : (base : List Account) (x : WorldPart) → x.count < 2 ^ 64 → StandBetween 0 x.count x.known.items → filter (λ r. is_of_part x.known.items r.key) (registers coding (world_over base x)) ≡ part_registers x
part_is base x fits order =
    let known = x.known.items in
    let p : Register → Bool = λ r. is_of_part known r.key in
    let all = accounts_from base known 0 x.count in
    let contracts = map contract_of x.contracts.items in
    let first = head (length all) x.next_identity in
    let codes = map code_register contracts in
    let fields = flat_map (fields_registers coding) contracts in
    let count = length_from base known 0 x.count in
    let a : filter p first ≡ head x.count x.next_identity = filter_all p first (head_so known (length all == 0) (register head_key (number_field (length all) ++ number_field x.next_identity)) refl) ∙ ap (λ (n : ℕ). head n x.next_identity) count in
    let b = part_of_all known base x.count fits section.Next order in
    let c : filter p codes ≡ codes = filter_all p codes (codes_so known contracts) in
    let d : filter p fields ≡ fields = filter_all p fields (fields_so known contracts) in
    let e = part_of_all known base x.count fits section.Stored order in
    let f = part_of_all known base x.count fits section.Published order in
    let g = part_of_all known base x.count fits section.Controllers order in
    seven p first (of_accounts next_register 1 all) codes fields (of_accounts (stored_registers coding) 1 all) (of_accounts (published_registers coding) 1 all) (of_accounts (controller_registers coding) 1 all)
    ∙ (λ i. a i ++ (b i ++ (c i ++ (d i ++ (e i ++ (f i ++ g i))))))

-- the others stay
others_are : (w : World) (x : WorldPart) → x.count < 2 ^ 64 → length w.accounts ≤ x.count → ((j : ℕ) → length w.accounts ≤ j → j < x.count → has_index x.known.items j ≡ true)
    → filter (λ r. not (is_of_part x.known.items r.key)) (registers coding w) ≡ filter (λ r. not (is_of_part x.known.items r.key)) (registers coding (world_over w.accounts x))
others_are w x fits few added =
    let known = x.known.items in
    let p : Register → Bool = λ r. not (is_of_part known r.key) in
    let all = accounts_from w.accounts known 0 x.count in
    let contracts = map contract_of x.contracts.items in
    let none : (xs : List Register) → AreSo known true xs → filter p xs ≡ [] = λ xs h. filter_none p xs (not_so known true xs h) in
    let a : filter p (head (length w.accounts) w.next_identity) ≡ filter p (head (length all) x.next_identity) =
    none (head (length w.accounts) w.next_identity) (head_so known (length w.accounts == 0) (register head_key (number_field (length w.accounts) ++ number_field w.next_identity)) refl)
    ∙ sym (none (head (length all) x.next_identity) (head_so known (length all == 0) (register head_key (number_field (length all) ++ number_field x.next_identity)) refl)) in
    let b = others_of_all known w.accounts x.count fits section.Next added few in
    let c : filter p (map code_register w.contracts) ≡ filter p (map code_register contracts) = none (map code_register w.contracts) (codes_so known w.contracts) ∙ sym (none (map code_register contracts) (codes_so known contracts)) in
    let d : filter p (flat_map (fields_registers coding) w.contracts) ≡ filter p (flat_map (fields_registers coding) contracts) = none (flat_map (fields_registers coding) w.contracts) (fields_so known w.contracts) ∙ sym (none (flat_map (fields_registers coding) contracts) (fields_so known contracts)) in
    let e = others_of_all known w.accounts x.count fits section.Stored added few in
    let f = others_of_all known w.accounts x.count fits section.Published added few in
    let g = others_of_all known w.accounts x.count fits section.Controllers added few in
    seven p (head (length w.accounts) w.next_identity) (of_accounts next_register 1 w.accounts) (map code_register w.contracts) (flat_map (fields_registers coding) w.contracts) (of_accounts (stored_registers coding) 1 w.accounts) (of_accounts (published_registers coding) 1 w.accounts) (of_accounts (controller_registers coding) 1 w.accounts)
    ∙ (λ i. a i ++ (b i ++ (c i ++ (d i ++ (e i ++ (f i ++ g i))))))
    ∙ sym (seven p (head (length all) x.next_identity) (of_accounts next_register 1 all) (map code_register contracts) (flat_map (fields_registers coding) contracts) (of_accounts (stored_registers coding) 1 all) (of_accounts (published_registers coding) 1 all) (of_accounts (controller_registers coding) 1 all))

-- ---- what is under a key

under : (p : List ℕ → Bool) (key : List ℕ) (xs : List Register) → p key ≡ true → bytes_under (filter (λ x. p x.key) xs) key ≡ bytes_under xs key
under p key [] e = refl
under p key (x ∷ xs) e =
    elim (cases_Bool (p x.key)) [
      | inl t ↦ ap (λ (l : List Register). bytes_under l key) (filter_yes (λ y. p y.key) x xs t) ∙ ap (cond (same_key key x.key) (Some x.bytes)) (under p key xs e)
      | inr f ↦ ap (λ (l : List Register). bytes_under l key) (filter_no (λ y. p y.key) x xs f) ∙ under p key xs e ∙ sym (rw (not_same key x.key (λ s. let wrong : true ≡ false = sym e ∙ ap p s ∙ f in cc)) refl)
    ]

-- ---- what leads from the registers of a World to those of a part over it

rows_rise : (rows : List Row) → are_rising rows ≡ rise register_key (map register_of rows)
rows_rise rows = ap are_rising (sym (rows_again rows)) ∙ rise_as_rows (map register_of rows)

rows_compared : (p : List ℕ → Bool) (rows : List Row) → AllByRecursion (λ x. p x.key ≡ true) (map register_of rows) → AreCompared p rows
rows_compared p [] h = tt
rows_compared p (r ∷ rows) h = (h.0, rows_compared p rows h.1)

-- what was tested of a part
pub record IsWhole (before : ℕ) (x : WorldPart) : Type 0 where
  pub order : StandBetween 0 x.count x.known.items
  pub few : before ≤ x.count
  pub added : (j : ℕ) → before ≤ j → j < x.count → has_index x.known.items j ≡ true

pub part_changes_lead : (rows items : List Row) (x : WorldPart) (w : World) → are_rising rows ≡ true → IsWhole (length w.accounts) x → map register_of items ≡ part_registers x → ((key : List ℕ) → at rows key ≡ map_of coding w key)
    → IsSoundButCode (world_over w.accounts x) → Leads (at rows) (map_of coding (world_over w.accounts x)) (merged (chosen (is_of_part x.known.items) rows) items)
part_changes_lead rows items x w rising whole written are sound =
    let p = is_of_part x.known.items in
    let v = world_over w.accounts x in
    let count : length v.accounts ≡ x.count = length_from w.accounts x.known.items 0 x.count in
    let fits : x.count < 2 ^ 64 = omega (arith, sound.few, count) in
    let items_are : map register_of items ≡ filter (λ r. p r.key) (registers coding v) = written ∙ sym (part_is w.accounts x fits whole.order) in
    let rises = rows_rise items ∙ ap (rise register_key) items_are ∙ filter_rises register_key (λ r. p r.key) (registers coding v) (registers_rise_lem v sound) in
    let compared = rows_compared p items (subst (AllByRecursion (λ r. p r.key ≡ true)) (sym items_are) (all_filter (λ r. p r.key) (registers coding v))) in
    part_leads p rows items (map_of coding v) rising rises compared
    (λ key t. sym (at_rows items key ∙ ap (λ (l : List Register). bytes_under l key) items_are ∙ under p key (registers coding v) t))
    (λ key f. sym (are key ∙ sym (under (λ k. not (p k)) key (registers coding w) (ap not f)) ∙ ap (λ (l : List Register). bytes_under l key) (others_are w x fits whole.few whole.added) ∙ under (λ k. not (p k)) key (registers coding v) (ap not f)))
