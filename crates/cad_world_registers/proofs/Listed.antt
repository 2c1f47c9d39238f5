-- Rows in parts begin with registers, rise, and are counted.
use Rattle.std.proofs.Common.{◌≡◌, ◌↔◌, ℕ, zero, suc, ◌+◌, ◌<◌, ◌≤◌, Bool, true, false, IsTrue, List, [], ◌∷◌, ◌++◌, map, length, drop, get_or, Option, Some, None, refl, sym, ap, subst, ◌∙◌, append_assoc, drop-cons, arith}
use Rattle.std.specs.Prelude.{◌&&◌}
use Rattle.std.specs.List.{AllByRecursion}
use Rattle.std.proofs.lemmas.List.{length-append}
use Rattle.std.proofs.lemmas.Bool.{false≢true}
use Rattle.cad_accounts.specs.KeyOrder.{before}
use Rattle.cad_accounts.specs.Memory.{rows_in_blocks, block_rows}
use Rattle.cad_accounts.specs.declared.block.Block.{Block}
use Rattle.cad_accounts.specs.declared.row.Row.{Row}
use Rattle.cad_state.specs.Views.{account_of}
use Rattle.cad_state.specs.declared.state.Account.{Account}
use Rattle.cad_wire.specs.Fields.{number_field}
use Rattle.cad_world.specs.Registers.{Register, register, next_key, next_register, of_accounts}
use Rattle.cad_worlds.proofs.Lists.{none_past, from_item}
use Rattle.cad_worlds.specs.RowLists.{rows_listed}
use Rattle.cad_worlds.specs.Standing.{register_of}
use Rattle.cad_worlds.specs.declared.row_list.RowList.{RowList}
use Rattle.cad_world_registers.specs.Exact.{RowFits, held, counted}
use Rattle.cad_world_registers.specs.Listed.{Begin, DontBegin, IsBehind, rise_behind}

cancel : (xs ys zs : List Register) → xs ++ ys ≡ xs ++ zs → ys ≡ zs
cancel [] ys zs e = e
cancel (x ∷ xs) ys zs e = cancel xs ys zs (ap (drop 1) e)

-- ---- registers that are the first ones

-- what is left of all is to begin with what is left of these, so that all begin with them
abbrev pub IsLeft : List Register → List Register → List Register → List Register → Type 0
IsLeft all left own ours = (rest : List Register) → (left ≡ ours ++ rest) ↔ (all ≡ own ++ rest)

first_one : (r x : Register) (rs xs : List Register) → r ∷ rs ≡ x ∷ xs → r ≡ x
first_one r x rs xs e = cc

behind_it : (r x : Register) (rs xs : List Register) → r ∷ rs ≡ x ∷ xs → rs ≡ xs
behind_it r x rs xs e = ap (drop 1) e

module _ (all left own ours : List Register) (so_far : IsLeft all left own ours) where
  pub left_turn : (r x : Register) (next theirs : List Register) → left ≡ r ∷ next → ours ≡ x ∷ theirs → r ≡ x → IsLeft all next own theirs
  left_turn r x next theirs first one same rest = (
    (λ e. (so_far rest).0 (first ∙ (λ i. same i ∷ e i) ∙ ap (λ (l : List Register). l ++ rest) (sym one))),
    (λ e. behind_it r x next (theirs ++ rest) (sym first ∙ (so_far rest).1 e ∙ ap (λ (l : List Register). l ++ rest) one)),
  )

  pub left_differs : (r x : Register) (next theirs : List Register) → left ≡ r ∷ next → ours ≡ x ∷ theirs → (r ≡ x → ⊥) → (rest : List Register) → all ≡ own ++ rest → ⊥
  left_differs r x next theirs first one other rest e = other (first_one r x next (theirs ++ rest) (sym first ∙ (so_far rest).1 e ∙ ap (λ (l : List Register). l ++ rest) one))

  pub left_none : (x : Register) (theirs : List Register) → left ≡ [] → ours ≡ x ∷ theirs → (rest : List Register) → all ≡ own ++ rest → ⊥
  left_none x theirs none one rest e =
      let wrong : x ∷ (theirs ++ rest) ≡ [] = sym (ap (λ (l : List Register). l ++ rest) one) ∙ sym ((so_far rest).1 e) ∙ none in
      absurd cc

  pub left_end : ours ≡ [] → all ≡ own ++ left
  left_end none = (so_far left).0 (ap (λ (l : List Register). l ++ left) (sym none))

-- rows from one on
pub rows_from : (rows : List Row) (i : ℕ) (x : Row) → i < length rows → x ≡ get_or rows i x → map register_of (drop i rows) ≡ register_of x ∷ map register_of (drop (suc i) rows)
rows_from rows i x inside is = ap (map register_of) (from_item rows i x inside is)

pub no_rows : (rows : List Row) (i : ℕ) → length rows ≤ i → map register_of (drop i rows) ≡ []
no_rows rows i outside = ap (map register_of) (none_past rows i outside)

-- numbers of next controllers from that of an account on
abbrev pub nexts_from : List Account → ℕ → List Register
nexts_from accounts i = of_accounts next_register (suc i) (map account_of (drop i accounts))

pub nexts_more : (accounts : List Account) (i n : ℕ) (d : Account) → i < length accounts → n ≡ suc i → nexts_from accounts i ≡ register (next_key n) (number_field (get_or accounts i d).next_controller) ∷ nexts_from accounts (suc i)
nexts_more accounts i n d inside here =
    ap (λ (l : List Account). of_accounts next_register (suc i) (map account_of l)) (drop-cons accounts i d inside)
    ∙ ap (λ (k : ℕ). register (next_key k) (number_field (get_or accounts i d).next_controller) ∷ nexts_from accounts (suc i)) (sym here)

-- there is one where there is an account
pub some_next : (accounts : List Account) (i k : ℕ) → i < length accounts → (r : Register) × (of_accounts next_register k (map account_of (drop i accounts)) ≡ r ∷ of_accounts next_register (suc k) (map account_of (drop (suc i) accounts)))
some_next [] i k lt = absurd (omega (arith, lt))
some_next (x ∷ accounts) zero k lt = (register (next_key k) (number_field x.next_controller), refl)
some_next (x ∷ accounts) (suc i) k lt = some_next accounts i k (omega (arith, lt))

pub no_nexts : (accounts : List Account) (i : ℕ) → length accounts ≤ i → nexts_from accounts i ≡ []
no_nexts accounts i outside = ap (λ (l : List Account). of_accounts next_register (suc i) (map account_of l)) (none_past accounts i outside)

-- one part behind another
pub then_behind : (own others : List Register) (rows left : List Row) (found : Option RowList) → Begin own rows left → IsBehind others left found → IsBehind (own ++ others) rows found
then_behind own others rows left None begin h = λ rest e.
    h rest (cancel own (map register_of left) (others ++ rest) (sym begin ∙ e ∙ append_assoc own others rest))
then_behind own others rows left (Some rest) begin h =
    begin ∙ ap (λ (l : List Register). own ++ l) h ∙ sym (append_assoc own others (map register_of (rows_listed rest)))

pub none_behind : (own others : List Register) (rows : List Row) → DontBegin own rows → DontBegin (own ++ others) rows
none_behind own others rows none rest e = none (others ++ rest) (e ∙ append_assoc own others rest)

pub others_behind : (own others : List Register) (rows : List Row) (found : Option RowList) → own ≡ others → IsBehind own rows found → IsBehind others rows found
others_behind own others rows found same h = subst (λ (xs : List Register). IsBehind xs rows found) same h

-- ---- rows rise

-- what rows behind are worth, where those in front rise to a key
abbrev pub RiseTo : List ℕ → List Row → List ℕ → Type 0
RiseTo key rows last = (behind : List Row) → rise_behind key (rows ++ behind) ≡ rise_behind last behind

abbrev pub RiseFrom : List ℕ → List Row → List ℕ → List Row → Type 0
RiseFrom key rows last left = (behind : List Row) → rise_behind key (rows ++ behind) ≡ rise_behind last (left ++ behind)

one_row : (rows : List Row) (i : ℕ) (x : Row) (last next : List ℕ) (b t : Bool) (behind : List Row) → i < length rows → x ≡ get_or rows i x → next ≡ x.key.0 → b ≡ before last next → b ≡ t
    → rise_behind last (drop i rows ++ behind) ≡ (t && rise_behind next (drop (suc i) rows ++ behind))
one_row rows i x last next b t behind inside is key test e =
    let here : before last x.key.0 ≡ t = ap (before last) (sym key) ∙ sym test ∙ e in
    ap (λ (l : List Row). rise_behind last (l ++ behind)) (from_item rows i x inside is)
    ∙ (λ j. here j && rise_behind (sym key j) (drop (suc i) rows ++ behind))

pub rise_turn : (rows : List Row) (i : ℕ) (x : Row) (key last next : List ℕ) (b : Bool) → i < length rows → x ≡ get_or rows i x → next ≡ x.key.0 → b ≡ before last next → b ≡ true → RiseFrom key rows last (drop i rows) → RiseFrom key rows next (drop (suc i) rows)
rise_turn rows i x key last next b inside is there test e so_far behind = so_far behind ∙ one_row rows i x last next b true behind inside is there test e

pub rise_fails : (rows : List Row) (i : ℕ) (x : Row) (key last next : List ℕ) (b : Bool) → i < length rows → x ≡ get_or rows i x → next ≡ x.key.0 → b ≡ before last next → b ≡ false → RiseFrom key rows last (drop i rows) → (behind : List Row) → rise_behind key (rows ++ behind) ≡ false
rise_fails rows i x key last next b inside is there test e so_far behind = so_far behind ∙ one_row rows i x last next b false behind inside is there test e

pub rise_end : (rows : List Row) (i : ℕ) (key last : List ℕ) → length rows ≤ i → RiseFrom key rows last (drop i rows) → RiseTo key rows last
rise_end rows i key last outside so_far behind = so_far behind ∙ ap (λ (l : List Row). rise_behind last (l ++ behind)) (none_past rows i outside)

pub fit_turn : (rows : List Row) (i : ℕ) (x : Row) → i < length rows → x ≡ get_or rows i x → RowFits x → (AllByRecursion RowFits (drop i rows) → AllByRecursion RowFits rows) → AllByRecursion RowFits (drop (suc i) rows) → AllByRecursion RowFits rows
fit_turn rows i x inside is fits so_far rest = so_far (subst (AllByRecursion RowFits) (sym (from_item rows i x inside is)) (fits, rest))

pub fit_end : (rows : List Row) (i : ℕ) → length rows ≤ i → (AllByRecursion RowFits (drop i rows) → AllByRecursion RowFits rows) → AllByRecursion RowFits rows
fit_end rows i outside so_far = so_far (subst (AllByRecursion RowFits) (sym (none_past rows i outside)) tt)

pub both_fit : (xs ys : List Row) → AllByRecursion RowFits xs → AllByRecursion RowFits ys → AllByRecursion RowFits (xs ++ ys)
both_fit [] ys p q = q
both_fit (x ∷ xs) ys p q = (p.0, both_fit xs ys p.1 q)

-- block by block
module _ (blocks : List Block) (i : ℕ) (x : Block) (xs : List Row) (inside : i < length blocks) (is : x ≡ get_or blocks i x) (rows_are : xs ≡ block_rows x) where
  abbrev pub left_behind : List Row
  left_behind = rows_in_blocks (drop (suc i) blocks)

  pub block_parts : rows_in_blocks (drop i blocks) ≡ xs ++ left_behind
  block_parts = ap rows_in_blocks (from_item blocks i x inside is) ∙ ap (λ (l : List Row). l ++ left_behind) (sym rows_are)

  pub blocks_turn : (key last next : List ℕ) → RiseTo last xs next → rise_behind key (rows_in_blocks blocks) ≡ rise_behind last (rows_in_blocks (drop i blocks)) → rise_behind key (rows_in_blocks blocks) ≡ rise_behind next left_behind
  blocks_turn key last next to so_far = so_far ∙ ap (rise_behind last) block_parts ∙ to left_behind

  pub blocks_fail : (key last : List ℕ) → ((behind : List Row) → rise_behind last (xs ++ behind) ≡ false) → rise_behind key (rows_in_blocks blocks) ≡ rise_behind last (rows_in_blocks (drop i blocks)) → IsTrue false ↔ (rise_behind key (rows_in_blocks blocks) ≡ true)
  blocks_fail key last fails so_far = (
    (λ h. absurd (false≢true h)),
    (λ e. absurd (false≢true (sym (so_far ∙ ap (rise_behind last) block_parts ∙ fails left_behind) ∙ e))),
  )

  pub blocks_fit : AllByRecursion RowFits xs → (AllByRecursion RowFits (rows_in_blocks (drop i blocks)) → AllByRecursion RowFits (rows_in_blocks blocks)) → AllByRecursion RowFits left_behind → AllByRecursion RowFits (rows_in_blocks blocks)
  blocks_fit fits so_far rest = so_far (subst (AllByRecursion RowFits) (sym block_parts) (both_fit xs left_behind fits rest))

pub blocks_risen : (blocks : List Block) (i : ℕ) (key last : List ℕ) → length blocks ≤ i → rise_behind key (rows_in_blocks blocks) ≡ rise_behind last (rows_in_blocks (drop i blocks)) → IsTrue true ↔ (rise_behind key (rows_in_blocks blocks) ≡ true)
blocks_risen blocks i key last outside so_far = ((λ h. so_far ∙ ap (λ (bs : List Block). rise_behind last (rows_in_blocks bs)) (none_past blocks i outside)), (λ e. refl))

pub blocks_fitting : (blocks : List Block) (i : ℕ) → length blocks ≤ i → (AllByRecursion RowFits (rows_in_blocks (drop i blocks)) → AllByRecursion RowFits (rows_in_blocks blocks)) → AllByRecursion RowFits (rows_in_blocks blocks)
blocks_fitting blocks i outside so_far = so_far (subst (λ (bs : List Block). AllByRecursion RowFits (rows_in_blocks bs)) (sym (none_past blocks i outside)) tt)

pub list_rises : (key last : List ℕ) (rows behind : List Row) (b : Bool) → RiseTo key rows last → (IsTrue b ↔ (rise_behind last behind ≡ true)) → IsTrue b ↔ (rise_behind key (rows ++ behind) ≡ true)
list_rises key last rows behind b to tells = ((λ t. to behind ∙ tells.0 t), (λ e. tells.1 (sym (to behind) ∙ e)))

pub list_fails : (key : List ℕ) (rows behind : List Row) → ((left : List Row) → rise_behind key (rows ++ left) ≡ false) → IsTrue false ↔ (rise_behind key (rows ++ behind) ≡ true)
list_fails key rows behind fails = ((λ h. absurd (false≢true h)), (λ e. absurd (false≢true (sym (fails behind) ∙ e))))

-- ---- rows and registers are counted

pub count_turn : (blocks : List Block) (i : ℕ) (x : Block) (xs : List Row) (count next all : ℕ) → i < length blocks → x ≡ get_or blocks i x → xs ≡ block_rows x → count + length (rows_in_blocks (drop i blocks)) ≡ all → next ≡ count + length xs → next + length (rows_in_blocks (drop (suc i) blocks)) ≡ all
count_turn blocks i x xs count next all inside is rows_are so_far more =
    let long : length (rows_in_blocks (drop i blocks)) ≡ length xs + length (rows_in_blocks (drop (suc i) blocks)) =
    ap length (block_parts blocks i x xs inside is rows_are) ∙ length-append xs (rows_in_blocks (drop (suc i) blocks)) in
    omega (arith, long, so_far, more)

pub count_end : (blocks : List Block) (i count all : ℕ) → length blocks ≤ i → count + length (rows_in_blocks (drop i blocks)) ≡ all → count ≡ all
count_end blocks i count all outside so_far =
    let none : length (rows_in_blocks (drop i blocks)) ≡ 0 = ap (λ (bs : List Block). length (rows_in_blocks bs)) (none_past blocks i outside) in
    omega (arith, none, so_far)

abbrev pub counted_in : List Account → ℕ
counted_in all = counted (map account_of all)

pub held_turn : (accounts : List Account) (i : ℕ) (x : Account) (count next all : ℕ) → i < length accounts → x ≡ get_or accounts i x → count + counted_in (drop i accounts) ≡ all → next ≡ count + held (account_of x) → next + counted_in (drop (suc i) accounts) ≡ all
held_turn accounts i x count next all inside is so_far more =
    let here : counted_in (drop i accounts) ≡ held (account_of x) + counted_in (drop (suc i) accounts) = ap counted_in (from_item accounts i x inside is) in
    omega (arith, here, so_far, more)

pub held_end : (accounts : List Account) (i count all : ℕ) → length accounts ≤ i → count + counted_in (drop i accounts) ≡ all → count ≡ all
held_end accounts i count all outside so_far =
    let none : counted_in (drop i accounts) ≡ 0 = ap counted_in (none_past accounts i outside) in
    omega (arith, none, so_far)
