-- What registers say: of one World.
use Rattle.std.proofs.Common.{◌≡◌, ℕ, suc, ◌+◌, ◌^◌, ◌<◌, ◌≤◌, Bool, true, false, cond, List, [], ◌∷◌, ◌++◌, map, length, refl, ap, ◌∙◌, arith}
use Rattle.std.specs.Prelude.{◌==◌}
use Rattle.std.specs.List.{AllByRecursion, flat_map}
use Rattle.std.proofs.lemmas.List.{map-append}
use Rattle.std.proofs.lemmas.List.Elements.{recursion_from_All}
use Rattle.cad_codec.specs.Forms.{HasBytes, TypeHasBytes}
use Rattle.cad_syntax.specs.declared.text.Name.{Name}
use Rattle.cad_syntax.specs.declared.type_id.TypeId.{TypeId}
use Rattle.cad_values.specs.Shapes.{Shapes}
use Rattle.cad_values.specs.Values.{PureValue}
use Rattle.cad_world.specs.Registers.{Register, head_registers, of_accounts, next_register, code_register, fields_registers, stored_registers, published_registers, controller_registers, row_values, registers}
use Rattle.cad_world.specs.Registers as spec
use Rattle.cad_world.specs.Rows.{Row, stop, gap, node}
use Rattle.cad_world.specs.Sound.{AreStored, SoundAccount, SoundPublication, SoundController, most_next, most_accounts}
use Rattle.cad_world.specs.State.{Publication, Controller, Account, Contract, World}
use Rattle.cad_worlds.specs.Items.{Item, head, fields, stored, published, controlled, told, IsTold, each, head_items, next_items, code_item, fields_items, stored_from, stored_items, published_items, controlled_items, items_of}
use Rattle.cad_worlds.specs.Standing.{coding, AccountHasBytes, AreOneText, ContractHasBytes, WorldHasBytes}
use Rattle.cad_worlds.proofs.Known.{IsKnown}

-- ---- the registers are those of the items

told_stored : (n : ℕ) (is : List Name) (vs : List PureValue) → map told (stored_from n is vs) ≡ spec.stored_from coding n is vs
told_stored n [] vs = refl
told_stored n (i ∷ is) [] = refl
told_stored n (i ∷ is) (v ∷ vs) = ap (λ (xs : List Register). told (stored n i v) ∷ xs) (told_stored n is vs)

told_map : {A : Type 0} (g : A → Item) (xs : List A) → map told (map g xs) ≡ map (λ x. told (g x)) xs
told_map g [] = refl
told_map g (x ∷ xs) = ap (λ (ys : List Register). told (g x) ∷ ys) (told_map g xs)

told_each : (f : ℕ → Account → List Item) (g : ℕ → Account → List Register) → ((n : ℕ) (a : Account) → map told (f n a) ≡ g n a) → (n : ℕ) (all : List Account) → map told (each f n all) ≡ of_accounts g n all
told_each f g h n [] = refl
told_each f g h n (a ∷ all) = map-append told (f n a) (each f (suc n) all) ∙ (λ i. h n a i ++ told_each f g h (suc n) all i)

told_head : (b : Bool) (x : Item) → map told (cond b [] (x ∷ [])) ≡ cond b [] (told x ∷ [])
told_head true x = refl
told_head false x = refl

told_fields : (cs : List Contract) → map told (flat_map fields_items cs) ≡ flat_map (fields_registers coding) cs
told_fields [] = refl
told_fields (c ∷ cs) = map-append told (fields_items c) (flat_map fields_items cs) ∙ (λ i. told_map (fields c.id) (row_values c.value) i ++ told_fields cs i)

joined : (xs ys : List Item) (us vs : List Register) → map told xs ≡ us → map told ys ≡ vs → map told (xs ++ ys) ≡ us ++ vs
joined xs ys us vs e f = map-append told xs ys ∙ (λ i. e i ++ f i)

pub told_items : (w : World) → map told (items_of w) ≡ registers coding w
told_items w =
    joined (head_items w) _ (head_registers w) _ (told_head (length w.accounts == 0) (head (length w.accounts) w.next_identity))
    (joined (each next_items 1 w.accounts) _ (of_accounts next_register 1 w.accounts) _ (told_each next_items next_register (λ n x. refl) 1 w.accounts)
    (joined (map code_item w.contracts) _ (map code_register w.contracts) _ (told_map code_item w.contracts)
    (joined (flat_map fields_items w.contracts) _ (flat_map (fields_registers coding) w.contracts) _ (told_fields w.contracts)
    (joined (each stored_items 1 w.accounts) _ (of_accounts (stored_registers coding) 1 w.accounts) _ (told_each stored_items (stored_registers coding) (λ n x. told_stored n x.identifiers (row_values x.stored)) 1 w.accounts)
    (joined (each published_items 1 w.accounts) (each controlled_items 1 w.accounts) (of_accounts (published_registers coding) 1 w.accounts) (of_accounts (controller_registers coding) 1 w.accounts)
    (told_each published_items (published_registers coding) (λ n x. told_map (published n) x.published) 1 w.accounts)
    (told_each controlled_items (controller_registers coding) (λ n x. told_map (controlled n) x.controllers) 1 w.accounts))))))

-- ---- the items of a sound World, whose values have bytes of their own

both_told : (xs ys : List Item) → AllByRecursion IsTold xs → AllByRecursion IsTold ys → AllByRecursion IsTold (xs ++ ys)
both_told [] ys a b = b
both_told (x ∷ xs) ys a b = (a.0, both_told xs ys a.1 b)

each_told : (P : Account → Type 0) (f : ℕ → Account → List Item) → ((n : ℕ) (a : Account) → n < 2 ^ 64 → P a → AllByRecursion IsTold (f n a)) → (n : ℕ) (all : List Account) → n + length all ≤ 2 ^ 64 → AllByRecursion P all → AllByRecursion IsTold (each f n all)
each_told P f h n [] le p = tt
each_told P f h n (a ∷ all) le p = both_told (f n a) (each f (suc n) all) (h n a (omega (arith, le)) p.0) (each_told P f h (suc n) all (omega (arith, le)) p.1)

-- an account that is sound and has bytes
record IsSaid (k : Shapes) (a : Account) : Type 0 where
  pub sound : SoundAccount k a
  pub bytes : AccountHasBytes a

all_said : (k : Shapes) (all : List Account) → AllByRecursion (SoundAccount k) all → AllByRecursion AccountHasBytes all → AllByRecursion (IsSaid k) all
all_said k [] s b = tt
all_said k (a ∷ all) s b = (record { sound = s.0; bytes = b.0 }, all_said k all s.1 b.1)

stored_told : (k : Shapes) (n : ℕ) (is : List Name) (r : Row) → n < 2 ^ 64 → AreStored k is r → AllByRecursion HasBytes (row_values r) → AllByRecursion IsTold (stored_from n is (row_values r))
stored_told k n [] r fits s b = tt
stored_told k n (i ∷ is) stop fits s b = tt
stored_told k n (i ∷ is) (gap r) fits s b = absurd s
stored_told k n (i ∷ is) (node [] m t q r) fits s b = ((fits, s.0, b.0), stored_told k n is r fits s.3 b.1)
stored_told k n (i ∷ is) (node (l ∷ ls) m t q r) fits s b = absurd s

published_told : (k : Shapes) (n : ℕ) (ps : List Publication) → n < 2 ^ 64 → AllByRecursion (SoundPublication k) ps → AllByRecursion (λ p. TypeHasBytes p.lent) ps → AllByRecursion IsTold (map (published n) ps)
published_told k n [] fits s b = tt
published_told k n (p ∷ ps) fits s b = ((fits, s.0.identifier, ((fits, s.0.number, b.0.0), (b.0.1, omega arith))), published_told k n ps fits s.1 b.1)

controlled_told : (k : Shapes) (n most : ℕ) (cs : List Controller) → n < 2 ^ 64 → most ≤ most_next → AllByRecursion (SoundController k most) cs → AllByRecursion (λ c. TypeHasBytes c.borrow × (length c.target.0 < 2 ^ 32)) cs → AllByRecursion IsTold (map (controlled n) cs)
controlled_told k n most [] fits le s b = tt
controlled_told k n most (c ∷ cs) fits le s b =
    let low = s.0.number in
    let short = s.0.short in
    ((fits, omega arith, (s.0.target, b.0.1), (s.0.tag, omega arith), b.0.0), controlled_told k n most cs fits le s.1 b.1)

head_told : (b : Bool) (x : Item) → IsTold x → AllByRecursion IsTold (cond b [] (x ∷ []))
head_told true x t = tt
head_told false x t = (t, tt)

codes_told : (cs : List Contract) → AllByRecursion IsKnown cs → AllByRecursion ContractHasBytes cs → AllByRecursion IsTold (map code_item cs)
codes_told [] s b = tt
codes_told (c ∷ cs) s b = ((s.0.fits, b.0.name), codes_told cs s.1 b.1)

values_told : (id : TypeId) (vs : List PureValue) → id.address.0 < 2 ^ 64 → AreOneText id.names → AllByRecursion HasBytes vs → AllByRecursion IsTold (map (fields id) vs)
values_told id [] fits name b = tt
values_told id (v ∷ vs) fits name b = ((fits, name, b.0), values_told id vs fits name b.1)

fields_told : (cs : List Contract) → AllByRecursion IsKnown cs → AllByRecursion ContractHasBytes cs → AllByRecursion IsTold (flat_map fields_items cs)
fields_told [] s b = tt
fields_told (c ∷ cs) s b = both_told (fields_items c) (flat_map fields_items cs) (values_told c.id (row_values c.value) s.0.fits b.0.name b.0.value) (fields_told cs s.1 b.1)

pub items_told : (k : Shapes) (w : World) → length w.accounts ≤ most_accounts → w.next_identity ≤ most_next → AllByRecursion (SoundAccount k) w.accounts → AllByRecursion IsKnown w.contracts → WorldHasBytes w → AllByRecursion IsTold (items_of w)
items_told k w few low s known b =
    let said = all_said k w.accounts s b.accounts in
    let fits : 1 + length w.accounts ≤ 2 ^ 64 = omega arith in
    both_told (head_items w) _ (head_told (length w.accounts == 0) (head (length w.accounts) w.next_identity) (omega arith, omega arith))
    (both_told (each next_items 1 w.accounts) _ (each_told (IsSaid k) next_items (λ n a lt p. ((lt, let le = p.sound.next in omega arith), tt)) 1 w.accounts fits said)
    (both_told (map code_item w.contracts) _ (codes_told w.contracts known b.contracts)
    (both_told (flat_map fields_items w.contracts) _ (fields_told w.contracts known b.contracts)
    (both_told (each stored_items 1 w.accounts) _ (each_told (IsSaid k) stored_items (λ n a lt p. stored_told k n a.identifiers a.stored lt p.sound.stored p.bytes.stored) 1 w.accounts fits said)
    (both_told (each published_items 1 w.accounts) (each controlled_items 1 w.accounts)
    (each_told (IsSaid k) published_items (λ n a lt p. published_told k n a.published lt (recursion_from_All (SoundPublication k) a.published p.sound.published) p.bytes.lent) 1 w.accounts fits said)
    (each_told (IsSaid k) controlled_items (λ n a lt p. controlled_told k n a.next_controller a.controllers lt p.sound.next (recursion_from_All (SoundController k a.next_controller) a.controllers p.sound.controllers) p.bytes.borrowed) 1 w.accounts fits said))))))
