-- What is made of the registers that are read of a World follows what all of them make.
use Rattle.std.proofs.Common.{◌≡◌, ℕ, zero, suc, Bool, true, false, cond, List, [], ◌∷◌, ◌++◌, map, length, Option, Some, None, refl, sym, ap, subst, ◌∙◌, append-nil, arith}
use Rattle.std.proofs.lemmas.Bool.{false≢true, eqb-true}
use Rattle.std.proofs.lemmas.List.{length-append}
use Rattle.std.specs.Prelude.{◌==◌, option_map}
use Rattle.std.specs.List.{AllByRecursion, flat_map}
use Rattle.cad_accounts.specs.Registers.{at, are_rising}
use Rattle.cad_accounts.specs.declared.row.Row as kept
use Rattle.cad_loads.specs.Loads.{Source}
use Rattle.cad_syntax.specs.declared.text.Name.{Name}
use Rattle.cad_values.specs.Values.{PureValue}
use Rattle.cad_wire.proofs.FieldLaws.{number_again, some_is}
use Rattle.cad_wire.specs.Fields.{number_field}
use Rattle.cad_world.specs.Labels.{change_account}
use Rattle.cad_world.specs.Registers.{Register, row_values}
use Rattle.cad_world.specs.Rows.{Row, alone}
use Rattle.cad_world.specs.State.{Account, Contract, World}
use Rattle.cad_world.specs.Trees.{tree_of}
use Rattle.cad_worlds.proofs.Items.{told_items}
use Rattle.cad_worlds.proofs.OneWorld.{rows_are, made_of, told_by}
use Rattle.cad_worlds.specs.Items.{Item, head, next, code, fields, stored, published, controlled, told, IsTold, Draft, empty_draft, begun_account, with_value, with_publication, with_controller, put, put_all, draft_of, each, next_items, code_item, fields_items, stored_from, stored_items, published_items, controlled_items, items_of}
use Rattle.cad_worlds.specs.Standing.{StandsFor, register_of}
use Rattle.cad_world_registers.proofs.Again.{again, then_is}
use Rattle.cad_world_registers.proofs.WantedAccounts.{change_selected, change_passed, add_selected, add_passed}
use Rattle.cad_world_registers.specs.Code.PartDrafts as spec
use Rattle.cad_world_registers.specs.Code.PartDrafts.{Follows, PartDraft, empty_part, put_selected, put_some, take, take_all}
use Rattle.cad_world_registers.specs.Code.Selection.{is_item_selected, is_place_wanted, is_selected}
use Rattle.cad_world_registers.specs.Told.{item_in}
use Rattle.cad_world_registers.specs.Wanted.{wanted_account}

-- ---- registers that say an item

selected_told : (wanted : List ℕ) (x : Item) → IsTold x → is_selected wanted (told x).key ≡ is_item_selected wanted x
selected_told wanted (head count identity) t = refl
selected_told wanted (next n number) t =
    ap (λ (l : List ℕ). is_selected wanted (1 ∷ l)) (sym (append-nil (number_field n))) ∙ ap (λ o. is_place_wanted wanted (option_map (λ m. m.0) o)) (number_again n [] t.0)
selected_told wanted (code id bytes) t = refl
selected_told wanted (fields id v) t = refl
selected_told wanted (stored n i v) t = ap (λ o. is_place_wanted wanted (option_map (λ m. m.0) o)) (number_again n i.0 t.0)
selected_told wanted (published n p) t = ap (λ o. is_place_wanted wanted (option_map (λ m. m.0) o)) (number_again n p.identifier.0 t.0)
selected_told wanted (controlled n c) t = ap (λ o. is_place_wanted wanted (option_map (λ m. m.0) o)) (number_again n (number_field c.number) t.0)

some_of_both : (b : Bool) (x y : PartDraft) → cond b (Some x) (Some y) ≡ Some (cond b x y)
some_of_both true x y = refl
some_of_both false x y = refl

take_told : (wanted : List ℕ) (x : Item) (d : PartDraft) → IsTold x → take wanted (told x).key (told x).bytes d ≡ Some (cond (is_item_selected wanted x) (spec.put x d) d)
take_told wanted x d t =
    ap (λ b. cond b (put_some (item_in (told x).key (told x).bytes) d) (Some d)) (selected_told wanted x t)
    ∙ ap (λ o. cond (is_item_selected wanted x) (put_some o d) (Some d)) (again x t)
    ∙ some_of_both (is_item_selected wanted x) (spec.put x d) d

take_told_all : (wanted : List ℕ) (xs : List Item) (d : PartDraft) → AllByRecursion IsTold xs → take_all wanted (map told xs) d ≡ Some (put_selected wanted xs d)
take_told_all wanted [] d t = refl
take_told_all wanted (x ∷ xs) d t =
    then_is (take_told wanted x d t.0) (λ e. take_all wanted (map told xs) e) (take_told_all wanted xs (cond (is_item_selected wanted x) (spec.put x d) d) t.1)

-- ---- an item

-- how many accounts there are behind an item, by what it says
abbrev count_of : Item → ℕ → ℕ
count_of (head count identity) n = count
count_of (next m number) n = n
count_of (code id bytes) n = n
count_of (fields id v) n = n
count_of (stored m i v) n = n
count_of (published m p) n = n
count_of (controlled m c) n = n

abbrev count_all : List Item → ℕ → ℕ
count_all [] n = n
count_all (x ∷ xs) n = count_all xs (count_of x n)

-- an account that is begun stands behind so many
abbrev Begins : ℕ → Item → Type 0
Begins n (next m number) = m ≡ suc n
Begins n (head count identity) = Unit {0}
Begins n (code id bytes) = Unit {0}
Begins n (fields id v) = Unit {0}
Begins n (stored m i v) = Unit {0}
Begins n (published m p) = Unit {0}
Begins n (controlled m c) = Unit {0}

-- so many are begun behind it
abbrev begun_by : Item → ℕ → ℕ
begun_by (next m number) n = suc n
begun_by (head count identity) n = n
begun_by (code id bytes) n = n
begun_by (fields id v) n = n
begun_by (stored m i v) n = n
begun_by (published m p) n = n
begun_by (controlled m c) n = n

abbrev AreInOrder : ℕ → List Item → Type 0
AreInOrder n [] = Unit {0}
AreInOrder n (x ∷ xs) = Begins n x × AreInOrder (begun_by x n) xs

change_length : (n : ℕ) (g : Account → Account) (all : List Account) → length (change_account n g all) ≡ length all
change_length zero g all = refl
change_length (suc n) g [] = refl
change_length (suc zero) g (a ∷ all) = refl
change_length (suc (suc n)) g (a ∷ all) = ap suc (change_length (suc n) g all)

length_put : (x : Item) (d : Draft) → length (put x d).accounts ≡ begun_by x (length d.accounts)
length_put (head count identity) d = refl
length_put (next n number) d = let more = length-append d.accounts (begun_account number ∷ []) in omega (arith, more)
length_put (code id bytes) d = refl
length_put (fields id v) d = refl
length_put (stored n i v) d = change_length n (with_value i v) d.accounts
length_put (published n p) d = change_length n (with_publication p) d.accounts
length_put (controlled n c) d = change_length n (with_controller c) d.accounts

-- an item is put on both sides, or it is passed over where it isn't read
module _ (wanted : List ℕ) (count : ℕ) (d : Draft) (q : PartDraft) (f : Follows wanted count d q) where
  on_accounts : (known : List spec.KnownAccount) (all : List Account) → ((i : ℕ) → spec.known_at known i ≡ wanted_account wanted all i) → Follows wanted count (record d { accounts = all }) (record q { known = known })
  on_accounts known all are = record { count_is = f.count_is; sources_are = f.sources_are; values_are = f.values_are; identity_is = f.identity_is; known_are = are }

  put_follows : (x : Item) → Begins (length d.accounts) x → is_item_selected wanted x ≡ true → Follows wanted (count_of x count) (put x d) (spec.put x q)
  put_follows (head c identity) b t = record { count_is = refl; sources_are = f.sources_are; values_are = f.values_are; identity_is = refl; known_are = f.known_are }
  put_follows (next n number) b t = on_accounts _ _ (add_selected wanted q.known d.accounts f.known_are n (begun_account number) b t)
  put_follows (code id bytes) b t = record {
    count_is = f.count_is;
    sources_are = ap (λ (ss : List Source). ss ++ record { id = id; code = bytes } ∷ []) f.sources_are;
    values_are = f.values_are;
    identity_is = f.identity_is;
    known_are = f.known_are;
  }
  put_follows (fields id v) b t = record {
    count_is = f.count_is;
    sources_are = f.sources_are;
    values_are = ap (λ (rs : List Row). rs ++ alone (tree_of v) ∷ []) f.values_are;
    identity_is = f.identity_is;
    known_are = f.known_are;
  }
  put_follows (stored n i v) b t = on_accounts _ _ (change_selected wanted q.known d.accounts f.known_are n (with_value i v))
  put_follows (published n p) b t = on_accounts _ _ (change_selected wanted q.known d.accounts f.known_are n (with_publication p))
  put_follows (controlled n c) b t = on_accounts _ _ (change_selected wanted q.known d.accounts f.known_are n (with_controller c))

  pass_follows : (x : Item) → Begins (length d.accounts) x → is_item_selected wanted x ≡ false → Follows wanted (count_of x count) (put x d) q
  pass_follows (head c identity) b e = absurd (false≢true (sym e))
  pass_follows (next n number) b e = on_accounts q.known _ (add_passed wanted q.known d.accounts f.known_are n (begun_account number) b e)
  pass_follows (code id bytes) b e = absurd (false≢true (sym e))
  pass_follows (fields id v) b e = absurd (false≢true (sym e))
  pass_follows (stored n i v) b e = on_accounts q.known _ (change_passed wanted q.known d.accounts f.known_are n (with_value i v) e)
  pass_follows (published n p) b e = on_accounts q.known _ (change_passed wanted q.known d.accounts f.known_are n (with_publication p) e)
  pass_follows (controlled n c) b e = on_accounts q.known _ (change_passed wanted q.known d.accounts f.known_are n (with_controller c) e)

  by_test : (x : Item) (t : Bool) → Begins (length d.accounts) x → is_item_selected wanted x ≡ t → Follows wanted (count_of x count) (put x d) (cond t (spec.put x q) q)
  by_test x true b e = put_follows x b e
  by_test x false b e = pass_follows x b e

all_follow : (wanted : List ℕ) (xs : List Item) (count : ℕ) (d : Draft) (q : PartDraft) → AreInOrder (length d.accounts) xs → Follows wanted count d q → Follows wanted (count_all xs count) (put_all xs d) (put_selected wanted xs q)
all_follow wanted [] count d q order f = f
all_follow wanted (x ∷ xs) count d q order f =
    all_follow wanted xs (count_of x count) (put x d) (cond (is_item_selected wanted x) (spec.put x q) q)
    (subst (λ (n : ℕ). AreInOrder n xs) (sym (length_put x d)) order.1) (by_test wanted count d q f x (is_item_selected wanted x) order.0 refl)

-- ---- the items of a World

-- it says of no account that it begins, nor how many there are
abbrev IsOther : Item → Type 0
IsOther (head count identity) = ⊥
IsOther (next m number) = ⊥
IsOther (code id bytes) = Unit {0}
IsOther (fields id v) = Unit {0}
IsOther (stored m i v) = Unit {0}
IsOther (published m p) = Unit {0}
IsOther (controlled m c) = Unit {0}

record Stays (n : ℕ) (x : Item) : Type 0 where
  pub begins : Begins n x
  pub begun_is : begun_by x n ≡ n
  pub count_is : count_of x n ≡ n

stays : (n : ℕ) (x : Item) → IsOther x → Stays n x
stays n (head count identity) o = absurd o
stays n (next m number) o = absurd o
stays n (code id bytes) o = record { begins = tt; begun_is = refl; count_is = refl }
stays n (fields id v) o = record { begins = tt; begun_is = refl; count_is = refl }
stays n (stored m i v) o = record { begins = tt; begun_is = refl; count_is = refl }
stays n (published m p) o = record { begins = tt; begun_is = refl; count_is = refl }
stays n (controlled m c) o = record { begins = tt; begun_is = refl; count_is = refl }

in_order : (n : ℕ) (xs : List Item) → AllByRecursion IsOther xs → AreInOrder n xs
in_order n [] o = tt
in_order n (x ∷ xs) o = let s = stays n x o.0 in (s.begins, subst (λ (m : ℕ). AreInOrder m xs) (sym s.begun_is) (in_order n xs o.1))

count_stays : (n : ℕ) (xs : List Item) → AllByRecursion IsOther xs → count_all xs n ≡ n
count_stays n [] o = refl
count_stays n (x ∷ xs) o = let s = stays n x o.0 in ap (count_all xs) s.count_is ∙ count_stays n xs o.1

both_other : (xs ys : List Item) → AllByRecursion IsOther xs → AllByRecursion IsOther ys → AllByRecursion IsOther (xs ++ ys)
both_other [] ys a b = b
both_other (x ∷ xs) ys a b = (a.0, both_other xs ys a.1 b)

map_other : {A : Type 0} (g : A → Item) → ((a : A) → IsOther (g a)) → (xs : List A) → AllByRecursion IsOther (map g xs)
map_other g h [] = tt
map_other g h (x ∷ xs) = (h x, map_other g h xs)

values_other : (cs : List Contract) → AllByRecursion IsOther (flat_map fields_items cs)
values_other [] = tt
values_other (c ∷ cs) = both_other (fields_items c) (flat_map fields_items cs) (map_other (fields c.id) (λ v. tt) (row_values c.value)) (values_other cs)

each_other : (f : ℕ → Account → List Item) → ((n : ℕ) (a : Account) → AllByRecursion IsOther (f n a)) → (n : ℕ) (all : List Account) → AllByRecursion IsOther (each f n all)
each_other f h n [] = tt
each_other f h n (a ∷ all) = both_other (f n a) (each f (suc n) all) (h n a) (each_other f h (suc n) all)

stored_other : (n : ℕ) (is : List Name) (vs : List PureValue) → AllByRecursion IsOther (stored_from n is vs)
stored_other n [] vs = tt
stored_other n (i ∷ is) [] = tt
stored_other n (i ∷ is) (v ∷ vs) = (tt, stored_other n is vs)

-- those behind the ones that begin accounts
abbrev others_of : World → List Item
others_of w = map code_item w.contracts ++ (flat_map fields_items w.contracts ++ (each stored_items 1 w.accounts ++ (each published_items 1 w.accounts ++ each controlled_items 1 w.accounts)))

are_other : (w : World) → AllByRecursion IsOther (others_of w)
are_other w =
    both_other (map code_item w.contracts) _ (map_other code_item (λ c. tt) w.contracts)
    (both_other (flat_map fields_items w.contracts) _ (values_other w.contracts)
    (both_other (each stored_items 1 w.accounts) _ (each_other stored_items (λ n a. stored_other n a.identifiers (row_values a.stored)) 1 w.accounts)
    (both_other (each published_items 1 w.accounts) _ (each_other published_items (λ n a. map_other (published n) (λ p. tt) a.published) 1 w.accounts)
    (each_other controlled_items (λ n a. map_other (controlled n) (λ c. tt) a.controllers) 1 w.accounts))))

begun_in_order : (n : ℕ) (all : List Account) (xs : List Item) → AllByRecursion IsOther xs → AreInOrder n (each next_items (suc n) all ++ xs)
begun_in_order n [] xs o = in_order n xs o
begun_in_order n (a ∷ all) xs o = (refl, begun_in_order (suc n) all xs o)

begun_counted : (n c : ℕ) (all : List Account) (xs : List Item) → AllByRecursion IsOther xs → count_all (each next_items n all ++ xs) c ≡ c
begun_counted n c [] xs o = count_stays c xs o
begun_counted n c (a ∷ all) xs o = begun_counted (suc n) c all xs o

headed_in_order : (b : Bool) (count identity : ℕ) (xs : List Item) → AreInOrder 0 xs → AreInOrder 0 (cond b [] (head count identity ∷ []) ++ xs)
headed_in_order true count identity xs order = order
headed_in_order false count identity xs order = (tt, order)

headed_count : (b : Bool) (count identity : ℕ) (xs : List Item) → (count == 0) ≡ b → ((c : ℕ) → count_all xs c ≡ c) → count_all (cond b [] (head count identity ∷ []) ++ xs) 0 ≡ count
headed_count true count identity xs e h = h 0 ∙ sym (eqb-true count 0 e)
headed_count false count identity xs e h = h count

items_in_order : (w : World) → AreInOrder 0 (items_of w)
items_in_order w = headed_in_order (length w.accounts == 0) (length w.accounts) w.next_identity _ (begun_in_order 0 w.accounts (others_of w) (are_other w))

items_count : (w : World) → count_all (items_of w) 0 ≡ length w.accounts
items_count w = headed_count (length w.accounts == 0) (length w.accounts) w.next_identity _ refl (λ c. begun_counted 1 c w.accounts (others_of w) (are_other w))

-- ---- what is made of rows

none_wanted : (b : Bool) → None ≡ cond {A = Option Account} b None None
none_wanted true = refl
none_wanted false = refl

begins_so : (wanted : List ℕ) → Follows wanted 0 empty_draft empty_part
begins_so wanted = record { count_is = refl; sources_are = refl; values_are = refl; identity_is = refl; known_are = λ i. none_wanted _ }

pub part_follows : (rows : List kept.Row) (wanted : List ℕ) (w : World) (x : PartDraft) → are_rising rows ≡ true → StandsFor (at rows) w → take_all wanted (map register_of rows) empty_part ≡ Some x
    → Follows wanted (length w.accounts) (draft_of w) x
part_follows rows wanted w x a st is =
    let there : take_all wanted (map register_of rows) empty_part ≡ Some (put_selected wanted (items_of w) empty_part) =
    ap (λ (rs : List Register). take_all wanted rs empty_part) (rows_are rows w a st ∙ sym (told_items w)) ∙ take_told_all wanted (items_of w) empty_part (told_by w st.sound.0 st.has_bytes) in
    let same : put_selected wanted (items_of w) empty_part ≡ x = some_is (put_selected wanted (items_of w) empty_part) x (sym there ∙ is) in
    subst (λ (y : PartDraft). Follows wanted (length w.accounts) (draft_of w) y) same
    (subst (λ (d : Draft). Follows wanted (length w.accounts) d (put_selected wanted (items_of w) empty_part)) (made_of w st.sound.0)
    (subst (λ (c : ℕ). Follows wanted c (put_all (items_of w) empty_draft) (put_selected wanted (items_of w) empty_part)) (items_count w)
    (all_follow wanted (items_of w) 0 empty_draft empty_part (items_in_order w) (begins_so wanted))))
