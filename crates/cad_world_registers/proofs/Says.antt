-- What rows make says nothing but what the rows do.
use Rattle.std.proofs.Common.{◌≡◌, ℕ, zero, suc, ◌+◌, ◌^◌, ◌<◌, List, [], ◌∷◌, ◌++◌, length, map, Option, Some, None, refl, sym, ap, subst, ◌∙◌, arith}
use Rattle.std.specs.Prelude.{option_map}
use Rattle.std.specs.List.{AllByRecursion}
use Rattle.std.proofs.lemmas.List.{length-append, length-map}
use Rattle.cad_codec.specs.Forms.{HasBytes, TypeHasBytes}
use Rattle.cad_codec.specs.ValueBytes.{value_bytes}
use Rattle.cad_loads.specs.Loads.{Source}
use Rattle.cad_syntax.specs.declared.text.Name.{Name}
use Rattle.cad_values.specs.Values.{PureValue, Values, no_values, values, Entries, no_entries, entries, keys, Fields, no_fields, fields, names}
use Rattle.cad_values.specs.Values as v
use Rattle.cad_wire.proofs.FieldLaws.{bind_some, some_is}
use Rattle.cad_world.specs.Labels.{change_account}
use Rattle.cad_world.specs.Registers.{Register, register, stored_key, stored_from, stored_registers, published_register, published_registers, controller_register, controller_registers, of_accounts, row_values}
use Rattle.cad_world.specs.Rows.{Row, Tree, stop, gap, node, add_last, alone}
use Rattle.cad_world.specs.State.{Publication, Controller, Account, Program, World}
use Rattle.cad_world.specs.Trees.{tree_of, value_of, row_of, entries_row, fields_row, values_in, keyed, named_values}
use Rattle.cad_worlds.specs.Items.{Item, head, next, code, fields as fields_item, stored, published, controlled, told, Draft, empty_draft, with_value, with_publication, with_controller, begun_account, put, contracts_from, world_from}
use Rattle.cad_worlds.specs.Standing.{coding, AccountHasBytes, AreOneText, ContractHasBytes, WorldHasBytes}
use Rattle.cad_world_registers.proofs.Exact.{exact}
use Rattle.cad_world_registers.specs.Exact.{RegisterFits, IsSaid, counted}
use Rattle.cad_world_registers.specs.Told.{all_made, make_one, item_in}

-- ---- a value is that of its tree

mutual
  pub value_again : (x : PureValue) → value_of (tree_of x) ≡ x
  value_again (v.some x) = ap v.some (value_again x)
  value_again (v.array t vs) = ap (v.array t) (values_again vs)
  value_again (v.dictionary k t es) = ap (v.dictionary k t) (entries_again es)
  value_again (v.composite id n fs) = ap (v.composite id n) (fields_again fs)
  value_again _ = refl

  values_again : (vs : Values) → values_in (row_of vs) ≡ vs
  values_again no_values = refl
  values_again (values x vs) = λ i. values (value_again x i) (values_again vs i)

  entries_again : (es : Entries) → keyed (keys es) (values_in (entries_row es)) ≡ es
  entries_again no_entries = refl
  entries_again (entries k x es) = λ i. entries k (value_again x i) (entries_again es i)

  fields_again : (fs : Fields) → named_values (names fs) (values_in (fields_row fs)) ≡ fs
  fields_again no_fields = refl
  fields_again (fields n x fs) = λ i. fields n (value_again x i) (fields_again fs i)

-- ---- one more

all_more : {A : Type 0} (P : A → Type 0) (xs : List A) (x : A) → AllByRecursion P xs → P x → AllByRecursion P (xs ++ x ∷ [])
all_more P [] x h p = (p, tt)
all_more P (y ∷ xs) x h p = (h.0, all_more P xs x h.1 p)

map_more : {A B : Type 0} (f : A → B) (xs : List A) (x : A) → map f (xs ++ x ∷ []) ≡ map f xs ++ f x ∷ []
map_more f [] x = refl
map_more {A} {B} f (y ∷ xs) x = ap (λ (ys : List B). f y ∷ ys) (map_more f xs x)

values_more : (r : Row) (t : Tree) → row_values (add_last t r) ≡ row_values r ++ value_of t ∷ []
values_more stop t = refl
values_more (gap r) t = values_more r t
values_more (node l n s k r) t = ap (λ (vs : List PureValue). value_of (record { optionals = n; shape = s; parts = k }) ∷ vs) (values_more r t)

-- a value more is stored
values_with : (r : Row) (x : PureValue) → row_values (add_last (tree_of x) r) ≡ row_values r ++ x ∷ []
values_with r x = values_more r (tree_of x) ∙ ap (λ (y : PureValue). row_values r ++ y ∷ []) (value_again x)

alone_value : (x : PureValue) → row_values (alone (tree_of x)) ≡ x ∷ []
alone_value x = ap (λ (y : PureValue). y ∷ []) (value_again x)

stored_more : (n : ℕ) (is : List Name) (i : Name) (vs : List PureValue) (x : PureValue) → length vs ≡ length is → stored_from coding n (is ++ i ∷ []) (vs ++ x ∷ []) ≡ stored_from coding n is vs ++ register (stored_key n i) (value_bytes x) ∷ []
stored_more n [] i [] x e = refl
stored_more n [] i (y ∷ vs) x e = absurd (omega (arith, e))
stored_more n (j ∷ is) i [] x e = absurd (omega (arith, e))
stored_more n (j ∷ is) i (y ∷ vs) x e = ap (λ (rs : List Register). register (stored_key n j) (value_bytes y) ∷ rs) (stored_more n is i vs x (omega (arith, e)))

stored_count : (n : ℕ) (is : List Name) (vs : List PureValue) → length vs ≡ length is → length (stored_from coding n is vs) ≡ length is
stored_count n [] vs e = refl
stored_count n (i ∷ is) [] e = absurd (omega (arith, e))
stored_count n (i ∷ is) (x ∷ vs) e = ap suc (stored_count n is vs (omega (arith, e)))

-- ---- how many

abbrev total : (Account → ℕ) → List Account → ℕ
total m [] = 0
total m (a ∷ all) = m a + total m all

sum : (x y z a b c : ℕ) → (x + (y + z)) + (a + (b + c)) ≡ (x + a) + ((y + b) + (z + c))
sum x y z a b c = omega arith

three_totals : (all : List Account) → counted all ≡ total (λ a. length a.identifiers) all + (total (λ a. length a.published) all + total (λ a. length a.controllers) all)
three_totals [] = refl
three_totals (a ∷ all) =
    let three = λ (k : ℕ). (length a.identifiers + (length a.published + length a.controllers)) + k in
    ap three (three_totals all)
    ∙ sum (length a.identifiers) (length a.published) (length a.controllers) (total (λ x. length x.identifiers) all) (total (λ x. length x.published) all) (total (λ x. length x.controllers) all)

-- ---- what a draft says, where all registers that it was made of are of a kind

pub record AccountSays (P : Register → Type 0) (n : ℕ) (a : Account) : Type 0 where
  pub as_many : length (row_values a.stored) ≡ length a.identifiers
  pub stores : AllByRecursion P (stored_registers coding n a)
  pub publishes : AllByRecursion P (published_registers coding n a)
  pub controls : AllByRecursion P (controller_registers coding n a)
  pub bytes : AccountHasBytes a

-- of accounts with addresses from n on
abbrev pub AccountsSay : (Register → Type 0) → ℕ → List Account → Type 0
AccountsSay P n [] = Unit {0}
AccountsSay P n (a ∷ all) = AccountSays P n a × AccountsSay P (suc n) all

pub record DraftSays (P : Register → Type 0) (d : Draft) : Type 0 where
  pub accounts : AccountsSay P 1 d.accounts
  pub sources : AllByRecursion (λ (s : Source). AreOneText s.id.names) d.sources
  pub values : AllByRecursion (λ (r : Row). AllByRecursion HasBytes (row_values r)) d.values

module _ (P : Register → Type 0) where
  begun_says : (n number : ℕ) → AccountSays P n (begun_account number)
  begun_says n number = record { as_many = refl; stores = tt; publishes = tt; controls = tt; bytes = record { stored = tt; lent = tt; borrowed = tt } }

  one_begun : (n number : ℕ) (all : List Account) → AccountsSay P n all → AccountsSay P n (all ++ begun_account number ∷ [])
  one_begun n number [] s = (begun_says n number, tt)
  one_begun n number (a ∷ all) s = (s.0, one_begun (suc n) number all s.1)

  changed_from : (g : Account → Account) (n j k : ℕ) (all : List Account) → n ≡ j + k → ((a : Account) → AccountSays P n a → AccountSays P n (g a)) → AccountsSay P k all → AccountsSay P k (change_account (suc j) g all)
  changed_from g n j k [] e one s = tt
  changed_from g n zero k (a ∷ all) e one s =
      let here : n ≡ k = omega (arith, e) in
      (subst (λ (m : ℕ). AccountSays P m (g a)) here (one a (subst (λ (m : ℕ). AccountSays P m a) (sym here) s.0)), s.1)
  changed_from g n (suc j) k (a ∷ all) e one s = (s.0, changed_from g n j (suc k) all (omega (arith, e)) one s.1)

  changed_says : (g : Account → Account) (n : ℕ) (all : List Account) → ((a : Account) → AccountSays P n a → AccountSays P n (g a)) → AccountsSay P 1 all → AccountsSay P 1 (change_account n g all)
  changed_says g zero all one s = s
  changed_says g (suc j) all one s = changed_from g (suc j) j 1 all (omega arith) one s

  value_says : (n : ℕ) (i : Name) (x : PureValue) → P (told (stored n i x)) → HasBytes x → (a : Account) → AccountSays P n a → AccountSays P n (with_value i x a)
  value_says n i x p has a s =
      let now = values_with a.stored x in
      let more : length (row_values (add_last (tree_of x) a.stored)) ≡ length (a.identifiers ++ i ∷ []) =
      ap length now ∙ (let l = length-append (row_values a.stored) (x ∷ []) in let m = length-append a.identifiers (i ∷ []) in omega (arith, l, m, s.as_many)) in
      record {
        as_many = more;
        stores = subst (AllByRecursion P) (sym (ap (stored_from coding n (a.identifiers ++ i ∷ [])) now ∙ stored_more n a.identifiers i (row_values a.stored) x s.as_many))
            (all_more P (stored_registers coding n a) (told (stored n i x)) s.stores p);
        publishes = s.publishes;
        controls = s.controls;
        bytes = record {
          stored = subst (AllByRecursion HasBytes) (sym now) (all_more HasBytes (row_values a.stored) x s.bytes.stored has);
          lent = s.bytes.lent;
          borrowed = s.bytes.borrowed;
        };
      }

  publication_says : (n : ℕ) (p : Publication) → P (told (published n p)) → TypeHasBytes p.lent → (a : Account) → AccountSays P n a → AccountSays P n (with_publication p a)
  publication_says n p is has a s = record {
    as_many = s.as_many;
    stores = s.stores;
    publishes = subst (AllByRecursion P) (sym (map_more (published_register coding n) a.published p)) (all_more P (published_registers coding n a) (told (published n p)) s.publishes is);
    controls = s.controls;
    bytes = record { stored = s.bytes.stored; lent = all_more (λ (q : Publication). TypeHasBytes q.lent) a.published p s.bytes.lent has; borrowed = s.bytes.borrowed };
  }

  controller_says : (n : ℕ) (c : Controller) → P (told (controlled n c)) → TypeHasBytes c.borrow → length c.target.0 < 2 ^ 32 → (a : Account) → AccountSays P n a → AccountSays P n (with_controller c a)
  controller_says n c is has short a s = record {
    as_many = s.as_many;
    stores = s.stores;
    publishes = s.publishes;
    controls = subst (AllByRecursion P) (sym (map_more (controller_register coding n) a.controllers c)) (all_more P (controller_registers coding n a) (told (controlled n c)) s.controls is);
    bytes = record { stored = s.bytes.stored; lent = s.bytes.lent; borrowed = all_more (λ (d : Controller). TypeHasBytes d.borrow × (length d.target.0 < 2 ^ 32)) a.controllers c s.bytes.borrowed (has, short) };
  }

  -- an item more
  put_says : (x : Item) (r : Register) (d : Draft) → IsSaid r x → P r → DraftSays P d → DraftSays P (put x d)
  put_says (head count identity) r d is p s = record { accounts = s.accounts; sources = s.sources; values = s.values }
  put_says (next n number) r d is p s = record { accounts = one_begun 1 number d.accounts s.accounts; sources = s.sources; values = s.values }
  put_says (code id bytes) r d is p s = record { accounts = s.accounts; sources = all_more (λ (s : Source). AreOneText s.id.names) d.sources (record { id = id; code = bytes }) s.sources is; values = s.values }
  put_says (fields_item id x) r d is p s = record {
    accounts = s.accounts;
    sources = s.sources;
    values = all_more (λ (r : Row). AllByRecursion HasBytes (row_values r)) d.values (alone (tree_of x)) s.values (subst (AllByRecursion HasBytes) (sym (alone_value x)) (is, tt));
  }
  put_says (stored n i x) r d is p s = record {
    accounts = changed_says (with_value i x) n d.accounts (value_says n i x (subst P is.0 p) is.1) s.accounts;
    sources = s.sources;
    values = s.values;
  }
  put_says (published n q) r d is p s = record {
    accounts = changed_says (with_publication q) n d.accounts (publication_says n q (subst P is.0 p) is.1) s.accounts;
    sources = s.sources;
    values = s.values;
  }
  put_says (controlled n c) r d is p s = record {
    accounts = changed_says (with_controller c) n d.accounts (controller_says n c (subst P is.0 p) is.1 is.2) s.accounts;
    sources = s.sources;
    values = s.values;
  }

  one_made : (o : Option Item) (d e : Draft) → option_map (λ x. put x d) o ≡ Some e → (x : Item) × (o ≡ Some x) × (put x d ≡ e)
  one_made None d e h = absurd cc
  one_made (Some x) d e h = (x, refl, some_is (put x d) e h)

  -- all of them
  rows_say : (rs : List Register) (d e : Draft) → AllByRecursion RegisterFits rs → AllByRecursion P rs → all_made rs d ≡ Some e → DraftSays P d → DraftSays P e
  rows_say [] d e fits p h s = subst (DraftSays P) (some_is d e h) s
  rows_say (r ∷ rs) d e fits p h s =
      let a = bind_some (make_one r.key r.bytes d) (λ f. all_made rs f) e h in
      let b = one_made (item_in r.key r.bytes) d a.0 a.1 in
      rows_say rs a.0 e fits.1 p.1 a.2 (subst (DraftSays P) b.2 (put_says b.0 r d (exact r.key r.bytes b.0 fits.0.0 fits.0.1 b.1) p.0 s))

  empty_says : DraftSays P empty_draft
  empty_says = record { accounts = tt; sources = tt; values = tt }

  pub made_says : (rs : List Register) (e : Draft) → AllByRecursion RegisterFits rs → AllByRecursion P rs → all_made rs empty_draft ≡ Some e → DraftSays P e
  made_says rs e fits p h = rows_say rs empty_draft e fits p h empty_says

  -- ---- of a World

  both_all : (xs ys : List Register) → AllByRecursion P xs → AllByRecursion P ys → AllByRecursion P (xs ++ ys)
  both_all [] ys p q = q
  both_all (x ∷ xs) ys p q = (p.0, both_all xs ys p.1 q)

  section_says : (f : ℕ → Account → List Register) → ((n : ℕ) (a : Account) → AccountSays P n a → AllByRecursion P (f n a)) → (n : ℕ) (all : List Account) → AccountsSay P n all → AllByRecursion P (of_accounts f n all)
  section_says f one n [] s = tt
  section_says f one n (a ∷ all) s = both_all (f n a) (of_accounts f (suc n) all) (one n a s.0) (section_says f one (suc n) all s.1)

  pub back_says : (all : List Account) → AccountsSay P 1 all → AllByRecursion P (of_accounts (stored_registers coding) 1 all ++ (of_accounts (published_registers coding) 1 all ++ of_accounts (controller_registers coding) 1 all))
  back_says all s =
      both_all (of_accounts (stored_registers coding) 1 all) _ (section_says (stored_registers coding) (λ n a t. t.stores) 1 all s)
      (both_all (of_accounts (published_registers coding) 1 all) (of_accounts (controller_registers coding) 1 all)
      (section_says (published_registers coding) (λ n a t. t.publishes) 1 all s)
      (section_says (controller_registers coding) (λ n a t. t.controls) 1 all s))

  accounts_bytes : (n : ℕ) (all : List Account) → AccountsSay P n all → AllByRecursion AccountHasBytes all
  accounts_bytes n [] s = tt
  accounts_bytes n (a ∷ all) s = (s.0.bytes, accounts_bytes (suc n) all s.1)

  contracts_bytes : (ss : List Source) (ps : List Program) (rs : List Row) → AllByRecursion (λ (s : Source). AreOneText s.id.names) ss → AllByRecursion (λ (r : Row). AllByRecursion HasBytes (row_values r)) rs → AllByRecursion ContractHasBytes (contracts_from ss ps rs)
  contracts_bytes [] ps rs s t = tt
  contracts_bytes (x ∷ ss) [] rs s t = tt
  contracts_bytes (x ∷ ss) (p ∷ ps) [] s t = tt
  contracts_bytes (x ∷ ss) (p ∷ ps) (r ∷ rs) s t = (record { name = s.0; value = t.0 }, contracts_bytes ss ps rs s.1 t.1)

  pub world_bytes : (d : Draft) (ps : List Program) → DraftSays P d → WorldHasBytes (world_from d ps)
  world_bytes d ps s = record { accounts = accounts_bytes 1 d.accounts s.accounts; contracts = contracts_bytes d.sources ps d.values s.sources s.values }

  -- ---- how many registers behind the front

  section_count : (f : ℕ → Account → List Register) (m : Account → ℕ) → ((n : ℕ) (a : Account) → AccountSays P n a → length (f n a) ≡ m a) → (n : ℕ) (all : List Account) → AccountsSay P n all → length (of_accounts f n all) ≡ total m all
  section_count f m one n [] s = refl
  section_count f m one n (a ∷ all) s = length-append (f n a) (of_accounts f (suc n) all) ∙ (λ i. one n a s.0 i + section_count f m one (suc n) all s.1 i)

  pub back_count : (all : List Account) → AccountsSay P 1 all → length (of_accounts (stored_registers coding) 1 all ++ (of_accounts (published_registers coding) 1 all ++ of_accounts (controller_registers coding) 1 all)) ≡ counted all
  back_count all s =
      let a = section_count (stored_registers coding) (λ x. length x.identifiers) (λ n x t. stored_count n x.identifiers (row_values x.stored) t.as_many) 1 all s in
      let b = section_count (published_registers coding) (λ x. length x.published) (λ n x t. length-map x.published (published_register coding n)) 1 all s in
      let c = section_count (controller_registers coding) (λ x. length x.controllers) (λ n x t. length-map x.controllers (controller_register coding n)) 1 all s in
      length-append (of_accounts (stored_registers coding) 1 all) (of_accounts (published_registers coding) 1 all ++ of_accounts (controller_registers coding) 1 all)
      ∙ (λ i. a i + (length-append (of_accounts (published_registers coding) 1 all) (of_accounts (controller_registers coding) 1 all) ∙ (λ j. b j + c j)) i)
      ∙ sym (three_totals all)
