-- What the items of a World make, one behind another, is its draft.
use Rattle.std.proofs.Common.{◌≡◌, ℕ, suc, Bool, cond, List, [], ◌∷◌, ◌++◌, map, length, refl, sym, ap, subst, ◌∙◌, append_assoc, append-nil, arith, inl, inr}
use Rattle.std.proofs.lemmas.Bool.{cases_Bool, eqb-true}
use Rattle.std.specs.Prelude.{◌==◌}
use Rattle.std.specs.List.{AllByRecursion, flat_map}
use Rattle.cad_loads.specs.Loads.{Source, loaded_of, source_of}
use Rattle.cad_rows.proofs.CopyLaws.{join_stop, join_join}
use Rattle.cad_syntax.specs.declared.text.Name.{Name}
use Rattle.cad_values.specs.Shapes.{Shapes}
use Rattle.cad_values.specs.Values.{PureValue}
use Rattle.cad_world.specs.Labels.{change_account}
use Rattle.cad_world.specs.Registers.{row_values}
use Rattle.cad_world.specs.Rows.{Row, Tree, stop, gap, node, first, add_last, join}
use Rattle.cad_world.specs.Sound.{AreStored, SoundAccount}
use Rattle.cad_world.specs.State.{Publication, Controller, Account, Contract, World}
use Rattle.cad_world.specs.Trees.{tree_of, value_of}
use Rattle.cad_worlds.specs.Items.{Item, head, fields, stored, published, controlled, Draft, empty_draft, with_value, with_publication, with_controller, begun_account, put, put_all, draft_of, programs_of, contracts_from, world_from, each, head_items, next_items, code_item, fields_items, stored_from, stored_items, published_items, controlled_items, items_of}
use Rattle.cad_worlds.proofs.Known.{IsKnown}

put_both : (xs ys : List Item) (w : Draft) → put_all (xs ++ ys) w ≡ put_all ys (put_all xs w)
put_both [] ys w = refl
put_both (x ∷ xs) ys w = put_both xs ys (put x w)

-- ---- one account among others

-- the account of this address changes
there : (g : Account → Account) (done : List Account) (a : Account) (all : List Account) → change_account (suc (length done)) g (done ++ a ∷ all) ≡ done ++ g a ∷ all
there g [] a all = refl
there g (d ∷ done) a all = ap (λ (xs : List Account). d ∷ xs) (there g done a all)

abbrev with_accounts : Draft → List Account → Draft
with_accounts w accounts = record w { accounts = accounts }

-- what the items of an account make of it, where it stands among others
record Makes (w : Draft) (xs : ℕ → List Item) (a b : Account) : Type 0 where
  pub is : (done all : List Account) → put_all (xs (suc (length done))) (with_accounts w (done ++ a ∷ all)) ≡ with_accounts w (done ++ b ∷ all)

makes_more : (w : Draft) (x : ℕ → Item) (xs : ℕ → List Item) (g : Account → Account) (a b : Account) → ((n : ℕ) (v : Draft) → put (x n) v ≡ record v { accounts = change_account n g v.accounts }) → Makes w xs (g a) b → Makes w (λ n. x n ∷ xs n) a b
makes_more w x xs g a b h m = record {
  is = λ done all.
      ap (put_all (xs (suc (length done)))) (h (suc (length done)) (with_accounts w (done ++ a ∷ all)) ∙ ap (with_accounts w) (there g done a all))
      ∙ m.is done all;
}

makes_none : (w : Draft) (a b : Account) → a ≡ b → Makes w (λ n. []) a b
makes_none w a b e = record { is = λ done all. ap (λ (c : Account). with_accounts w (done ++ c ∷ all)) e }

-- ---- all accounts of one section

one_more : (done : List Account) (b : Account) (all : List Account) → (done ++ b ∷ []) ++ all ≡ done ++ b ∷ all
one_more done b all = append_assoc done (b ∷ []) all

longer : (done : List Account) (b : Account) → length (done ++ b ∷ []) ≡ suc (length done)
longer [] b = refl
longer (d ∷ done) b = ap suc (longer done b)

module _ (w : Draft) (f : ℕ → Account → List Item) (g h : Account → Account) (P : Account → Type 0) (one : (a : Account) → P a → Makes w (λ n. f n a) (g a) (h a)) where
  section : (done all : List Account) → AllByRecursion P all → put_all (each f (suc (length done)) all) (with_accounts w (done ++ map g all)) ≡ with_accounts w (done ++ map h all)
  section done [] p = refl
  section done (a ∷ all) p =
      put_both (f (suc (length done)) a) (each f (suc (suc (length done))) all) (with_accounts w (done ++ g a ∷ map g all))
      ∙ ap (put_all (each f (suc (suc (length done))) all)) ((one a p.0).is done (map g all) ∙ ap (with_accounts w) (sym (one_more done (h a) (map g all))))
      ∙ ap (λ (k : ℕ). put_all (each f (suc k) all) (with_accounts w ((done ++ h a ∷ []) ++ map g all))) (sym (longer done (h a)))
      ∙ section (done ++ h a ∷ []) all p.1
      ∙ ap (with_accounts w) (one_more done (h a) (map h all))

-- ---- what each section makes of an account

-- nothing but the number of its next controller; with what it stores; with what it publishes too
abbrev bare_one : Account → Account
bare_one a = begun_account a.next_controller

abbrev storing_one : Account → Account
storing_one a = record (bare_one a) { identifiers = a.identifiers; stored = a.stored }

abbrev publishing_one : Account → Account
publishing_one a = record (storing_one a) { published = a.published }

add_last_is : (t : Tree) (r : Row) → add_last t r ≡ join r (first t stop)
add_last_is t stop = refl
add_last_is t (gap r) = ap gap (add_last_is t r)
add_last_is t (node l n s k r) = ap (node l n s k) (add_last_is t r)

-- the account with further names and places
abbrev grown : Account → List Name → Row → Account
grown a is r = record a { identifiers = a.identifiers ++ is; stored = join a.stored r }

grown_none : (a : Account) → a ≡ grown a [] stop
grown_none a = λ i. record a { identifiers = sym (append-nil a.identifiers) i; stored = sym (join_stop a.stored) i }

grown_more : (a : Account) (i : Name) (t : Tree) (is : List Name) (r : Row) → grown (record a { identifiers = a.identifiers ++ i ∷ []; stored = add_last t a.stored }) is r ≡ grown a (i ∷ is) (first t r)
grown_more a i t is r =
    let names = append_assoc a.identifiers (i ∷ []) is in
    let places = ap (λ (q : Row). join q r) (add_last_is t a.stored) ∙ join_join a.stored (first t stop) r in
    λ j. record a { identifiers = names j; stored = places j }

module _ (w : Draft) (k : Shapes) where
  stores : (is : List Name) (r : Row) (a : Account) → AreStored k is r → Makes w (λ n. stored_from n is (row_values r)) a (grown a is r)
  stores [] stop a s = makes_none w a (grown a [] stop) (grown_none a)
  stores [] (gap r) a s = absurd s
  stores [] (node l m t q r) a s = absurd s
  stores (i ∷ is) stop a s = absurd s
  stores (i ∷ is) (gap r) a s = absurd s
  stores (i ∷ is) (node (l ∷ ls) m t q r) a s = absurd s
  stores (i ∷ is) (node [] m t q r) a s =
      let u : Tree = record { optionals = m; shape = t; parts = q } in
      let b = with_value i (value_of u) a in
      let same : grown b is r ≡ grown a (i ∷ is) (first u r) =
      grown_more a i (tree_of (value_of u)) is r ∙ ap (λ (v : Tree). grown a (i ∷ is) (first v r)) s.2.of_value in
      makes_more w (λ n. stored n i (value_of u)) (λ n. stored_from n is (row_values r)) (with_value i (value_of u)) a (grown a (i ∷ is) (first u r)) (λ n v. refl)
      (subst (Makes w (λ n. stored_from n is (row_values r)) b) same (stores is r b s.3))

  stores_all : (a : Account) → SoundAccount k a → Makes w (λ n. stored_items n a) (bare_one a) (storing_one a)
  stores_all a s = stores a.identifiers a.stored (bare_one a) s.stored

  publishes : (ps : List Publication) (a : Account) → Makes w (λ n. map (published n) ps) a (record a { published = a.published ++ ps })
  publishes [] a = makes_none w a (record a { published = a.published ++ [] }) (λ i. record a { published = sym (append-nil a.published) i })
  publishes (p ∷ ps) a =
      let b = with_publication p a in
      makes_more w (λ n. published n p) (λ n. map (published n) ps) (with_publication p) a (record a { published = a.published ++ p ∷ ps }) (λ n v. refl)
      (subst (Makes w (λ n. map (published n) ps) b) (λ i. record a { published = append_assoc a.published (p ∷ []) ps i }) (publishes ps b))

  controls : (cs : List Controller) (a : Account) → Makes w (λ n. map (controlled n) cs) a (record a { controllers = a.controllers ++ cs })
  controls [] a = makes_none w a (record a { controllers = a.controllers ++ [] }) (λ i. record a { controllers = sym (append-nil a.controllers) i })
  controls (c ∷ cs) a =
      let b = with_controller c a in
      makes_more w (λ n. controlled n c) (λ n. map (controlled n) cs) (with_controller c) a (record a { controllers = a.controllers ++ c ∷ cs }) (λ n v. refl)
      (subst (Makes w (λ n. map (controlled n) cs) b) (λ i. record a { controllers = append_assoc a.controllers (c ∷ []) cs i }) (controls cs b))

-- ---- the draft

begins : (w : Draft) (done : List Account) (n : ℕ) (all : List Account) → put_all (each next_items n all) (with_accounts w done) ≡ with_accounts w (done ++ map bare_one all)
begins w done n [] = ap (with_accounts w) (sym (append-nil done))
begins w done n (a ∷ all) = begins w (done ++ bare_one a ∷ []) (suc n) all ∙ ap (with_accounts w) (append_assoc done (bare_one a ∷ []) (map bare_one all))

map_same : (all : List Account) → map (λ a. a) all ≡ all
map_same [] = refl
map_same (a ∷ all) = ap (λ (xs : List Account). a ∷ xs) (map_same all)

-- the head says the next identity, where there is an account
headed : (all : List Account) (identity : ℕ) → (all ≡ [] → identity ≡ 1) → put_all (cond (length all == 0) [] (head (length all) identity ∷ [])) empty_draft ≡ record empty_draft { next_identity = identity }
headed [] identity h = λ i. record empty_draft { next_identity = sym (h refl) i }
headed (a ∷ all) identity h =
    elim (cases_Bool (length (a ∷ all) == 0)) [
      | inl t ↦ absurd (let none = eqb-true (length (a ∷ all)) 0 t in omega arith)
      | inr f ↦ ap (λ (b : Bool). put_all (cond b [] (head (length (a ∷ all)) identity ∷ [])) empty_draft) f
    ]

abbrev source_in : Contract → Source
source_in c = source_of (loaded_of c)

abbrev value_in : Contract → Row
value_in c = c.value

codes_made : (cs : List Contract) (d : Draft) → put_all (map code_item cs) d ≡ record d { sources = d.sources ++ map source_in cs }
codes_made [] d = λ i. record d { sources = sym (append-nil d.sources) i }
codes_made (c ∷ cs) d = codes_made cs (put (code_item c) d) ∙ (λ i. record d { sources = append_assoc d.sources (source_in c ∷ []) (map source_in cs) i })

values_made : (cs : List Contract) (d : Draft) → AllByRecursion IsKnown cs → put_all (flat_map fields_items cs) d ≡ record d { values = d.values ++ map value_in cs }
values_made [] d s = λ i. record d { values = sym (append-nil d.values) i }
values_made (c ∷ cs) d s =
    let others = flat_map fields_items cs in
    put_both (fields_items c) others d
    ∙ ap (λ (vs : List PureValue). put_all others (put_all (map (fields c.id) vs) d)) s.0.has.only
    ∙ ap (λ (r : Row). put_all others (record d { values = d.values ++ r ∷ [] })) s.0.has.alone_is
    ∙ values_made cs (record d { values = d.values ++ c.value ∷ [] }) s.1
    ∙ (λ i. record d { values = append_assoc d.values (c.value ∷ []) (map value_in cs) i })

module _ (k : Shapes) (w : World) (s : AllByRecursion (SoundAccount k) w.accounts) (known : AllByRecursion IsKnown w.contracts) where
  abbrev with_codes : Draft
  with_codes = record { accounts = map bare_one w.accounts; sources = map source_in w.contracts; values = []; next_identity = w.next_identity }

  accounts_made : put_all (each stored_items 1 w.accounts ++ (each published_items 1 w.accounts ++ each controlled_items 1 w.accounts)) (with_accounts (draft_of w) (map bare_one w.accounts)) ≡ draft_of w
  accounts_made =
      let b = each stored_items 1 w.accounts in
      let c = each published_items 1 w.accounts in
      let d = each controlled_items 1 w.accounts in
      let draft = draft_of w in
      put_both b (c ++ d) (with_accounts draft (map bare_one w.accounts))
      ∙ ap (put_all (c ++ d)) (section draft stored_items bare_one storing_one (SoundAccount k) (stores_all draft k) [] w.accounts s)
      ∙ put_both c d (with_accounts draft (map storing_one w.accounts))
      ∙ ap (put_all d) (section draft published_items storing_one publishing_one (SoundAccount k) (λ x p. publishes draft k x.published (storing_one x)) [] w.accounts s)
      ∙ section draft controlled_items publishing_one (λ x. x) (SoundAccount k) (λ x p. controls draft k x.controllers (publishing_one x)) [] w.accounts s
      ∙ ap (with_accounts draft) (map_same w.accounts)

  pub made : (w.accounts ≡ [] → w.next_identity ≡ 1) → put_all (items_of w) empty_draft ≡ draft_of w
  made h =
      let of_accounts = each stored_items 1 w.accounts ++ (each published_items 1 w.accounts ++ each controlled_items 1 w.accounts) in
      let of_values = flat_map fields_items w.contracts ++ of_accounts in
      let of_codes = map code_item w.contracts ++ of_values in
      let others = each next_items 1 w.accounts ++ of_codes in
      let headless : Draft = record empty_draft { next_identity = w.next_identity } in
      put_both (head_items w) others empty_draft
      ∙ ap (put_all others) (headed w.accounts w.next_identity h)
      ∙ put_both (each next_items 1 w.accounts) of_codes headless
      ∙ ap (put_all of_codes) (begins headless [] 1 w.accounts)
      ∙ put_both (map code_item w.contracts) of_values (with_accounts headless (map bare_one w.accounts))
      ∙ ap (put_all of_values) (codes_made w.contracts (with_accounts headless (map bare_one w.accounts)))
      ∙ put_both (flat_map fields_items w.contracts) of_accounts with_codes
      ∙ ap (put_all of_accounts) (values_made w.contracts with_codes known)
      ∙ accounts_made

-- ---- the World again

contracts_again : (cs : List Contract) → AllByRecursion IsKnown cs → contracts_from (map source_in cs) (map (λ c. c.program) cs) (map value_in cs) ≡ cs
contracts_again [] s = refl
contracts_again (c ∷ cs) s = λ i. record c { is_running = sym s.0.stands i } ∷ contracts_again cs s.1 i

-- a World is that of its draft and its programs
pub again : (w : World) → AllByRecursion IsKnown w.contracts → world_from (draft_of w) (programs_of w) ≡ w
again w known = λ i. record w { contracts = contracts_again w.contracts known i }
