-- Registers that are written one after another.
use Rattle.std.proofs.Common.{◌≡◌, ℕ, suc, ◌<◌, ◌≤◌, List, [], ◌∷◌, ◌++◌, map, length, drop, get_or, refl, sym, ap, subst, ◌∙◌, append_assoc, append-nil, arith}
use Rattle.std.specs.Prelude.{Result, OnOk, IfOk}
use Rattle.std.specs.declared.alloc.AllocError.{AllocError}
use Rattle.std.specs.declared.alloc.Global.{Global}
use Rattle.std.specs.declared.vec.Vec.{Vec}
use Rattle.std.specs.List.{flat_map}
use Rattle.std.proofs.lemmas.List.{map-append, length-map}
use Rattle.cad_accounts.specs.declared.row.Row.{Row}
use Rattle.cad_codec.specs.ValueBytes.{value_bytes}
use Rattle.cad_rows.proofs.CopyLaws.{from_there, past}
use Rattle.cad_rows.specs.Views.{PlaceView, vacant, taken, before, pure_row, pure_place, pure_tree, place_step, tree_step}
use Rattle.cad_rows.specs.declared.tree.Place.{Place, Place-F, fold-roll-Place}
use Rattle.cad_rows.specs.declared.tree.Place.TheVariants as variant
use Rattle.cad_rows.specs.declared.tree.Tree.{Tree}
use Rattle.cad_state.specs.Views.{account_of, contract_of, controller_of, publication_of}
use Rattle.cad_state.specs.declared.state.Account.{Account}
use Rattle.cad_state.specs.declared.state.Contract.{Contract}
use Rattle.cad_state.specs.declared.state.Controller.{Controller}
use Rattle.cad_state.specs.declared.state.Known.{Known}
use Rattle.cad_state.specs.declared.state.Publication.{Publication}
use Rattle.cad_syntax.specs.declared.text.Name.{Name}
use Rattle.cad_syntax.specs.declared.type_id.TypeId.{TypeId}
use Rattle.cad_world.specs.Registers.{Register, register, stored_key, stored_from, row_values, head_registers, of_accounts, next_register, code_register, fields_registers, stored_registers, published_register, published_registers, controller_register, controller_registers, registers}
use Rattle.cad_world.specs.Rows as r
use Rattle.cad_world.specs.Trees.{value_of}
use Rattle.cad_world.specs.State as s
use Rattle.cad_worlds.proofs.Lists.{none_past, from_item}
use Rattle.cad_worlds.specs.Code.KnownRegisters.{known_section, part_registers}
use Rattle.cad_worlds.specs.Sections.{head, place_registers, names_left, published_of, controlled_of, code_of, fields_register, fields_of, place_fields}
use Rattle.cad_worlds.specs.Standing.{coding, register_of}
use Rattle.cad_worlds.specs.declared.part.WorldPart.{WorldPart}
use Rattle.cad_worlds.specs.declared.writing.Section.TheVariants as section

-- ---- any list

pub item_turn : {A B : Type 0} (f : A → B) (xs : List A) (i : ℕ) (x : A) (now new all : List B) → i < length xs → x ≡ get_or xs i x → now ++ map f (drop i xs) ≡ all → new ≡ now ++ f x ∷ [] → new ++ map f (drop (suc i) xs) ≡ all
item_turn f xs i x now new all inside is so_far grown =
    ap (λ z. z ++ map f (drop (suc i) xs)) grown
    ∙ append_assoc now (f x ∷ []) (map f (drop (suc i) xs))
    ∙ ap (λ z. now ++ map f z) (sym (from_item xs i x inside is))
    ∙ so_far

pub item_end : {A B : Type 0} (f : A → B) (xs : List A) (i : ℕ) (now all : List B) → length xs ≤ i → now ++ map f (drop i xs) ≡ all → now ≡ all
item_end f xs i now all outside so_far = sym (append-nil now) ∙ ap (λ z. now ++ map f z) (sym (none_past xs i outside)) ∙ so_far

-- the same where each item gives a list
pub flat_turn : {A B : Type 0} (f : A → List B) (xs : List A) (i : ℕ) (x : A) (now new all : List B) → i < length xs → x ≡ get_or xs i x → now ++ flat_map f (drop i xs) ≡ all → new ≡ now ++ f x → new ++ flat_map f (drop (suc i) xs) ≡ all
flat_turn f xs i x now new all inside is so_far grown =
    ap (λ z. z ++ flat_map f (drop (suc i) xs)) grown
    ∙ append_assoc now (f x) (flat_map f (drop (suc i) xs))
    ∙ ap (λ z. now ++ flat_map f z) (sym (from_item xs i x inside is))
    ∙ so_far

pub flat_end : {A B : Type 0} (f : A → List B) (xs : List A) (i : ℕ) (now all : List B) → length xs ≤ i → now ++ flat_map f (drop i xs) ≡ all → now ≡ all
flat_end f xs i now all outside so_far = sym (append-nil now) ∙ ap (λ z. now ++ flat_map f z) (sym (none_past xs i outside)) ∙ so_far

-- one register more
pub pushed : (rows : List Row) (row : Row) → map register_of (rows ++ row ∷ []) ≡ map register_of rows ++ register_of row ∷ []
pushed rows row = map-append register_of rows (row ∷ [])

-- a call that appends the one registers appends the others
pub grown : {A E : Type 0} (result : Result A E) (new old xs ys : List Register) → xs ≡ ys → OnOk result (new ≡ old ++ xs) → OnOk result (new ≡ old ++ ys)
grown result new old xs ys same h = subst (λ (zs : List Register). OnOk result (new ≡ old ++ zs)) same h

pub map_both : {A B C : Type 0} (f : B → C) (g : A → B) (xs : List A) → map (λ x. f (g x)) xs ≡ map f (map g xs)
map_both f g [] = refl
map_both f g (x ∷ xs) = ap (λ ys. f (g x) ∷ ys) (map_both f g xs)

pub all_published : (n : ℕ) (ps : List Publication) → map (published_of n) ps ≡ map (published_register coding n) (map publication_of ps)
all_published n ps = map_both (published_register coding n) publication_of ps

pub all_controlled : (n : ℕ) (cs : List Controller) → map (controlled_of n) cs ≡ map (controller_register coding n) (map controller_of cs)
all_controlled n cs = map_both (controller_register coding n) controller_of cs

-- ---- what stands in places

-- a place with a node
pub place_at : (p : Place) (labels : List ℕ) (tree : Tree) → p ≡ variant.Full labels tree → pure_place p ≡ taken labels (pure_tree tree)
place_at p labels tree is = ap pure_place (is ∙ sym (variant.rolls-Full labels tree)) ∙ fold-roll-Place PlaceView r.Tree place_step tree_step (Place-F.Full labels tree)

one_place : (n : ℕ) (names : List Name) (v : PlaceView) (rest : r.Row) → stored_from coding n names (row_values (before v rest)) ≡ place_registers n names v ++ stored_from coding n (names_left names v) (row_values rest)
one_place n names vacant rest = refl
one_place n [] (taken l t) rest = refl
one_place n (i ∷ is) (taken l t) rest = refl

pub in_place : (n : ℕ) (names : List Name) (v : PlaceView) (l : List ℕ) (t : r.Tree) (name : Name) (x : Register) → v ≡ taken l t → 1 ≤ length names → name ≡ get_or names 0 name → x ≡ register (stored_key n name) (value_bytes (value_of t)) → x ∷ [] ≡ place_registers n names v
in_place n [] v l t name x v_is long first row = absurd (omega (arith, long))
in_place n (i ∷ is) v l t name x v_is long first row =
    ap (λ (y : Register). y ∷ []) (row ∙ ap (λ (m : Name). register (stored_key n m) (value_bytes (value_of t))) first) ∙ sym (ap (place_registers n (i ∷ is)) v_is)

pub places_turn : (n : ℕ) (ps : List Place) (i : ℕ) (p : Place) (names left : List Name) (now new all : List Register) → i < length ps → p ≡ get_or ps i p
    → now ++ stored_from coding n names (row_values (pure_row (drop i ps))) ≡ all → new ≡ now ++ place_registers n names (pure_place p) → left ≡ names_left names (pure_place p)
    → new ++ stored_from coding n left (row_values (pure_row (drop (suc i) ps))) ≡ all
places_turn n ps i p names left now new all inside is so_far grown left_is =
    let rest = pure_row (drop (suc i) ps) in
    let here = place_registers n names (pure_place p) in
    ap (λ z. z ++ stored_from coding n left (row_values rest)) grown
    ∙ append_assoc now here (stored_from coding n left (row_values rest))
    ∙ ap (λ z. now ++ z) (ap (λ (ns : List Name). here ++ stored_from coding n ns (row_values rest)) left_is ∙ sym (one_place n names (pure_place p) rest) ∙ ap (λ (q : r.Row). stored_from coding n names (row_values q)) (sym (from_there ps i p inside is)))
    ∙ so_far

none_stored : (n : ℕ) (names : List Name) → stored_from coding n names [] ≡ []
none_stored n [] = refl
none_stored n (i ∷ is) = refl

pub places_end : (n : ℕ) (ps : List Place) (i : ℕ) (left : List Name) (now all : List Register) → length ps ≤ i → now ++ stored_from coding n left (row_values (pure_row (drop i ps))) ≡ all → now ≡ all
places_end n ps i left now all outside so_far =
    sym (append-nil now)
    ∙ ap (λ z. now ++ z) (sym (none_stored n left) ∙ ap (λ (q : r.Row). stored_from coding n left (row_values q)) (sym (past ps i outside)))
    ∙ so_far

-- ---- all accounts

pub accounts_turn : (f : ℕ → s.Account → List Register) (xs : List Account) (i n : ℕ) (x : Account) (now new all : List Register) → i < length xs → x ≡ get_or xs i x → n ≡ suc i
    → now ++ of_accounts f (suc i) (map account_of (drop i xs)) ≡ all → new ≡ now ++ f n (account_of x) → new ++ of_accounts f (suc (suc i)) (map account_of (drop (suc i) xs)) ≡ all
accounts_turn f xs i n x now new all inside is n_is so_far grown =
    let rest = of_accounts f (suc (suc i)) (map account_of (drop (suc i) xs)) in
    ap (λ z. z ++ rest) (grown ∙ ap (λ (k : ℕ). now ++ f k (account_of x)) n_is)
    ∙ append_assoc now (f (suc i) (account_of x)) rest
    ∙ ap (λ (z : List Account). now ++ of_accounts f (suc i) (map account_of z)) (sym (from_item xs i x inside is))
    ∙ so_far

pub accounts_end : (f : ℕ → s.Account → List Register) (xs : List Account) (i : ℕ) (now all : List Register) → length xs ≤ i → now ++ of_accounts f (suc i) (map account_of (drop i xs)) ≡ all → now ≡ all
accounts_end f xs i now all outside so_far =
    sym (append-nil now) ∙ ap (λ (z : List Account). now ++ of_accounts f (suc i) (map account_of z)) (sym (none_past xs i outside)) ∙ so_far

-- ---- contracts

pub all_codes : (cs : List Contract) → map code_of cs ≡ map code_register (map contract_of cs)
all_codes cs = map_both code_register contract_of cs

pub all_values : (cs : List Contract) → flat_map fields_of cs ≡ flat_map (fields_registers coding) (map contract_of cs)
all_values [] = refl
all_values (c ∷ cs) = ap (λ (xs : List Register). fields_of c ++ xs) (all_values cs)

abbrev pub contents : TypeId → List Place → List Register
contents id ps = map (fields_register id) (row_values (pure_row ps))

pub one_content : (id : TypeId) (v : PlaceView) (rest : r.Row) → map (fields_register id) (row_values (before v rest)) ≡ place_fields id v ++ map (fields_register id) (row_values rest)
one_content id vacant rest = refl
one_content id (taken l t) rest = refl

pub contents_turn : (id : TypeId) (ps : List Place) (i : ℕ) (p : Place) (now new all : List Register) → i < length ps → p ≡ get_or ps i p → now ++ contents id (drop i ps) ≡ all → new ≡ now ++ place_fields id (pure_place p) → new ++ contents id (drop (suc i) ps) ≡ all
contents_turn id ps i p now new all inside is so_far grown =
    let rest = pure_row (drop (suc i) ps) in
    let here = place_fields id (pure_place p) in
    ap (λ z. z ++ map (fields_register id) (row_values rest)) grown
    ∙ append_assoc now here (map (fields_register id) (row_values rest))
    ∙ ap (λ z. now ++ z) (sym (one_content id (pure_place p) rest) ∙ ap (λ (q : r.Row). map (fields_register id) (row_values q)) (sym (from_there ps i p inside is)))
    ∙ so_far

pub contents_end : (id : TypeId) (ps : List Place) (i : ℕ) (now all : List Register) → length ps ≤ i → now ++ contents id (drop i ps) ≡ all → now ≡ all
contents_end id ps i now all outside so_far =
    sym (append-nil now) ∙ ap (λ (q : r.Row). now ++ map (fields_register id) (row_values q)) (sym (past ps i outside)) ∙ so_far

-- ---- all kinds

pub joined : (a b c d e f g : List Register) → (((((a ++ b) ++ c) ++ d) ++ e) ++ f) ++ g ≡ a ++ (b ++ (c ++ (d ++ (e ++ (f ++ g)))))
joined a b c d e f g = simp append_assoc

-- what is appended for each kind
pub record AreAppended (r0 r1 r2 r3 r4 r5 r6 a b c d e f : List Register) : Type 0 where
  pub next : r1 ≡ r0 ++ a
  pub codes : r2 ≡ r1 ++ b
  pub values : r3 ≡ r2 ++ c
  pub stored : r4 ≡ r3 ++ d
  pub published : r5 ≡ r4 ++ e
  pub controlled : r6 ≡ r5 ++ f

pub all_appended : (r0 r1 r2 r3 r4 r5 r6 a b c d e f : List Register) → AreAppended r0 r1 r2 r3 r4 r5 r6 a b c d e f → r6 ≡ r0 ++ (a ++ (b ++ (c ++ (d ++ (e ++ f)))))
all_appended r0 r1 r2 r3 r4 r5 r6 a b c d e f w =
    let e2 : r2 ≡ (r0 ++ a) ++ b = w.codes ∙ ap (λ (z : List Register). z ++ b) w.next in
    let e4 : r4 ≡ (((r0 ++ a) ++ b) ++ c) ++ d = w.stored ∙ ap (λ (z : List Register). z ++ d) (w.values ∙ ap (λ (z : List Register). z ++ c) e2) in
    w.controlled ∙ ap (λ (z : List Register). z ++ f) (w.published ∙ ap (λ (z : List Register). z ++ e) e4)
    ∙ joined r0 a b c d e f

-- of these accounts and contracts
abbrev pub AreWritten : List Account → List Contract → (r0 r1 r2 r3 r4 r5 r6 : List Register) → Type 0
AreWritten accounts contracts r0 r1 r2 r3 r4 r5 r6 =
    let all = map account_of accounts in
    AreAppended r0 r1 r2 r3 r4 r5 r6 (of_accounts next_register 1 all) (map code_of contracts) (flat_map fields_of contracts) (of_accounts (stored_registers coding) 1 all) (of_accounts (published_registers coding) 1 all) (of_accounts (controller_registers coding) 1 all)

-- the registers of a World, one kind behind another
pub all_kinds : (accounts kept : List Account) (contracts held : List Contract) (count identity : ℕ) (r0 r1 r2 r3 r4 r5 r6 : List Register) → accounts ≡ kept → contracts ≡ held → count ≡ length accounts → r0 ≡ head count identity
    → AreWritten accounts contracts r0 r1 r2 r3 r4 r5 r6
    → r6 ≡ registers coding (record { accounts = map account_of kept; contracts = map contract_of held; next_identity = identity })
all_kinds accounts kept contracts held count identity r0 r1 r2 r3 r4 r5 r6 same there counted e0 w =
    let all = map account_of accounts in
    let a = of_accounts next_register 1 all in
    let d = of_accounts (stored_registers coding) 1 all in
    let e = of_accounts (published_registers coding) 1 all in
    let f = of_accounts (controller_registers coding) 1 all in
    all_appended r0 r1 r2 r3 r4 r5 r6 a (map code_of contracts) (flat_map fields_of contracts) d e f w
    ∙ ap (λ (z : List Register). z ++ (a ++ (map code_of contracts ++ (flat_map fields_of contracts ++ (d ++ (e ++ f)))))) (e0 ∙ ap (λ (n : ℕ). head n identity) (counted ∙ sym (length-map accounts account_of)))
    ∙ (λ i. head (length all) identity ++ (a ++ (all_codes contracts i ++ (all_values contracts i ++ (d ++ (e ++ f))))))
    ∙ (λ i. registers coding (record { accounts = map account_of (same i); contracts = map contract_of (there i); next_identity = identity }))

-- ---- of some kinds

pub of_count : (result : Result (Vec Row Global) AllocError) (w : s.World) (accounts : List Account) (count identity : ℕ) → count ≡ length accounts → w.accounts ≡ map account_of accounts → w.next_identity ≡ identity
    → IfOk result (λ rows. map register_of rows.items ≡ head count identity) → IfOk result (λ rows. map register_of rows.items ≡ head_registers w)
of_count result w accounts count identity counted are next h =
    let n : count ≡ length w.accounts = counted ∙ sym (length-map accounts account_of) ∙ ap length (sym are) in
    subst (λ (xs : List Register). IfOk result (λ rows. map register_of rows.items ≡ xs)) (λ i. head (n i) (sym next i)) h

pub of_contracts : (contracts kept : List Contract) (r0 r1 r2 : List Register) → contracts ≡ kept → r0 ≡ [] → r1 ≡ r0 ++ map code_of contracts → r2 ≡ r1 ++ flat_map fields_of contracts
    → r2 ≡ map code_register (map contract_of kept) ++ flat_map (fields_registers coding) (map contract_of kept)
of_contracts contracts kept r0 r1 r2 same none codes values =
    values
    ∙ ap (λ (z : List Register). z ++ flat_map fields_of contracts) (codes ∙ ap (λ (z : List Register). z ++ map code_of contracts) none)
    ∙ (λ i. all_codes contracts i ++ all_values contracts i)
    ∙ ap (λ (cs : List Contract). map code_register (map contract_of cs) ++ flat_map (fields_registers coding) (map contract_of cs)) same

-- ---- of what is known of a World

-- those of known accounts and of contracts
abbrev pub KnownAppended : List Known → List Contract → (r0 r1 r2 r3 r4 r5 r6 : List Register) → Type 0
KnownAppended known contracts r0 r1 r2 r3 r4 r5 r6 =
    AreAppended r0 r1 r2 r3 r4 r5 r6 (flat_map (known_section section.Next) known) (map code_of contracts) (flat_map fields_of contracts) (flat_map (known_section section.Stored) known) (flat_map (known_section section.Published) known) (flat_map (known_section section.Controllers) known)

pub part_kinds : (x : WorldPart) (known : List Known) (contracts : List Contract) (r0 r1 r2 r3 r4 r5 r6 : List Register) → known ≡ x.known.items → contracts ≡ x.contracts.items → r0 ≡ head x.count x.next_identity
    → KnownAppended known contracts r0 r1 r2 r3 r4 r5 r6 → r6 ≡ part_registers x
part_kinds x known contracts r0 r1 r2 r3 r4 r5 r6 same there e0 w =
    let a = flat_map (known_section section.Next) in
    let d = flat_map (known_section section.Stored) in
    let e = flat_map (known_section section.Published) in
    let f = flat_map (known_section section.Controllers) in
    all_appended r0 r1 r2 r3 r4 r5 r6 (a known) (map code_of contracts) (flat_map fields_of contracts) (d known) (e known) (f known) w
    ∙ (λ i. e0 i ++ (a (same i) ++ (map code_of (there i) ++ (flat_map fields_of (there i) ++ (d (same i) ++ (e (same i) ++ f (same i)))))))
    ∙ (λ i. head x.count x.next_identity ++ (a x.known.items ++ (all_codes x.contracts.items i ++ (all_values x.contracts.items i ++ (d x.known.items ++ (e x.known.items ++ f x.known.items))))))
