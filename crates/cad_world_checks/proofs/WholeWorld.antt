-- The contracts of a World, and the World, part by part.
use Rattle.std.proofs.Common.{◌≡◌, ◌↔◌, ◌≤◌, ℕ, Bool, true, false, IsTrue, List, [], ◌∷◌, length, get_or, All, Option, Some, None, refl, sym, ap, subst, ◌∙◌, append-nil, arith}
use Rattle.std.specs.List.{AllByRecursion, flat_map}
use Rattle.std.specs.Prelude.{◌==◌, ◌&&◌, ◌||◌, nat_lt}
use Rattle.std.proofs.lemmas.Bool.{false≢true}
use Rattle.std.proofs.lemmas.List.Elements.{recursion_from_All, All-from_recursion}
use Rattle.cad_rows.specs.Views.{PlaceView, vacant, taken, before, pure_row, pure_place}
use Rattle.cad_rows.specs.declared.tree.Place.{Place}
use Rattle.cad_syntax.proofs.Same.{ids_tell}
use Rattle.cad_syntax.specs.declared.text.Name.{Name}
use Rattle.cad_syntax.specs.declared.type_id.TypeId.{TypeId}
use Rattle.cad_values.specs.Fits as of
use Rattle.cad_values.specs.Shapes.{Shapes}
use Rattle.cad_world.specs.Fits.{Lasts}
use Rattle.cad_world.specs.Live.{live}
use Rattle.cad_world.specs.Orders.{rises, text_before, contract_before}
use Rattle.cad_world.specs.Rows.{Row, Tree, stop}
use Rattle.cad_world.specs.Shapes.{shapes}
use Rattle.cad_world.specs.Sound.{SoundAccount, SoundContract, HasOneName, IsValueOf, most_accounts, most_next}
use Rattle.cad_world.specs.State.{Account, Contract, World}
use Rattle.cad_world.specs.Trees.{value_of}
use Rattle.cad_world_checks.specs.Checks.{HoldsContract, first_text, named_before, IsContractId, is_id, StandsThere, SoundContracts}
use Rattle.cad_world_checks.specs.Identities.{AreOwn}
use Rattle.cad_worlds.specs.Standing.{any_accepted, IsSoundButCode}

-- ---- contracts

pub contract_place : (b : Bool) (k : Shapes) (id : TypeId) (l : List ℕ) (t : Tree) → l ≡ [] → (IsTrue b ↔ (of.FitsContract k (value_of t) id × Lasts k t)) → IsTrue b ↔ HoldsContract k id (taken l t)
contract_place b k id l t bare tells = ((λ h. let f = tells.0 h in (bare, f.0, f.1)), (λ held. tells.1 (held.1, held.2)))

-- one place, which holds the value
pub one_held : (k : Shapes) (id : TypeId) (v : PlaceView) → IsValueOf k id (before v stop) ↔ HoldsContract k id v
one_held k id vacant = ((λ h. h), (λ h. h))
one_held k id (taken [] t) = ((λ h. (refl, h.0, h.1)), (λ h. (h.1, h.2)))
one_held k id (taken (l ∷ ls) t) = ((λ h. absurd h), (λ h. let wrong : (l ∷ ls) ≡ [] = h.0 in absurd cc))

two_held : (k : Shapes) (id : TypeId) (v w : PlaceView) (r : Row) → IsValueOf k id (before v (before w r)) → ⊥
two_held k id vacant w r h = h
two_held k id (taken (l ∷ ls) t) w r h = h
two_held k id (taken [] t) vacant r h = h
two_held k id (taken [] t) (taken m u) r h = h

pub one_place : (k : Shapes) (id : TypeId) (ps : List Place) → IsValueOf k id (pure_row ps) → length ps ≡ 1
one_place k id [] h = absurd h
one_place k id (p ∷ []) h = refl
one_place k id (p ∷ q ∷ ps) h = absurd (two_held k id (pure_place p) (pure_place q) (pure_row ps) h)

pub value_held : (b : Bool) (k : Shapes) (id : TypeId) (ps : List Place) (p : Place) → length ps ≡ 1 → p ≡ get_or ps 0 p → (IsTrue b ↔ HoldsContract k id (pure_place p)) → IsTrue b ↔ IsValueOf k id (pure_row ps)
value_held b k id [] p one is tells = absurd (omega (arith, one))
value_held b k id (q ∷ r ∷ ps) p one is tells = absurd (omega (arith, one))
value_held b k id (q ∷ []) p one is tells =
    let held = one_held k id (pure_place q) in
    let same = subst (λ (r : Place). IsTrue b ↔ HoldsContract k id (pure_place r)) is tells in
    ((λ h. held.1 (same.0 h)), (λ h. same.1 (held.0 h)))

pub one_name : (ns : List Name) → HasOneName ns → length ns ≡ 1
one_name [] h = absurd h
one_name (n ∷ []) h = refl
one_name (n ∷ m ∷ ns) h = absurd h

pub name_one : (ns : List Name) → length ns ≡ 1 → HasOneName ns
name_one [] e = absurd (omega (arith, e))
name_one (n ∷ []) e = tt
name_one (n ∷ m ∷ ns) e = absurd (omega (arith, e))

pub id_so : (b : Bool) (count : ℕ) (id : TypeId) (ns : List Name) → 1 ≤ id.address.0 → id.address.0 ≤ count → ns ≡ id.names → (IsTrue b ↔ (length ns ≡ 1)) → IsTrue b ↔ IsContractId count id
id_so b count id ns from_one there same tells = (
  (λ h. (from_one, there, subst HasOneName same (name_one ns (tells.0 h)))),
  (λ i. tells.1 (one_name ns (subst HasOneName (sym same) i.2))),
)

is_that : (o : Option TypeId) (id : TypeId) → is_id o id ≡ true → o ≡ Some id
is_that None id e = absurd cc
is_that (Some own) id e = ap (λ (i : TypeId). Some i) ((ids_tell own id).0 e)

that_is : (o : Option TypeId) (id : TypeId) → o ≡ Some id → is_id o id ≡ true
that_is o id e = ap (λ (p : Option TypeId). is_id p id) e ∙ (ids_tell id id).1 refl

pub program_so : (b : Bool) (o : Option TypeId) (id : TypeId) → b ≡ is_id o id → b ≡ true → o ≡ Some id
program_so b o id e holds = is_that o id (sym e ∙ holds)

pub no_program : (b : Bool) (o : Option TypeId) (id : TypeId) → b ≡ is_id o id → b ≡ false → o ≡ Some id → ⊥
no_program b o id e refuses same = false≢true (sym refuses ∙ e ∙ that_is o id same)

pub contract_so : (b : Bool) (k : Shapes) (count : ℕ) (c : Contract) → c.is_running ≡ false → IsContractId count c.id → c.program.tables.contract ≡ Some c.id → (IsTrue b ↔ IsValueOf k c.id c.value) → IsTrue b ↔ StandsThere k count c
contract_so b k count c stands id is tells = ((λ h. record { stands = stands; id = id; is_contract = is; value = tells.0 h }), (λ s. tells.1 s.value))

-- ---- the order of contracts

first_is : (ns : List Name) → HasOneName ns → flat_map (λ n. n.0) ns ≡ first_text ns
first_is [] h = absurd h
first_is (n ∷ []) h = append-nil n.0
first_is (n ∷ m ∷ ns) h = absurd h

order_is : (k : Shapes) (count : ℕ) (c d : Contract) → StandsThere k count c → StandsThere k count d → contract_before c d ≡ named_before c d
order_is k count c d s t =
    λ i. nat_lt c.id.address.0 d.id.address.0 || ((c.id.address.0 == d.id.address.0) && text_before (first_is c.id.names s.id.2 i) (first_is d.id.names t.id.2 i))

rise_same : (k : Shapes) (count : ℕ) (cs : List Contract) → AllByRecursion (StandsThere k count) cs → rises contract_before cs ≡ rises named_before cs
rise_same k count [] s = refl
rise_same k count (c ∷ []) s = refl
rise_same k count (c ∷ d ∷ cs) s = λ i. order_is k count c d s.0 s.1.0 i && rise_same k count (d ∷ cs) s.1 i

pub contracts_so : (b : Bool) (k : Shapes) (count : ℕ) (cs : List Contract) → All (StandsThere k count) cs → b ≡ rises named_before cs → IsTrue b ↔ SoundContracts k count cs
contracts_so b k count cs s e =
    let same = rise_same k count cs (recursion_from_All (StandsThere k count) cs s) in
    ((λ h. (same ∙ sym e ∙ h, s)), (λ p. e ∙ sym same ∙ p.0))

-- ---- the World

to_sound : (w : World) (c : Contract) → StandsThere (shapes w.contracts) (length w.accounts) c → SoundContract any_accepted w c
to_sound w c s = record { from_one = s.id.0; there = s.id.1; name = s.id.2; accepted = tt; is_contract = s.is_contract; value = s.value; stands = s.stands }

to_there : (w : World) (c : Contract) → SoundContract any_accepted w c → StandsThere (shapes w.contracts) (length w.accounts) c
to_there w c s = record { stands = s.stands; id = (s.from_one, s.there, s.name); is_contract = s.is_contract; value = s.value }

each : {A : Type 0} (P Q : A → Type 0) → ((a : A) → P a → Q a) → (xs : List A) → AllByRecursion P xs → AllByRecursion Q xs
each P Q f [] s = tt
each P Q f (x ∷ xs) s = (f x s.0, each P Q f xs s.1)

all_each : {A : Type 0} (P Q : A → Type 0) → ((a : A) → P a → Q a) → (xs : List A) → All P xs → All Q xs
all_each P Q f xs s = All-from_recursion Q xs (each P Q f xs (recursion_from_All P xs s))

pub contracts_there : (w : World) → IsSoundButCode w → SoundContracts (shapes w.contracts) (length w.accounts) w.contracts
contracts_there w s = (s.contracts_rise, all_each (SoundContract any_accepted w) (StandsThere (shapes w.contracts) (length w.accounts)) (to_there w) w.contracts s.contracts)

-- all but the identities that live
pub record StandsBut (w : World) : Type 0 where
  pub few : length w.accounts ≤ most_accounts
  pub from_one : 1 ≤ w.next_identity
  pub next : w.next_identity ≤ most_next
  pub first : length w.accounts ≡ 0 → w.next_identity ≡ 1
  pub contracts : SoundContracts (shapes w.contracts) (length w.accounts) w.contracts
  pub accounts : All (SoundAccount (shapes w.contracts)) w.accounts

pub judged : (b : Bool) (w : World) → StandsBut w → (IsTrue b ↔ AreOwn w.next_identity (live w)) → IsTrue b ↔ IsSoundButCode w
judged b w s tells = (
  (λ h. let own = tells.0 h in record {
    few = s.few;
    accounts = s.accounts;
    contracts_rise = s.contracts.0;
    contracts = all_each (StandsThere (shapes w.contracts) (length w.accounts)) (SoundContract any_accepted w) (to_sound w) w.contracts s.contracts.1;
    identities = own.0;
    given = own.1;
    from_one = s.from_one;
    next = s.next;
    first = λ e. s.first (ap length e);
  }),
  (λ sound. tells.1 (sound.identities, sound.given)),
)

no_accounts : (all : List Account) → length all ≡ 0 → all ≡ []
no_accounts [] e = refl
no_accounts (a ∷ all) e = absurd (omega (arith, e))

pub first_there : (w : World) → IsSoundButCode w → length w.accounts ≡ 0 → w.next_identity ≡ 1
first_there w s e = s.first (no_accounts w.accounts e)

-- ---- the same of the World's own accounts and contracts

pub contracts_known : (b : Bool) (k : Shapes) (count : ℕ) (cs : List Contract) (w : World) → k ≡ shapes w.contracts → count ≡ length w.accounts → cs ≡ w.contracts → (IsTrue b ↔ SoundContracts k count cs)
    → IsTrue b ↔ SoundContracts (shapes w.contracts) (length w.accounts) w.contracts
contracts_known b k count cs w known counted same tells =
    subst (λ (ds : List Contract). IsTrue b ↔ SoundContracts (shapes w.contracts) (length w.accounts) ds) same
    (subst (λ (n : ℕ). IsTrue b ↔ SoundContracts (shapes w.contracts) n cs) counted (subst (λ (j : Shapes). IsTrue b ↔ SoundContracts j count cs) known tells))

pub accounts_known : (b : Bool) (k : Shapes) (all : List Account) (w : World) → k ≡ shapes w.contracts → all ≡ w.accounts → (IsTrue b ↔ All (SoundAccount k) all) → IsTrue b ↔ All (SoundAccount (shapes w.contracts)) w.accounts
accounts_known b k all w known same tells =
    subst (λ (xs : List Account). IsTrue b ↔ All (SoundAccount (shapes w.contracts)) xs) same (subst (λ (j : Shapes). IsTrue b ↔ All (SoundAccount j) all) known tells)

pub own_known : (b : Bool) (next : ℕ) (xs ys : List ℕ) → xs ≡ ys → (IsTrue b ↔ AreOwn next xs) → IsTrue b ↔ AreOwn next ys
own_known b next xs ys same tells = subst (λ (zs : List ℕ). IsTrue b ↔ AreOwn next zs) same tells
