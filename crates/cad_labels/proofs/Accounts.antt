-- Labels as values are saved, loaded and copied, and as contracts are installed.
use Rattle.std.proofs.Common.{◌≡◌, ℕ, suc, ◌+◌, ◌-◌, ◌≤◌, Bool, true, false, if◌then◌else◌, List, [], ◌∷◌, ◌++◌, map, length, Option, Some, None, option_and_then, refl, arith}
use Rattle.std.specs.Option.{is_some}
use Rattle.cad_syntax.specs.TypeIds.{same_id}
use Rattle.cad_syntax.specs.Types.{PureType}
use Rattle.cad_syntax.specs.declared.address.Address.{Address}
use Rattle.cad_syntax.specs.declared.address.Domain.{Domain}
use Rattle.cad_syntax.specs.declared.address.Domain.TheVariants as d
use Rattle.cad_syntax.specs.declared.text.Name.{Name}
use Rattle.cad_syntax.specs.declared.type_id.TypeId.{TypeId}
use Rattle.cad_declarations.specs.Typed.{FunctionBody}
use Rattle.cad_types.specs.Below.{below}
use Rattle.cad_world.specs.Declared.{declarations, bodies_of}
use Rattle.cad_world.specs.Labels.{account_at, stored_slot, with_account, position_of, value_in}
use Rattle.cad_world.specs.Marks.{AreGivenOnce}
use Rattle.cad_world.specs.OwnTypes.{own_type}
use Rattle.cad_world.specs.Rows.{Row, Tree, Slot, out, free, full}
use Rattle.cad_world.specs.State.{Account, Contract, State, Action, give, done}
use Rattle.cad_world.specs.Trees.{nil_tree, wrapped, tree_weight}
use Rattle.cad_evaluation.specs.Accounts.{there}
use Rattle.cad_evaluation.specs.Adding.{own_entry, entry_members, with_empty_value, begin_contract, stands_now, is_whole, finish_contract, initialize_contract}
use Rattle.cad_evaluation.specs.Arguments.{argument, with_argument, identifier_in, with_identifier}
use Rattle.cad_evaluation.specs.Callees.{initializer, Calls}
use Rattle.cad_evaluation.specs.Casts.{with_type}
use Rattle.cad_evaluation.specs.Making.{field_names, initialized, initializer_of}
use Rattle.cad_evaluation.specs.Storage.{without_place, without, paid_parts, of_stored_type, saved, save, loaded, load, copy_of, copy}
use Rattle.cad_labels.specs.Laws.{Follows, HasNone, HasNoneInRow, Keeps, AnyOne, CalleesKeep, LoadingKeeps, InstallingKeeps}
use Rattle.cad_labels.proofs.Marks.{mark, mark_cut, mark_empty}
use Rattle.cad_labels.proofs.States.{contract_rows, total}
use Rattle.cad_labels.proofs.Keeping.{keeps_bind, fewer_stand, next_stands}
use Rattle.cad_labels.proofs.Places.{bare_has_none}
use Rattle.cad_labels.proofs.Frames.{account_total, storing_keeps}
use Rattle.cad_labels.proofs.Forms.{keeps_give, keeps_done, keeps_fail, keeps_stuck, keeps_guard, keeps_require, keeps_some, keeps_or_fail, keeps_spend, keeps_within, argument_none}
use Rattle.cad_labels.proofs.Members.{copied_keeps}

-- ---- forms

pub type_keeps : {A : Type 0} (P : A → Type 0) (t : Tree) (f : PureType → Action A) → ((own : PureType) → Keeps P (f own)) → Keeps P (with_type t f)
type_keeps P t f h = λ s once. keeps_or_fail P 113 (own_type s t) f h s once

pub stored_type_keeps : {A : Type 0} (P : A → Type 0) (type : PureType) (t : Tree) (p : Action A) → Keeps P p → Keeps P (of_stored_type type t p)
stored_type_keeps P type t p h = type_keeps P t _ (λ own s once. keeps_require P 112 (below (declarations s) own type) p h s once)

pub there_keeps : (a : Address) (p : Action Tree) → Keeps HasNone p → Keeps HasNone (there a p)
there_keeps a p h = λ s once. keeps_guard HasNone (is_some (account_at s.accounts a.0)) p h s once

pub with_argument_keeps : (r : Row) (f : Tree → Action Tree) → HasNoneInRow r → ((t : Tree) → HasNone t → Keeps HasNone (f t)) → Keeps HasNone (with_argument r f)
with_argument_keeps r f none h = keeps_within HasNone HasNone (argument 0 r) f (argument_none 0 r none) h

pub identifier_keeps : (domain : Domain) (i : ℕ) (r : Row) (f : Name → Action Tree) → ((n : Name) → Keeps HasNone (f n)) → Keeps HasNone (with_identifier domain i r f)
identifier_keeps domain i r f h = keeps_some HasNone (option_and_then (identifier_in domain) (argument i r)) f h

-- ---- values are saved

parts_keep : (t : Tree) → Keeps AnyOne (paid_parts t)
parts_keep t = keeps_spend (tree_weight t - 1)

saved_keeps : (a : Address) (name : Name) (t : Tree) (o : Slot) → HasNone t → Keeps HasNone (saved a name t o)
saved_keeps a name t (full old) none = keeps_fail HasNone 111
saved_keeps a name t out none = keeps_bind AnyOne HasNone (paid_parts t) _ (parts_keep t) (λ u h s once. ((λ p. refl), storing_keeps a.0 name t none s once))
saved_keeps a name t free none = keeps_stuck HasNone

pub save_keeps : (r : Row) (a : Address) → HasNoneInRow r → Keeps HasNone (save r a)
save_keeps r a none = there_keeps a _ (with_argument_keeps r _ none (λ t h. identifier_keeps d.Storage 1 r _ (λ name s once. saved_keeps a name t (stored_slot s a.0 name) h s once)))

-- ---- and loaded

place_gone : (p : ℕ) (o : Option ℕ) (x : Account) → mark p (without_place o x).stored ≤ mark p x.stored
place_gone p None x = omega arith
place_gone p (Some i) x = mark_cut p i x.stored

gone_stands : (a : ℕ) (name : Name) (s : State) → AreGivenOnce s → Follows s (with_account a (without name) s)
gone_stands a name s once = fewer_stand s (with_account a (without name) s) refl
    (λ p. omega (arith, account_total p 0 (without name) a s.accounts (λ x. omega (arith, place_gone p (position_of name x.identifiers) x)))) once

loaded_keeps : (a : Address) (name : Name) (type : PureType) (o : Slot) → Keeps HasNone (loaded a name type o)
loaded_keeps a name type (full t) = stored_type_keeps HasNone type t _ (keeps_bind AnyOne HasNone (paid_parts t) _ (parts_keep t)
    (λ u h s once. (bare_has_none t, gone_stands a.0 name s once)))
loaded_keeps a name type out = keeps_give HasNone nil_tree (λ p. refl)
loaded_keeps a name type free = keeps_stuck HasNone

pub load_keeps : (type : PureType) (r : Row) (a : Address) → Keeps HasNone (load type r a)
load_keeps type r a = identifier_keeps d.Storage 0 r _ (λ name s once. loaded_keeps a name type (stored_slot s a.0 name) s once)

-- ---- and copied

copy_of_keeps : (type : PureType) (o : Slot) → Keeps HasNone (copy_of type o)
copy_of_keeps type (full t) = stored_type_keeps HasNone type t _ (keeps_bind HasNone HasNone _ _ (copied_keeps t)
    (λ c h. keeps_bind AnyOne HasNone (paid_parts t) (λ u. give (wrapped c)) (parts_keep t) (λ u w. keeps_give HasNone (wrapped c) h)))
copy_of_keeps type out = keeps_give HasNone nil_tree (λ p. refl)
copy_of_keeps type free = keeps_stuck HasNone

pub copy_keeps : (type : PureType) (r : Row) (a : Address) → Keeps HasNone (copy type r a)
copy_keeps type r a = identifier_keeps d.Storage 0 r _ (λ name s once. copy_of_keeps type (stored_slot s a.0 name) s once)

pub loading_keeps : LoadingKeeps
loading_keeps r a = (save_keeps r a, (λ type. load_keeps type r a), (λ type. copy_keeps type r a))

-- ---- contracts

contracts_more : (p : ℕ) (c : Contract) (all : List Contract) → total p (contract_rows (all ++ c ∷ [])) ≡ total p (contract_rows all) + mark p c.value
contracts_more p c [] = omega arith
contracts_more p c (x ∷ all) = omega (arith, contracts_more p c all)

begin_contract_keeps : (c : Contract) → Keeps AnyOne (begin_contract c)
begin_contract_keeps c = λ s once. (
  tt,
  next_stands s (record s { contracts = s.contracts ++ with_empty_value s.next_label c ∷ []; next_label = suc s.next_label }) refl
      (λ p. omega (
        arith,
        contracts_more p (with_empty_value s.next_label c) s.contracts,
        mark_empty p (length (field_names (entry_members (own_entry c.id c.program)))),
      )) once,
)

pub initialized_keeps : (calls : Calls) → CalleesKeep calls → (id : TypeId) (l : ℕ) (r : Row) (o : Option FunctionBody) → HasNoneInRow r → Keeps AnyOne (initialized calls id l r o)
initialized_keeps calls keep id l r None none = keeps_done
initialized_keeps calls keep id l r (Some body) none = keeps_bind HasNone AnyOne (calls (initializer id l) r) (λ t. done) (keep (initializer id l) r none) (λ t h. keeps_done)

value_stays : (p : ℕ) (id : TypeId) (b : Bool) (c : Contract) → mark p (if b then record c { is_running = false } else c).value ≡ mark p c.value
value_stays p id true c = refl
value_stays p id false c = refl

contracts_stay : (p : ℕ) (id : TypeId) (all : List Contract) → total p (contract_rows (map (stands_now id) all)) ≡ total p (contract_rows all)
contracts_stay p id [] = refl
contracts_stay p id (c ∷ all) = omega (arith, value_stays p id (same_id c.id id) c, contracts_stay p id all)

finish_contract_keeps : (id : TypeId) → Keeps HasNone (finish_contract id)
finish_contract_keeps id = λ s once. keeps_guard HasNone (is_whole (value_in s.contracts id)) _ (λ s once. (
  (λ p. refl),
  fewer_stand s (record s { contracts = map (stands_now id) s.contracts; added = s.added ++ id ∷ [] }) refl (λ p. omega (arith, contracts_stay p id s.contracts)) once,
)) s once

pub installing_keeps : InstallingKeeps
installing_keeps calls c r keep none = keeps_bind AnyOne HasNone _ _
    (keeps_bind AnyOne AnyOne (begin_contract c) (initialize_contract calls c.id r) (begin_contract_keeps c)
    (λ l u s once. initialized_keeps calls keep c.id l r (initializer_of (bodies_of s c.id)) none s once))
    (λ u w. finish_contract_keeps c.id)
