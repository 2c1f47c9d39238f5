-- Labels as places are named, emptied and filled.
use Rattle.cad_labels.proofs.Keeping.{stays}
use Rattle.std.proofs.Common.{◌≡◌, ℕ, zero, suc, ◌-◌, ◌≤◌, ◌==◌, nat_le, Bool, true, false, not, cond, List, [], ◌∷◌, ◌++◌, map, length, Option, Some, None, refl, sym, ap, ◌∙◌, arith}
use Rattle.cad_syntax.specs.Types.{PureType}
use Rattle.cad_syntax.specs.declared.text.Name.{Name}
use Rattle.cad_syntax.specs.declared.type_id.TypeId.{TypeId}
use Rattle.cad_syntax.specs.declared.types.Authorization.{Authorization}
use Rattle.cad_types.specs.Below.{below}
use Rattle.std.specs.Option.{is_some}
use Rattle.cad_values.specs.Fits.{most_elements}
use Rattle.cad_values.specs.Sizes.{most_high}
use Rattle.cad_values.specs.Values.{PureValue, nil}
use Rattle.cad_values.specs.Values as v
use Rattle.cad_values.specs.declared.value.Target.{Target}
use Rattle.cad_values.specs.declared.value.Target.TheVariants as to
use Rattle.cad_world.specs.Begin.{begun, kept_account, kept_contract}
use Rattle.cad_world.specs.Declared.{declarations}
use Rattle.cad_world.specs.Labels.{at, with_node, stored_slot, variables}
use Rattle.cad_world.specs.Locations.{Location, variable, contract, stored, receiver, part, element, entry, key_position, with_found, or_out_of_bounds, element_of, entry_of_key, slot_of, empty_error, absent, as_read, read_slot, read, changed_at, name}
use Rattle.cad_world.specs.Marks.{marks, AreGivenOnce}
use Rattle.cad_world.specs.OwnTypes.{own_type, controller_at}
use Rattle.cad_world.specs.Receivers.{standing, through, spot_at, stored_spot, spot_by, plain_spot, deref}
use Rattle.cad_world.specs.Receivers as receivers
use Rattle.cad_world.specs.Rows.{NodeShape, plain, link, array, dictionary, composite, Row, stop, gap, node, Tree, Slot, out, free, full, slot, put, clear, cut, front, back, add_last, named, bare, bare_tree, empty_places, is_full, tree_owns, owns, count_places, Found}
use Rattle.cad_world.specs.State.{Account, Contract, State, ok, Action, ◌>>=◌, give, spend, paid}
use Rattle.cad_world.specs.Transfers.{charged, transferred}
use Rattle.cad_world.specs.Trees.{tree_of, tree_height, tree_weight}
use Rattle.cad_evaluation.specs.Changing.{content_in_value, content_in_shape, content_in, by_content, opened, nothing_there, take_slot, take, put_at, fill_variable, fill_part, fill_place, element_type, fill_element, fill_key, drop_key, fill_entry, cleared, empty_if_nil, same_location, still_there}
use Rattle.cad_evaluation.specs.Containers.{of_type, without_key}
use Rattle.cad_evaluation.specs.Making.{begin, finished, finish}
use Rattle.cad_labels.specs.Laws.{Follows, HasNone, Gives, Keeps, AnyOne, BeginsWithout, NamingKeeps, LooksKeep, TakingKeeps, FillingKeeps, AssigningKeeps, ExchangingKeeps, SwappingKeeps, EndingKeeps, MakingKeeps}
use Rattle.cad_labels.proofs.Marks.{mark, marks_mark, found_mark, gained, mark_put, mark_clear, mark_cut, mark_front, mark_last, mark_bare, mark_empty, mark_named}
use Rattle.cad_labels.proofs.States.{account_rows, contract_rows, total, labels_whole, node_changed}
use Rattle.cad_labels.proofs.Keeping.{keeps_bind, gives_guard, gives_require, gives_choose, gives_or_fail, stands_once, fewer_stand, next_stands, place_changed, place_next}

-- ---- names

named_gives : (x : Location) (s : State) → AreGivenOnce s → Follows s (changed_at (λ i. named i s.next_label) x (record s { next_label = suc s.next_label }))
named_gives x s once = next_stands s (changed_at (λ i. named i s.next_label) x (record s { next_label = suc s.next_label }))
    (place_next (λ i. named i s.next_label) x (record s { next_label = suc s.next_label }))
    (λ p. place_changed p (cond (s.next_label == p) 1 0) (λ i. named i s.next_label) (λ i r. mark_named p s.next_label i r) x (record s { next_label = suc s.next_label }) (stands_once s once)) once

pub naming_keeps : NamingKeeps
naming_keeps (receiver l) = λ s once. (tt, stays s once)
naming_keeps (variable x) = λ s once. (tt, named_gives (variable x) s once)
naming_keeps (contract id) = λ s once. (tt, named_gives (contract id) s once)
naming_keeps (stored a n) = λ s once. (tt, named_gives (stored a n) s once)
naming_keeps (part l i) = λ s once. (tt, named_gives (part l i) s once)
naming_keeps (element l i) = λ s once. (tt, named_gives (element l i) s once)
naming_keeps (entry l k) = λ s once. (tt, named_gives (entry l k) s once)

-- ---- what changes no row

pub found_keeps : {A : Type 0} (P : A → Type 0) (l : ℕ) (f : Found → Action A) → ((x : Found) → Keeps P (f x)) → Keeps P (with_found l f)
found_keeps P l f h = λ s once. gives_or_fail P 113 (at l s) f s (λ x e. h x s once)

pub spot_keeps : (rights : Option Authorization) (l n : ℕ) → Keeps AnyOne (spot_at rights l n)
spot_keeps rights l n = found_keeps AnyOne l _ (λ f s once. (tt, stays s once))

stored_keeps : (a : Authorization) (type : PureType) (x : Location) (o : Slot) → Keeps AnyOne (stored_spot a type x o)
stored_keeps a type x out = λ s once. tt
stored_keeps a type x free = λ s once. tt
stored_keeps a type x (full t) = λ s once. gives_or_fail AnyOne 113 (own_type s t) _ s (λ own e. gives_require AnyOne 114 (below (declarations s) own type) _ s
    (keeps_bind AnyOne AnyOne (name x) _ (naming_keeps x) (λ l u. spot_keeps (Some a) l t.optionals) s once))

by_keeps : (a : Authorization) (type : PureType) (own : PureValue) (target : Target) → Keeps AnyOne (spot_by a type own target)
by_keeps a type own (to.Node l) = λ s once. tt
by_keeps a type own (to.Stored address n) = λ s once. stored_keeps a type (stored address.0 n) (stored_slot s address.0 n) s once
by_keeps a type own (to.Account address) = λ s once. (tt, stays s once)
by_keeps a type own (to.Controller address n) = λ s once. gives_require AnyOne 113 (is_some (controller_at s address.0 n))
    (give (record { rights = Some a; label = None; tree = record { optionals = 0; shape = plain own; parts = stop } })) s (tt, stays s once)

plain_keeps : (x : PureValue) → Keeps AnyOne (plain_spot x)
plain_keeps (v.reference a type target) = by_keeps a type (v.reference a type target) target
plain_keeps _ = λ s once. tt

pub deref_keeps : (shape : NodeShape) → Keeps AnyOne (deref shape)
deref_keeps (link a l n) = spot_keeps (Some a) l n
deref_keeps (plain x) = plain_keeps x
deref_keeps _ = λ s once. tt

pub looks_keep : LooksKeep
looks_keep (standing rights l n) = spot_keeps rights l n
looks_keep (through shape) = deref_keeps shape
looks_keep receivers.absent = λ s once. (tt, stays s once)

pub bounds_keep : (o : Slot) → Keeps AnyOne (or_out_of_bounds o)
bounds_keep out = λ s once. tt
bounds_keep free = λ s once. (tt, stays s once)
bounds_keep (full t) = λ s once. (tt, stays s once)

pub element_keeps : (i : _) (shape : NodeShape) (r : Row) → Keeps AnyOne (element_of i shape r)
element_keeps i (array t) r = bounds_keep _
element_keeps i (plain x) r = λ s once. tt
element_keeps i (link a l n) r = λ s once. tt
element_keeps i (dictionary k t ks) r = λ s once. tt
element_keeps i (composite id n ns) r = λ s once. tt

key_keeps : (key : PureValue) (shape : NodeShape) (r : Row) → Keeps AnyOne (entry_of_key key shape r)
key_keeps key (dictionary k t ks) r = λ s once. (tt, stays s once)
key_keeps key (plain x) r = λ s once. tt
key_keeps key (link a l n) r = λ s once. tt
key_keeps key (array t) r = λ s once. tt
key_keeps key (composite id n ns) r = λ s once. tt

pub slot_keeps : (x : Location) → Keeps AnyOne (slot_of x)
slot_keeps (variable x) = λ s once. (tt, stays s once)
slot_keeps (receiver l) = found_keeps AnyOne l _ (λ f s once. (tt, stays s once))
slot_keeps (contract id) = λ s once. (tt, stays s once)
slot_keeps (stored a n) = λ s once. (tt, stays s once)
slot_keeps (part l i) = found_keeps AnyOne l _ (λ f s once. (tt, stays s once))
slot_keeps (element l i) = found_keeps AnyOne l _ (λ f. element_keeps i f.tree.shape f.tree.parts)
slot_keeps (entry l key) = found_keeps AnyOne l _ (λ f. key_keeps key f.tree.shape f.tree.parts)

pub empty_keeps : {A : Type 0} (P : A → Type 0) (x : Location) → Keeps P (empty_error x)
empty_keeps P (variable x) = λ s once. tt
empty_keeps P (receiver l) = λ s once. tt
empty_keeps P (contract id) = λ s once. tt
empty_keeps P (stored a n) = λ s once. tt
empty_keeps P (part l i) = λ s once. tt
empty_keeps P (element l i) = λ s once. tt
empty_keeps P (entry l k) = λ s once. tt

absent_keeps : (x : Location) → Keeps AnyOne (absent x)
absent_keeps (entry l k) = λ s once. (tt, stays s once)
absent_keeps (variable x) = λ s once. tt
absent_keeps (receiver l) = λ s once. tt
absent_keeps (contract id) = λ s once. tt
absent_keeps (stored a n) = λ s once. tt
absent_keeps (part l i) = λ s once. tt
absent_keeps (element l i) = λ s once. tt

pub read_keeps : (x : Location) → Keeps AnyOne (read x)
read_keeps x = keeps_bind AnyOne AnyOne (slot_of x) _ (slot_keeps x) (λ o u. go o)
  where
    go : (o : Slot) → Keeps AnyOne (read_slot x o)
    go (full t) = λ s once. (tt, stays s once)
    go free = empty_keeps AnyOne x
    go out = absent_keeps x

pub paid_keeps : (n : ℕ) (b : Bool) (s : State) → AreGivenOnce s → Gives AnyOne s (paid n b s)
paid_keeps n true s once = (tt, stays s once)
paid_keeps n false s once = tt

pub charged_keeps : (t : Tree) → Keeps AnyOne (charged t)
charged_keeps t = λ s once. gives_require AnyOne 123 (nat_le (tree_height t) most_high) (spend (tree_weight t - 1)) s
    (paid_keeps (tree_weight t - 1) (nat_le (tree_weight t - 1) s.units) s once)

pub transferred_keeps : (type : PureType) (t : Tree) → HasNone t → Keeps HasNone (transferred type t)
transferred_keeps type t none = keeps_bind AnyOne HasNone (charged t) _ (charged_keeps t) (λ u w s once. (none, stays s once))

-- ---- a value leaves its place

pub bare_has_none : (t : Tree) → HasNone (bare_tree t)
bare_has_none t p = marks_mark p (bare t.parts) ∙ mark_bare p t.parts

pub cleared_stands : (x : Location) (s : State) → AreGivenOnce s → Follows s (changed_at clear x s)
cleared_stands x s once = fewer_stand s (changed_at clear x s) (place_next clear x s)
    (λ p. omega (arith, place_changed p 0 clear (λ i r. omega (arith, mark_clear p i r)) x s (stands_once s once))) once

nothing_keeps : (x : Location) → Keeps HasNone (nothing_there x)
nothing_keeps (entry l k) = λ s once. ((λ p. refl), stays s once)
nothing_keeps (variable x) = λ s once. tt
nothing_keeps (receiver l) = λ s once. tt
nothing_keeps (contract id) = λ s once. tt
nothing_keeps (stored a n) = λ s once. tt
nothing_keeps (part l i) = λ s once. tt
nothing_keeps (element l i) = λ s once. tt

take_slot_keeps : (x : Location) (o : Slot) → Keeps HasNone (take_slot x o)
take_slot_keeps x (full t) = λ s once. (bare_has_none (as_read x t), cleared_stands x s once)
take_slot_keeps x free = empty_keeps HasNone x
take_slot_keeps x out = nothing_keeps x

pub taking_keeps : TakingKeeps
taking_keeps x = keeps_bind AnyOne HasNone (slot_of x) (take_slot x) (slot_keeps x) (λ o u. take_slot_keeps x o)

-- ---- a value comes to a place

pub no_mark : (t : Tree) → HasNone t → (p : ℕ) → mark p t.parts ≡ 0
no_mark t none p = sym (marks_mark p t.parts) ∙ none p

pub put_keeps : (x : Location) (t : Tree) → HasNone t → Keeps AnyOne (put_at x t)
put_keeps x t none = λ s once. (
  tt,
  fewer_stand s (changed_at (λ i. put i t) x s) (place_next (λ i. put i t) x s)
      (λ p. omega (arith, place_changed p 0 (λ i. put i t) (λ i r. omega (arith, mark_put p i t r, no_mark t none p)) x s (stands_once s once))) once,
)

-- the node with the label has other parts, whose labels stood in it
pub node_stands : (l : ℕ) (shape : NodeShape) (k : Row) (s : State) (f : Found) → at l s ≡ Some f → ((p : ℕ) → mark p k ≤ mark p f.tree.parts)
    → AreGivenOnce s → Follows s (with_node l shape k s)
node_stands l shape k s f e h once = fewer_stand s (with_node l shape k s) refl
    (λ p. omega (arith, node_changed l p shape k s (stands_once s once l), ap (found_mark p) e, ap (gained p k) e, h p)) once

pub type_gives : {A : Type 0} (P : A → Type 0) (type : PureType) (t : Tree) (p : Action A) (s : State) → Gives P s (p s) → Gives P s (of_type type t p s)
type_gives P type t p s h = gives_or_fail P 113 (own_type s t) _ s (λ own e. gives_require P 129 (below (declarations s) own type) p s h)

-- the content of an optional has the same parts
value_gives : {A : Type 0} (P : A → Type 0) (p : Action A) (f : Tree → Action A) (s : State) (x : PureValue) → Gives P s (p s) → Gives P s (by_content (content_in_value x) p f s)
value_gives P p f s nil h = h
value_gives P p f s _ h = tt

shape_gives : {A : Type 0} (P : A → Type 0) (p : Action A) (f : Tree → Action A) (s : State) (shape : NodeShape) → Gives P s (p s) → Gives P s (by_content (content_in_shape shape) p f s)
shape_gives P p f s (plain x) h = value_gives P p f s x h
shape_gives P p f s _ h = tt

count_gives : {A : Type 0} (P : A → Type 0) (n : ℕ) (t : Tree) (p : Action A) (f : Tree → Action A) (s : State)
    → Gives P s (p s) → ((x : Tree) → x.parts ≡ t.parts → Gives P s (f x s)) → Gives P s (by_content (content_in n t) p f s)
count_gives P zero t p f s h k = shape_gives P p f s t.shape h
count_gives P (suc n) t p f s h k = k (record t { optionals = n }) refl

pub content_gives : {A : Type 0} (P : A → Type 0) (t : Tree) (p : Action A) (f : Tree → Action A) (s : State)
    → Gives P s (p s) → ((x : Tree) → x.parts ≡ t.parts → Gives P s (f x s)) → Gives P s (opened t p f s)
content_gives P t p f s h k = count_gives P t.optionals t p f s h k

variable_keeps : (x : ℕ) (t : Tree) (o : Slot) → HasNone t → Keeps AnyOne (fill_variable x t o)
variable_keeps x t (full old) none = λ s once. tt
variable_keeps x t free none = put_keeps (variable x) t none
variable_keeps x t out none = put_keeps (variable x) t none

part_keeps : (x : Location) (t : Tree) (o : Slot) → HasNone t → Keeps AnyOne (fill_part x t o)
part_keeps x t free none = put_keeps x t none
part_keeps x t (full old) none = λ s once. tt
part_keeps x t out none = λ s once. tt

place_keeps : (x : Location) (type : PureType) (t : Tree) (o : Slot) → HasNone t → Keeps AnyOne (fill_place x type t o)
place_keeps x type t free none = λ s once. type_gives AnyOne type t (put_at x t) s (put_keeps x t none s once)
place_keeps x type t (full old) none = λ s once. tt
place_keeps x type t out none = λ s once. tt

fill_element_keeps : (x : Location) (t : Tree) (o : Slot) (type : Option PureType) → HasNone t → Keeps AnyOne (fill_element x t o type)
fill_element_keeps x t o None none = λ s once. tt
fill_element_keeps x t o (Some type) none = place_keeps x type t o none

key_gives : (l : ℕ) (key value : PureType) (ks : List PureValue) (k : PureValue) (t : Tree) (o : Option ℕ) (s : State) (f : Found) → at l s ≡ Some f → HasNone t
    → AreGivenOnce s → Gives AnyOne s (fill_key l key value ks f.tree.parts k t o s)
key_gives l key value ks k t (Some i) s f e none once = part_keeps (entry l k) t (slot i f.tree.parts) none s once
key_gives l key value ks k t None s f e none once = gives_require AnyOne 123 (nat_le (suc (count_places f.tree.parts)) most_elements)
    (λ s. ok tt (with_node l (dictionary key value (ks ++ k ∷ [])) (add_last t f.tree.parts) s)) s
    (tt, node_stands l (dictionary key value (ks ++ k ∷ [])) (add_last t f.tree.parts) s f e (λ p. omega (arith, mark_last p t f.tree.parts, no_mark t none p)) once)

drop_gives : (l : ℕ) (key value : PureType) (ks : List PureValue) (o : Option ℕ) (s : State) (f : Found) → at l s ≡ Some f
    → AreGivenOnce s → Gives AnyOne s (drop_key l key value ks f.tree.parts o s)
drop_gives l key value ks (Some i) s f e once =
    (tt, node_stands l (dictionary key value (without_key i ks)) (cut i f.tree.parts) s f e (λ p. mark_cut p i f.tree.parts) once)
drop_gives l key value ks None s f e once = (tt, stays s once)

entry_gives : (l : ℕ) (k : PureValue) (t : Tree) (shape : NodeShape) (s : State) (f : Found) → at l s ≡ Some f → HasNone t
    → AreGivenOnce s → Gives AnyOne s (fill_entry l k t shape f.tree.parts s)
entry_gives l k t (dictionary key value ks) s f e none once = content_gives AnyOne t _ _ s
    (drop_gives l key value ks (key_position k ks) s f e once)
    (λ x same. type_gives AnyOne key (tree_of k) _ s (type_gives AnyOne value x _ s
    (key_gives l key value ks k x (key_position k ks) s f e (λ p. ap (marks p) same ∙ none p) once)))
entry_gives l k t (plain x) s f e none once = tt
entry_gives l k t (link a i n) s f e none once = tt
entry_gives l k t (array type) s f e none once = tt
entry_gives l k t (composite id i ns) s f e none once = tt

pub filling_keeps : FillingKeeps
filling_keeps (variable x) t none = λ s once. variable_keeps x t (slot x (variables s)) none s once
filling_keeps (part l i) t none = found_keeps AnyOne l _ (λ f. part_keeps (part l i) t (slot i f.tree.parts) none)
filling_keeps (element l i) t none = found_keeps AnyOne l _ (λ f. keeps_bind AnyOne AnyOne (slot_of (element l i)) _ (slot_keeps (element l i))
    (λ o u. fill_element_keeps (element l i) t o (element_type f.tree.shape) none))
filling_keeps (entry l k) t none = λ s once. gives_or_fail AnyOne 113 (at l s) _ s (λ f e. entry_gives l k t f.tree.shape s f e none once)
filling_keeps (contract id) t none = λ s once. tt
filling_keeps (stored a n) t none = λ s once. tt
filling_keeps (receiver l) t none = λ s once. tt

-- ---- forms over places

cleared_keeps : (x : Location) (o : Slot) → Keeps AnyOne (cleared x o)
cleared_keeps x (full t) = λ s once. gives_guard AnyOne (not (tree_owns t)) _ s (tt, cleared_stands x s once)
cleared_keeps x free = λ s once. (tt, stays s once)
cleared_keeps x out = λ s once. (tt, stays s once)

nil_keeps : (x : Location) (o : Slot) → Keeps AnyOne (empty_if_nil x o)
nil_keeps x (full t) = λ s once. content_gives AnyOne (as_read x t) _ _ s (tt, cleared_stands x s once) (λ u e. tt)
nil_keeps x free = empty_keeps AnyOne x
nil_keeps x out = keeps_bind HasNone AnyOne (nothing_there x) _ (nothing_keeps x) (λ t u s once. (tt, stays s once))

pub assigning_keeps : AssigningKeeps
assigning_keeps x t none = (
  keeps_bind AnyOne AnyOne _ _ (keeps_bind AnyOne AnyOne (slot_of x) _ (slot_keeps x) (λ o u. cleared_keeps x o)) (λ o u. filling_keeps x t none),
  keeps_bind AnyOne AnyOne _ _ (keeps_bind AnyOne AnyOne (slot_of x) _ (slot_keeps x) (λ o u. nil_keeps x o)) (λ o u. filling_keeps x t none),
)

pub taken_keeps : (x : Location) (type : PureType) → Keeps HasNone (take x >>= transferred type)
taken_keeps x type = keeps_bind HasNone HasNone (take x) (transferred type) (taking_keeps x) (λ t none. transferred_keeps type t none)

pub exchanging_keeps : ExchangingKeeps
exchanging_keeps x type t none = keeps_bind HasNone HasNone _ _ (taken_keeps x type)
    (λ old h. keeps_bind AnyOne HasNone _ _ (filling_keeps x t none) (λ u w s once. (h, stays s once)))

there_keeps : (x : Location) → Keeps AnyOne (still_there x)
there_keeps (part l i) = found_keeps AnyOne l _ (λ f s once. (tt, stays s once))
there_keeps (element l i) = found_keeps AnyOne l _ (λ f s once. (tt, stays s once))
there_keeps (entry l k) = found_keeps AnyOne l _ (λ f s once. (tt, stays s once))
there_keeps (variable x) = λ s once. (tt, stays s once)
there_keeps (receiver l) = λ s once. (tt, stays s once)
there_keeps (contract id) = λ s once. (tt, stays s once)
there_keeps (stored a n) = λ s once. (tt, stays s once)

pub swapping_keeps : SwappingKeeps
swapping_keeps x xtype y ytype = λ s once. gives_choose AnyOne (same_location s x y) _ _ s
    (keeps_bind AnyOne AnyOne (read x) _ (read_keeps x) (λ t u s once. (tt, stays s once)) s once)
    (keeps_bind HasNone AnyOne _ _ (taken_keeps x ytype) (λ a h. keeps_bind HasNone AnyOne _ _ (taken_keeps y xtype)
    (λ b k. keeps_bind AnyOne AnyOne _ _ (keeps_bind AnyOne AnyOne _ _ (keeps_bind AnyOne AnyOne _ _ (there_keeps x) (λ u w. there_keeps y))
    (λ u w. filling_keeps x b k)) (λ u w. filling_keeps y a h))) s once)

-- ---- variables that end, and what is made

pub ending_keeps : EndingKeeps
ending_keeps n = λ s once. gives_guard AnyOne (not (owns (back n (variables s)))) _ s (
  tt,
  fewer_stand s (changed_at front (variable n) s) refl
      (λ p. omega (arith, place_changed p 0 front (λ i r. omega (arith, mark_front p i r)) (variable n) s (stands_once s once))) once,
)

pub begins_keep : (id : TypeId) (i : ℕ) (names : List Name) → Keeps AnyOne (begin id i names)
begins_keep id i names = λ s once. (
  tt,
  next_stands s
      (record s { making = node (s.next_label ∷ []) 0 (composite id i names) (empty_places (length names)) s.making; next_label = suc s.next_label }) refl
      (λ p. omega (arith, mark_empty p (length names))) once,
)

pub finish_keeps : Keeps HasNone finish
finish_keeps = λ s once. go s once s.making refl
  where
    go : (s : State) → AreGivenOnce s → (r : Row) → s.making ≡ r → Gives HasNone s (finished r s)
    go s once stop e = tt
    go s once (gap r) e = tt
    go s once (node l n shape k r) e = gives_guard HasNone (is_full k) _ s
        ((λ p. marks_mark p (bare k) ∙ mark_bare p k), fewer_stand s (record s { making = r }) refl (λ p. omega (arith, ap (mark p) e)) once)

pub making_keeps : MakingKeeps
making_keeps = (begins_keep, finish_keeps)

-- ---- the beginning

accounts_bare : (p : ℕ) (all : List Account) → total p (account_rows (map kept_account all)) ≡ 0
accounts_bare p [] = refl
accounts_bare p (a ∷ all) = omega (arith, mark_bare p a.stored, accounts_bare p all)

contracts_bare : (p : ℕ) (all : List Contract) → total p (contract_rows (map kept_contract all)) ≡ 0
contracts_bare p [] = refl
contracts_bare p (c ∷ all) = omega (arith, mark_bare p c.value, contracts_bare p all)

pub begins_without : BeginsWithout
begins_without program units w kept p = omega (
  arith,
  labels_whole p (begun program units w),
  ap (λ all. total p (account_rows all)) kept.accounts,
  accounts_bare p w.accounts,
  ap (λ all. total p (contract_rows all)) kept.contracts,
  contracts_bare p w.contracts,
)
