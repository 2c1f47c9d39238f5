-- A value comes to a place, step by step.
use Rattle.std.proofs.Common.{◌≡◌, ℕ, suc, List, [], ◌∷◌, ◌++◌, nat_le, Bool, true, false, Option, Some, None, refl, sym, ap, ◌∙◌, subst, true≢false}
use Rattle.std.specs.Prelude.{ℤ, Result, Ok, Err}
use Rattle.cad_syntax.specs.Types.{PureType}
use Rattle.cad_values.specs.Fits.{most_elements}
use Rattle.cad_values.specs.Values.{PureValue}
use Rattle.cad_outcomes.specs.declared.stop.Stop.{Stop}
use Rattle.cad_outcomes.specs.Outcomes.{Stops, no_value}
use Rattle.cad_outcomes.proofs.Steps.{stops_on, stops_same}
use Rattle.cad_labels.specs.Laws.{Keeps, AnyOne}
use Rattle.cad_labels.proofs.Forms.{keeps_done, keeps_give, keeps_stuck, keeps_require}
use Rattle.cad_labels.proofs.Places.{found_keeps}
use Rattle.cad_rows.specs.Places.{bare_in}
use Rattle.cad_nodes.specs.Keys.{with_key, without_key}
use Rattle.cad_world.specs.Labels.{at, with_node}
use Rattle.cad_world.specs.Locations.{Location, receiver, part, element, entry, with_found, slot_of, slot_at, element_of, element_slot, or_out_of_bounds, entry_of_key, key_position}
use Rattle.cad_world.specs.Rows.{NodeShape, cut, plain, link, array, dictionary, composite, Row, Tree, Found, Slot, out, free, full, slot, add_last, count_places}
use Rattle.cad_world.specs.State.{State, Outcome, Action, ok, failed, ill, bind, ◌>>=◌, ◌>>◌, done, give, stuck, or_fail, require, with_some}
use Rattle.cad_world.specs.Trees.{tree_of}
use Rattle.cad_evaluation.specs.Changing.{nothing, content, no_optional, content_of, by_content, fill, fill_part, fill_element, fill_key, fill_entry, drop_key, element_type, put_at}
use Rattle.cad_evaluation.specs.Containers.{of_type, room}
use Rattle.cad_state.specs.Views.{state_over, FindsAndCarriesOut}
use Rattle.cad_state.specs.declared.state.RunState.{RunState}
use Rattle.cad_state.proofs.Finding.{find_same, find_stopped}
use Rattle.cad_assignments.specs.Code.Fills.{key_type, value_type, position_in, position_at, dropped, dropped_in, dropped_at, key_gone, placed, placed_in, placed_at, value_set, set_under, room_in, has_room, key_added, refused, element_set}
use Rattle.cad_assignments.specs.declared.asking.Inner.TheVariants.{Elements, Keys, Values}
use Rattle.cad_assignments.proofs.Asked.{asked_then, type_same}
use Rattle.cad_locations.proofs.Settled.{behind_node, place_then}

-- ---- the node is looked up first

found_again : {A : Type 0} (l : ℕ) (f : Found → Action A) (s : State) → with_found l f s ≡ (with_found l (λ x. done) >> with_found l f) s
found_again l f s = go (at l s) refl
  where
    go : (o : Option Found) → at l s ≡ o → or_fail 113 o f s ≡ bind (or_fail 113 o (λ x. done) s) (λ u v. with_found l f v)
    go None e = refl
    go (Some x) e = sym (ap (λ o. or_fail 113 o f s) e)

pub label_then : {A B : Type 0} (view : B → A) (l : ℕ) (f : Found → Action A) (old mid new : RunState) (r : Result B Stop)
    → FindsAndCarriesOut no_value (with_found l (λ x. done)) old mid (Ok tt) → FindsAndCarriesOut view (with_found l f) mid new r → FindsAndCarriesOut view (with_found l f) old new r
label_then view l f old mid new r first second = behind_node view (receiver l) (with_found l f) old mid new r first second

pub label_gone : {A B : Type 0} (view : B → A) (l : ℕ) (f : Found → Action A) (old mid new : RunState) (stop : Stop)
    → FindsAndCarriesOut no_value (with_found l (λ x. done)) old mid (Err stop) → FindsAndCarriesOut {B = B} view (with_found l f) old new (Err stop)
label_gone {B = B} view l f old mid new stop first =
    find_same view (with_found l f) (with_found l (λ x. done) >> with_found l f) old new (Err stop) (λ w ready. found_again l f (state_over w old))
    (find_stopped {D = B} no_value view (with_found l (λ x. done)) (λ _. with_found l f) old mid new stop first)

-- the place is known by what it is
pub place_that : {A B C : Type 0} (seen : C → Slot) (view : B → A) (x : Location) (g : Slot → Action A) (old new : RunState) (o : C) (k : Slot) (r : Result B Stop)
    → FindsAndCarriesOut seen (slot_of x) old old (Ok o) → seen o ≡ k → FindsAndCarriesOut view (g k) old new r → FindsAndCarriesOut view (slot_of x >>= g) old new r
place_that seen view x g old new o k r first e second =
    place_then seen view x g old new o r first (subst (λ j. FindsAndCarriesOut view (g j) old new r) (sym e) second)

-- ---- a field

pub part_filled : (l i : ℕ) (t : Tree) (s : State) → fill (part l i) t s ≡ (slot_of (part l i) >>= fill_part (part l i) t) s
part_filled l i t s = go (at l s)
  where
    go : (o : Option Found) → or_fail 113 o (λ f. fill_part (part l i) t (slot i f.tree.parts)) s ≡ bind (or_fail 113 o (λ f. give (slot i f.tree.parts)) s) (λ k. fill_part (part l i) t k)
    go None = refl
    go (Some f) = refl

-- ---- an element

filled_from : (l : ℕ) (z : ℤ) (t : Tree) (k : Slot) (s : State) → slot_of (element l z) s ≡ ok k s
    → fill (element l z) t s ≡ with_found l (λ f. fill_element (element l z) t k (element_type f.tree.shape)) s
filled_from l z t k s e = go (at l s)
  where
    go : (o : Option Found) → or_fail 113 o (λ f. slot_of (element l z) >>= (λ p. fill_element (element l z) t p (element_type f.tree.shape))) s
        ≡ or_fail 113 o (λ f. fill_element (element l z) t k (element_type f.tree.shape)) s
    go None = refl
    go (Some f) = ap (λ r. bind r (λ p. fill_element (element l z) t p (element_type f.tree.shape))) e

abbrev is_not_out : Outcome Slot → Bool
is_not_out (ok out s) = false
is_not_out _ = true

abbrev is_ill : {A : Type 0} → Outcome A → Bool
is_ill ill = true
is_ill _ = false

-- only arrays have elements
elements_only : (l : ℕ) (z : ℤ) (x : Location) (t : Tree) (k p : Slot) (r : Outcome (Unit {0})) (s : State) → slot_of (element l z) s ≡ ok k s → ((type : PureType) → fill_element x t p (Some type) s ≡ r) → failed 113 ≡ r
    → with_found l (λ f. fill_element x t p (element_type f.tree.shape)) s ≡ r
elements_only l z x t k p r s e h gone = go (at l s) e
  where
    of_shape : (f : Found) (shape : NodeShape) → element_of z shape f.tree.parts s ≡ ok k s → fill_element x t p (element_type shape) s ≡ r
    of_shape f (array type) q = h type
    of_shape f (plain v) q = absurd (true≢false (ap is_ill q))
    of_shape f (link a m n) q = absurd (true≢false (ap is_ill q))
    of_shape f (dictionary key value ks) q = absurd (true≢false (ap is_ill q))
    of_shape f (composite id n names) q = absurd (true≢false (ap is_ill q))

    go : (o : Option Found) → or_fail 113 o (λ f. element_of z f.tree.shape f.tree.parts) s ≡ ok k s → or_fail 113 o (λ f. fill_element x t p (element_type f.tree.shape)) s ≡ r
    go None q = gone
    go (Some f) q = of_shape f f.tree.shape q

pub element_full : (l : ℕ) (z : ℤ) (t old : Tree) (s : State) → slot_of (element l z) s ≡ ok (full old) s → fill (element l z) t s ≡ failed 113
element_full l z t old s e = filled_from l z t (full old) s e ∙ elements_only l z (element l z) t (full old) (full old) (failed 113) s e (λ type. refl) refl

pub element_set_free : (l : ℕ) (z : ℤ) (t : Tree) (s : State) → slot_of (element l z) s ≡ ok free s → fill (element l z) t s ≡ element_set l z t s
element_set_free l z t s e = filled_from l z t free s e ∙ go (at l s) refl
  where
    here : (f : Found) (o : Option PureType) → at l s ≡ Some f → element_type f.tree.shape ≡ o → fill_element (element l z) t free o s ≡ element_set l z t s
    here f (Some type) q d = asked_then Elements l t (put_at (element l z) t) f type s q d
    here f None q d = sym (ap (λ j. bind (bind (or_fail 113 j (λ g. with_some (element_type g.tree.shape) (λ type. give type)) s) (λ type. of_type type t done)) (λ _. put_at (element l z) t)) q
        ∙ ap (λ j. bind (bind (with_some j (λ type. give type) s) (λ type. of_type type t done)) (λ _. put_at (element l z) t)) d)

    go : (o : Option Found) → at l s ≡ o → or_fail 113 o (λ f. fill_element (element l z) t free (element_type f.tree.shape)) s ≡ element_set l z t s
    go None q = sym (ap (λ j. bind (bind (or_fail 113 j (λ g. with_some (element_type g.tree.shape) (λ type. give type)) s) (λ type. of_type type t done)) (λ _. put_at (element l z) t)) q)
    go (Some f) q = here f (element_type f.tree.shape) q refl

pub element_stops : (l : ℕ) (z : ℤ) (t : Tree) (s : State) (stop : Stop) → Stops (slot_of (element l z) s) stop → Stops (fill (element l z) t s) stop
element_stops l z t s stop h = go (at l s) refl
  where
    go : (o : Option Found) → at l s ≡ o → Stops (or_fail 113 o (λ f. slot_of (element l z) >>= (λ p. fill_element (element l z) t p (element_type f.tree.shape))) s) stop
    go None q = stops_on (failed 113) (λ p. fill_element (element l z) t p None) stop (stops_same (failed 113) (slot_of (element l z) s) stop (sym (ap (λ j. or_fail 113 j (λ f. element_of z f.tree.shape f.tree.parts) s) q)) h)
    go (Some f) q = stops_on (slot_of (element l z) s) (λ p. fill_element (element l z) t p (element_type f.tree.shape)) stop h

pub element_out : (l : ℕ) (z : ℤ) (t : Tree) (s : State) → slot_of (element l z) s ≡ ok out s → fill (element l z) t s ≡ failed 104
element_out l z t s e = absurd (go (at l s) e)
  where
    never : (k : Slot) → or_out_of_bounds k s ≡ ok out s → ⊥
    never out q = true≢false (ap is_not_out q)
    never free q = true≢false (ap is_not_out q)
    never (full x) q = true≢false (ap is_not_out q)

    of_shape : (shape : NodeShape) (r : Row) → element_of z shape r s ≡ ok out s → ⊥
    of_shape (array type) r q = never (element_slot z r) q
    of_shape (plain v) r q = true≢false (ap is_ill q)
    of_shape (link a m n) r q = true≢false (ap is_ill q)
    of_shape (dictionary key value ks) r q = true≢false (ap is_ill q)
    of_shape (composite id n names) r q = true≢false (ap is_ill q)

    go : (o : Option Found) → or_fail 113 o (λ f. element_of z f.tree.shape f.tree.parts) s ≡ ok out s → ⊥
    go None q = true≢false (ap is_not_out q)
    go (Some f) q = of_shape f.tree.shape f.tree.parts q

-- ---- a key

pub dropped_first : (l : ℕ) (k : PureValue) (s : State) → dropped l k s ≡ (position_at l k >>= dropped_at l) s
dropped_first l k s = go (at l s) refl
  where
    keyed : (f : Found) (key value : PureType) (ks : List PureValue) (p : Option ℕ) → at l s ≡ Some f → f.tree.shape ≡ dictionary key value ks → drop_key l key value ks f.tree.parts p s ≡ dropped_at l p s
    keyed f key value ks None q d = refl
    keyed f key value ks (Some i) q d = sym (ap (λ j. or_fail 113 j (λ g v. ok tt (with_node l (without_key i g.tree.shape) (cut i g.tree.parts) v)) s) q ∙ ap (λ sh. ok tt (with_node l (without_key i sh) (cut i f.tree.parts) s)) d)

    of_shape : (f : Found) (shape : NodeShape) → at l s ≡ Some f → f.tree.shape ≡ shape → dropped_in l k shape f.tree.parts s ≡ bind (position_in k shape s) (λ p. dropped_at l p)
    of_shape f (dictionary key value ks) q d = keyed f key value ks (key_position k ks) q d
    of_shape f (plain v) q d = refl
    of_shape f (link a m n) q d = refl
    of_shape f (array type) q d = refl
    of_shape f (composite id n names) q d = refl

    go : (o : Option Found) → at l s ≡ o → or_fail 113 o (λ f. dropped_in l k f.tree.shape f.tree.parts) s ≡ bind (or_fail 113 o (λ f. position_in k f.tree.shape) s) (λ p. dropped_at l p)
    go None q = refl
    go (Some f) q = of_shape f f.tree.shape q refl

pub position_keeps : (l : ℕ) (k : PureValue) → Keeps AnyOne (position_at l k)
position_keeps l k = found_keeps AnyOne l (λ f. position_in k f.tree.shape) (λ f. of_shape f.tree.shape)
  where
    of_shape : (shape : NodeShape) → Keeps AnyOne (position_in k shape)
    of_shape (dictionary key value ks) = keeps_give AnyOne (key_position k ks) tt
    of_shape (plain v) = keeps_stuck {A = Option ℕ} AnyOne
    of_shape (link a m n) = keeps_stuck {A = Option ℕ} AnyOne
    of_shape (array type) = keeps_stuck {A = Option ℕ} AnyOne
    of_shape (composite id n names) = keeps_stuck {A = Option ℕ} AnyOne

roomed : (n : ℕ) (p q : Action (Unit {0})) (s : State) → p s ≡ q s → room n p s ≡ bind (room n done s) (λ _ v. q v)
roomed n p q s e = go (nat_le n most_elements)
  where
    go : (b : Bool) → require 123 b p s ≡ bind (require 123 b done s) (λ _ v. q v)
    go true = e
    go false = refl

pub placed_first : (l : ℕ) (k : PureValue) (t : Tree) (s : State) → placed l k t s ≡ (position_at l k >>= placed_at l k t) s
placed_first l k t s = go (at l s) refl
  where
    keyed : (f : Found) (key value : PureType) (ks : List PureValue) (p : Option ℕ) → at l s ≡ Some f → f.tree.shape ≡ dictionary key value ks → key_position k ks ≡ p → fill_key l key value ks f.tree.parts k t p s ≡ placed_at l k t p s
    keyed f key value ks (Some i) q d e = sym (
        ap (λ j. bind (or_fail 113 j (λ g. entry_of_key k g.tree.shape g.tree.parts) s) (λ o. fill_part (entry l k) t o)) q
        ∙ ap (λ sh. bind (entry_of_key k sh f.tree.parts s) (λ o. fill_part (entry l k) t o)) d
        ∙ ap (λ p. fill_part (entry l k) t (slot_at p f.tree.parts) s) e)
    keyed f key value ks None q d e =
        roomed (suc (count_places f.tree.parts)) (λ v. ok tt (with_node l (dictionary key value (ks ++ k ∷ [])) (add_last t f.tree.parts) v)) (key_added l k t) s
        (sym (ap (λ j. or_fail 113 j (λ g v. ok tt (with_node l (with_key k g.tree.shape) (add_last t g.tree.parts) v)) s) q ∙ ap (λ sh. ok tt (with_node l (with_key k sh) (add_last t f.tree.parts) s)) d))
        ∙ sym (ap (λ j. bind (or_fail 113 j (λ g. room_in g.tree.parts) s) (λ _ v. key_added l k t v)) q)

    of_shape : (f : Found) (shape : NodeShape) → at l s ≡ Some f → f.tree.shape ≡ shape → placed_in l k t shape f.tree.parts s ≡ bind (position_in k shape s) (λ p. placed_at l k t p)
    of_shape f (dictionary key value ks) q d = keyed f key value ks (key_position k ks) q d refl
    of_shape f (plain v) q d = refl
    of_shape f (link a m n) q d = refl
    of_shape f (array type) q d = refl
    of_shape f (composite id n names) q d = refl

    go : (o : Option Found) → at l s ≡ o → or_fail 113 o (λ f. placed_in l k t f.tree.shape f.tree.parts) s ≡ bind (or_fail 113 o (λ f. position_in k f.tree.shape) s) (λ p. placed_at l k t p)
    go None q = refl
    go (Some f) q = of_shape f f.tree.shape q refl

-- ---- by the content

pub entry_nothing : (l : ℕ) (k : PureValue) (t : Tree) (s : State) → content_of t ≡ nothing → fill (entry l k) t s ≡ dropped l k s
entry_nothing l k t s e = go (at l s)
  where
    of_shape : (shape : NodeShape) (r : Row) → fill_entry l k t shape r s ≡ dropped_in l k shape r s
    of_shape (dictionary key value ks) r = ap (λ j. by_content j (drop_key l key value ks r (key_position k ks)) (λ v. of_type key (tree_of k) (of_type value v (fill_key l key value ks r k v (key_position k ks)))) s) e
    of_shape (plain v) r = refl
    of_shape (link a m n) r = refl
    of_shape (array type) r = refl
    of_shape (composite id n names) r = refl

    go : (o : Option Found) → or_fail 113 o (λ f. fill_entry l k t f.tree.shape f.tree.parts) s ≡ or_fail 113 o (λ f. dropped_in l k f.tree.shape f.tree.parts) s
    go None = refl
    go (Some f) = of_shape f.tree.shape f.tree.parts

pub entry_refused : (l : ℕ) (k : PureValue) (t : Tree) (s : State) → content_of t ≡ no_optional → fill (entry l k) t s ≡ refused l s
entry_refused l k t s e = go (at l s)
  where
    of_shape : (shape : NodeShape) (r : Row) → fill_entry l k t shape r s ≡ ill
    of_shape (dictionary key value ks) r = ap (λ j. by_content j (drop_key l key value ks r (key_position k ks)) (λ v. of_type key (tree_of k) (of_type value v (fill_key l key value ks r k v (key_position k ks)))) s) e
    of_shape (plain v) r = refl
    of_shape (link a m n) r = refl
    of_shape (array type) r = refl
    of_shape (composite id n names) r = refl

    go : (o : Option Found) → or_fail 113 o (λ f. fill_entry l k t f.tree.shape f.tree.parts) s ≡ or_fail 113 o (λ f. stuck) s
    go None = refl
    go (Some f) = of_shape f.tree.shape f.tree.parts

pub entry_content : (l : ℕ) (k : PureValue) (t v : Tree) (s : State) → content_of t ≡ content v → fill (entry l k) t s ≡ set_under l k v s
entry_content l k t v s e = go (at l s) refl
  where
    key_asked : Option Found → Outcome (Unit {0})
    key_asked o = bind (bind (or_fail 113 o (λ f. with_some (key_type f.tree.shape) (λ type. give type)) s) (λ type. of_type type (tree_of k) done)) (λ _ u. value_set l k v u)

    keyed : (f : Found) (key value : PureType) (ks : List PureValue) → at l s ≡ Some f → f.tree.shape ≡ dictionary key value ks
        → of_type key (tree_of k) (of_type value v (fill_key l key value ks f.tree.parts k v (key_position k ks))) s ≡ set_under l k v s
    keyed f key value ks q d =
        let p : fill_key l key value ks f.tree.parts k v (key_position k ks) s ≡ placed l k v s =
        sym (ap (λ j. or_fail 113 j (λ g. placed_in l k v g.tree.shape g.tree.parts) s) q ∙ ap (λ sh. placed_in l k v sh f.tree.parts s) d) in
        type_same key (tree_of k) (of_type value v (fill_key l key value ks f.tree.parts k v (key_position k ks))) (value_set l k v) s
        (type_same value v (fill_key l key value ks f.tree.parts k v (key_position k ks)) (placed l k v) s p ∙ asked_then Values l v (placed l k v) f value s q (ap value_type d))
        ∙ asked_then Keys l (tree_of k) (value_set l k v) f key s q (ap key_type d)

    none_asked : (f : Found) → at l s ≡ Some f → key_type f.tree.shape ≡ None → ill ≡ set_under l k v s
    none_asked f q d = sym (ap key_asked q ∙ ap (λ j. bind (bind (with_some j (λ type. give type) s) (λ type. of_type type (tree_of k) done)) (λ _ u. value_set l k v u)) d)

    of_shape : (f : Found) (shape : NodeShape) → at l s ≡ Some f → f.tree.shape ≡ shape → fill_entry l k t shape f.tree.parts s ≡ set_under l k v s
    of_shape f (dictionary key value ks) q d =
        ap (λ j. by_content j (drop_key l key value ks f.tree.parts (key_position k ks)) (λ u. of_type key (tree_of k) (of_type value u (fill_key l key value ks f.tree.parts k u (key_position k ks)))) s) e
        ∙ keyed f key value ks q d
    of_shape f (plain x) q d = none_asked f q (ap key_type d)
    of_shape f (link a m n) q d = none_asked f q (ap key_type d)
    of_shape f (array type) q d = none_asked f q (ap key_type d)
    of_shape f (composite id n names) q d = none_asked f q (ap key_type d)

    go : (o : Option Found) → at l s ≡ o → or_fail 113 o (λ f. fill_entry l k t f.tree.shape f.tree.parts) s ≡ set_under l k v s
    go None q = sym (ap key_asked q)
    go (Some f) q = of_shape f f.tree.shape q refl

-- ---- what is kept, and what comes with a key that goes

pub room_keeps : (l : ℕ) → Keeps AnyOne (has_room l)
room_keeps l = found_keeps AnyOne l (λ f. room_in f.tree.parts) (λ f. keeps_require AnyOne 123 (nat_le (suc (count_places f.tree.parts)) most_elements) done keeps_done)

abbrev pub key_cut : ℕ → ℕ → Action (Option Tree)
key_cut l i = with_found l (λ f s. ok (bare_in (slot i f.tree.parts)) (with_node l (without_key i f.tree.shape) (cut i f.tree.parts) s))

pub key_goes : (l i : ℕ) (s : State) → key_gone l i s ≡ (key_cut l i >> done) s
key_goes l i s = go (at l s)
  where
    go : (o : Option Found) → or_fail 113 o (λ f v. ok tt (with_node l (without_key i f.tree.shape) (cut i f.tree.parts) v)) s
        ≡ bind (or_fail 113 o (λ f v. ok (bare_in (slot i f.tree.parts)) (with_node l (without_key i f.tree.shape) (cut i f.tree.parts) v)) s) (λ _ v. done v)
    go None = refl
    go (Some f) = refl
