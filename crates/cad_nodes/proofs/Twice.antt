-- Two exchanges at one way are one; so the node at a way is changed, and the node with a label.
use Rattle.std.proofs.Common.{◌≡◌, ℕ, zero, suc, List, [], ◌∷◌, map, reverse, Option, Some, None, Bool, true, false, if◌then◌else◌, refl, sym, ap, ◌∙◌, true≢false, option_map, subst}
use Rattle.std.specs.Prelude.{slice_get, Result, Ok, Err, IfOk, OnOk, IsTrue}
use Rattle.std.specs.declared.alloc.AllocError.{AllocError}
use Rattle.std.proofs.lemmas.List.{reverse-reverse}
use Rattle.cad_nodes.specs.Edits.{edited_shape, edited_parts, left_by, changing}
use Rattle.cad_nodes.specs.Exchanges.{is_held, IsExchanged, ChangesAt}
use Rattle.cad_nodes.specs.declared.edit.Edit.{Edit}
use Rattle.cad_nodes.specs.declared.edit.OpenNode.{OpenNode}
use Rattle.cad_rows.specs.Exchanges.{reshaped, within, exchanged, shape_of, parts_of}
use Rattle.cad_rows.specs.Laws.{IsTheNode}
use Rattle.cad_rows.specs.Views.{pure_row, pure_shape, pure_tree}
use Rattle.cad_rows.specs.declared.tree.Tree as trees
use Rattle.cad_state.proofs.Changes.{variables_changed, before_changed, result_changed, making_changed, stored_changed, value_changed}
use Rattle.cad_state.proofs.Standing.{reached_in_state}
use Rattle.cad_state.specs.Views.{state_over, frame_of, IsReady}
use Rattle.cad_state.specs.Ways.{is_there, account_in, row_at, reached, if_labelled, at_index, if_held, in_variables, in_before, in_result, in_stored, in_value, with_row}
use Rattle.cad_state.specs.declared.hints.Root.{Root}
use Rattle.cad_state.specs.declared.hints.Root.TheVariants as root
use Rattle.cad_state.specs.declared.state.Account.{Account as AccountCode}
use Rattle.cad_state.specs.declared.state.Call.{Call}
use Rattle.cad_state.specs.declared.state.Contract as c
use Rattle.cad_state.specs.declared.state.RunState.{RunState}
use Rattle.cad_world.specs.Labels.{at, with_node}
use Rattle.cad_world.specs.Marks.{AreGivenOnce}
use Rattle.cad_world.specs.Rows.{NodeShape, Row, stop, gap, node, Found, Tree, is_one_of}
use Rattle.cad_world.specs.State.{Account, State, ok, or_fail}

-- ---- in one row

reshaped_twice : (i : ℕ) (s : NodeShape) (k : Row) (s' : NodeShape) (k' : Row) (r : Row) → reshaped i s k (reshaped i s' k' r) ≡ reshaped i s k r
reshaped_twice i s k s' k' stop = refl
reshaped_twice zero s k s' k' (gap r) = refl
reshaped_twice zero s k s' k' (node l n t q r) = refl
reshaped_twice (suc i) s k s' k' (gap r) = ap gap (reshaped_twice i s k s' k' r)
reshaped_twice (suc i) s k s' k' (node l n t q r) = ap (node l n t q) (reshaped_twice i s k s' k' r)

within_twice : (i : ℕ) (g h : Row → Row) (r : Row) → within i g (within i h r) ≡ within i (λ q. g (h q)) r
within_twice i g h stop = refl
within_twice zero g h (gap r) = refl
within_twice zero g h (node l n t q r) = refl
within_twice (suc i) g h (gap r) = ap gap (within_twice i g h r)
within_twice (suc i) g h (node l n t q r) = ap (node l n t q) (within_twice i g h r)

exchanged_twice : (ds : List ℕ) (s : NodeShape) (k : Row) (s' : NodeShape) (k' : Row) (r : Row) → exchanged ds s k (exchanged ds s' k' r) ≡ exchanged ds s k r
exchanged_twice [] s k s' k' r = refl
exchanged_twice (i ∷ []) s k s' k' r = reshaped_twice i s k s' k' r
exchanged_twice (i ∷ j ∷ ds) s k s' k' r =
    within_twice i (λ q. exchanged (j ∷ ds) s k q) (λ q. exchanged (j ∷ ds) s' k' q) r
    ∙ (λ m. within i (λ q. exchanged_twice (j ∷ ds) s k s' k' q m) r)

-- ---- in a state

-- whether the run has the account is told by the flag
abbrev in_row : Root → Bool → (Row → Row) → State → State
in_row (root.Variables i) b g s = record s { frames = reverse (at_index i (in_variables g) (reverse s.frames)) }
in_row (root.Before i) b g s = record s { frames = reverse (at_index i (in_before g) (reverse s.frames)) }
in_row (root.Result i) b g s = record s { frames = reverse (at_index i (in_result g) (reverse s.frames)) }
in_row root.Making b g s = record s { making = g s.making }
in_row (root.Stored i) b g s = record s { accounts = if b then at_index i (in_stored g) s.accounts else s.accounts }
in_row (root.Contract i) b g s = record s { contracts = at_index i (in_value g) s.contracts }

held_in : (f : List Account → List Account) (all : List Account) (o : Option AccountCode) → if_held o f all ≡ (if is_there o then f all else all)
held_in f all None = refl
held_in f all (Some c) = refl

row_in : (at_root : Root) (g : Row → Row) (w : List Account) (x : RunState) → with_row at_root g w x ≡ in_row at_root (is_held at_root x.accounts) g (state_over w x)
row_in (root.Variables i) g w x = ap (λ fs. record (state_over w x) { frames = reverse (at_index i (in_variables g) fs) }) (sym (reverse-reverse (map frame_of x.calls.items)))
row_in (root.Before i) g w x = ap (λ fs. record (state_over w x) { frames = reverse (at_index i (in_before g) fs) }) (sym (reverse-reverse (map frame_of x.calls.items)))
row_in (root.Result i) g w x = ap (λ fs. record (state_over w x) { frames = reverse (at_index i (in_result g) fs) }) (sym (reverse-reverse (map frame_of x.calls.items)))
row_in root.Making g w x = refl
row_in (root.Stored i) g w x = ap (λ all. record (state_over w x) { accounts = all }) (held_in (at_index i (in_stored g)) (state_over w x).accounts (account_in x.accounts i))
row_in (root.Contract i) g w x = refl

index_twice : {A : Type 0} (i : ℕ) (g h : A → A) (xs : List A) → at_index i g (at_index i h xs) ≡ at_index i (λ x. g (h x)) xs
index_twice i g h [] = refl
index_twice zero g h (x ∷ xs) = refl
index_twice (suc i) g h (x ∷ xs) = ap (λ ys. x ∷ ys) (index_twice i g h xs)

row_twice : (at_root : Root) (b : Bool) (g h : Row → Row) (s : State) → in_row at_root b g (in_row at_root b h s) ≡ in_row at_root b (λ r. g (h r)) s
row_twice (root.Variables i) b g h s = ap (λ fs. record s { frames = reverse fs })
    (ap (at_index i (in_variables g)) (reverse-reverse (at_index i (in_variables h) (reverse s.frames))) ∙ index_twice i (in_variables g) (in_variables h) (reverse s.frames))
row_twice (root.Before i) b g h s = ap (λ fs. record s { frames = reverse fs })
    (ap (at_index i (in_before g)) (reverse-reverse (at_index i (in_before h) (reverse s.frames))) ∙ index_twice i (in_before g) (in_before h) (reverse s.frames))
row_twice (root.Result i) b g h s = ap (λ fs. record s { frames = reverse fs })
    (ap (at_index i (in_result g)) (reverse-reverse (at_index i (in_result h) (reverse s.frames))) ∙ index_twice i (in_result g) (in_result h) (reverse s.frames))
row_twice root.Making b g h s = refl
row_twice (root.Stored i) true g h s = ap (λ all. record s { accounts = all }) (index_twice i (in_stored g) (in_stored h) s.accounts)
row_twice (root.Stored i) false g h s = refl
row_twice (root.Contract i) b g h s = ap (λ all. record s { contracts = all }) (index_twice i (in_value g) (in_value h) s.contracts)

once : (at_root : Root) (ds : List ℕ) (x y : RunState) (s : NodeShape) (k : Row) (s' : NodeShape) (k' : Row)
    → is_held at_root y.accounts ≡ is_held at_root x.accounts → ((v : List Account) → state_over v y ≡ with_row at_root (exchanged ds s' k') v x) → (w : List Account)
    → with_row at_root (exchanged ds s k) w y ≡ with_row at_root (exchanged ds s k) w x
once at_root ds x y s k s' k' held e w =
    let b = is_held at_root x.accounts in
    row_in at_root (exchanged ds s k) w y
    ∙ ap (λ b. in_row at_root b (exchanged ds s k) (state_over w y)) held
    ∙ ap (in_row at_root b (exchanged ds s k)) (e w ∙ row_in at_root (exchanged ds s' k') w x)
    ∙ row_twice at_root b (exchanged ds s k) (exchanged ds s' k') (state_over w x)
    ∙ (λ m. in_row at_root b (λ r. exchanged_twice ds s k s' k' r m) (state_over w x))
    ∙ sym (row_in at_root (exchanged ds s k) w x)

changed_at : (at_root : Root) (ds : List ℕ) (e : Edit) (o : Option Tree) (x y z : RunState) (a b u v : OpenNode)
    → IsExchanged at_root ds x y a b → IsExchanged at_root ds y z u v
    → pure_shape u.shape ≡ edited_shape e (pure_shape b.shape) → pure_row u.parts.items ≡ edited_parts e (pure_row b.parts.items) → o ≡ left_by e (pure_row b.parts.items)
    → ChangesAt at_root ds e o x z
changed_at at_root ds e o x y z a b u v first second shape parts left f there =
    let old_shape : pure_shape b.shape ≡ f.tree.shape = first.shape ∙ ap (shape_of (pure_shape a.shape)) there in
    let old_parts : pure_row b.parts.items ≡ f.tree.parts = first.parts ∙ ap (parts_of (pure_row a.parts.items)) there in
    let new_shape : pure_shape u.shape ≡ edited_shape e f.tree.shape = shape ∙ ap (edited_shape e) old_shape in
    let new_parts : pure_row u.parts.items ≡ edited_parts e f.tree.parts = parts ∙ ap (edited_parts e) old_parts in
    record {
      left = left ∙ ap (left_by e) old_parts;
      state = λ w. second.state w
          ∙ once at_root ds x y (pure_shape u.shape) (pure_row u.parts.items) (pure_shape a.shape) (pure_row a.parts.items) first.held first.state w
          ∙ (λ m. with_row at_root (exchanged ds (new_shape m) (new_parts m)) w x);
    }

pub changes_at : (at_root : Root) (ds : List ℕ) (e : Edit) (r : Result (Option trees.Tree) AllocError) (x y z : RunState) (a b u v : OpenNode)
    → IsExchanged at_root ds x y a b → IsExchanged at_root ds y z u v
    → OnOk r (pure_shape u.shape ≡ edited_shape e (pure_shape b.shape)) → OnOk r (pure_row u.parts.items ≡ edited_parts e (pure_row b.parts.items))
    → IfOk r (λ o. option_map pure_tree o ≡ left_by e (pure_row b.parts.items)) → IfOk r (λ o. ChangesAt at_root ds e (option_map pure_tree o) x z)
changes_at at_root ds e (Ok o) x y z a b u v first second shape parts left = changed_at at_root ds e (option_map pure_tree o) x y z a b u v first second shape parts left
changes_at at_root ds e (Err error) x y z a b u v first second shape parts left = tt

-- ---- by a label

way_changed : IsTheNode → (w : List Account) (x : RunState) (at_root : Root) (p : ℕ) (s : NodeShape) (k : Row) (ds : List ℕ) (f : Found) → IsReady w x
    → reached ds (row_at at_root x) ≡ Some f → is_one_of p f.labels ≡ true → with_row at_root (exchanged ds s k) w x ≡ with_node p s k (state_over w x)
way_changed only w x (root.Variables i) p s k ds f ready e d = go (slice_get x.calls.items i) refl e
  where
    go : (o : Option Call) → slice_get x.calls.items i ≡ o → reached ds (option_map (λ y. y.variables.items) o) ≡ Some f → with_row (root.Variables i) (exchanged ds s k) w x ≡ with_node p s k (state_over w x)
    go None q there = absurd (true≢false (ap is_there (sym there)))
    go (Some y) q there = variables_changed only w x p s k ds i y f ready q there d
way_changed only w x (root.Before i) p s k ds f ready e d = go (slice_get x.calls.items i) refl e
  where
    go : (o : Option Call) → slice_get x.calls.items i ≡ o → reached ds (option_map (λ y. y.before.items) o) ≡ Some f → with_row (root.Before i) (exchanged ds s k) w x ≡ with_node p s k (state_over w x)
    go None q there = absurd (true≢false (ap is_there (sym there)))
    go (Some y) q there = before_changed only w x p s k ds i y f ready q there d
way_changed only w x (root.Result i) p s k ds f ready e d = go (slice_get x.calls.items i) refl e
  where
    go : (o : Option Call) → slice_get x.calls.items i ≡ o → reached ds (option_map (λ y. y.result.items) o) ≡ Some f → with_row (root.Result i) (exchanged ds s k) w x ≡ with_node p s k (state_over w x)
    go None q there = absurd (true≢false (ap is_there (sym there)))
    go (Some y) q there = result_changed only w x p s k ds i y f ready q there d
way_changed only w x root.Making p s k ds f ready e d = making_changed only w x p s k ds f ready e d
way_changed only w x (root.Stored i) p s k ds f ready e d = go (account_in x.accounts i) refl e
  where
    go : (o : Option AccountCode) → account_in x.accounts i ≡ o → reached ds (option_map (λ y. y.stored.items) o) ≡ Some f → with_row (root.Stored i) (exchanged ds s k) w x ≡ with_node p s k (state_over w x)
    go None q there = absurd (true≢false (ap is_there (sym there)))
    go (Some y) q there = stored_changed only w x p s k ds i y f ready q there d
way_changed only w x (root.Contract i) p s k ds f ready e d = go (slice_get x.contracts.items i) refl e
  where
    go : (o : Option c.Contract) → slice_get x.contracts.items i ≡ o → reached ds (option_map (λ y. y.value.items) o) ≡ Some f → with_row (root.Contract i) (exchanged ds s k) w x ≡ with_node p s k (state_over w x)
    go None q there = absurd (true≢false (ap is_there (sym there)))
    go (Some y) q there = value_changed only w x p s k ds i y f ready q there d

-- a way leads to the node with the label; what happens there happens to it
changes_labelled : IsTheNode → (w : List Account) (x z : RunState) (at_root : Root) (p : ℕ) (ds : List ℕ) (e : Edit) (o : Option Tree) (f : Found) → IsReady w x
    → reached ds (row_at at_root x) ≡ Some f → is_one_of p f.labels ≡ true → ChangesAt at_root ds e o x z → changing p e (state_over w x) ≡ ok o (state_over w z)
changes_labelled only w x z at_root p ds e o f ready there has changes =
    let done = changes f there in
    let here : at p (state_over w x) ≡ Some f = reached_in_state only w x at_root ds p f ready there has in
    ap (λ found. or_fail 113 found (λ g s. ok (left_by e g.tree.parts) (with_node p (edited_shape e g.tree.shape) (edited_parts e g.tree.parts) s)) (state_over w x)) here
    ∙ (λ m. ok (sym done.left m) (sym (done.state w ∙ way_changed only w x at_root p (edited_shape e f.tree.shape) (edited_parts e f.tree.parts) ds f ready there has) m))

changes_reached : IsTheNode → (w : List Account) (x z : RunState) (at_root : Root) (p : ℕ) (ds : List ℕ) (e : Edit) (o : Option Tree) → IsReady w x
    → is_there (if_labelled p (reached ds (row_at at_root x))) ≡ true → ChangesAt at_root ds e o x z → changing p e (state_over w x) ≡ ok o (state_over w z)
changes_reached only w x z at_root p ds e o ready leads changes = go (reached ds (row_at at_root x)) refl leads
  where
    go : (n : Option Found) → reached ds (row_at at_root x) ≡ n → is_there (if_labelled p n) ≡ true → changing p e (state_over w x) ≡ ok o (state_over w z)
    go None q h = absurd (true≢false (sym h))
    go (Some f) q h = here (is_one_of p f.labels) refl h
      where
        here : (b : Bool) → is_one_of p f.labels ≡ b → is_there (if b then Some f else None) ≡ true → changing p e (state_over w x) ≡ ok o (state_over w z)
        here true d h2 = changes_labelled only w x z at_root p ds e o f ready q d changes
        here false d h2 = absurd (true≢false (sym h2))

-- the hint is taken away before, and comes back
pub changes : IsTheNode → (x x' y z : RunState) (at_root : Root) (p : ℕ) (ds : List ℕ) (e : Edit) (r : Result (Option trees.Tree) AllocError)
    → ((w : List Account) → state_over w x' ≡ state_over w x) → IsTrue (is_there (if_labelled p (reached ds (row_at at_root x')))) → IfOk r (λ o. ChangesAt at_root ds e (option_map pure_tree o) x' y)
    → ((w : List Account) → state_over w z ≡ state_over w y) → IfOk r (λ o. (w : List Account) → IsReady w x → changing p e (state_over w x) ≡ ok (option_map pure_tree o) (state_over w z))
changes only x x' y z at_root p ds e (Ok o) before leads there after = λ w ready.
    ap (changing p e) (sym (before w))
    ∙ changes_reached only w x' y at_root p ds e (option_map pure_tree o) (record { unnamed = ready.unnamed; once = subst AreGivenOnce (sym (before w)) ready.once }) leads there
    ∙ ap (ok (option_map pure_tree o)) (sym (after w))
changes only x x' y z at_root p ds e (Err error) before leads there after = tt
