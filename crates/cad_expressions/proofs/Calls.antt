-- Calls, and what is made, by their parts.
use Rattle.std.proofs.Common.{◌≡◌, ℕ, Bool, true, false, List, Option, Some, None, refl, ap}
use Rattle.cad_syntax.specs.Types.{PureType}
use Rattle.cad_syntax.specs.declared.text.Name.{Name}
use Rattle.cad_syntax.specs.declared.type_id.TypeId.{TypeId}
use Rattle.cad_types.specs.declared.builtin.Builtin.{Builtin}
use Rattle.cad_declarations.specs.Builtins.{is_read}
use Rattle.cad_declarations.specs.Tables.{TypeEntry}
use Rattle.cad_declarations.specs.Typed.{FunctionBody}
use Rattle.cad_world.specs.Declared.{entry_of, bodies_of}
use Rattle.cad_world.specs.Receivers.{Receiver, Spot, look_at}
use Rattle.cad_world.specs.Rows.{Row, Tree}
use Rattle.cad_world.specs.State.{State, Outcome, ok, failed, limit, ill, bind, Action, ◌>>=◌, ◌>>◌, give, done, choose, tick, with_some}
use Rattle.cad_evaluation.specs.Builtins as built_in
use Rattle.cad_evaluation.specs.Callees.{Calls, method, initializer}
use Rattle.cad_evaluation.specs.Making.{begin, create, draw_identity, field_names, finish, initialized, initializer_of, make}
use Rattle.cad_evaluation.specs.Reading.{composite_id}
use Rattle.cad_evaluation.specs.Uses.{invoked}
use Rattle.cad_labels.specs.Laws.{AnyOne, CalleesKeep, HasNone, HasNoneInRow, Keeps}
use Rattle.cad_labels.proofs.Forms.{keeps_give, keeps_some, keeps_spend}
use Rattle.cad_labels.proofs.Keeping.{keeps_bind}
use Rattle.cad_labels.proofs.Places.{begins_keep, looks_keep}
use Rattle.cad_label_runs.proofs.Making.{draw_identity_keeps}
use Rattle.cad_making.specs.Making.{begun}
use Rattle.cad_expression_leaves.specs.Code.Steps.{built_in_called, method_called, aimed_again, identity_drawn, created, fields_set, made_from, is_written}

-- ---- built-in functions

pub read_same : (b : Builtin) (types : List PureType) (row : Row) → is_read b ≡ true → (s : State) → built_in_called b types row s ≡ built_in.function b types row s
unfolding built_in_called
read_same b types row is s = ap (λ x. bind (choose x done tick s) (λ u. built_in.function b types row)) is

pub called_same : (b : Builtin) (types : List PureType) (row : Row) → is_read b ≡ false → (s : State)
    → built_in_called b types row s ≡ (tick >>= (λ (u : Unit {0}). built_in.function b types row)) s
unfolding built_in_called
called_same b types row is s = ap (λ x. bind (choose x done tick s) (λ u. built_in.function b types row)) is

-- ---- methods

picked_cases : (id : Option TypeId) (l : Option ℕ) (k : TypeId → ℕ → Action Tree) (s : State)
    → with_some id (λ i. with_some l (λ p. k i p)) s ≡ bind (with_some id (λ i. with_some l (λ p. give (i, p))) s) (λ (a : TypeId × ℕ). k a.0 a.1)
picked_cases None l k s = refl
picked_cases (Some i) None k s = refl
picked_cases (Some i) (Some p) k s = refl

module _ (calls : Calls) where
  aim_cases : (n : Name) (row : Row) (r : Receiver) (t : Outcome (Unit {0}))
      → bind (bind t (λ u. look_at r)) (invoked calls n row)
      ≡ bind (bind t (λ u. look_at r >>= (λ spot. with_some (composite_id spot.tree) (λ id. with_some spot.label (λ l. give (id, l)))))) (λ (a : TypeId × ℕ). calls (method a.0 n a.1) row)
  aim_cases n row r (ok u s) = look_cases (look_at r s)
    where
      look_cases : (o : Outcome Spot) → bind o (invoked calls n row)
          ≡ bind (bind o (λ spot. with_some (composite_id spot.tree) (λ id. with_some spot.label (λ l. give (id, l))))) (λ (a : TypeId × ℕ). calls (method a.0 n a.1) row)
      look_cases (ok spot w) = picked_cases (composite_id spot.tree) spot.label (λ id l. calls (method id n l) row) w
      look_cases (failed e) = refl
      look_cases limit = refl
      look_cases ill = refl
  aim_cases n row r (failed e) = refl
  aim_cases n row r limit = refl
  aim_cases n row r ill = refl

  pub method_same : (n : Name) (row : Row) (r : Receiver) (s : State) → method_called calls n r row s ≡ (aimed_again r >>= (λ (a : TypeId × ℕ). calls (method a.0 n a.1) row)) s
  unfolding method_called aimed_again
  method_same n row r s = aim_cases n row r (tick s)

  -- ---- what is made

  make_cases : (id : TypeId) (i : ℕ) (row : Row) (entry : Option TypeEntry) (o : Option FunctionBody) (s : State)
      → with_some entry (λ x. begin id i (field_names x.members) >>= (λ l. initialized calls id l row o >> finish)) s
      ≡ bind (with_some entry (λ x. begin id i (field_names x.members)) s) (λ l. fields_set calls id l (is_written o) row >> finish)
  unfolding fields_set
  make_cases id i row None o s = refl
  make_cases id i row (Some x) None s = refl
  make_cases id i row (Some x) (Some body) s = refl

  pub make_same : (id : TypeId) (i : ℕ) (row : Row) (s : State)
      → make calls id i row s ≡ (begun id i >>= (λ l. made_from calls id l (is_written (initializer_of (bodies_of s id))) row)) s
  unfolding made_from
  make_same id i row s = make_cases id i row (entry_of s id) (initializer_of (bodies_of s id)) s

  pub create_same : (id : TypeId) (row : Row) (s : State) → created calls id row s ≡ (identity_drawn >>= (λ i. make calls id i row)) s
  unfolding created identity_drawn
  create_same id row s = create_cases (tick s)
    where
      create_cases : (t : Outcome (Unit {0})) → bind t (λ u. create calls id row) ≡ bind (bind t (λ u. draw_identity)) (λ i. make calls id i row)
      create_cases (ok u s) = refl
      create_cases (failed e) = refl
      create_cases limit = refl
      create_cases ill = refl

  pub fields_set_keep : (id : TypeId) (l : ℕ) (written : Bool) (row : Row) → CalleesKeep calls → HasNoneInRow row → Keeps AnyOne (fields_set calls id l written row)
  unfolding fields_set
  fields_set_keep id l true row keep none = keeps_bind HasNone AnyOne (calls (initializer id l) row) (λ t. done) (keep (initializer id l) row none) (λ t h. keeps_give {A = Unit {0}} AnyOne tt tt)
  fields_set_keep id l false row keep none = keeps_give {A = Unit {0}} AnyOne tt tt

pub aimed_again_keeps : (r : Receiver) → Keeps AnyOne (aimed_again r)
unfolding aimed_again
aimed_again_keeps r = keeps_bind AnyOne AnyOne tick (λ u. look_at r >>= (λ spot. with_some (composite_id spot.tree) (λ id. with_some spot.label (λ l. give (id, l))))) (keeps_spend 1)
    (λ u h. keeps_bind AnyOne AnyOne (look_at r) (λ spot. with_some (composite_id spot.tree) (λ id. with_some spot.label (λ l. give (id, l)))) (looks_keep r)
    (λ spot h. keeps_some AnyOne (composite_id spot.tree) (λ id. with_some spot.label (λ l. give (id, l))) (λ id. keeps_some AnyOne spot.label (λ l. give (id, l)) (λ l. keeps_give {A = TypeId × ℕ} AnyOne (id, l) tt))))

pub begun_keeps : (id : TypeId) (i : ℕ) → Keeps AnyOne (begun id i)
begun_keeps id i = λ s once. keeps_some AnyOne (entry_of s id) (λ entry. begin id i (field_names entry.members)) (λ entry. begins_keep id i (field_names entry.members)) s once

pub identity_drawn_keeps : Keeps AnyOne identity_drawn
unfolding identity_drawn
identity_drawn_keeps = keeps_bind AnyOne AnyOne tick (λ u. draw_identity) (keeps_spend 1) (λ u h. draw_identity_keeps)
