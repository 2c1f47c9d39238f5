-- A sound World stands as it stands between runs.
use Rattle.std.proofs.Common.{◌≡◌, ℕ, Bool, false, List, [], ◌∷◌, map, All, refl, sym, subst}
use Rattle.std.proofs.lemmas.List.Elements.{recursion_from_All}
use Rattle.std.specs.List.{AllByRecursion}
use Rattle.cad_syntax.specs.declared.text.Name.{Name}
use Rattle.cad_syntax.specs.declared.type_id.TypeId.{TypeId}
use Rattle.cad_values.specs.Shapes.{Shapes}
use Rattle.cad_values.specs.Values as v
use Rattle.cad_world.specs.Begin.{begun, left_world, kept_account, kept_contract, IsKept}
use Rattle.cad_world.specs.Fits.{IsOfValue}
use Rattle.cad_world.specs.Rows.{Row, stop, gap, node, Tree, bare}
use Rattle.cad_world.specs.Shapes.{shapes}
use Rattle.cad_world.specs.Sound.{AreStored, SoundAccount, IsValueOf, Accepts, accepted_by, SoundContract, Sound}
use Rattle.cad_world.specs.State.{Account, Contract, Program, World}
use Rattle.cad_world.specs.Trees.{tree_of, row_of, entries_row, fields_row, value_of}
use Rattle.cad_runs.proofs.ReadBack.{read_back}
use Rattle.cad_runs.specs.Laws.{SoundReadsBack}

mutual
  bare_parts : (x : v.PureValue) → bare (tree_of x).parts ≡ (tree_of x).parts
  bare_parts (v.some x) = bare_parts x
  bare_parts (v.array t vs) = bare_values vs
  bare_parts (v.dictionary k t es) = bare_entries es
  bare_parts (v.composite id n fs) = bare_fields fs
  bare_parts _ = refl

  bare_values : (vs : v.Values) → bare (row_of vs) ≡ row_of vs
  bare_values v.no_values = refl
  bare_values (v.values x vs) = λ i. node [] (tree_of x).optionals (tree_of x).shape (bare_parts x i) (bare_values vs i)

  bare_entries : (es : v.Entries) → bare (entries_row es) ≡ entries_row es
  bare_entries v.no_entries = refl
  bare_entries (v.entries k x es) = λ i. node [] (tree_of x).optionals (tree_of x).shape (bare_parts x i) (bare_entries es i)

  bare_fields : (fs : v.Fields) → bare (fields_row fs) ≡ fields_row fs
  bare_fields v.no_fields = refl
  bare_fields (v.fields n x fs) = λ i. node [] (tree_of x).optionals (tree_of x).shape (bare_parts x i) (bare_fields fs i)

-- the tree of a value has no labels
bare_tree : (t : Tree) → IsOfValue t → bare t.parts ≡ t.parts
bare_tree t e = subst (λ (u : Tree). bare u.parts ≡ u.parts) e (bare_parts (value_of t))

bare_stored : (k : Shapes) (names : List Name) (r : Row) → AreStored k names r → bare r ≡ r
bare_stored k [] stop h = refl
bare_stored k [] (gap r) h = absurd h
bare_stored k [] (node l n s p r) h = absurd h
bare_stored k (i ∷ names) stop h = absurd h
bare_stored k (i ∷ names) (gap r) h = absurd h
bare_stored k (i ∷ names) (node [] n s p r) h = λ j. node [] n s (bare_tree (record { optionals = n; shape = s; parts = p }) h.2.of_value j) (bare_stored k names r h.3 j)
bare_stored k (i ∷ names) (node (l ∷ ls) n s p r) h = absurd h

bare_value : (k : Shapes) (id : TypeId) (r : Row) → IsValueOf k id r → bare r ≡ r
bare_value k id stop h = absurd h
bare_value k id (gap r) h = absurd h
bare_value k id (node [] n s p stop) h = λ j. node [] n s (bare_tree (record { optionals = n; shape = s; parts = p }) h.1.of_value j) stop
bare_value k id (node [] n s p (gap r)) h = absurd h
bare_value k id (node [] n s p (node l m t q r)) h = absurd h
bare_value k id (node (l ∷ ls) n s p r) h = absurd h

kept_accounts : (k : Shapes) (all : List Account) → AllByRecursion (SoundAccount k) all → map kept_account all ≡ all
kept_accounts k [] h = refl
kept_accounts k (a ∷ all) h = λ j. record a { stored = bare_stored k a.identifiers a.stored h.0.stored j } ∷ kept_accounts k all h.1 j

kept_contracts : (accepts : Accepts) (w : World) (all : List Contract) → AllByRecursion (SoundContract accepts w) all → map kept_contract all ≡ all
kept_contracts accepts w [] h = refl
kept_contracts accepts w (c ∷ all) h =
    λ j. record c { value = bare_value (shapes w.contracts) c.id c.value h.0.value j; is_running = (sym h.0.stands) j } ∷ kept_contracts accepts w all h.1 j

pub is_kept : (accepts : Accepts) (w : World) → Sound accepts w → IsKept w
is_kept accepts w h = record {
  accounts = kept_accounts (shapes w.contracts) w.accounts (recursion_from_All (SoundAccount (shapes w.contracts)) w.accounts h.accounts);
  contracts = kept_contracts accepts w w.contracts (recursion_from_All (SoundContract accepts w) w.contracts h.contracts);
  rising = h.contracts_rise;
}

pub sound_reads_back : SoundReadsBack
sound_reads_back front program units w h = read_back program units w (is_kept (accepted_by front) w h)
