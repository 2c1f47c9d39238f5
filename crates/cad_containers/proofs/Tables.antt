-- Pairs of a literal, one behind the other.
use Rattle.std.proofs.Common.{◌≡◌, ℕ, Bool, true, false, List, [], ◌∷◌, ◌++◌, length, Option, Some, None, refl, sym, ap, ◌∙◌, subst}
use Rattle.std.specs.Prelude.{Result, Ok, Err}
use Rattle.cad_syntax.specs.Types.{PureType}
use Rattle.cad_types.specs.Declarations.{resource}
use Rattle.cad_values.specs.Values.{PureValue}
use Rattle.cad_rows.specs.Views.{pure_tree}
use Rattle.cad_rows.specs.declared.tree.Tree.{Tree}
use Rattle.cad_world.specs.Declared.{declarations}
use Rattle.cad_world.specs.Locations.{key_position}
use Rattle.cad_world.specs.Rows.{put, add_last, dictionary}
use Rattle.cad_world.specs.Rows as rows
use Rattle.cad_world.specs.State.{State, Action, Outcome, ok, failed, bind, give}
use Rattle.cad_world.specs.Trees.{value_of, whole}
use Rattle.cad_evaluation.specs.Containers.{room}
use Rattle.cad_evaluation.specs.Uses as uses
use Rattle.cad_outcomes.specs.Outcomes.{Does, Gives, Stops}
use Rattle.cad_outcomes.specs.declared.stop.Stop.{Stop}
use Rattle.cad_outcomes.proofs.Steps.{stops_on, stops_same, does_same, gives_here, then}
use Rattle.cad_containers.specs.Code.Tables.{pure_table, with_pair, with_all, Adds, Reaches}
use Rattle.cad_containers.specs.declared.literals.Table.{Table}

-- ---- one pair

pub refused : (b x : Bool) (table : uses.Table) (p : uses.Pair) (i : ℕ) (s : State) → x ≡ b → x ≡ true → uses.with_key b table p (Some i) s ≡ failed 115
refused b x table p i s e f = ap (λ y. uses.with_key y table p (Some i) s) (sym e ∙ f)

pub replaced : (type : PureType) (x : Bool) (table : uses.Table) (p : uses.Pair) (i : ℕ) (s : State) (r : Result Table Stop) → x ≡ resource (declarations s) type → x ≡ false
    → Gives pure_table (give (record table { values = put i p.value table.values })) r → Does pure_table (λ z. uses.with_key (resource (declarations z) type) table p (Some i) z) s s r
replaced type x table p i s r e f h =
    does_same pure_table (λ z. uses.with_key (resource (declarations z) type) table p (Some i) z) (give (record table { values = put i p.value table.values })) s s r
    (ap (λ y. uses.with_key y table p (Some i) s) (sym e ∙ f)) (gives_here pure_table (give (record table { values = put i p.value table.values })) r s h)

pub placed : (type : PureType) (table : uses.Table) (p : uses.Pair) (v : PureValue) (o : Option ℕ) (s : State) (r : Result Table Stop) → value_of p.key ≡ v → o ≡ key_position v table.keys
    → Does pure_table (λ z. uses.with_key (resource (declarations z) type) table p o z) s s r → Does pure_table (with_pair type table p) s s r
placed type table p v o s r e f h =
    does_same pure_table (with_pair type table p) (λ z. uses.with_key (resource (declarations z) type) table p o z) s s r
    (ap (λ q. uses.with_key (resource (declarations s) type) table p q s) (ap (λ w. key_position w table.keys) e ∙ sym f)) h

-- a key that isn't there
pub added : (type : PureType) (table : uses.Table) (p : uses.Pair) (v : PureValue) (s : State) (r : Result Table Stop) → value_of p.key ≡ v → None ≡ key_position v table.keys
    → Gives pure_table (give (record { keys = table.keys ++ v ∷ []; values = add_last p.value table.values })) r → Does pure_table (with_pair type table p) s s r
added type table p v s r e f h =
    does_same pure_table (with_pair type table p) (give (record { keys = table.keys ++ v ∷ []; values = add_last p.value table.values })) s s r
    (ap (λ q. uses.with_key (resource (declarations s) type) table p q s) (ap (λ w. key_position w table.keys) e ∙ sym f)
    ∙ ap (λ w. ok (record { keys = table.keys ++ w ∷ []; values = add_last p.value table.values }) s) e)
    (gives_here pure_table (give (record { keys = table.keys ++ v ∷ []; values = add_last p.value table.values })) r s h)

-- ---- all pairs

abbrev rest_of : PureType → State → List uses.Pair → uses.Table → Action uses.Table
rest_of value s ps = λ table. λ v. uses.with_pairs (resource (declarations s) value) table ps v

pub turn : (value : PureType) (s : State) (all : Outcome uses.Table) (done next : Result Table Stop) (p : uses.Pair) (left rest : List uses.Pair)
    → left ≡ p ∷ rest → Adds value s done p next → Reaches value s all done left → Reaches value s all next rest
turn value s all (Ok t) (Ok u) p left rest split step so_far = so_far ∙ ap (λ ps. with_all value (pure_table t) ps s) split ∙ ap (λ o. bind o (rest_of value s rest)) step
turn value s all (Ok t) (Err stop) p left rest split step so_far =
    stops_same all (bind (with_pair value (pure_table t) p s) (rest_of value s rest)) stop (so_far ∙ ap (λ ps. with_all value (pure_table t) ps s) split)
    (stops_on (with_pair value (pure_table t) p s) (rest_of value s rest) stop step)
turn value s all (Err stop) (Ok u) p left rest split step so_far = absurd (cc step)
turn value s all (Err stop) (Err other) p left rest split step so_far = subst (λ (x : Stop). Stops all x) (sym (cc step)) so_far

pub end : (value : PureType) (p : Action uses.Table) (s : State) (done : Result Table Stop) (left : List uses.Pair) → left ≡ [] → Reaches value s (p s) done left → Does pure_table p s s done
end value p s (Ok t) left none so_far = so_far ∙ ap (λ ps. with_all value (pure_table t) ps s) none
end value p s (Err stop) left none so_far = so_far

abbrev empty : uses.Table
empty = record { keys = []; values = rows.stop }

abbrev told : PureType → PureType → uses.Table → Action rows.Tree
told key value table = room (length table.keys) (give (whole (dictionary key value table.keys) table.values))

pub literal : (key value : PureType) (ps : List uses.Pair) (s : State) (table : Table) (r : Result Tree Stop) → with_all value empty ps s ≡ ok (pure_table table) s
    → Gives pure_tree (told key value (pure_table table)) r → Does pure_tree (uses.dictionary_of key value ps) s s r
literal key value ps s table r first second =
    does_same pure_tree (uses.dictionary_of key value ps) (λ z. bind (with_all value empty ps s) (λ t. told key value t)) s s r refl
    (then pure_tree (λ z. with_all value empty ps s) (λ t. told key value t) (pure_table table) s s s r first (gives_here pure_tree (told key value (pure_table table)) r s second))

pub literal_stops : (key value : PureType) (ps : List uses.Pair) (s : State) (why : Stop) → Stops (with_all value empty ps s) why → Stops (uses.dictionary_of key value ps s) why
literal_stops key value ps s why h = stops_on (with_all value empty ps s) (λ t. told key value t) why h
