-- Arguments, one after another.
use Rattle.std.proofs.Common.{◌≡◌, Bor, ℕ, zero, suc, ◌+◌, ◌-◌, ◌<◌, ◌≤◌, ◌==◌, Bool, true, false, List, [], ◌∷◌, map, length, get_or, take, drop, refl, sym, ap, ◌∙◌, subst, add-one, arith}
use Rattle.std.proofs.lemmas.List.{take_rest}
use lib.Dec.{eqb-suc-zero}
use Rattle.serde_json.specs.Data.{Data}
use Rattle.serde_json.specs.View.{view}
use Rattle.serde_json.specs.declared.value.Value.{Value}
use Rattle.cad_syntax.specs.Types.{PureType, pure_type}
use Rattle.cad_syntax.specs.declared.types.CadType.{CadType}
use Rattle.cad_values.specs.Shapes.{Shapes}
use Rattle.cad_values.specs.Values.{PureValue}
use Rattle.cad_json.specs.Read.{JsonOf}
use Rattle.cad_rows.proofs.CopyLaws.{join_stop}
use Rattle.cad_world.specs.Rows.{Row, stop, gap, node, Tree, first, join, add_last}
use Rattle.cad_world.specs.Trees.{tree_of}
use Rattle.cad_run_worlds.specs.Code.{Adds, AddsAll}
use Rattle.cad_run_worlds.specs.Replies.{AreArguments, none, one}

-- ---- what arguments are made of

pub record Parts (k : Shapes) (type : PureType) (types : List PureType) (json : Data) (all : List Data) (r : Row) : Type 0 where
  pub value : PureValue
  pub stands : JsonOf k type value json
  pub row : Row
  pub others : AreArguments k types all row
  pub same : r ≡ first (tree_of value) row

pub parts_of : {k : Shapes} {type : PureType} {types : List PureType} {json : Data} {all : List Data} {r : Row} → AreArguments k (type ∷ types) (json ∷ all) r → Parts k type types json all r
parts_of (one {r = row} v stands others) = record { value = v; stands = stands; row = row; others = others; same = refl }

pub too_few : {k : Shapes} {type : PureType} {types : List PureType} {r : Row} → AreArguments k (type ∷ types) [] r → ⊥
too_few h = elim h [ ]

pub too_many : {k : Shapes} {json : Data} {all : List Data} {r : Row} → AreArguments k [] (json ∷ all) r → ⊥
too_many h = elim h [ ]

pub nothing : {k : Shapes} {r : Row} → AreArguments k [] [] r → r ≡ stop
nothing none = refl

pub as_many : (k : Shapes) (types : List PureType) (all : List Data) (r : Row) → AreArguments k types all r → length all ≡ length types
as_many k [] [] r h = refl
as_many k [] (json ∷ all) r h = absurd (too_many h)
as_many k (type ∷ types) [] r h = absurd (too_few h)
as_many k (type ∷ types) (json ∷ all) r h = let parts = parts_of h in ap suc (as_many k types all parts.row parts.others)

-- ---- a turn

join_one : (t : Tree) (done r : Row) → join (add_last t done) r ≡ join done (first t r)
join_one t stop r = refl
join_one t (gap q) r = ap gap (join_one t q r)
join_one t (node l n s k q) r = ap (node l n s k) (join_one t q r)

one_more : (k : Shapes) (type : PureType) (types : List PureType) (json : Data) (all : List Data) (before next after : Row) (b : Bool)
    → Adds k type json before next true → AddsAll k types all next after b → AddsAll k (type ∷ types) (json ∷ all) before after b
one_more k type types json all before next after true added rest =
    (first (tree_of added.0) rest.0, one added.0 added.1 rest.1, rest.2 ∙ ap (λ x. join x rest.0) added.2 ∙ join_one (tree_of added.0) before rest.0)
one_more k type types json all before next after false added rest = λ r h. let parts = parts_of h in rest parts.row parts.others

-- ---- the loop

-- whatever the rest comes to from here, the whole comes to from the beginning
abbrev pub Leads : Shapes → List PureType → List Data → Row → List PureType → List Data → Row → Type 0
Leads k types all before rest left now = (after : Row) (b : Bool) → AddsAll k rest left now after b → AddsAll k types all before after b

abbrev pub type_at : Bor CadType → PureType
type_at t = pure_type t.now

abbrev pub rest_types : List (Bor CadType) → ℕ → List PureType
rest_types ts i = map type_at (drop i ts)

types_from : (ts : List (Bor CadType)) (i : ℕ) (t d : Bor CadType) → i < length ts → t ≡ get_or ts i d → rest_types ts i ≡ type_at t ∷ rest_types ts (suc i)
types_from [] i t d inside is = absurd (omega (arith, inside))
types_from (q ∷ ts) zero t d inside is = ap (λ (x : Bor CadType). type_at x ∷ map type_at ts) (sym is)
types_from (q ∷ ts) (suc i) t d inside is = types_from ts i t d (omega (arith, inside)) is

types_past : (ts : List (Bor CadType)) (i : ℕ) → length ts ≤ i → rest_types ts i ≡ []
types_past [] zero outside = refl
types_past [] (suc i) outside = refl
types_past (q ∷ ts) zero outside = absurd (omega (arith, outside))
types_past (q ∷ ts) (suc i) outside = types_past ts i (omega (arith, outside))

-- the first argument and the others
split : (left : List Value) (json : Value) → 1 ≤ length left → json ≡ get_or left 0 json → map view left ≡ view json ∷ map view (take (length left - 1) (drop 1 left))
split [] json there is = absurd (omega (arith, there))
split (x ∷ xs) json there is = ap (λ z. view z ∷ map view xs) (sym is) ∙ ap (λ (zs : List Value). view json ∷ map view zs) (sym (take_rest (x ∷ xs) 1))

module _ (k : Shapes) (types : List PureType) (all : List Data) (before : Row) (ts : List (Bor CadType)) (i : ℕ) (left : List Value) (now : Row) where
  pub turn : (t d : Bor CadType) (json : Value) (next : Row) → i < length ts → t ≡ get_or ts i d → 1 ≤ length left → json ≡ get_or left 0 json
      → Leads k types all before (rest_types ts i) (map view left) now → Adds k (type_at t) (view json) now next true
      → Leads k types all before (rest_types ts (i + 1)) (map view (take (length left - 1) (drop 1 left))) next
  turn t d json next inside is there here so_far added after b rest =
      let more = take (length left - 1) (drop 1 left) in
      let step : rest_types ts i ≡ type_at t ∷ rest_types ts (i + 1) = rw add-one (types_from ts i t d inside is) in
      so_far after b (subst (λ (us : List PureType). AddsAll k us (map view left) now after b) (sym step)
      (subst (λ (js : List Data). AddsAll k (type_at t ∷ rest_types ts (i + 1)) js now after b) (sym (split left json there here))
      (one_more k (type_at t) (rest_types ts (i + 1)) (view json) (map view more) now next after b added rest)))

  -- one that stands for no value
  pub stands_not : (t d : Bor CadType) (json : Value) (next after : Row) → i < length ts → t ≡ get_or ts i d → 1 ≤ length left → json ≡ get_or left 0 json
      → Leads k types all before (rest_types ts i) (map view left) now → Adds k (type_at t) (view json) now next false → AddsAll k types all before after false
  stands_not t d json next after inside is there here so_far refused =
      so_far after false (subst (λ (us : List PureType). AddsAll k us (map view left) now after false) (sym (types_from ts i t d inside is))
      (subst (λ (js : List Data). AddsAll k (type_at t ∷ rest_types ts (suc i)) js now after false) (sym (split left json there here))
      (λ r h. let parts = parts_of h in refused parts.value parts.stands)))

-- a type without an argument
pub lacks : (k : Shapes) (types : List PureType) (all : List Data) (before : Row) (ts : List (Bor CadType)) (i : ℕ) (left : List Value) (now : Row) (t d : Bor CadType) (after : Row)
    → i < length ts → t ≡ get_or ts i d → length left < 1 → Leads k types all before (rest_types ts i) (map view left) now → AddsAll k types all before after false
lacks k types all before ts i [] now t d after inside is short so_far =
    so_far after false (subst (λ (us : List PureType). AddsAll k us [] now after false) (sym (types_from ts i t d inside is)) (λ r h. too_few h))
lacks k types all before ts i (x ∷ xs) now t d after inside is short so_far = absurd (omega (arith, short))

-- no type is left
pub ends : (k : Shapes) (types : List PureType) (all : List Data) (before : Row) (ts : List (Bor CadType)) (i : ℕ) (left : List Value) (now : Row) (b : Bool)
    → length ts ≤ i → b ≡ (length left == 0) → Leads k types all before (rest_types ts i) (map view left) now → AddsAll k types all before now b
ends k types all before ts i [] now b outside is so_far =
    subst (AddsAll k types all before now) (sym is)
    (so_far now true (subst (λ (us : List PureType). AddsAll k us [] now now true) (sym (types_past ts i outside)) (stop, none, sym (join_stop now))))
ends k types all before ts i (x ∷ xs) now b outside is so_far =
    subst (AddsAll k types all before now) (sym (is ∙ eqb-suc-zero (length xs)))
    (so_far now false (subst (λ (us : List PureType). AddsAll k us (view x ∷ map view xs) now now false) (sym (types_past ts i outside)) (λ r h. too_many h)))
