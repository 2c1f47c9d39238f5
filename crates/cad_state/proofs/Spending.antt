-- Units that are taken, and values that are charged.
use Rattle.std.proofs.Common.{◌≡◌, ℕ, ◌-◌, ◌<◌, ◌≤◌, ◌^◌, min, ap, ◌∙◌, Result, arith}
use Rattle.std.proofs.lemmas.Bool.{le-leb, lt-leb}
use Rattle.cad_syntax.specs.Types.{PureType}
use Rattle.cad_values.specs.Sizes.{most_high}
use Rattle.cad_world.specs.Rows.{Tree}
use Rattle.cad_world.specs.State.{State, ok, failed, limit, paid, spend, require, bind}
use Rattle.cad_world.specs.Transfers.{charged, transferred, come_to}
use Rattle.cad_world.specs.Trees.{tree_height, tree_weight}
use Rattle.cad_outcomes.specs.Outcomes.{Stops, Does, no_value}
use Rattle.cad_outcomes.specs.declared.stop.Stop.{Stop}
use Rattle.cad_outcomes.proofs.Steps.{does_same, stops_on}

pub spends : (n : ℕ) (s : State) → n ≤ s.units → spend n s ≡ ok tt (record s { units = s.units - n })
spends n s h = ap (λ b. paid n b s) (le-leb n s.units h)

pub lacks : (n : ℕ) (s : State) → s.units < n → spend n s ≡ limit
lacks n s h = ap (λ b. paid n b s) (lt-leb n s.units h)

pub too_high : (t : Tree) (s : State) (h : ℕ) → h ≡ min (tree_height t) (2 ^ 64 - 1) → 256 < h → charged t s ≡ failed 123
too_high t s h e over = ap (λ b. require 123 b (spend (tree_weight t - 1)) s) (lt-leb (tree_height t) most_high (omega (arith, e, over)))

-- a value that isn't too high, of a weight that can be told
pub charges : (t : Tree) (s u : State) (h w n : ℕ) (r : Result (Unit {0}) Stop) → h ≡ min (tree_height t) (2 ^ 64 - 1) → h ≤ 256 → w ≡ min (tree_weight t) (2 ^ 64 - 1) → w < 2 ^ 64 - 1 → n ≡ w - 1
    → Does no_value (spend n) s u r → Does no_value (charged t) s u r
charges t s u h w n r eh low ew light en done = does_same no_value (charged t) (spend n) s u r
    (ap (λ b. require 123 b (spend (tree_weight t - 1)) s) (le-leb (tree_height t) most_high (omega (arith, eh, low)))
    ∙ ap (λ k. spend k s) (let e : tree_weight t - 1 ≡ n = omega (arith, ew, light, en) in e)) done

pub hands_over : (type : PureType) (t : Tree) (s u : State) → charged t s ≡ ok tt u → transferred type t s ≡ ok (come_to type t) u
hands_over type t s u e = ap (λ o. bind o (λ _ v. ok (come_to type t) v)) e

pub hands_nothing : (type : PureType) (t : Tree) (s : State) (stop : Stop) → Stops (charged t s) stop → Stops (transferred type t s) stop
hands_nothing type t s stop h = stops_on (charged t s) (λ _ u. ok (come_to type t) u) stop h
