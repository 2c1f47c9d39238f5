-- What is known of the contracts of a sound World.
use Rattle.std.proofs.Common.{◌≡◌, ◌^◌, ◌<◌, ◌≤◌, false, List, [], ◌∷◌, length, refl, ap, arith}
use Rattle.std.specs.List.{AllByRecursion}
use Rattle.std.proofs.lemmas.List.Elements.{recursion_from_All}
use Rattle.cad_syntax.specs.declared.type_id.TypeId.{TypeId}
use Rattle.cad_values.specs.Shapes.{Shapes}
use Rattle.cad_values.specs.Values.{PureValue}
use Rattle.cad_world.specs.Registers.{row_values}
use Rattle.cad_world.specs.Rows.{Row, Tree, stop, gap, node, alone}
use Rattle.cad_world.specs.Shapes.{shapes}
use Rattle.cad_world.specs.Sound.{IsValueOf, SoundContract, most_accounts}
use Rattle.cad_world.specs.State.{Contract, World}
use Rattle.cad_world.specs.Trees.{tree_of, value_of}
use Rattle.cad_worlds.specs.Standing.{any_accepted, IsSoundButCode}

-- one value stands there, and nothing else
pub record HasContent (r : Row) : Type 0 where
  pub content : PureValue
  pub only : row_values r ≡ content ∷ []
  pub alone_is : alone (tree_of content) ≡ r

pub record IsKnown (c : Contract) : Type 0 where
  pub from_one : 1 ≤ c.id.address.0
  pub fits : c.id.address.0 < 2 ^ 64
  pub has : HasContent c.value
  pub stands : c.is_running ≡ false

has_content : (k : Shapes) (id : TypeId) (r : Row) → IsValueOf k id r → HasContent r
has_content k id stop v = absurd v
has_content k id (gap r) v = absurd v
has_content k id (node (l ∷ ls) n s q r) v = absurd v
has_content k id (node [] n s q (gap r)) v = absurd v
has_content k id (node [] n s q (node l m t p r)) v = absurd v
has_content k id (node [] n s q stop) v =
    let t : Tree = record { optionals = n; shape = s; parts = q } in
    record { content = value_of t; only = refl; alone_is = ap alone v.1.of_value }

known_all : (w : World) → length w.accounts ≤ most_accounts → (cs : List Contract) → AllByRecursion (SoundContract any_accepted w) cs → AllByRecursion IsKnown cs
known_all w few [] s = tt
known_all w few (c ∷ cs) s =
    let there = s.0.there in
    (record { from_one = s.0.from_one; fits = omega arith; has = has_content (shapes w.contracts) c.id c.value s.0.value; stands = s.0.stands }, known_all w few cs s.1)

pub are_known : (w : World) → IsSoundButCode w → AllByRecursion IsKnown w.contracts
are_known w s = known_all w s.few w.contracts (recursion_from_All (SoundContract any_accepted w) w.contracts s.contracts)
