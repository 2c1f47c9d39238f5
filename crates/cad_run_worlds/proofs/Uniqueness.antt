-- Arguments have one row at most.
use Rattle.std.proofs.Common.{◌≡◌, true, List, [], ◌∷◌, Some, refl, sym, ap, ◌∙◌}
use Rattle.serde_json.specs.Data.{Data}
use Rattle.cad_shapes.specs.Views.{all_names_differ}
use Rattle.cad_syntax.specs.Types.{PureType}
use Rattle.cad_values.specs.Shapes.{Shapes}
use Rattle.cad_values.specs.Sizes.{most_high}
use Rattle.cad_values.specs.Values.{PureValue}
use Rattle.cad_json.specs.Read.{JsonOf}
use Rattle.cad_json_read.specs.Reading.{Known}
use Rattle.cad_json_read.proofs.Complete.{found_with}
use Rattle.cad_json_read.proofs.Known.{Enough, named_in}
use Rattle.cad_world.specs.Rows.{Row, first}
use Rattle.cad_world.specs.Trees.{tree_of}
use Rattle.cad_run_worlds.specs.Replies.{AreArguments}
use Rattle.cad_run_worlds.proofs.Turns.{parts_of, too_few, too_many, nothing}

some_is : {A : Type 0} (a b : A) → Some a ≡ Some b → a ≡ b
some_is a b e = cc

-- ---- one row of arguments

-- every type is taken for one that arguments can have: a value that is read where it can't is found all the same
abbrev known : Shapes → Known
known k = record { shapes = k; importable = λ id. true }

-- where the names of a type's fields differ
module _ (k : Shapes) (distinct : all_names_differ k.types ≡ true) where
  is_enough : Enough (known k)
  is_enough = record { allowed = λ id h. refl; named = λ id shape e. named_in k.types id shape distinct e }

  one_value : (type : PureType) (json : Data) (x y : PureValue) → JsonOf k type x json → JsonOf k type y json → x ≡ y
  one_value type json x y a b = some_is x y (sym (found_with (known k) is_enough a.reads most_high a.low) ∙ found_with (known k) is_enough b.reads most_high b.low)

  pub one_row : (types : List PureType) (all : List Data) (r q : Row) → AreArguments k types all r → AreArguments k types all q → r ≡ q
  one_row [] [] r q a b = nothing a ∙ sym (nothing b)
  one_row [] (json ∷ all) r q a b = absurd (too_many a)
  one_row (type ∷ types) [] r q a b = absurd (too_few a)
  one_row (type ∷ types) (json ∷ all) r q a b =
      let these = parts_of a in
      let those = parts_of b in
      these.same
      ∙ ap (λ v. first (tree_of v) these.row) (one_value type json these.value those.value these.stands those.stands)
      ∙ ap (first (tree_of those.value)) (one_row types all these.row those.row these.others those.others)
      ∙ sym those.same
