-- What is in an optional.
use Rattle.std.specs.Prelude.{ℕ, Bool, true, false, Option, Some, None}
use Rattle.cad_evaluation.specs.Changing as changing
use Rattle.cad_rows.specs.Views.{pure_tree}
use Rattle.cad_value_operations.specs.declared.optionals.Content.{Content}
use Rattle.cad_value_operations.specs.declared.optionals.Content.TheVariants.{Nil, Inside, NoOptional}
use Rattle.cad_values.specs.Values.{PureValue, nil}
use Rattle.cad_world.specs.Rows.{NodeShape, plain, Tree}

abbrev pub is_nil_value : PureValue → Bool
is_nil_value nil = true
is_nil_value _ = false

abbrev pub is_nil : NodeShape → Bool
is_nil (plain v) = is_nil_value v
is_nil _ = false

abbrev pub in_optionals : Tree → ℕ → Tree
in_optionals t n = record t { optionals = n }

abbrev pub content_of : Content → changing.Content
content_of Nil = changing.nothing
content_of (Inside t) = changing.content (pure_tree t)
content_of NoOptional = changing.no_optional

-- whether it is nil; none of what is no optional
abbrev pub nil_in : changing.Content → Option Bool
nil_in changing.nothing = Some true
nil_in (changing.content t) = Some false
nil_in changing.no_optional = None
