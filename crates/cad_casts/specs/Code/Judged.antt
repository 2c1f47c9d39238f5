-- A cast in three steps: the own type, whether it is of the type, and what comes of it.
use Rattle.std.specs.Prelude.{Bool, true, false}
use Rattle.cad_syntax.specs.Types.{PureType}
use Rattle.cad_grammar.specs.declared.expression.CastKind.{CastKind}
use Rattle.cad_grammar.specs.declared.expression.CastKind.TheVariants.{Static, Failable, Forced}
use Rattle.cad_types.specs.Below.{below}
use Rattle.cad_world.specs.Rows.{Tree}
use Rattle.cad_world.specs.State.{Action, ok, ◌>>=◌, give, fail}
use Rattle.cad_world.specs.Trees.{wrapped, nil_tree}
use Rattle.cad_world.specs.Declared.{declarations}
use Rattle.cad_world.specs.Transfers.{transferred}
use Rattle.cad_evaluation.specs.Casts.{with_type}

-- whether what is of the first type passes for one of the second; a static cast doesn't ask
abbrev pub judged : CastKind → PureType → PureType → Action Bool
judged Static own type = give true
judged Failable own type = λ s. ok (below (declarations s) own type) s
judged Forced own type = λ s. ok (below (declarations s) own type) s

-- of a failable cast the result is an optional
abbrev pub handed : CastKind → Tree → Tree
handed Failable t = wrapped t
handed kind t = t

abbrev pub refused : CastKind → Action Tree
refused Failable = give nil_tree
refused kind = fail 107

abbrev pub cast_if : CastKind → PureType → Tree → Bool → Action Tree
cast_if kind type t true = transferred type t >>= (λ v. give (handed kind v))
cast_if kind type t false = refused kind

-- of what has the first type
abbrev pub cast_from : CastKind → PureType → PureType → Tree → Action Tree
cast_from kind own type t = judged kind own type >>= cast_if kind type t

-- a cast by the own type
abbrev pub own_cast : CastKind → PureType → Tree → Action Tree
own_cast kind type t = with_type t (λ own. give own) >>= (λ own. cast_from kind own type t)
