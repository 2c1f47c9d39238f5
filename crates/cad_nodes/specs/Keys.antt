-- The keys of a dictionary's shape.
use Rattle.std.specs.Prelude.{ℕ, [], ◌∷◌, ◌++◌}
use Rattle.cad_evaluation.specs.Containers as containers
use Rattle.cad_values.specs.Values.{PureValue}
use Rattle.cad_world.specs.Rows.{NodeShape, dictionary}

-- with one key more, which stands last
abbrev pub with_key : PureValue → NodeShape → NodeShape
with_key key (dictionary k t ks) = dictionary k t (ks ++ key ∷ [])
with_key key s = s

-- without the key at an index
abbrev pub without_key : ℕ → NodeShape → NodeShape
without_key i (dictionary k t ks) = dictionary k t (containers.without_key i ks)
without_key i s = s
