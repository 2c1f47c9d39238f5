-- What rows of trees are to the definitions.
use Rattle.std.specs.Prelude.{Option, option_map, List, ◌++◌, map}
use Rattle.std.specs.declared.vec.Vec.{Vec}
use Rattle.std.specs.declared.alloc.Global.{Global}
use Rattle.cad_declarations.specs.Typed as e
use Rattle.cad_declarations.specs.Views as trees
use Rattle.cad_declarations.specs.declared.term.Term.{Term}

abbrev pub terms_in : Vec Term Global → List e.TermTree
terms_in all = map trees.term_of all.items

-- values of cases before others
abbrev pub terms_before : List e.TermTree → Option (List e.TermTree) → Option (List e.TermTree)
terms_before done more = option_map (λ xs. done ++ xs) more
