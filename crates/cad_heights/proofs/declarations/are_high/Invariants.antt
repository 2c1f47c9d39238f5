use Rattle.std.proofs.Common.{◌≡◌, map, nat_lt, drop}
use Rattle.std.specs.List.{list_any}
use Rattle.cad_grammar.specs.Views.{decl_of}
use Rattle.cad_heights.specs.Programs as spec
use Rattle.cad_heights.proofs.declarations.are_high.Given as goal

abbrev pub invariant-loop-declaration : goal.invariant-loop-declaration
invariant-loop-declaration l =
    list_any (λ d. nat_lt spec.most_levels (spec.declaration_height d)) (map decl_of (drop l.declaration-index l.all)) ≡ list_any (λ d. nat_lt spec.most_levels (spec.declaration_height d)) (map decl_of l.all)
