use Rattle.std.specs.Prelude.{List, map}
use Rattle.std.proofs.Common.{sym, subst}
use Rattle.cad_loading.specs.Views.{held_of}
use Rattle.cad_loading.specs.declared.held.Held.{Held}
use Rattle.cad_loads.specs.Loads.{Loads, none}
use Rattle.cad_loading.proofs.kept.nothing_kept.Goals as goal

pub invariant_of-result : goal.invariant_of-result
invariant_of-result c = subst (λ (all : List Held). Loads (map held_of all)) (sym c.new.ensures.items) none
