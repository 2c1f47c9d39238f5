use Rattle.std.specs.Prelude.{List, map}
use Rattle.std.proofs.Common.{sym, subst}
use Rattle.cad_loading.specs.Views.{held_of}
use Rattle.cad_loading.specs.declared.held.Held.{Held}
use Rattle.cad_loads.specs.Loads.{Loads}
use Rattle.cad_loading.proofs.kept.begun_by.Goals as goal

pub begun-requires : goal.begun-requires
begun-requires c = subst (λ (all : List Held). Loads (map held_of all)) (sym c.as_slice.ensures.value) c.kept.invariant
