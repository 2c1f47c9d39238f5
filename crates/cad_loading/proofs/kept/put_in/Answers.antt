use Rattle.std.specs.Prelude.{map}
use Rattle.std.specs.declared.alloc.Global.{Global}
use Rattle.std.specs.declared.vec.Vec.{Vec}
use Rattle.std.proofs.Common.{sym, subst}
use Rattle.cad_loading.specs.Views.{held_of}
use Rattle.cad_loading.specs.declared.held.Held.{Held}
use Rattle.cad_loads.specs.Loads.{Loads}
use Rattle.cad_loading.proofs.kept.put_in.Goals as goal

pub invariant_of-kept : goal.invariant_of-kept
invariant_of-kept c = subst (λ (all : Vec Held Global). Loads (map held_of all.items)) (sym c.replace.ensures.after) c.requires
