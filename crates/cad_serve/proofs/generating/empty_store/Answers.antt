use Rattle.std.proofs.Common.{subst}
use Rattle.cad_host.specs.Disk.{reads}
use Rattle.cad_store.specs.Stores.{held, DiskHolds}
use Rattle.cad_serve.proofs.Generatings.{empty_stands}
use Rattle.cad_serve.proofs.generating.empty_store.Goals as goal

pub returns-in-Ok-clause-stands : goal.returns-in-Ok-clause-stands
returns-in-Ok-clause-stands c = empty_stands (held c.in-Ok.store) (subst (λ m. DiskHolds (reads m) (held c.in-Ok.store)) c.requires (c.in-Ok.ensures.holds tt))
