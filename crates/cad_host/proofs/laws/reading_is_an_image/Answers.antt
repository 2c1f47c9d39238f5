use Rattle.cad_host.proofs.Kept.{reads_disk}
use Rattle.cad_host.proofs.Replayed.{filled_disk}
use Rattle.cad_host.proofs.laws.reading_is_an_image.Goals as goal

pub returns-clause-reads : goal.returns-clause-reads
returns-clause-reads g c = λ tell. reads_disk (g.H.Host.trace c.args.host.now) (g.met.H.Host.settled c.args.host.now tell)

pub returns-clause-filled : goal.returns-clause-filled
returns-clause-filled g c = λ tell fill disk. filled_disk (g.H.Host.trace c.args.host.now) fill disk (g.met.H.Host.settled c.args.host.now tell)
