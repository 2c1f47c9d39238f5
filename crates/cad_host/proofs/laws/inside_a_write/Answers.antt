use Rattle.cad_host.proofs.Inside_write.{inside_write}
use Rattle.cad_host.proofs.laws.inside_a_write.Goals as goal

pub returns : goal.returns
returns g c = λ tell t at k bytes disk inside. inside_write (g.H.Host.trace c.args.host.now) t at k bytes disk inside (g.met.H.Host.settled c.args.host.now tell)
