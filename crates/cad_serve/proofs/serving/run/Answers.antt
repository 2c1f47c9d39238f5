use Rattle.cad_serve.proofs.Runs.{ends_memory}
use Rattle.cad_serve.proofs.serving.run.Goals as goal

pub returns-in_default-clause-ends : goal.returns-in_default-clause-ends
returns-in_default-clause-ends g c = λ tell w stands. ends_memory c.args.store.now w (g.H.Host.left c.args.host.now) (g.H.Host.left c.args.host.now) (g.H.Host.trace c.args.host.now) stands (c.requires.on tell)
