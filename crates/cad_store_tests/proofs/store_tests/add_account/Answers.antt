use Rattle.cad_store_tests.proofs.store_tests.add_account.Goals as goal

pub commit-requires-clause-on : goal.commit-requires-clause-on
commit-requires-clause-on g c = λ tell. c.in-Ok-ready.ensures.on (g.H.Host.trace c.args.host.now) (c.requires.on tell)
