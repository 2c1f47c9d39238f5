use Rattle.cad_making.proofs.Keeping.{laying_out_keeps, events_keep, burial_keeps}
use Rattle.cad_making.proofs.laws.ends_keep_labels.Goals as goal

pub returns-clause-laid_out : goal.returns-clause-laid_out
returns-clause-laid_out c = laying_out_keeps

pub returns-clause-events : goal.returns-clause-events
returns-clause-events c = events_keep

pub returns-clause-buried : goal.returns-clause-buried
returns-clause-buried c = burial_keeps
