use Rattle.cad_host.proofs.Kept.{settled_none, settled_put, settled_write, settled_sync, settled_filled, settled_take, settled_look}
use Rattle.cad_host.proofs.laws.no_shorter_than_synced.Goals as goal

pub returns-clause-none : goal.returns-clause-none
returns-clause-none c = settled_none

pub returns-clause-put : goal.returns-clause-put
returns-clause-put c = settled_put

pub returns-clause-write : goal.returns-clause-write
returns-clause-write c = settled_write

pub returns-clause-sync : goal.returns-clause-sync
returns-clause-sync c = settled_sync

pub returns-clause-fill : goal.returns-clause-fill
returns-clause-fill c = settled_filled

pub returns-clause-take : goal.returns-clause-take
returns-clause-take c = settled_take

pub returns-clause-look : goal.returns-clause-look
returns-clause-look c = settled_look
