use Rattle.cad_host.proofs.Kept.{put_state, write_output, sync_output, take_state, look_state, look_output}
use Rattle.cad_host.proofs.laws.each_leaves_the_other.Goals as goal

pub returns-clause-put : goal.returns-clause-put
returns-clause-put c = put_state

pub returns-clause-write : goal.returns-clause-write
returns-clause-write c = write_output

pub returns-clause-sync : goal.returns-clause-sync
returns-clause-sync c = sync_output

pub returns-clause-take : goal.returns-clause-take
returns-clause-take c = take_state

pub returns-clause-look : goal.returns-clause-look
returns-clause-look c = λ u old new t failed. (look_state u old new t failed, look_output u old new failed)
