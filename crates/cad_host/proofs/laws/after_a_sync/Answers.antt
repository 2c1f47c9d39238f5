use Rattle.cad_host.specs.Disk.{state}
use Rattle.cad_host.proofs.Images.{clean_synced, clean_only}
use Rattle.cad_host.proofs.Kept.{synced_image}
use Rattle.cad_host.proofs.laws.after_a_sync.Goals as goal

pub returns-clause-clean : goal.returns-clause-clean
returns-clause-clean c = λ m t. clean_synced t m

pub returns-clause-fewer : goal.returns-clause-fewer
returns-clause-fewer c = λ m t. synced_image t m

pub returns-clause-only : goal.returns-clause-only
returns-clause-only c = λ m t image. clean_only (state t m) image
