use Rattle.cad_codec.proofs.Seen.{adds}
use Rattle.cad_fits.proofs.table.add_key.Goals.{in-Ok, in-Err}
use Rattle.cad_fits.proofs.table.add_key.Goals as goal

pub returns : goal.returns
returns c = elim c.match-insert.branch [
  | in-Ok w ↦ rw w.result-is (adds c.args.seen.now c.insert.new.self c.into_vec.result c.args.key w.in-Ok.added c.into_vec.ensures w.in-Ok.ensures.added w.in-Ok.ensures.updates)
  | in-Err w ↦ rw w.result-is tt
]
