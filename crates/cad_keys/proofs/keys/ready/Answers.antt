use Rattle.cad_keys.proofs.Kept.{fits_of}
use Rattle.cad_keys.proofs.keys.ready.Goals as goal

pub returns-then-has_room : goal.returns-then-has_room
returns-then-has_room c = fits_of c.args.index c.in-Some.index c.args.rows.now c.in-Some.is c.requires
