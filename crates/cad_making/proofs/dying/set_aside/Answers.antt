use Rattle.cad_rows.specs.Views.{pure_place}
use Rattle.cad_state.specs.Views.{state_over}
use Rattle.cad_making.specs.Code.Ends.{told_in}
use Rattle.cad_making.specs.Dying.{dying_of}
use Rattle.cad_making.proofs.Aside.{placed, not_placed}
use Rattle.cad_making.proofs.dying.set_aside.Goals as goal

pub returns-in-Ok-stand_first : goal.returns-in-Ok-stand_first
returns-in-Ok-stand_first c = λ w. placed (told_in c.args.state.now) (pure_place c.args.place) c.args.identities (state_over w c.args.state.now) (state_over w c.stand_first.new.state) (dying_of c.in-Ok.ends) (c.in-Ok-stand_first.ensures w) c.in-Ok.ensures

pub returns-in-Err-stand_first : goal.returns-in-Err-stand_first
returns-in-Err-stand_first c = λ w. not_placed (told_in c.args.state.now) (pure_place c.args.place) c.args.identities (state_over w c.args.state.now) c.in-Err-stand_first.stop (c.in-Err-stand_first.ensures w)
