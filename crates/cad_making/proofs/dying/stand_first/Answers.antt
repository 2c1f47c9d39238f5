use Rattle.cad_rows.specs.Views.{pure_place, pure_row}
use Rattle.cad_state.specs.Views.{state_over}
use Rattle.cad_making.specs.Code.Ends.{told_in}
use Rattle.cad_making.proofs.Aside.{stands}
use Rattle.cad_making.proofs.dying.stand_first.Goals as goal

pub returns-in-Ok-push_first : goal.returns-in-Ok-push_first
returns-in-Ok-push_first c = λ w. stands (told_in c.args.state.now) (pure_place c.args.place) (pure_place c.name_place.new.place) (state_over w c.args.state.now) (pure_row c.push_first.new.row.items) c.in-Ok.next
    c.in-Ok.ensures.place c.in-Ok-push_first.ensures c.in-Ok.ensures.next
