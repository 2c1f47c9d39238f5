use Rattle.std.proofs.Common.{◌∙◌, ap}
use Rattle.std.specs.Prelude.{Option, set}
use Rattle.std.specs.declared.alloc.Global.{Global}
use Rattle.std.specs.declared.rc.Rc.{Rc}
use Rattle.std.proofs.lemmas.List.{map-set}
use Rattle.cad_declarations.specs.declared.program.Checked.{Checked}
use Rattle.cad_loading.specs.Views.{slot_of, slots_of}
use Rattle.cad_loading.proofs.progress.fill.Goals as goal

pub returns : goal.returns
returns c =
    map-set slot_of c.args.slots.now.items c.args.at c.replace.new.dest
    ∙ ap (λ (o : Option (Rc Checked Global)). set (slots_of c.args.slots.now) c.args.at (slot_of o)) c.replace.ensures.after
