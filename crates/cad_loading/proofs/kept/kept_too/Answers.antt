use Rattle.std.specs.Prelude.{List, map}
use Rattle.std.specs.declared.alloc.Global.{Global}
use Rattle.std.specs.declared.rc.Rc.{Rc}
use Rattle.std.proofs.Common.{◌∙◌, ap, sym, subst}
use Rattle.cad_declarations.specs.declared.program.Checked.{Checked}
use Rattle.cad_loading.specs.Views.{shared_program}
use Rattle.cad_loads.specs.Loads.{Loaded, Loads, loaded_by}
use Rattle.cad_loads.specs.Views.{source_of}
use Rattle.cad_loading.proofs.kept.kept_too.Goals as goal

-- the programs that were handed over are these (`as_slice`)
pub put_in-requires : goal.put_in-requires
put_in-requires c =
    subst (λ (cs : List Loaded). Loads cs)
    (sym (c.in-Ok.ensures ∙ ap (λ (all : List (Rc Checked Global)). loaded_by (map source_of c.args.sources.now) (map shared_program all)) c.as_slice.ensures.value))
    c.requires
