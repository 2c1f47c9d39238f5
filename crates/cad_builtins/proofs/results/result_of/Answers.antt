use Rattle.cad_syntax.specs.Types.{pure_type}
use Rattle.cad_types.specs.Views.{declarations}
use Rattle.cad_declarations.specs.Builtins as spec
use Rattle.cad_builtins.specs.Code.Forms as forms
use Rattle.cad_builtins.proofs.Told.{told}
use Rattle.cad_builtins.proofs.results.result_of.Goals as goal

pub returns : goal.returns
returns c =
    let d = declarations c.args.types.now in
    let grant = c.args.grant.now in
    let on = pure_type c.args.on.now in
    let t = pure_type c.args.argument.now in
    told pure_type c.result_by.result (forms.result_by d grant on t c.result_form.result) (spec.result_of d grant on t c.args.member) c.result_by.ensures (c.result_form.ensures d grant on t)
