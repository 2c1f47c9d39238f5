use Rattle.std.proofs.Common.{◌∙◌, ap}
use Rattle.cad_access.specs.RunContracts.{run_of}
use Rattle.cad_evaluation.specs.Bodies as spec
use Rattle.cad_world.specs.Declared as declared
use Rattle.cad_function_sources.specs.Sources as view
use Rattle.cad_function_sources.proofs.Found.{added, own_of}
use Rattle.cad_function_sources.proofs.sources.add_source.Goals as goal

pub returns-in-Ok : goal.returns-in-Ok
returns-in-Ok c name =
    let s = run_of c.args.state.now in
    let id = c.args.id.now in
    ap (λ l. view.pieces name l) c.in-Ok.ensures.items
    ∙ added (λ x. spec.piece_in x.id name (view.bodies_in x)) c.args.all.now.items c.in-Some.source (spec.own_piece s name id)
    (own_of name id c.in_ok-source.field-0 (declared.bodies_of s id) c.in-Some.source c.in-Some.is c.in_ok-source.ensures)
