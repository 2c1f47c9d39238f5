use Rattle.std.proofs.Common.{◌≡◌, option_map, subst}
use Rattle.std.specs.Prelude.{IfOk}
use Rattle.cad_declarations.specs.Typed.{TermTree}
use Rattle.cad_declarations.specs.Views.{term_of}
use Rattle.cad_environment.specs.Views.{hidden_of}
use Rattle.cad_typing.specs.Receivers.{closed}
use Rattle.cad_infer_references.proofs.references.borrowed_term.Goals as goal

pub returns-in-Ok : goal.returns-in-Ok
returns-in-Ok c =
    let P : TermTree → Type 0 = λ made. IfOk c.closed.result (λ t. term_of t ≡ closed (option_map hidden_of c.args.r.hidden) made) in
    subst P c.in-Ok.ensures c.closed.ensures
