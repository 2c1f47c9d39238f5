use Rattle.std.proofs.Common.{◌≡◌, option_map, subst}
use Rattle.std.specs.Prelude.{IfOk}
use Rattle.cad_syntax.specs.Types.{PureType, pure_type}
use Rattle.cad_declarations.specs.Typed.{coalesce}
use Rattle.cad_declarations.specs.Views.{term_of}
use Rattle.cad_environment.specs.Views.{typing_of}
use Rattle.cad_typing.specs.Environments.{typed}
use Rattle.cad_infer_terms.proofs.terms.coalesce_typed.Goals as goal

pub returns-in-Ok : goal.returns-in-Ok
returns-in-Ok c =
    let P : PureType → Type 0 = λ t. IfOk c.coalesce_as.result (λ o. option_map typing_of o ≡ typed (coalesce (term_of c.args.x) (term_of c.args.y) c.args.takes_off t) (pure_type c.args.declared)) in
    subst P c.in-Ok.ensures.cases c.coalesce_as.ensures
