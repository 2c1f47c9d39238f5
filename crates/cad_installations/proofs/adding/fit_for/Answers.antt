use Rattle.std.proofs.Common.{◌∙◌, ap, subst}
use Rattle.std.specs.Prelude.{List}
use Rattle.cad_evaluation.specs.Adding.{fitted, initializer_types}
use Rattle.cad_installations.specs.Views.{items_row}
use Rattle.cad_rows.specs.Views.{pure_row}
use Rattle.cad_state.specs.Views.{FindsAndCarriesOut, program_of}
use Rattle.cad_syntax.specs.Types.{PureType}
use Rattle.cad_types.specs.Views.{declarations}
use Rattle.cad_installations.proofs.adding.fit_for.Goals as goal

pub returns : goal.returns
returns c =
    subst (λ (types : List PureType). FindsAndCarriesOut items_row (fitted (declarations c.args.kinds.now) types (pure_row c.args.row.items)) c.args.state.now c.fit.new.state c.fit.result)
    (c.initializer_parameters-parameters.ensures ∙ ap (λ p. initializer_types c.args.contract.now.id (program_of p)) c.deref.ensures) c.fit.ensures
