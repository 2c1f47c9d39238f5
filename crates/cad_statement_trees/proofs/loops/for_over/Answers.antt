use Rattle.std.proofs.Common.{◌∙◌, ap, ◌&&◌, not, option_map}
use Rattle.cad_syntax.specs.Types.{PureType, pure_type}
use Rattle.cad_types.specs.Declarations.{resource}
use Rattle.cad_environment.specs.Views.{environment_of, typing_of}
use Rattle.cad_typing.specs.Environments.{kinds}
use Rattle.cad_typing.specs.StatementForms.{differs, element_local, index_local}
use Rattle.cad_typing.specs.Types.{element_type}
use Rattle.cad_statement_trees.specs.Loops.{for_with}
use Rattle.cad_statement_trees.proofs.Chosen.{made_of}
use Rattle.cad_statement_trees.proofs.loops.for_over.Goals as goal

pub returns-in-Ok : goal.returns-in-Ok
returns-in-Ok c =
    let env = environment_of c.args.env in
    let x = typing_of c.args.x in
    c.for_made.ensures
    ∙ ap (option_map (for_with x)) c.in-Ok.ensures
    ∙ made_of (element_type (pure_type c.args.x.declared)) (λ u. differs c.args.name.now c.args.index.now && not (resource (kinds env) u))
    (λ (u : PureType). (option_map (index_local env) c.args.index.now, element_local env c.args.index.now c.args.name.now u)) (for_with x)
