use Rattle.std.proofs.Common.{◌&&◌, not, option_map}
use Rattle.cad_syntax.specs.Types.{PureType, pure_type}
use Rattle.cad_types.specs.Declarations.{resource}
use Rattle.cad_environment.specs.Views.{environment_of, local_of}
use Rattle.cad_typing.specs.Environments.{kinds}
use Rattle.cad_typing.specs.StatementForms.{differs, element_local, index_local}
use Rattle.cad_typing.specs.Types.{element_type}
use Rattle.cad_statement_trees.proofs.Chosen.{made_none, made_some, same_pair}
use Rattle.cad_statement_trees.proofs.loops.variables_over.Goals as goal

pub returns-in-None : goal.returns-in-None
returns-in-None c =
    let env = environment_of c.args.env in
    made_none (element_type (pure_type c.args.t.now)) (λ u. differs c.args.name.now c.args.index.now && not (resource (kinds env) u))
    (λ (u : PureType). (option_map (index_local env) c.args.index.now, element_local env c.args.index.now c.args.name.now u)) c.in-None.ensures

pub returns-in_ok-variables-in-Some : goal.returns-in_ok-variables-in-Some
returns-in_ok-variables-in-Some c =
    let env = environment_of c.args.env in
    made_some (element_type (pure_type c.args.t.now)) (λ u. differs c.args.name.now c.args.index.now && not (resource (kinds env) u))
    (λ (u : PureType). (option_map (index_local env) c.args.index.now, element_local env c.args.index.now c.args.name.now u))
    (pure_type c.in-Some.element.now) (option_map local_of c.in_ok-variables-in-Some.variables.index, local_of c.in_ok-variables-in-Some.variables.element) c.in-Some.ensures
    (same_pair _ _ _ _ c.in_ok-variables-in-Some.ensures.index c.in_ok-variables-in-Some.ensures.element)
