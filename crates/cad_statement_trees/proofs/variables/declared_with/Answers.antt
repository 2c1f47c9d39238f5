use Rattle.std.proofs.Common.{◌∙◌, ap}
use Rattle.cad_syntax.specs.Types.{pure_type}
use Rattle.cad_declarations.specs.Typed as e
use Rattle.cad_declarations.specs.Views.{term_of}
use Rattle.cad_environment.specs.Views.{environment_of, local_of}
use Rattle.cad_typing.specs.Environments.{Local}
use Rattle.cad_typing.specs.Locals.{entry_of, next_local}
use Rattle.cad_typing.specs.StatementForms.{beside_variable}
use Rattle.cad_statement_trees.proofs.variables.declared_with.Goals as goal

pub returns-in-Ok : goal.returns-in-Ok
returns-in-Ok c =
    let env = environment_of c.args.env in
    c.beside_variable.ensures
    ∙ ap (λ (t : e.StatementTree). beside_variable t (local_of c.in-Ok.v)) c.declare_tree-tree.ensures
    ∙ ap (λ (w : e.VariableEntry). beside_variable (e.declare c.args.at w (term_of c.args.value)) (local_of c.in-Ok.v)) c.in-Ok.ensures.entry
    ∙ ap (λ (v : Local). beside_variable (e.declare c.args.at (entry_of env (next_local env c.args.kind c.args.name.now (pure_type c.args.target))) (term_of c.args.value)) v) c.in-Ok.ensures.local
