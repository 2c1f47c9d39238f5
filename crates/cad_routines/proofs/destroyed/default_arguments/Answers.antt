use Rattle.std.proofs.Common.{◌≡◌, ◌∙◌, ap, List, [], map, rules}
use Rattle.cad_grammar.specs.Views.{event_parameter_of}
use Rattle.cad_declarations.specs.Scopes.{each_of}
use Rattle.cad_declarations.specs.Typed as e
use Rattle.cad_declarations.specs.Views.{argument_of, tables_of}
use Rattle.cad_routines.specs.Code.Parts.{behind, default_of}
use Rattle.cad_routines.proofs.Parts.{behind_nothing}
use Rattle.cad_routines.proofs.destroyed.default_arguments.Goals as goal

pub returns-in-Ok : goal.returns-in-Ok
returns-in-Ok c =
    let whole = each_of (default_of (tables_of c.args.known.tables.now) c.args.id.now) (map event_parameter_of c.args.parameters.now) in
    let none : map argument_of c.new-all.result.items ≡ [] = search rules in
    c.where_fit.ensures ∙ c.in-Ok.ensures ∙ ap (λ (done : List e.TargetedTerm). behind done whole) none ∙ behind_nothing whole
