use Rattle.std.proofs.Common.{◌≡◌, ◌∙◌, ◌∷◌, [], codes, sym, subst}
use Rattle.std.specs.Prelude.{Option, IfOk}
use Rattle.cad_grammar.specs.Views.{transaction_of}
use Rattle.cad_declarations.specs.Points as points
use Rattle.cad_declarations.specs.declared.stop.Stop.{Stop}
use Rattle.cad_scopes.specs.Views.{scope_of}
use Rattle.cad_stop_points.proofs.Stops.{goes_on}
use Rattle.cad_tables.proofs.program_points.prepared_parts_stop.Goals as goal

pub returns : goal.returns
returns c =
    let P : Option Stop → Type 0 = λ o. IfOk c.parts_stop.result (λ s. s ≡ o) in
    subst P
    (sym (goes_on (scope_of c.args.scope) (points.prepare_points (scope_of c.args.scope) (transaction_of c.args.x.now).prepare)
    (points.condition_point (codes "pre") (transaction_of c.args.x.now).pre ∷ points.execute_point (transaction_of c.args.x.now).execute ∷ points.condition_point (codes "post") (transaction_of c.args.x.now).post ∷ [])
    (sym c.in_ok-stop.ensures ∙ c.in_default.is)))
    c.parts_stop.ensures
