use Rattle.std.proofs.Common.{◌≡◌, sym, subst}
use Rattle.std.specs.Prelude.{map}
use Rattle.serde_json.specs.View.{view}
use Rattle.cad_runs.specs.Commands.{transaction}
use Rattle.cad_store.specs.Stores.{held}
use Rattle.cad_run_outcomes.specs.Outcomes as spec
use Rattle.cad_answers.specs.Answer.{Does, comes, transacts}
use Rattle.cad_answers.proofs.Comings.{comes_as}
use Rattle.cad_serve_parts.proofs.Results.{if_ok}
use Rattle.cad_answers.proofs.transactions.transaction_outcome.Goals as goal

pub returns : goal.returns
returns c =
    if_ok c.with_run_changes.result (λ o by code accepted w stands.
    let found = c.in_ok-comes.ensures w (c.requires.told w stands) stands.sound.0 in
    let command = transaction code (map view c.args.arguments.now) c.args.signers.now c.args.limit in
    let allowed = transacts (comes (accepted w stands) c.requires.right found.1 found.2) in
    comes_as {P = λ x. x ≡ found.0} {Q = Does w command} o (held c.args.store.now)
    (λ x same. subst (λ (y : spec.Outcome). Does w command y) (sym same) allowed)
    (by w found.0 stands found.3))
    c.with_run_changes.ensures
