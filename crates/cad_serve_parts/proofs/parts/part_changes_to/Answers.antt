use Rattle.cad_serve_parts.proofs.Results.{if_ok}
use Rattle.cad_serve_parts.proofs.parts.part_changes_to.Goals as goal

pub returns-in-Ok : goal.returns-in-Ok
returns-in-Ok c = if_ok c.changes_from-changes.result (λ changes leads w stands. leads w stands (c.in-Ok.ensures w stands)) c.changes_from-changes.ensures
