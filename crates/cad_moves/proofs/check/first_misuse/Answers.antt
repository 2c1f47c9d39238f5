use Rattle.std.proofs.Common.{◌≡◌, sym, subst, option_map}
use Rattle.cad_paths.specs.Linear.{MovesOf}
use Rattle.cad_moves.specs.declared.state.Rules.TheVariants.{Moves}
use Rattle.cad_moves.specs.Code.Firsts.{first_of}
use Rattle.cad_moves.specs.Views.{body_of, offence_of}
use Rattle.cad_moves.proofs.Firsts.{exact}
use Rattle.cad_moves.proofs.Linear.{answer_by}
use Rattle.cad_moves.proofs.check.first_misuse.Goals as goal

pub returns : goal.returns
returns c =
    subst (λ b. MovesOf b (option_map offence_of c.in_ok-found.found.misuse)) c.in_ok-paths.ensures
    (subst (MovesOf (body_of c.in_ok-paths.paths)) (sym c.in_ok-found.ensures.first)
    (answer_by (body_of c.in_ok-paths.paths) (first_of Moves (body_of c.in_ok-paths.paths)) (exact Moves (body_of c.in_ok-paths.paths))))
