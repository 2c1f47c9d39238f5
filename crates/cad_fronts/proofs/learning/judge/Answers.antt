use Rattle.std.specs.Prelude.{map, option_map}
use Rattle.std.proofs.Common.{subst}
use Rattle.cad_fronts.proofs.Right.{so_in}
use Rattle.cad_loading.specs.Answers.{Loading}
use Rattle.cad_loading.specs.Views.{programs_of, shared_program}
use Rattle.cad_loads.specs.Views.{source_of}
use Rattle.cad_fronts.proofs.learning.judge.Goals as goal

pub returns-in-Some : goal.returns-in-Some
returns-in-Some c =
    so_in (option_map shared_program) shared_program (map source_of c.args.sources.now) c.in-Some.programs.items c.as_slice.result.now c.args.question.now.address c.args.question.now.code c.check_with-checked.result
    c.as_slice.ensures.value (subst (λ o. Loading (map source_of c.args.sources.now) (option_map programs_of o)) c.in-Some.is c.in_ok-programs.ensures) c.check_with-checked.ensures
