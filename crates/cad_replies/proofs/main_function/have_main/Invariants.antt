use Rattle.std.proofs.Common.{◌≡◌, drop, find, map}
use Rattle.std.specs.Option.{is_some}
use Rattle.cad_declarations.specs.Views.{member_of}
use Rattle.cad_runs.specs.Commands.{is_main}
use Rattle.cad_replies.proofs.main_function.have_main.Given as goal

abbrev pub invariant-loop-member : goal.invariant-loop-member
invariant-loop-member l = is_some (find is_main (map member_of (drop l.member-index l.members))) ≡ is_some (find is_main (map member_of l.members))
