use Rattle.std.proofs.Common.{◌∙◌}
use Rattle.std.specs.Prelude.{◌||◌, nat_le}
use Rattle.std.specs.List.{list_all}
use Rattle.cad_world_checks.proofs.part_summary.are_among_or_new.Goals as goal

pub returns : goal.returns
returns c = c.are_in_or_new.ensures ∙ (λ i. list_all (λ n. c.in_ok-seen.ensures n i || nat_le c.args.next n) c.args.numbers.now)
