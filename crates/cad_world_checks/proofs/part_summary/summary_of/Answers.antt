use Rattle.std.proofs.Common.{map, ap, ◌∙◌}
use Rattle.cad_world_checks.specs.Parts.{index_of}
use Rattle.cad_world_checks.proofs.part_summary.summary_of.Goals as goal

pub returns : goal.returns
returns c =
    let indexes = c.in_ok-indexes.ensures ∙ ap (map index_of) c.as_slice-known.ensures.value in
    λ i. record { count = c.args.part.now.count; indexes = indexes i; identities = c.in_ok-identities.ensures i; next_identity = c.args.part.now.next_identity }
