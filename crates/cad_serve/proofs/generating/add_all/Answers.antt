use Rattle.std.proofs.Common.{◌∙◌, []}
use Rattle.cad_generation.specs.Lines.{first_lines}
use Rattle.cad_serve.proofs.Generatings.{ran_none, ran_as}
use Rattle.cad_serve.proofs.generating.add_all.Goals as goal

pub returns-clause-ran : goal.returns-clause-ran
returns-clause-ran g c = λ w is_w.
    let begun = ran_none w c.new-counts.result c.args.store.now c.new-counts.ensures is_w in
    let first = ran_as w c.as_slice.result.now first_lines c.add_lines.new.counts c.add_lines.new.store (c.as_slice.ensures ∙ c.in_ok-first.ensures) (c.in_ok-add_lines.ensures.ran w [] begun) in
    c.in_ok-add_transfers.ensures.ran w first_lines first
