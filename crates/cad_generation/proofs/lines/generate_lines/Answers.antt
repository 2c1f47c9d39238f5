use Rattle.std.proofs.Common.{◌∙◌}
use Rattle.cad_generation.specs.Lines.{first_lines, transfers}
use Rattle.cad_generation.proofs.Texts.{whole_text}
use Rattle.cad_generation.proofs.lines.generate_lines.Goals as goal

pub returns : goal.returns
returns c =
    c.from_vec.ensures
    ∙ whole_text c.new-bytes.result.items c.push_lines.new.bytes.items c.push_numbered.new.bytes.items c.as_slice.result.now (transfers c.args.n c.args.n) first_lines
    c.new-bytes.ensures.items c.in_ok-push_lines.ensures c.in_ok-push_numbered.ensures (c.as_slice.ensures ∙ c.in_ok-first.ensures)
