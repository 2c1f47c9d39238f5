use Rattle.std.proofs.Common.{◌∙◌, ap, ◌&&◌}
use Rattle.cad_serve_parts.specs.Lines.{is_blank_byte}
use Rattle.cad_serve_parts.proofs.Holding.{all_push}
use Rattle.cad_serve_parts.proofs.line.Line.push.Goals as goal

pub returns : goal.returns
returns c = λ pending h.
    let two = c.in_ok-self.ensures pending h.held h.long in
    record { held = two.0; long = two.1; blank = ap (λ b. ◌&&◌ c.args.self.now.blank b) c.is_blank_byte.ensures ∙ all_push is_blank_byte pending c.args.byte c.args.self.now.blank h.blank }
