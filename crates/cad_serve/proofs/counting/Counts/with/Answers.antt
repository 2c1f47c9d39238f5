use Rattle.std.proofs.Common.{◌+◌, ap, ◌∙◌}
use Rattle.cad_serve.proofs.Countings.{counted_more}
use Rattle.cad_serve.proofs.counting.Counts.with.Goals as goal

pub returns : goal.returns
returns c = λ answers a tells h.
    counted_more c.args.self.now _ answers c.args.reply.now a tells h c.in_ok-lines.ensures
    (c.in_ok-ok.ensures ∙ ap (λ k. c.args.self.now.ok + k) c.ok_in.ensures)
    (c.in_ok-failed.ensures ∙ ap (λ k. c.args.self.now.failed + k) c.failed_in.ensures)
    (c.in_ok-made.ensures ∙ ap (λ k. c.args.self.now.made + k) c.made_in.ensures)
    (c.in_ok-destroyed.ensures ∙ ap (λ k. c.args.self.now.destroyed + k) c.destroyed_in.ensures)
