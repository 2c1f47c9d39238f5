use Rattle.std.proofs.Common.{◌≡◌, ap, ◌∙◌, sym, List, ℕ, not}
use Rattle.cad_json_read.proofs.Pairs.{not_two, two, wrong_first, wrong_second}
use Rattle.cad_json_read.specs.Forms.{same_text}
use Rattle.cad_json_read.proofs.object.members.Goals as goal

pub returns-then-len-ne2 : goal.returns-then-len-ne2
returns-then-len-ne2 c = not_two c.args.first.now c.args.second.now c.args.map.now.entries (λ e. c.if-len-ne2.true (c.len.ensures.len ∙ e))

pub returns-then-ne : goal.returns-then-ne
returns-then-ne c = wrong_first c.args.first.now c.args.second.now c.args.map.now.entries c.len.result (c.in_ok-key.key.now, c.in_ok-key.value.now) c.len.ensures.len c.if-len-ne2.false c.in_ok-key.ensures.first (c.if-ne.ensures ∙ ap (λ (w : List ℕ). not (same_text w c.args.first.now)) c.as_str.ensures.value)

pub returns-then-ne-2 : goal.returns-then-ne-2
returns-then-ne-2 c = wrong_second c.args.first.now c.args.second.now c.args.map.now.entries c.len.result (c.in_ok-key.key.now, c.in_ok-key.value.now) (c.in_ok-other_key.other_key.now, c.in_ok-other_key.other.now) c.len.ensures.len c.if-len-ne2.false c.in_ok-key.ensures.first c.in_ok-other_key.ensures.last (c.if-ne.ensures ∙ ap (λ (w : List ℕ). not (same_text w c.args.first.now)) c.as_str.ensures.value) (c.if-ne-2.ensures ∙ ap (λ (w : List ℕ). not (same_text w c.args.second.now)) c.as_str-2.ensures.value)

pub returns : goal.returns
returns c = two c.args.first.now c.args.second.now c.args.map.now.entries c.len.result (c.in_ok-key.key.now, c.in_ok-key.value.now) (c.in_ok-other_key.other_key.now, c.in_ok-other_key.other.now) c.len.ensures.len c.if-len-ne2.false c.in_ok-key.ensures.first c.in_ok-other_key.ensures.last (c.if-ne.ensures ∙ ap (λ (w : List ℕ). not (same_text w c.args.first.now)) c.as_str.ensures.value) (c.if-ne-2.ensures ∙ ap (λ (w : List ℕ). not (same_text w c.args.second.now)) c.as_str-2.ensures.value)
