use Rattle.std.proofs.Common.{◌≡◌, get_or, drop, Some, option_map, sym, ap, ◌∙◌}
use Rattle.cad_lex.specs.Code.Reading.{escape, seen}
use Rattle.cad_lex.proofs.Quotes.{next_turn, next_utf8, whole_tail}
use Rattle.cad_lex.proofs.quotation.quotation.Goals as goal

pub loop-turn-preserved : goal.loop-turn-preserved
loop-turn-preserved c =
    let rest = c.split_plain.result.1.now in
    let told : escape (drop 1 rest) ≡ Some (c.in-Some.character, c.in-Some.behind.now) = ap escape (sym (whole_tail rest)) ∙ sym c.escape.ensures ∙ ap (option_map seen) c.in-Some.is in
    let mark : get_or rest 0 0 ≡ 92 = c.if-mark-ne92.false in
    record {
      same = next_turn _ _ _ c.loop-turn.bytes.now _ rest _ _ _ _ _ c.loop-turn-test.true c.loop-turn.invariant.same c.split_plain.ensures.text c.split_plain.ensures.rest c.in-len1-up.len_at_least mark c.in_ok-push_str.ensures.ok told c.in_ok-push.ensures.ok;
      utf8 = next_utf8 c.loop-turn.bytes.now rest _ _ c.loop-turn.invariant.utf8 c.split_plain.ensures.rest c.in-len1-up.len_at_least mark told;
    }
