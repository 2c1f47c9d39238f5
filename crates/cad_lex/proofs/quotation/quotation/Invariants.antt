use Rattle.std.proofs.Common.{◌≡◌, ◌-◌, length, IsUtf8}
use Rattle.cad_lex.specs.Code.Reading.{quoted, with_content}
use Rattle.cad_lex.proofs.quotation.quotation.Given as goal

-- the content so far, with what is still to be read
abbrev pub invariant-loop-turn : goal.invariant-loop-turn
invariant-loop-turn l = record {
  same : with_content l.content (quoted (length l.fn.bytes - l._turn) l.bytes) ≡ quoted (length l.fn.bytes) l.fn.bytes;
  utf8 : IsUtf8 l.bytes;
}
