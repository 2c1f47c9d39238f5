use Rattle.std.proofs.Common.{◌≡◌, false, ◌+◌, ◌≤◌, length}
use Rattle.cad_lex.specs.Code.Reading.{block}
use Rattle.cad_lex.proofs.gap.behind_block.Given as goal

-- a comment that opens takes two bytes
abbrev pub invariant-loop-bytes : goal.invariant-loop-bytes
invariant-loop-bytes l = record {
  same : block l.depth l.held l.has_line_feed l.bytes ≡ block 1 0 false l.fn.bytes;
  inside : 1 ≤ l.depth;
  room : l.depth + length l.bytes ≤ length l.fn.bytes + 1;
}

abbrev pub decreases-loop-bytes : goal.decreases-loop-bytes
decreases-loop-bytes l = length l.bytes
