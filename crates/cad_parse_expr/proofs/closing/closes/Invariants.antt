use Rattle.std.proofs.Common.{◌≡◌, ◌+◌, false, length}
use Rattle.cad_parse_expr.specs.Code.Closing.{walk}
use Rattle.cad_parse_expr.proofs.closing.closes.Given as goal

-- the `<` that are nested, and those that may still be, are as many as at first
abbrev pub invariant-loop-tokens : goal.invariant-loop-tokens
invariant-loop-tokens l = record {
  same : walk l.tokens l.room l.nested l.behind ≡ walk l.fn.spot.tokens.now l.fn.spot.left 0 false;
  whole : l.room + l.nested ≡ l.fn.spot.left;
}

abbrev pub decreases-loop-tokens : goal.decreases-loop-tokens
decreases-loop-tokens l = length l.tokens
