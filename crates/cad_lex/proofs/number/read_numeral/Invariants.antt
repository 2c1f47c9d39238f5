use Rattle.std.proofs.Common.{◌≡◌, ◌+◌, length, Some}
use Rattle.cad_lex.specs.Code.Reading.{digits_from, number_from}
use Rattle.cad_lex.proofs.number.read_numeral.Given as goal

-- what was read, with the digits ahead, is what all digits make
abbrev pub invariant-loop-ahead : goal.invariant-loop-ahead
invariant-loop-ahead l = record {
  value : number_from l.radix l.value (digits_from l.radix l.lacking l.rest l.ahead).0 ≡ number_from l.radix (Some 0) (digits_from l.radix l.most l.bytes l.bytes).0;
  lacking : l.lacking + length (digits_from l.radix l.most l.bytes l.bytes).0 ≡ l.most + length (digits_from l.radix l.lacking l.rest l.ahead).0;
  rest : (digits_from l.radix l.lacking l.rest l.ahead).1 ≡ (digits_from l.radix l.most l.bytes l.bytes).1;
}

abbrev pub decreases-loop-ahead : goal.decreases-loop-ahead
decreases-loop-ahead l = length l.ahead
