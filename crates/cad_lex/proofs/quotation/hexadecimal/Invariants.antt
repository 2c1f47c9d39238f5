use Rattle.std.proofs.Common.{◌≡◌, length, Some}
use Rattle.cad_lex.specs.Code.Reading.{number_from}
use Rattle.cad_lex.proofs.quotation.hexadecimal.Given as goal

abbrev pub invariant-loop-digits : goal.invariant-loop-digits
invariant-loop-digits l = number_from 16 l.value l.digits ≡ number_from 16 (Some 0) l.fn.digits

abbrev pub decreases-loop-digits : goal.decreases-loop-digits
decreases-loop-digits l = length l.digits
