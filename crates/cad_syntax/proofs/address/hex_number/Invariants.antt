use Rattle.std.proofs.Common.{◌≡◌, ◌<◌, ◌^◌, true, take}
use Rattle.std.specs.Char.{is_digit}
use Rattle.std.specs.List.{list_all}
use Rattle.std.specs.Str.Parse.{digits_value}
use Rattle.cad_syntax.proofs.address.hex_number.Given as goal

abbrev pub invariant-loop-byte : goal.invariant-loop-byte
invariant-loop-byte l = record {
  all_digits : list_all (λ c. is_digit c 16) (take l.byte-index l.digits) ≡ true;
  number_is : l.number ≡ digits_value 16 (take l.byte-index l.digits);
  small : l.number < 16 ^ l.byte-index;
}
