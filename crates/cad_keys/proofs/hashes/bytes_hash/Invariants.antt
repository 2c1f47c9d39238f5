use Rattle.std.proofs.Common.{◌≡◌, drop}
use Rattle.cad_keys.specs.Code.Hashes.{with_bytes}
use Rattle.cad_keys.proofs.hashes.bytes_hash.Given as goal

abbrev pub invariant-loop-byte : goal.invariant-loop-byte
invariant-loop-byte l = with_bytes l.hash (drop l.byte-index l.bytes) ≡ with_bytes 0 l.bytes
