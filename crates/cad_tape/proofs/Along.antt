-- Bytes that were read of a tape, piece after piece.
use Rattle.std.proofs.Common.{◌≡◌, ℕ, ◌+◌, ◌-◌, ◌≤◌, min, List, [], ◌++◌, length, take, drop, sym, ◌∙◌, ap, arith, length-append, length-take, length-drop}
use Rattle.std.proofs.Math.Seq.{take-add}
use Rattle.std.proofs.lemmas.List.{drop-drop}
use Rattle.cad_tape.specs.Code.Scanning.{IsAlong}

-- a piece is as long as there is room
pub full : (tape bytes piece : List ℕ) (place end at room : ℕ) → IsAlong tape bytes place end → at ≡ place + length bytes → room ≤ end - at → piece ≡ take room (drop at tape) → length piece ≡ room
full tape bytes piece place end at room along at_is fits piece_is =
    omega (arith, ap length piece_is, length-take room (drop at tape), length-drop at tape, along.within, along.end_is, at_is, fits)

-- one piece more
pub more : (tape bytes piece : List ℕ) (place end at room : ℕ) → IsAlong tape bytes place end → at ≡ place + length bytes → room ≤ end - at → piece ≡ take room (drop at tape) → IsAlong tape (bytes ++ piece) place end
more tape bytes piece place end at room along at_is fits piece_is =
    let long = full tape bytes piece place end at room along at_is fits piece_is in
    let both : length bytes + room ≡ length (bytes ++ piece) = omega (arith, long, length-append bytes piece) in
    let behind : drop at tape ≡ drop (length bytes) (drop place tape) = ap (λ (k : ℕ). drop k tape) at_is ∙ sym (drop-drop (length bytes) place tape) in
    record {
      is = (λ i. along.is i ++ (piece_is ∙ ap (λ (l : List ℕ). take room l) behind) i) ∙ sym (take-add (length bytes) room (drop place tape)) ∙ ap (λ (k : ℕ). take k (drop place tape)) both;
      within = omega (arith, along.within, along.end_is, at_is, fits, both);
      end_is = along.end_is;
    }

-- no piece, though there was need of one
pub none_left : (tape bytes piece : List ℕ) (place end at room : ℕ) → IsAlong tape bytes place end → at ≡ place + length bytes → room ≡ min (end - at) 0x4_0000 → piece ≡ take room (drop at tape) → length piece ≡ 0 → length tape ≤ place + length bytes
none_left tape bytes piece place end at room along at_is room_is piece_is none =
    omega (arith, full tape bytes piece place end at room along at_is (omega (arith, room_is)) piece_is, along.end_is, at_is, room_is, none)

pub along_begins : (tape unread : List ℕ) (place end : ℕ) → unread ≡ [] → place ≡ 0 → end ≡ length tape → IsAlong tape unread place end
along_begins tape unread place end none start end_is = record {
  is = none ∙ sym (ap (λ (l : List ℕ). take (length l) (drop place tape)) none);
  within = omega (arith, ap length none, start);
  end_is = end_is;
}
