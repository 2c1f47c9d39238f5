-- Rows that are filled with bytes from the front.
use Rattle.std.proofs.Common.{◌≡◌, ◌≤◌, ◌<◌, ◌+◌, ℕ, suc, false, List, [], ◌∷◌, ◌++◌, length, get_or, map, drop, Option, Some, None, option_map, refl, ap, sym, subst, ◌∙◌, add-one, drop-cons}
use Rattle.std.specs.Prelude.{option_and_then}
use Rattle.std.proofs.lemmas.List.{drop_all, map-append}
use Rattle.cad_syntax.specs.declared.kind.Kind.TheVariants as k
use Rattle.cad_syntax.specs.declared.num.Num.{Num}
use Rattle.cad_rows.specs.Views.{PlaceView, vacant, taken, as_row, pure_row, pure_place}
use Rattle.cad_rows.specs.declared.tree.Place.{Place}
use Rattle.cad_world.specs.Rows.{Row, stop, gap, node, join, first, Tree}
use Rattle.cad_evaluation.specs.Numbers.{number_of, number_tree}
use Rattle.cad_evaluation.specs.Texts.{bytes_row}
use Rattle.cad_operators.specs.Bytes.{number_place}

join_stop : (r : Row) → join r stop ≡ r
join_stop stop = refl
join_stop (gap r) = ap gap (join_stop r)
join_stop (node l n s q r) = ap (λ (x : Row). node l n s q x) (join_stop r)

joined_last : (ps : List PlaceView) (t : Tree) (r : Row) → join (as_row (ps ++ taken [] t ∷ [])) r ≡ join (as_row ps) (first t r)
joined_last [] t r = refl
joined_last (vacant ∷ ps) t r = ap gap (joined_last ps t r)
joined_last (taken l u ∷ ps) t r = ap (λ (x : Row). node l u.optionals u.shape u.parts x) (joined_last ps t r)

behind_more : (ps : List PlaceView) (x : Num) (o : Option Row) → option_map (join (as_row (ps ++ number_place x ∷ []))) o ≡ option_map (join (as_row ps)) (option_map (first (number_tree x)) o)
behind_more ps x None = refl
behind_more ps x (Some r) = ap Some (joined_last ps (number_tree x) r)

byte_more : (ps : List PlaceView) (q : PlaceView) (o : Option Num) (bs : List ℕ) → option_map number_place o ≡ Some q
    → option_map (join (as_row (ps ++ q ∷ []))) (bytes_row bs) ≡ option_map (join (as_row ps)) (option_and_then (λ n. option_map (first (number_tree n)) (bytes_row bs)) o)
byte_more ps q None bs e = cc
byte_more ps q (Some x) bs e = let is : number_place x ≡ q = cc in rw (sym is) (behind_more ps x (bytes_row bs))

-- one byte more stands in the row
push_turn : (row new : List Place) (p : Place) (b : ℕ) (bs : List ℕ) → new ≡ row ++ p ∷ []
    → option_map number_place (number_of k.UInt8 false b) ≡ Some (pure_place p)
    → option_map (join (pure_row new)) (bytes_row bs) ≡ option_map (join (pure_row row)) (bytes_row (b ∷ bs))
push_turn row new p b bs e is =
    rw (e, map-append pure_place row (p ∷ [])) (byte_more (map pure_place row) (pure_place p) (number_of k.UInt8 false b) bs is)

push_end : (row : List Place) → option_map (join (pure_row row)) (bytes_row []) ≡ Some (pure_row row)
push_end row = ap Some (join_stop (pure_row row))

-- the next byte stands in the row
pub push_next : (i : ℕ) (bytes : List ℕ) (row new : List Place) (p : Place) (all : Option Row) → i < length bytes → new ≡ row ++ p ∷ []
    → option_map number_place (number_of k.UInt8 false (get_or bytes i 0)) ≡ Some (pure_place p)
    → option_map (join (pure_row row)) (bytes_row (drop i bytes)) ≡ all → option_map (join (pure_row new)) (bytes_row (drop (i + 1) bytes)) ≡ all
push_next i bytes row new p all h e is before =
    rw add-one (push_turn row new p (get_or bytes i 0) (drop (suc i) bytes) e is ∙ ap (λ (bs : List ℕ). option_map (join (pure_row row)) (bytes_row bs)) (sym (drop-cons bytes i 0 h)) ∙ before)

-- all stand there
pub push_done : (i : ℕ) (bytes : List ℕ) (row : List Place) (all : Option Row) → length bytes ≤ i → option_map (join (pure_row row)) (bytes_row (drop i bytes)) ≡ all → all ≡ Some (pure_row row)
push_done i bytes row all h before = sym (subst (λ (bs : List ℕ). option_map (join (pure_row row)) (bytes_row bs) ≡ all) (drop_all i bytes h) before) ∙ push_end row
