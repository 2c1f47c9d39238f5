-- The phases in their order.
use Rattle.std.specs.Prelude.{Option, Some, None, List, [], ◌∷◌, ◌++◌, drop, map, length}
use Rattle.std.proofs.Common.{◌≡◌, refl, sym, ◌∙◌, ap, subst, ℕ, ◌+◌, ◌<◌, ◌≤◌, get_or}
use Rattle.std.proofs.lemmas.List.{drop_more, drop_all}
use Rattle.cad_grammar.specs.Trees.{ProgramTree}
use Rattle.cad_grammar.specs.declared.phase.Phase.{Phase}
use Rattle.cad_grammar.specs.declared.phase.Phase.TheVariants as phase
use Rattle.cad_declarations.specs.Meets.{Each, Conforms, Unmet}
use Rattle.cad_declarations.specs.Tables.{ProgramTables}
use Rattle.cad_declarations.specs.declared.stop.Stop.{Stop}
use Rattle.cad_typing.specs.Pieces.{Piece, program_pieces}
use Rattle.cad_typing.specs.Programs.{IsRight, FirstRefused, IllTyped}
use Rattle.cad_pieces.specs.Answers.{StopAnswer}
use Rattle.cad_check.specs.Answers.{Tells, Conformance, FirstRefusal, piece_refused}
use Rattle.cad_check.specs.declared.refusals.BodyPhase.TheVariants as by

-- ---- piece by piece

-- what is told of the pieces that are left is told of all
abbrev pub Onward : (Piece → Stop → Type 0) → List Piece → List Piece → Type 0
Onward Refused rest all = (stop : Option Stop) → StopAnswer Refused rest stop → StopAnswer Refused all stop

behind : (Refused : Piece → Stop → Type 0) (piece : Piece) (rest : List Piece) → IsRight Refused piece → Onward Refused rest (piece ∷ rest)
behind Refused piece rest right None h = (right, h)
behind Refused piece rest right (Some stop) h = record {
  before = piece ∷ h.before;
  piece = h.piece;
  after = h.after;
  split = ap (λ (all : List Piece). piece ∷ all) h.split;
  right = (right, h.right);
  refused = h.refused;
}

pub one_on : (Refused : Piece → Stop → Type 0) (piece : Piece) (rest all : List Piece) → IsRight Refused piece → Onward Refused (piece ∷ rest) all → Onward Refused rest all
one_on Refused piece rest all right onward stop h = onward stop (behind Refused piece rest right stop h)

pub refused_here : (Refused : Piece → Stop → Type 0) (piece : Piece) (rest all : List Piece) (stop : Stop) → Refused piece stop → Onward Refused (piece ∷ rest) all
    → FirstRefused Refused all stop
refused_here Refused piece rest all stop h onward =
    onward (Some stop) (record { before = []; piece = piece; after = rest; split = refl; right = tt; refused = h })

-- ---- turn by turn

left : {A B : Type 0} (view : A → B) (xs : List A) (i : ℕ) (x : A) → i < length xs → x ≡ get_or xs i x → map view (drop i xs) ≡ view x ∷ map view (drop (i + 1) xs)
left view xs i x h is = ap (map view) (drop_more xs i x h ∙ ap (λ y. y ∷ drop (i + 1) xs) (sym is))

pub turn_right : {A : Type 0} (Refused : Piece → Stop → Type 0) (view : A → Piece) (xs : List A) (i : ℕ) (x : A) (all : List Piece)
    → i < length xs → x ≡ get_or xs i x → IsRight Refused (view x) → Onward Refused (map view (drop i xs)) all → Onward Refused (map view (drop (i + 1) xs)) all
turn_right Refused view xs i x all h is right onward =
    one_on Refused (view x) (map view (drop (i + 1) xs)) all right (subst (λ (rest : List Piece). Onward Refused rest all) (left view xs i x h is) onward)

pub turn_refused : {A : Type 0} (Refused : Piece → Stop → Type 0) (view : A → Piece) (xs : List A) (i : ℕ) (x : A) (all : List Piece) (stop : Stop)
    → i < length xs → x ≡ get_or xs i x → Refused (view x) stop → Onward Refused (map view (drop i xs)) all → FirstRefused Refused all stop
turn_refused Refused view xs i x all stop h is refused onward =
    refused_here Refused (view x) (map view (drop (i + 1) xs)) all stop refused (subst (λ (rest : List Piece). Onward Refused rest all) (left view xs i x h is) onward)

pub at_end : {A : Type 0} (Refused : Piece → Stop → Type 0) (view : A → Piece) (xs : List A) (i : ℕ) (all : List Piece)
    → length xs ≤ i → Onward Refused (map view (drop i xs)) all → StopAnswer Refused all None
at_end Refused view xs i all h onward = onward None (subst (λ (rest : List Piece). StopAnswer Refused rest None) (ap (map view) (sym (drop_all i xs h))) tt)

-- ---- phase by phase

module _ (tables : ProgramTables) (program : ProgramTree) (pieces : List Piece) (is : pieces ≡ program_pieces tables program) where
  all_right : (Refused : Piece → Stop → Type 0) → StopAnswer Refused pieces None → Each (IsRight Refused) (program_pieces tables program)
  all_right Refused h = subst (λ (all : List Piece). Each (IsRight Refused) all) is h

  first : (Refused : Piece → Stop → Type 0) (stop : Stop) → StopAnswer Refused pieces (Some stop) → FirstRefused Refused (program_pieces tables program) stop
  first Refused stop h = subst (λ (all : List Piece). FirstRefused Refused all stop) is h

  pub in_types : (stop : Stop) → StopAnswer IllTyped pieces (Some stop) → FirstRefusal tables program (Some (phase.Types, stop))
  in_types stop h = (tt, first IllTyped stop h)

  pub in_conformance : (stop : Stop) → StopAnswer IllTyped pieces None → Conformance tables (Some stop) → FirstRefusal tables program (Some (phase.Conformance, stop))
  in_conformance stop t h = ((all_right IllTyped t, tt), h)

  pub in_moves : (stop : Stop) → StopAnswer IllTyped pieces None → Conformance tables None → StopAnswer (piece_refused tables by.Moves) pieces (Some stop)
      → FirstRefusal tables program (Some (phase.Moves, stop))
  in_moves stop t c h = ((all_right IllTyped t, (c, tt)), first (piece_refused tables by.Moves) stop h)

  pub in_purity : (stop : Stop) → StopAnswer IllTyped pieces None → Conformance tables None → StopAnswer (piece_refused tables by.Moves) pieces None
      → StopAnswer (piece_refused tables by.Purity) pieces (Some stop) → FirstRefusal tables program (Some (phase.Purity, stop))
  in_purity stop t c m h = ((all_right IllTyped t, (c, (all_right (piece_refused tables by.Moves) m, tt))), first (piece_refused tables by.Purity) stop h)

  pub in_initialisation : (stop : Stop) → StopAnswer IllTyped pieces None → Conformance tables None → StopAnswer (piece_refused tables by.Moves) pieces None
      → StopAnswer (piece_refused tables by.Purity) pieces None → StopAnswer (piece_refused tables by.Initialisation) pieces (Some stop)
      → FirstRefusal tables program (Some (phase.Initialisation, stop))
  in_initialisation stop t c m p h = (
    (all_right IllTyped t, (c, (all_right (piece_refused tables by.Moves) m, (all_right (piece_refused tables by.Purity) p, tt)))),
    first (piece_refused tables by.Initialisation) stop h,
  )

  pub in_none : StopAnswer IllTyped pieces None → Conformance tables None → StopAnswer (piece_refused tables by.Moves) pieces None
      → StopAnswer (piece_refused tables by.Purity) pieces None → StopAnswer (piece_refused tables by.Initialisation) pieces None → FirstRefusal tables program None
  in_none t c m p i = (
    all_right IllTyped t,
    (
      c,
      (
        all_right (piece_refused tables by.Moves) m,
        (
          all_right (piece_refused tables by.Purity) p,
          (all_right (piece_refused tables by.Initialisation) i, tt),
        ),
      ),
    ),
  )
