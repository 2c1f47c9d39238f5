-- A program is refused by one phase, and at one place.
use Rattle.std.proofs.Common.{◌≡◌, refl, sym, ◌∙◌, ap, subst, ◌⊎◌, inl, inr, ℕ, List, [], ◌∷◌, ◌++◌}
use Rattle.std.specs.Prelude.{Option, Some, None, Result, Ok, Err}
use Rattle.cad_syntax.specs.declared.address.Address.{Address}
use Rattle.cad_syntax.specs.declared.text.Name.{Name}
use Rattle.cad_grammar.specs.declared.phase.Phase.{Phase}
use Rattle.cad_grammar.specs.declared.phase.Phase.TheVariants as phase
use Rattle.cad_grammar.specs.Trees.{ProgramTree}
use Rattle.cad_declarations.specs.Build.{stop_at}
use Rattle.cad_declarations.specs.Kinds.{kinds_of}
use Rattle.cad_declarations.specs.Meets as meets
use Rattle.cad_declarations.specs.Meets.{Each, Meets, Unmet}
use Rattle.cad_declarations.specs.Tables.{TypeEntry, ProgramTables}
use Rattle.cad_declarations.specs.Typed as e
use Rattle.cad_declarations.specs.declared.stop.Stop.{Stop}
use Rattle.cad_declarations.specs.declared.stop.Rejected.{Rejected}
use Rattle.cad_paths.specs.Linear.{Offence, FirstOffence}
use Rattle.cad_paths.specs.declared.letter.FieldRule.{FieldRule}
use Rattle.cad_paths.specs.declared.letter.Position.{Position}
use Rattle.cad_moves.proofs.Positions.{not_after_both}
use Rattle.cad_typing.specs.Pieces.{PieceBody, type_piece, function_piece, initializer_piece, transaction_piece, destroyed_piece, plain_piece, Piece, program_pieces}
use Rattle.cad_typing.specs.Programs.{IsRight, FirstRefused, IllTyped, StopsAt, TypesStop}
use Rattle.cad_acceptance.specs.Bodies.{Refusal, RefusedAt, MisMoved, Impure, Misset, MovesRefuse, PurityRefuses, InitialisationRefuses, Judged, InMoves, InPurity, InInitialisation, place_of}
use Rattle.cad_acceptance.specs.Phases.{Passes, Stops}
use Rattle.cad_acceptance.specs.Stops.{Subject, StopsFirst, ProgramStops, ProgramStop, subject_tables, stop_of}
use Rattle.cad_acceptance.proofs.Phases.{passes_no_stop, same_tables, no_error}

-- ---- the first of a list

-- Two splits of one list, each behind those that have a property, at one that hasn't.
same_first : {X : Type 0} (P : X → Type 0) (a : List X) (x : X) (b c : List X) (y : X) (d : List X)
    → a ++ (x ∷ b) ≡ c ++ (y ∷ d) → Each P a → (P x → ⊥) → Each P c → (P y → ⊥) → x ≡ y
same_first P [] x b [] y d e h wrong k other = cc
same_first P [] x b (z ∷ c) y d e h wrong k other = let g : z ≡ x = cc in absurd (wrong (subst P g k.0))
same_first P (w ∷ a) x b [] y d e h wrong k other = let g : w ≡ y = cc in absurd (other (subst P g h.0))
same_first P (w ∷ a) x b (z ∷ c) y d e h wrong k other = same_first P a x b c y d (cc) h.1 wrong k.1 other

-- where what is refused of one piece is one stop, so is what is refused first
one_first : (Refused : Piece → Stop → Type 0) → ((p : Piece) (m n : Stop) → Refused p m → Refused p n → m ≡ n)
    → (pieces : List Piece) (m n : Stop) → FirstRefused Refused pieces m → FirstRefused Refused pieces n → m ≡ n
one_first Refused one pieces m n a b =
    let g : a.piece ≡ b.piece = same_first (IsRight Refused) a.before a.piece a.after b.before b.piece b.after (sym a.split ∙ b.split)
    a.right (λ right. right m a.refused) b.right (λ right. right n b.refused) in
    one b.piece m n (subst (λ (p : Piece). Refused p m) g a.refused) b.refused

-- ---- typing

stops_once : (names : List Name) (typing : Result PieceBody ℕ) (m n : Stop) → StopsAt names typing m → StopsAt names typing n → m ≡ n
stops_once names (Err k) m n a b = a ∙ sym b
stops_once names (Ok (function_piece f)) m n a b = a.1 ∙ sym b.1
stops_once names (Ok (type_piece id)) m n a b = absurd a
stops_once names (Ok (initializer_piece id f)) m n a b = absurd a
stops_once names (Ok (transaction_piece rules t)) m n a b = absurd a
stops_once names (Ok (destroyed_piece d)) m n a b = absurd a
stops_once names (Ok plain_piece) m n a b = absurd a

ill_typed_once : (p : Piece) (m n : Stop) → IllTyped p m → IllTyped p n → m ≡ n
ill_typed_once p m n a b = stops_once p.inside p.typing m n a b

-- ---- bodies

one_refusal : (Refused : Refusal) → ((b : e.PartBody) (s t : Position) → Refused b s → Refused b t → s ≡ t)
    → (names : List Name) (body : e.PartBody) (m n : Stop) → RefusedAt Refused names body m → RefusedAt Refused names body n → m ≡ n
one_refusal Refused one names body m n a b = a.2 ∙ (ap (place_of names) (one body a.0 b.0 a.1 b.1) ∙ sym b.2)

moved_once : (b : e.PartBody) (s t : Position) → MisMoved b s → MisMoved b t → s ≡ t
moved_once b s t h k =
    let g : h.0.at ≡ k.0.at = not_after_both h.0.at k.0.at
    (h.1.is_first k.0 k.1.offends).by_position (k.1.is_first h.0 h.1.offends).by_position in
    sym h.2 ∙ (g ∙ k.2)

abbrev IsSomeOf : {A : Type 0} → A → Option A → Type 0
IsSomeOf x (Some y) = x ≡ y
IsSomeOf x None = ⊥

impure_once : (tables : ProgramTables) (b : e.PartBody) (s t : Position) → Impure tables b s → Impure tables b t → s ≡ t
impure_once tables b s t h k = subst (IsSomeOf s) (sym h ∙ k) refl

misset_once : (rules : List FieldRule) (b : e.PartBody) (s t : Position) → Misset rules b s → Misset rules b t → s ≡ t
misset_once rules b s t h k = not_after_both s t (h.is_first t k.is_wrong) (k.is_first s h.is_wrong)

-- ---- pieces

one_judged : (Refuses : List Name → PieceBody → Stop → Type 0)
    → ((names : List Name) (body : PieceBody) (m n : Stop) → Refuses names body m → Refuses names body n → m ≡ n)
    → (names : List Name) (typing : Result PieceBody ℕ) (m n : Stop) → Judged Refuses names typing m → Judged Refuses names typing n → m ≡ n
one_judged Refuses one names (Ok body) m n a b = one names body m n a b
one_judged Refuses one names (Err k) m n a b = absurd a

moves_once : (names : List Name) (body : PieceBody) (m n : Stop) → MovesRefuse names body m → MovesRefuse names body n → m ≡ n
moves_once names (function_piece f) m n a b = one_refusal MisMoved moved_once names (e.function_part f) m n a b
moves_once names (initializer_piece id f) m n a b = one_refusal MisMoved moved_once names (e.initializer_part f) m n a b
moves_once names (transaction_piece rules t) m n a b = one_refusal MisMoved moved_once names (e.transaction_part t) m n a b
moves_once names (type_piece id) m n a b = absurd a
moves_once names (destroyed_piece d) m n a b = absurd a
moves_once names plain_piece m n a b = absurd a

purity_once : (tables : ProgramTables) (names : List Name) (body : PieceBody) (m n : Stop) → PurityRefuses tables names body m → PurityRefuses tables names body n → m ≡ n
purity_once tables names (function_piece f) m n a b = one_refusal (Impure tables) (impure_once tables) names (e.function_part f) m n a b
purity_once tables names (initializer_piece id f) m n a b = one_refusal (Impure tables) (impure_once tables) names (e.initializer_part f) m n a b
purity_once tables names (transaction_piece rules t) m n a b = one_refusal (Impure tables) (impure_once tables) names (e.transaction_part t) m n a b
purity_once tables names (destroyed_piece d) m n a b = a.1 ∙ sym b.1
purity_once tables names (type_piece id) m n a b = absurd a
purity_once tables names plain_piece m n a b = absurd a

unset_once : (tables : ProgramTables) (names : List Name) (body : PieceBody) (m n : Stop)
    → InitialisationRefuses tables names body m → InitialisationRefuses tables names body n → m ≡ n
unset_once tables names (type_piece id) m n a b = a.1 ∙ sym b.1
unset_once tables names (initializer_piece id f) m n a b = one_refusal (Misset _) (misset_once _) names (e.initializer_part f) m n a b
unset_once tables names (transaction_piece rules t) m n a b = one_refusal (Misset rules) (misset_once rules) names (e.transaction_part t) m n a b
unset_once tables names (function_piece f) m n a b = absurd a
unset_once tables names (destroyed_piece d) m n a b = absurd a
unset_once tables names plain_piece m n a b = absurd a

-- ---- phases

unmet_once : (tables : ProgramTables) (m n : Stop) → Unmet tables m → Unmet tables n → m ≡ n
unmet_once tables m n a b =
    let g : a.0 ≡ b.0 = same_first (Meets (kinds_of tables) tables.types) a.1.before a.0 a.1.after b.1.before b.0 b.1.after
    (sym a.1.split ∙ b.1.split) a.1.met a.1.unmet b.1.met b.1.unmet in
    a.2 ∙ (ap meets.stop_of g ∙ sym b.2)

stops_at_once : (tables : ProgramTables) (program : ProgramTree) (p : Phase) (m n : Stop) → Stops tables program p m → Stops tables program p n → m ≡ n
stops_at_once tables program phase.Lex m n a b = absurd a
stops_at_once tables program phase.Parse m n a b = absurd a
stops_at_once tables program phase.Resolve m n a b = absurd a
stops_at_once tables program phase.Types m n a b = one_first IllTyped ill_typed_once (program_pieces tables program) m n a b
stops_at_once tables program phase.Conformance m n a b = unmet_once tables m n a b
stops_at_once tables program phase.Moves m n a b =
    one_first InMoves (λ p j k c d. one_judged MovesRefuse moves_once p.inside p.typing j k c d) (program_pieces tables program) m n a b
stops_at_once tables program phase.Purity m n a b =
    one_first (InPurity tables) (λ p j k c d. one_judged (PurityRefuses tables) (purity_once tables) p.inside p.typing j k c d) (program_pieces tables program) m n a b
stops_at_once tables program phase.Initialisation m n a b =
    one_first (InInitialisation tables) (λ p j k c d. one_judged (InitialisationRefuses tables) (unset_once tables) p.inside p.typing j k c d) (program_pieces tables program) m n a b

first_once : (s : Subject) (p : Phase) (m n : Stop) → StopsFirst s p m → StopsFirst s p n → m ≡ n
first_once s p m n a b =
    stops_at_once b.tables s.program p m n (subst (λ (t : ProgramTables). Stops t s.program p m) (same_tables s a.tables b.tables a.builds b.builds) a.stops) b.stops

-- a phase that refuses nothing isn't the first that stops
passed_before : (s : Subject) (p q : Phase) (m n : Stop) (a : StopsFirst s p m) → Passes a.tables s.program q → StopsFirst s q n → ⊥
passed_before s p q m n a passes b =
    passes_no_stop b.tables s.program q n
    (subst (λ (t : ProgramTables). Passes t s.program q) (same_tables s a.tables b.tables a.builds b.builds) passes) b.stops

-- names that aren't there stop before all phases that judge by tables
unbuilt : (s : Subject) (p : Phase) (m n : Stop) → subject_tables s ≡ Err m → StopsFirst s p n → ⊥
unbuilt s p m n a b = no_error s b.tables m b.builds a

abbrev IsErr : Stop → Result ProgramTables Stop → Type 0
IsErr stop (Err other) = stop ≡ other
IsErr stop (Ok tables) = ⊥

refused_once : (s : Subject) (m n : Stop) → subject_tables s ≡ Err m → subject_tables s ≡ Err n → m ≡ n
refused_once s m n a b = subst (IsErr m) (sym a ∙ b) refl

one_phase : (s : Subject) (p q : Phase) (m n : Stop) → ProgramStops s p m → ProgramStops s q n → p ≡ q
one_phase s phase.Lex q m n a b = absurd a
one_phase s phase.Parse q m n a b = absurd a
one_phase s phase.Resolve phase.Lex m n a b = absurd b
one_phase s phase.Resolve phase.Parse m n a b = absurd b
one_phase s phase.Resolve phase.Resolve m n a b = refl
one_phase s phase.Resolve phase.Types m n a b = absurd (unbuilt s phase.Types m n a b)
one_phase s phase.Resolve phase.Conformance m n a b = absurd (unbuilt s phase.Conformance m n a b)
one_phase s phase.Resolve phase.Moves m n a b = absurd (unbuilt s phase.Moves m n a b)
one_phase s phase.Resolve phase.Purity m n a b = absurd (unbuilt s phase.Purity m n a b)
one_phase s phase.Resolve phase.Initialisation m n a b = absurd (unbuilt s phase.Initialisation m n a b)
one_phase s phase.Types phase.Lex m n a b = absurd b
one_phase s phase.Types phase.Parse m n a b = absurd b
one_phase s phase.Types phase.Resolve m n a b = absurd (unbuilt s phase.Types n m b a)
one_phase s phase.Types phase.Types m n a b = refl
one_phase s phase.Types phase.Conformance m n a b = absurd (passed_before s phase.Conformance phase.Types n m b b.passed.0 a)
one_phase s phase.Types phase.Moves m n a b = absurd (passed_before s phase.Moves phase.Types n m b b.passed.0 a)
one_phase s phase.Types phase.Purity m n a b = absurd (passed_before s phase.Purity phase.Types n m b b.passed.0 a)
one_phase s phase.Types phase.Initialisation m n a b = absurd (passed_before s phase.Initialisation phase.Types n m b b.passed.0 a)
one_phase s phase.Conformance phase.Lex m n a b = absurd b
one_phase s phase.Conformance phase.Parse m n a b = absurd b
one_phase s phase.Conformance phase.Resolve m n a b = absurd (unbuilt s phase.Conformance n m b a)
one_phase s phase.Conformance phase.Types m n a b = absurd (passed_before s phase.Conformance phase.Types m n a a.passed.0 b)
one_phase s phase.Conformance phase.Conformance m n a b = refl
one_phase s phase.Conformance phase.Moves m n a b = absurd (passed_before s phase.Moves phase.Conformance n m b b.passed.1.0 a)
one_phase s phase.Conformance phase.Purity m n a b = absurd (passed_before s phase.Purity phase.Conformance n m b b.passed.1.0 a)
one_phase s phase.Conformance phase.Initialisation m n a b = absurd (passed_before s phase.Initialisation phase.Conformance n m b b.passed.1.0 a)
one_phase s phase.Moves phase.Lex m n a b = absurd b
one_phase s phase.Moves phase.Parse m n a b = absurd b
one_phase s phase.Moves phase.Resolve m n a b = absurd (unbuilt s phase.Moves n m b a)
one_phase s phase.Moves phase.Types m n a b = absurd (passed_before s phase.Moves phase.Types m n a a.passed.0 b)
one_phase s phase.Moves phase.Conformance m n a b = absurd (passed_before s phase.Moves phase.Conformance m n a a.passed.1.0 b)
one_phase s phase.Moves phase.Moves m n a b = refl
one_phase s phase.Moves phase.Purity m n a b = absurd (passed_before s phase.Purity phase.Moves n m b b.passed.1.1.0 a)
one_phase s phase.Moves phase.Initialisation m n a b = absurd (passed_before s phase.Initialisation phase.Moves n m b b.passed.1.1.0 a)
one_phase s phase.Purity phase.Lex m n a b = absurd b
one_phase s phase.Purity phase.Parse m n a b = absurd b
one_phase s phase.Purity phase.Resolve m n a b = absurd (unbuilt s phase.Purity n m b a)
one_phase s phase.Purity phase.Types m n a b = absurd (passed_before s phase.Purity phase.Types m n a a.passed.0 b)
one_phase s phase.Purity phase.Conformance m n a b = absurd (passed_before s phase.Purity phase.Conformance m n a a.passed.1.0 b)
one_phase s phase.Purity phase.Moves m n a b = absurd (passed_before s phase.Purity phase.Moves m n a a.passed.1.1.0 b)
one_phase s phase.Purity phase.Purity m n a b = refl
one_phase s phase.Purity phase.Initialisation m n a b = absurd (passed_before s phase.Initialisation phase.Purity n m b b.passed.1.1.1.0 a)
one_phase s phase.Initialisation phase.Lex m n a b = absurd b
one_phase s phase.Initialisation phase.Parse m n a b = absurd b
one_phase s phase.Initialisation phase.Resolve m n a b = absurd (unbuilt s phase.Initialisation n m b a)
one_phase s phase.Initialisation phase.Types m n a b = absurd (passed_before s phase.Initialisation phase.Types m n a a.passed.0 b)
one_phase s phase.Initialisation phase.Conformance m n a b = absurd (passed_before s phase.Initialisation phase.Conformance m n a a.passed.1.0 b)
one_phase s phase.Initialisation phase.Moves m n a b = absurd (passed_before s phase.Initialisation phase.Moves m n a a.passed.1.1.0 b)
one_phase s phase.Initialisation phase.Purity m n a b = absurd (passed_before s phase.Initialisation phase.Purity m n a a.passed.1.1.1.0 b)
one_phase s phase.Initialisation phase.Initialisation m n a b = refl

one_place : (s : Subject) (p : Phase) (m n : Stop) → ProgramStops s p m → ProgramStops s p n → m ≡ n
one_place s phase.Lex m n a b = absurd a
one_place s phase.Parse m n a b = absurd a
one_place s phase.Resolve m n a b = refused_once s m n a b
one_place s phase.Types m n a b = first_once s phase.Types m n a b
one_place s phase.Conformance m n a b = first_once s phase.Conformance m n a b
one_place s phase.Moves m n a b = first_once s phase.Moves m n a b
one_place s phase.Purity m n a b = first_once s phase.Purity m n a b
one_place s phase.Initialisation m n a b = first_once s phase.Initialisation m n a b

rejected_by : Phase → Stop → Rejected
rejected_by p m = record { phase = p; inside = m.inside; at = m.at }

pub one_program_stop : (s : Subject) (a b : Rejected) → ProgramStop s a → ProgramStop s b → a ≡ b
unfolding rejected_by
one_program_stop s a b h k =
    let p : a.phase ≡ b.phase = one_phase s a.phase b.phase (stop_of a) (stop_of b) h k in
    let m : stop_of a ≡ stop_of b = one_place s b.phase (stop_of a) (stop_of b) (subst (λ (x : Phase). ProgramStops s x (stop_of a)) p h) k in
    λ i. rejected_by (p i) (m i)
