-- What the checks of bodies say of pieces.
use Rattle.std.specs.Result.{IfOk}
use Rattle.std.specs.Prelude.{ℕ, Option, Some, None, option_map, Result, Ok, Err, List, [], ◌∷◌, ◌++◌, unwrap_or}
use Rattle.std.proofs.Common.{◌≡◌, refl, sym, ◌∙◌, ap, subst, append_assoc}
use Rattle.cad_syntax.specs.declared.text.Name.{Name}
use Rattle.cad_syntax.specs.declared.type_id.TypeId.{TypeId}
use Rattle.cad_declarations.specs.Entries.{no_id}
use Rattle.cad_declarations.specs.Tables.{ProgramTables}
use Rattle.cad_declarations.specs.Typed as e
use Rattle.cad_declarations.specs.declared.stop.Stop.{Stop}
use Rattle.cad_paths.specs.declared.letter.FieldRule.{FieldRule}
use Rattle.cad_paths.specs.declared.letter.Position.{Position}
use Rattle.cad_paths.specs.declared.letter.Way.{Way}
use Rattle.cad_paths.specs.declared.letter.Way.TheVariants.{Next, Broken, Continued, Returned, Never}
use Rattle.cad_paths.specs.Bodies.{resource_letters, field_letters}
use Rattle.cad_paths.specs.Fields.{rules_in}
use Rattle.cad_paths.specs.Initialisation.{FirstMisset, InitialisationOf}
use Rattle.cad_paths.specs.Linear.{LifeLetter, LinearWord, BeginsLinear, IsLinear, Linear, Offence, Offends, offends, FirstOffence, MovesOf, life_word}
use Rattle.cad_paths.specs.Paths.{PathBody, LetterAt, Life}
use Rattle.cad_paths.specs.Purity.{impurity}
use Rattle.cad_typing.specs.Pieces as p
use Rattle.cad_acceptance.specs.Bodies.{Refusal, RefusedAt, MisMoved, Impure, Misset, Judged, place_of}
use Rattle.cad_pieces.specs.Views.{body_piece}
use Rattle.cad_check.specs.Answers.{Tells, Unset, body_refused, position_refused}
use Rattle.cad_check.specs.declared.refusals.BodyPhase.{BodyPhase}
use Rattle.cad_check.specs.declared.refusals.BodyPhase.TheVariants as by

-- ---- moves

-- each beginning of what begins a linear word begins one
begins : (x : Way) (front back : List LifeLetter) (m : LifeLetter) → IsLinear x (front ++ (m ∷ back)) → BeginsLinear (front ++ (m ∷ []))
begins Next front back m h = (back, subst LinearWord (sym (append_assoc front (m ∷ []) back)) h)
begins Broken front back m h = (back, subst LinearWord (sym (append_assoc front (m ∷ []) back)) h)
begins Continued front back m h = (back, subst LinearWord (sym (append_assoc front (m ∷ []) back)) h)
begins Returned front back m h = (back, subst LinearWord (sym (append_assoc front (m ∷ []) back)) h)
begins Never front back m h =
    (back ++ h.0, subst LinearWord (append_assoc front (m ∷ back) h.0 ∙ sym (append_assoc front (m ∷ []) (back ++ h.0))) h.1)

no_offence : (b : PathBody) (o : Offence) → Linear b → Offends b o → ⊥
no_offence b o linear (offends {v = v} {s = s} {w = w} {x = x} front back m life split h k) =
    k (begins x front back m (subst (IsLinear x) split (linear v s w x life)))

pub nothing_moved : (b : e.PartBody) → Linear (resource_letters b) → (at : Position) → MisMoved b at → ⊥
nothing_moved b linear at h = no_offence (resource_letters b) h.0 linear h.1.offends

pub moved : (b : e.PartBody) (o : Offence) → FirstOffence (resource_letters b) o → MisMoved b o.at
moved b o h = (o, h, refl)

-- ---- purity

pub impure_told : (tables : ProgramTables) (b : e.PartBody) (at : Option Position) → at ≡ impurity tables b → Tells (Impure tables b) at
impure_told tables b None h = λ s k. cc (h ∙ k)
impure_told tables b (Some s) h = sym h

-- ---- initialisation

pub misset_told : (rules : List FieldRule) (b : e.PartBody) (at : Option Position) → InitialisationOf (field_letters rules b) at → Tells (Misset rules b) at
misset_told rules b None h = λ s k. h s k.is_wrong
misset_told rules b (Some s) h = h

-- ---- pieces

pub refused_there : (Refused : Refusal) (names : List Name) (b : e.PartBody) (at : Option Position) (stop : Option Stop)
    → Tells (Refused b) at → stop ≡ option_map (place_of names) at → Tells (RefusedAt Refused names b) stop
refused_there Refused names b None None h e = λ stop k. h k.0 k.1
refused_there Refused names b None (Some stop) h e = cc e
refused_there Refused names b (Some s) None h e = cc e
refused_there Refused names b (Some s) (Some stop) h e = (s, h, cc e)

-- a phase refuses a piece where it refuses its body
pub judged : (tables : ProgramTables) (phase : BodyPhase) (names : List Name) (owner : Option TypeId) (rules : List FieldRule) (b : e.PartBody)
    (at : Option Position) (stop : Option Stop) → Tells (position_refused tables phase owner rules b) at → stop ≡ option_map (place_of names) at
    → Tells (body_refused tables phase names (body_piece owner rules b)) stop
judged tables by.Moves names owner rules (e.function_part f) at stop h is = refused_there MisMoved names (e.function_part f) at stop h is
judged tables by.Moves names owner rules (e.initializer_part f) at stop h is = refused_there MisMoved names (e.initializer_part f) at stop h is
judged tables by.Moves names owner rules (e.transaction_part t) at stop h is = refused_there MisMoved names (e.transaction_part t) at stop h is
judged tables by.Purity names owner rules (e.function_part f) at stop h is = refused_there (Impure tables) names (e.function_part f) at stop h is
judged tables by.Purity names owner rules (e.initializer_part f) at stop h is = refused_there (Impure tables) names (e.initializer_part f) at stop h is
judged tables by.Purity names owner rules (e.transaction_part t) at stop h is = refused_there (Impure tables) names (e.transaction_part t) at stop h is
judged tables by.Initialisation names owner rules (e.initializer_part f) at stop h is = refused_there (Misset _) names (e.initializer_part f) at stop h is
judged tables by.Initialisation names owner rules (e.transaction_part t) at stop h is = refused_there (Misset rules) names (e.transaction_part t) at stop h is
judged tables by.Initialisation names owner rules (e.function_part f) None None h k = λ stop none. none
judged tables by.Initialisation names owner rules (e.function_part f) None (Some stop) h k = cc k
judged tables by.Initialisation names owner rules (e.function_part f) (Some s) stop h k = absurd h

-- ---- as the code tells it, where there is memory

-- a well-typed piece by what it is
pub piece_told : {E : Type 0} (tables : ProgramTables) (phase : BodyPhase) (names : List Name) (typing : Result p.PieceBody ℕ) (body : p.PieceBody) (r : Result (Option Stop) E)
    → typing ≡ Ok body → IfOk r (λ stop. Tells (body_refused tables phase names body) stop)
    → IfOk r (λ stop. Tells (λ x. Judged (body_refused tables phase) names typing x) stop)
piece_told tables phase names typing body r is h =
    subst (λ (t : Result p.PieceBody ℕ). IfOk r (λ stop. Tells (λ x. Judged (body_refused tables phase) names t x) stop)) (sym is) h

-- what is ill-typed is judged by none
pub ill_typed_told : (tables : ProgramTables) (phase : BodyPhase) (names : List Name) (typing : Result p.PieceBody ℕ) (n : ℕ) → typing ≡ Err n
    → (stop : Stop) → Judged (body_refused tables phase) names typing stop → ⊥
ill_typed_told tables phase names typing n is stop h = subst (λ (t : Result p.PieceBody ℕ). Judged (body_refused tables phase) names t stop) is h

-- a body at its places
pub body_told : {E : Type 0} (tables : ProgramTables) (phase : BodyPhase) (names : List Name) (owner : Option TypeId) (rules : List FieldRule) (b : e.PartBody)
    (at : Option Position) (r : Result (Option Stop) E) → Tells (position_refused tables phase owner rules b) at → IfOk r (λ stop. stop ≡ option_map (place_of names) at)
    → IfOk r (λ stop. Tells (body_refused tables phase names (body_piece owner rules b)) stop)
body_told tables phase names owner rules b at (Ok stop) h e = judged tables phase names owner rules b at stop h e
body_told tables phase names owner rules b at (Err x) h e = tt

-- the fields that an initializer sets are those of its owner
pub initializer_told : {E : Type 0} (tables : ProgramTables) (owner : Option TypeId) (rules own : List FieldRule) (b : e.PartBody) (f : e.FunctionBody) (r : Result (Option Position) E)
    → b ≡ e.initializer_part f → own ≡ rules_in tables (unwrap_or owner no_id) → IfOk r (λ at. InitialisationOf (field_letters own b) at)
    → IfOk r (λ at. Tells (Unset tables owner rules b) at)
initializer_told tables owner rules own b f (Ok None) is own_is h = λ s k.
    h s
    (subst (λ (rs : List FieldRule). Misset rs b s) (sym own_is)
    (subst (λ (x : e.PartBody). Misset (rules_in tables (unwrap_or owner no_id)) x s) (sym is) (subst (λ (x : e.PartBody). Unset tables owner rules x s) is k))).is_wrong
initializer_told tables owner rules own b f (Ok (Some s)) is own_is h =
    subst (λ (x : e.PartBody). Unset tables owner rules x s) (sym is)
    (subst (λ (x : e.PartBody). Misset (rules_in tables (unwrap_or owner no_id)) x s) is (subst (λ (rs : List FieldRule). Misset rs b s) own_is h))
initializer_told tables owner rules own b f (Err x) is own_is h = tt

-- those of a transaction are told beside it
pub transaction_told : {E : Type 0} (tables : ProgramTables) (owner : Option TypeId) (rules : List FieldRule) (b : e.PartBody) (t : e.TransactionBody) (r : Result (Option Position) E)
    → b ≡ e.transaction_part t → IfOk r (λ at. InitialisationOf (field_letters rules b) at) → IfOk r (λ at. Tells (Unset tables owner rules b) at)
transaction_told tables owner rules b t (Ok None) is h = λ s k.
    h s (subst (λ (x : e.PartBody). Misset rules x s) (sym is) (subst (λ (x : e.PartBody). Unset tables owner rules x s) is k)).is_wrong
transaction_told tables owner rules b t (Ok (Some s)) is h =
    subst (λ (x : e.PartBody). Unset tables owner rules x s) (sym is) (subst (λ (x : e.PartBody). Misset rules x s) is h)
transaction_told tables owner rules b t (Err x) is h = tt

-- the body of a piece by its parts
pub body_there : {E : Type 0} (tables : ProgramTables) (phase : BodyPhase) (names : List Name) (body : p.PieceBody) (owner o : Option TypeId) (rules rs : List FieldRule) (b : e.PartBody)
    (r : Result (Option Stop) E) → body ≡ body_piece owner rules b → IfOk r (λ stop. Tells (body_refused tables phase names (body_piece o rs b)) stop)
    → o ≡ owner → rs ≡ rules → IfOk r (λ stop. Tells (body_refused tables phase names body) stop)
body_there tables phase names body owner o rules rs b r is h owner_is rules_are =
    subst (λ (x : p.PieceBody). IfOk r (λ stop. Tells (body_refused tables phase names x) stop))
    (ap (λ (y : Option TypeId). body_piece y rs b) owner_is ∙ (ap (λ (ys : List FieldRule). body_piece owner ys b) rules_are ∙ sym is)) h
