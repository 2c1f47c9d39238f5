-- What results cost.
use Rattle.std.proofs.Common.{◌≡◌, ℕ, refl, sym, ap, ◌∙◌}
use Rattle.std.specs.Prelude.{Result}
use Rattle.cad_evaluation.specs.Builtins.{paid_for}
use Rattle.cad_value_operations.specs.Code.Members.{paid}
use Rattle.cad_value_operations.proofs.Looks.{does_from, stops_untold}
use Rattle.cad_outcomes.proofs.Steps.{stops_on, stops_same}
use Rattle.cad_outcomes.specs.Outcomes.{Does, Stops}
use Rattle.cad_outcomes.specs.declared.stop.Stop.{Stop}
use Rattle.cad_rows.specs.Views.{pure_tree}
use Rattle.cad_rows.specs.declared.tree.Tree.{Tree as Code}
use Rattle.cad_world.specs.Rows.{Tree}
use Rattle.cad_world.specs.State.{State, Outcome, ok, failed, limit, ill, bind, Action, ◌>>=◌, give}

-- ---- a result that was found is paid

behind : {A : Type 0} (f : A → Action Tree) (n : ℕ) (o : Outcome A) → bind o (λ a. paid_for n (f a)) ≡ bind (bind o (λ a. f a)) (λ t. paid n t)
behind f n (ok a v) = refl
behind f n (failed e) = refl
behind f n limit = refl
behind f n ill = refl

pub paid_behind : {A : Type 0} (look : Action A) (f : A → Action Tree) (n : ℕ) (s t u : State) (made : Code) (r : Result Code Stop)
    → (look >>= f) s ≡ ok (pure_tree made) t → Does pure_tree (paid n (pure_tree made)) t u r → Does pure_tree (look >>= (λ a. paid_for n (f a))) s u r
paid_behind look f n s t u made r first second =
    does_from pure_tree (look >>= (λ a. paid_for n (f a))) (paid n (pure_tree made)) s t u r (behind f n (look s) ∙ ap (λ (o : Outcome Tree). bind o (λ x. paid n x)) first) second

pub paid_stops : {A : Type 0} (look : Action A) (f : A → Action Tree) (n : ℕ) (s : State) (stop : Stop) → Stops ((look >>= f) s) stop → Stops ((look >>= (λ a. paid_for n (f a))) s) stop
paid_stops look f n s stop h = stops_same _ _ stop (behind f n (look s)) (stops_on ((look >>= f) s) (λ t. paid n t) stop h)

-- ---- what is paid is told before

count_is : {A : Type 0} (n : ℕ) (o : Outcome A) (w : A → ℕ) (f : A → Action Tree) (s : State) → bind o (λ a. give (w a)) ≡ ok n s → bind o (λ a. paid_for (w a) (f a)) ≡ bind o (λ a. paid_for n (f a))
count_is n (ok a v) w f s h = ap (λ (k : ℕ). paid_for k (f a) v) (ap count h)
  where
    count : Outcome ℕ → ℕ
    count (ok m t) = m
    count (failed e) = 0
    count limit = 0
    count ill = 0
count_is n (failed e) w f s h = refl
count_is n limit w f s h = refl
count_is n ill w f s h = refl

pub searched : {A : Type 0} (look : Action A) (w : A → ℕ) (f : A → Action Tree) (n : ℕ) (s t u : State) (made : Code) (r : Result Code Stop)
    → (look >>= (λ a. give (w a))) s ≡ ok n s → (look >>= f) s ≡ ok (pure_tree made) t → Does pure_tree (paid n (pure_tree made)) t u r
    → Does pure_tree (look >>= (λ a. paid_for (w a) (f a))) s u r
searched look w f n s t u made r told first second =
    does_from pure_tree (look >>= (λ a. paid_for (w a) (f a))) (look >>= (λ a. paid_for n (f a))) s s u r (count_is n (look s) w f s told)
    (paid_behind look f n s t u made r first second)

pub search_stops : {A : Type 0} (look : Action A) (w : A → ℕ) (f : A → Action Tree) (n : ℕ) (s : State) (stop : Stop)
    → (look >>= (λ a. give (w a))) s ≡ ok n s → Stops ((look >>= f) s) stop → Stops ((look >>= (λ a. paid_for (w a) (f a))) s) stop
search_stops look w f n s stop told h = stops_same _ _ stop (count_is n (look s) w f s told) (paid_stops look f n s stop h)

pub count_stops : {A : Type 0} (look : Action A) (w : A → ℕ) (f : A → Action Tree) (s : State) (stop : Stop) → Stops ((look >>= (λ a. give (w a))) s) stop → Stops ((look >>= (λ a. paid_for (w a) (f a))) s) stop
count_stops look w f s stop h = stops_untold (look s) w (λ a. paid_for (w a) (f a)) stop h
