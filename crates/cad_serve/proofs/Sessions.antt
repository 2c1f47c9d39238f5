-- One list of replies to commands, and one line of counts.
use Rattle.std.proofs.Common.{◌≡◌, ℕ, List, [], ◌∷◌, refl, sym, ◌∙◌, ap, subst}
use Rattle.serde_json.specs.Data.{Data}
use Rattle.cad_generation.specs.Lines.{generated}
use Rattle.cad_runs.specs.Commands.{Reply}
use Rattle.cad_world.specs.Begin.{empty_world}
use Rattle.cad_world.specs.State.{World}
use Rattle.cad_answers.specs.Answer.{Answers}
use Rattle.cad_serve.specs.Generated.{IsCountsLine, counts_line}
use Rattle.cad_serve.specs.Served.{AnswersAll}

abbrev OneReply : Type 0
OneReply = (w : World) (line : List ℕ) (a b : Reply Data) (u v : World) → Answers w line a u → Answers w line b v → (a ≡ b) × (u ≡ v)

abbrev OneSession : Type 0
OneSession = (w : World) (commands : List (List ℕ)) (a b : List (Reply Data)) (u v : World) → AnswersAll w commands a u → AnswersAll w commands b v → (a ≡ b) × (u ≡ v)

one_list : (x y : Reply Data) (xs ys : List (Reply Data)) → x ≡ y → xs ≡ ys → x ∷ xs ≡ y ∷ ys
one_list x y xs ys h k = ap (λ (z : Reply Data). z ∷ xs) h ∙ ap (λ (zs : List (Reply Data)). y ∷ zs) k

pub same_session : OneReply → OneSession
same_session one w [] [] [] u v h k = (refl, h ∙ sym k)
same_session one w [] [] (y ∷ ys) u v h k = elim k [ ]
same_session one w [] (x ∷ xs) b u v h k = elim h [ ]
same_session one w (line ∷ lines) [] b u v h k = elim h [ ]
same_session one w (line ∷ lines) (x ∷ xs) [] u v h k = elim k [ ]
same_session one w (line ∷ lines) (x ∷ xs) (y ∷ ys) u v h k =
    let same = one w line x y h.0 k.0 h.1 k.1 in
    let rest = same_session one k.0 lines xs ys u v (subst (λ (z : World). AnswersAll z lines xs u) same.1 h.2) k.2 in
    (one_list x y xs ys same.0 rest.0, rest.1)

pub same_counts : OneSession → (n : ℕ) (a b : List ℕ) → IsCountsLine n a → IsCountsLine n b → a ≡ b
same_counts one n a b h k =
    let same = one empty_world (generated n) h.answers k.answers h.world k.world h.are k.are in
    h.is ∙ ap (λ (x : List (Reply Data)). counts_line x h.world) same.0 ∙ ap (λ (v : World). counts_line k.answers v) same.1 ∙ sym k.is
