-- What some pushes in a row append.
use Rattle.std.proofs.Common.{◌≡◌, ℕ, List, ◌++◌, refl, sym, ap, ◌∙◌, append_assoc}

pub two : (t a b : List ℕ) {t1 t2 whole : List ℕ} → t1 ≡ t ++ a → t2 ≡ t1 ++ b → whole ≡ a ++ b → t2 ≡ t ++ whole
two t a b e1 e2 e = e2 ∙ (ap (λ (w : List ℕ). w ++ b) e1 ∙ (append_assoc t a b ∙ ap (λ (w : List ℕ). t ++ w) (sym e)))

pub three : (t a b c : List ℕ) {t1 t2 t3 whole : List ℕ} → t1 ≡ t ++ a → t2 ≡ t1 ++ b → t3 ≡ t2 ++ c → whole ≡ a ++ (b ++ c) → t3 ≡ t ++ whole
three t a b c {t1} {t2} {t3} {whole} e1 e2 e3 e = two t a (b ++ c) e1 (two t1 b c {whole = b ++ c} e2 e3 refl) e

pub four : (t a b c d : List ℕ) {t1 t2 t3 t4 whole : List ℕ} → t1 ≡ t ++ a → t2 ≡ t1 ++ b → t3 ≡ t2 ++ c → t4 ≡ t3 ++ d → whole ≡ a ++ (b ++ (c ++ d)) → t4 ≡ t ++ whole
four t a b c d {t1} {t2} {t3} {t4} {whole} e1 e2 e3 e4 e = two t a (b ++ (c ++ d)) e1 (three t1 b c d {whole = b ++ (c ++ d)} e2 e3 e4 refl) e

pub five : (t a b c d f : List ℕ) {t1 t2 t3 t4 t5 whole : List ℕ} → t1 ≡ t ++ a → t2 ≡ t1 ++ b → t3 ≡ t2 ++ c → t4 ≡ t3 ++ d → t5 ≡ t4 ++ f → whole ≡ a ++ (b ++ (c ++ (d ++ f))) → t5 ≡ t ++ whole
five t a b c d f {t1} {t2} {t3} {t4} {t5} {whole} e1 e2 e3 e4 e5 e = two t a (b ++ (c ++ (d ++ f))) e1 (four t1 b c d f {whole = b ++ (c ++ (d ++ f))} e2 e3 e4 e5 refl) e

pub six : (t a b c d f g : List ℕ) {t1 t2 t3 t4 t5 t6 whole : List ℕ} → t1 ≡ t ++ a → t2 ≡ t1 ++ b → t3 ≡ t2 ++ c → t4 ≡ t3 ++ d → t5 ≡ t4 ++ f → t6 ≡ t5 ++ g → whole ≡ a ++ (b ++ (c ++ (d ++ (f ++ g)))) → t6 ≡ t ++ whole
six t a b c d f g {t1} {t2} {t3} {t4} {t5} {t6} {whole} e1 e2 e3 e4 e5 e6 e = two t a (b ++ (c ++ (d ++ (f ++ g)))) e1 (five t1 b c d f g {whole = b ++ (c ++ (d ++ (f ++ g)))} e2 e3 e4 e5 e6 refl) e
