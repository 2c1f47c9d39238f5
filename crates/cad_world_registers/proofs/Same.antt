-- Rows are the same where their bytes are.
use Rattle.std.proofs.Common.{◌≡◌, ◌↔◌, Bool, true, false, IsTrue, ℕ, List, sym, ap, ◌∙◌}
use Rattle.std.proofs.lemmas.Bool.{false≢true}
use Rattle.cad_accounts.proofs.Keys.{same_is, is_same}
use Rattle.cad_accounts.proofs.Order.{both, both_left, both_right}
use Rattle.cad_accounts.specs.Registers.{same_key}
use Rattle.cad_accounts.specs.declared.row.Row.{Row}
use Rattle.cad_world.specs.Registers.{Register, register}
use Rattle.cad_worlds.specs.Standing.{register_of}
use Rattle.cad_world_registers.specs.Meaning.{is_same_row}

pub same_register : (x y : Row) (b : Bool) → b ≡ is_same_row x y → b ≡ true → register_of x ≡ register_of y
same_register x y b is e =
    let same = sym is ∙ e in
    let key = same_is x.key.0 y.key.0 (both_left (same_key x.key.0 y.key.0) (same_key x.value y.value) same) in
    let value = same_is x.value y.value (both_right (same_key x.key.0 y.key.0) (same_key x.value y.value) same) in
    λ i. register (key i) (value i)

pub other_register : (x y : Row) (b : Bool) → b ≡ is_same_row x y → b ≡ false → register_of x ≡ register_of y → ⊥
other_register x y b is e same =
    let yes = both (same_key x.key.0 y.key.0) (same_key x.value y.value) (is_same x.key.0 y.key.0 (ap (λ (r : Register). r.key) same)) (is_same x.value y.value (ap (λ (r : Register). r.bytes) same)) in
    false≢true (sym e ∙ is ∙ yes)

-- by its key and its bytes
pub other_key : (key bytes k n : List ℕ) (b : Bool) → b ≡ false → (IsTrue b ↔ (key ≡ k)) → IsTrue false ↔ (register key bytes ≡ register k n)
other_key key bytes k n b fails tells = ((λ h. absurd (false≢true h)), (λ e. absurd (false≢true (sym fails ∙ tells.1 (ap (λ (r : Register). r.key) e)))))

pub same_key_then : (key bytes k n : List ℕ) (b : Bool) → key ≡ k → (IsTrue b ↔ (bytes ≡ n)) → IsTrue b ↔ (register key bytes ≡ register k n)
same_key_then key bytes k n b same tells = ((λ h. λ i. register (same i) (tells.0 h i)), (λ e. tells.1 (ap (λ (r : Register). r.bytes) e)))
