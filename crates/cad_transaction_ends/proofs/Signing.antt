-- The row of the signers, from one on.
use Rattle.std.proofs.Common.{◌≡◌, ℕ, suc, ◌+◌, ◌<◌, ◌≤◌, List, [], ◌∷◌, length, get_or, map, drop, refl, sym, ap, ◌∙◌, arith, min, inl, inr}
use Rattle.std.proofs.Math.Seq.{drop-cons}
use Rattle.std.proofs.lemmas.Bool.{cases_lt}
use Rattle.std.proofs.lemmas.List.{drop_all}
use Rattle.cad_declarations.specs.Typed.{VariableEntry}
use Rattle.cad_declarations.specs.Views.{variable_of}
use Rattle.cad_declarations.specs.declared.statement.Variable.{Variable}
use Rattle.cad_evaluation.specs.Accounts.{account_reference}
use Rattle.cad_rows.proofs.CopyLaws.{join_stop}
use Rattle.cad_runs.specs.Run.{signer_row}
use Rattle.cad_syntax.specs.Types.{pure_type}
use Rattle.cad_syntax.specs.declared.address.Address.{Address}
use Rattle.cad_world.specs.Rows.{Row, stop, gap, node, Tree, first, add_last, join}

-- the signers from a number on
abbrev pub signers_from : ℕ → List Variable → List Address → Row
signers_from i parameters signers = signer_row (map variable_of (drop i parameters)) (drop i signers)

added : (t : Tree) (r q : Row) → join (add_last t r) q ≡ join r (first t q)
added t stop q = refl
added t (gap r) q = ap gap (added t r q)
added t (node l n s k r) q = ap (node l n s k) (added t r q)

from_one : (i : ℕ) (x : Variable) (d : Address) (xs : List Variable) (ss : List Address) → i < length xs → i < length ss
    → signers_from i xs ss ≡ first (account_reference (pure_type (get_or xs i x).declared) (get_or ss i d)) (signers_from (suc i) xs ss)
from_one i x d xs ss here there =
    ap (λ ys. signer_row (map variable_of ys) (drop i ss)) (drop-cons xs i x here)
    ∙ ap (signer_row (variable_of (get_or xs i x) ∷ map variable_of (drop (suc i) xs))) (drop-cons ss i d there)

-- one signer more, read with any defaults
pub turn : (i j : ℕ) (x : Variable) (d : Address) (xs : List Variable) (ss : List Address) (r : Row) → j ≡ i + 1 → i < length xs → i < length ss
    → join (add_last (account_reference (pure_type (get_or xs i x).declared) (get_or ss i d)) r) (signers_from j xs ss) ≡ join r (signers_from i xs ss)
turn i j x d xs ss r next here there =
    let signs = account_reference (pure_type (get_or xs i x).declared) (get_or ss i d) in
    added signs r (signers_from j xs ss)
    ∙ ap (λ k. join r (first signs (signers_from k xs ss))) (let e : j ≡ suc i = omega (arith, next) in e)
    ∙ ap (join r) (sym (from_one i x d xs ss here there))

none_signs : (ys : List VariableEntry) → signer_row ys [] ≡ stop
none_signs [] = refl
none_signs (y ∷ ys) = refl

none_left : (i : ℕ) (xs : List Variable) (ss : List Address) → min (length xs) (length ss) ≤ i → signers_from i xs ss ≡ stop
none_left i xs ss last =
    elim (cases_lt i (length xs)) [
      | inl less ↦ ap (signer_row (map variable_of (drop i xs))) (drop_all i ss (omega (arith, less, last))) ∙ none_signs (map variable_of (drop i xs))
      | inr le ↦ ap (λ ys. signer_row (map variable_of ys) (drop i ss)) (drop_all i xs (omega (arith, le)))
    ]

-- no signer is left
pub end : (i : ℕ) (xs : List Variable) (ss : List Address) (r : Row) → min (length xs) (length ss) ≤ i → join r (signers_from i xs ss) ≡ r
end i xs ss r last = ap (join r) (none_left i xs ss last) ∙ join_stop r
