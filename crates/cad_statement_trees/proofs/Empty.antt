-- A block without statements.
use Rattle.std.proofs.Common.{◌≡◌, ◌∙◌, ℕ, ◌+◌, ap, sym, add-zero}
use Rattle.std.specs.Prelude.{Ok}
use Rattle.cad_declarations.specs.Typed as e
use Rattle.cad_typing.specs.Statements.{Surroundings, empty_block}
use Rattle.cad_statement_parts.specs.Blocks.{numbered}

empty_typed : (w : Surroundings) → Ok (e.block w.env.in_use e.no_statements) ≡ empty_block w
empty_typed w = ap (λ n. Ok (e.block n e.no_statements)) (sym (add-zero w.env.in_use) ∙ sym (add-zero (w.env.in_use + 0)))

pub empty_at : (w : Surroundings) (n : ℕ) (b : e.BlockTree) → b ≡ e.block w.env.in_use e.no_statements → Ok (b, n) ≡ numbered (n + 0) (empty_block w)
empty_at w n b is =
    ap (λ z. Ok (z, n)) is
    ∙ ap (λ m. Ok (e.block w.env.in_use e.no_statements, m)) (sym (add-zero n))
    ∙ ap (numbered (n + 0)) (empty_typed w)
