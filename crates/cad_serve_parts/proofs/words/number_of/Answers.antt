use Rattle.std.proofs.Common.{length, get_or, ap, sym, ◌∙◌, arith}
use Rattle.cad_serve_parts.proofs.Numerals.{first_is_no_plus, has_first, zero_is, zero_first, is_other}
use Rattle.cad_serve_parts.proofs.words.number_of.Goals as goal

pub returns-then-is_zero-clause-some : goal.returns-then-is_zero-clause-some
returns-then-is_zero-clause-some c = (c.is_zero.ensures.0 c.if-is_zero.true ∙ sym zero_is, omega arith)

pub returns-in_default-clause-none : goal.returns-in_default-clause-none
returns-in_default-clause-none c = λ n small is. omega (arith, has_first c.args.word.now n small is, ap length c.as_bytes.ensures.value, c.in_default.len_below)

pub returns-then-first-eq43-clause-none : goal.returns-then-first-eq43-clause-none
returns-then-first-eq43-clause-none c = λ n small is. first_is_no_plus c.args.word.now n small is (ap (λ l. get_or l 0 0) (sym c.as_bytes.ensures.value) ∙ c.if-first-eq43.true)

pub returns-then-first-eq48-clause-none : goal.returns-then-first-eq48-clause-none
returns-then-first-eq48-clause-none c = λ n small is.
    is_other c.is_zero.result _ c.is_zero.ensures c.if-is_zero.false (zero_first c.args.word.now n small is (ap (λ l. get_or l 0 0) (sym c.as_bytes.ensures.value) ∙ c.if-first-eq48.true))
