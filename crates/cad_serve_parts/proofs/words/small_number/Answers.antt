use Rattle.cad_serve_parts.proofs.Numerals.{read_ok, is_read, ok_is, err_is_none, small_some, large_none}
use Rattle.cad_serve_parts.proofs.words.small_number.Goals as goal

pub returns-in-Ok-clause-some : goal.returns-in-Ok-clause-some
returns-in-Ok-clause-some c =
    small_some c.within.result c.in-Ok.n c.args.word.now (read_ok c.args.word.now c.parse.result c.in-Ok.n c.requires.0 c.requires.1 c.in-Ok.is c.parse.ensures.value.0) c.within.ensures.some

pub returns-in-Ok-clause-none : goal.returns-in-Ok-clause-none
returns-in-Ok-clause-none c =
    large_none c.within.result c.in-Ok.n c.args.word.now (λ k small is. ok_is c.parse.result k c.in-Ok.n (is_read c.args.word.now c.parse.result k small is c.parse.ensures.value.0) c.in-Ok.is) c.within.ensures.none

pub returns-in-Err-clause-none : goal.returns-in-Err-clause-none
returns-in-Err-clause-none c = λ n small is. err_is_none c.parse.result c.in-Err.field-0 n c.in-Err.is (is_read c.args.word.now c.parse.result n small is c.parse.ensures.value.0)
