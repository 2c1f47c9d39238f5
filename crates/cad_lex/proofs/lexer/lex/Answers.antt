use Rattle.std.proofs.Common.{◌≡◌, ◌-◌, None, refl, length, sym, ap, ◌∙◌, arith, subst, option_map, false-eqb, rules}
use Rattle.cad_grammar.specs.declared.token.Token.{Token}
use Rattle.cad_grammar.specs.Lexes.{Stops}
use Rattle.cad_lex.specs.Code.Reading.{seen, gap}
use Rattle.cad_lex.proofs.Turns.{read_begun, read_gap, read_token, read_stops, stops_alone, told, told_shorter, gap_told_shorter}
use Rattle.cad_lex.proofs.lexer.lex.Goals as goal

pub loop-rest-init : goal.loop-rest-init
loop-rest-init c = read_begun c.args.bytes.now _ c.in_default.ensures.cases.1 c.new-tokens.ensures.items

pub loop-rest-smaller-in-Some : goal.loop-rest-smaller-in-Some
loop-rest-smaller-in-Some c = gap_told_shorter c.loop-rest.rest.now c.in-Some.behind.now c.in-Some.has_line_feed (told _ _ _ c.gap.ensures c.in-Some.is)

pub loop-rest-preserved-in-Some : goal.loop-rest-preserved-in-Some
loop-rest-preserved-in-Some c =
    read_gap c.args.bytes.now _ _ c.in-Some.has_line_feed _ c.loop-rest.rest.now c.in-Some.behind.now c.loop-rest.invariant (told _ _ _ c.gap.ensures c.in-Some.is) refl

pub overflow_sub-bytes : goal.overflow_sub-bytes
overflow_sub-bytes c =
    let found = told _ _ _ c.in_ok-kind.ensures c.in-Some-2.is in
    omega (arith, told_shorter _ _ _ found, c.loop-rest.invariant.within)

pub loop-rest-smaller : goal.loop-rest-smaller
loop-rest-smaller c = told_shorter _ _ _ (told _ _ _ c.in_ok-kind.ensures c.in-Some-2.is)

pub loop-rest-preserved : goal.loop-rest-preserved
loop-rest-preserved c =
    let bytes = c.args.bytes.now in
    let rest = c.loop-rest.rest.now in
    let found = told _ _ _ c.in_ok-kind.ensures c.in-Some-2.is in
    let t : Token = record { kind = c.in-Some-2.kind; start = length bytes - length rest; end = length bytes - length c.in-Some-2.behind.now; after_break = c.loop-rest.after_break } in
    read_token bytes _ _ _ _ t _ c.loop-rest.invariant found refl refl refl (search rules)

pub returns-in_default-2-clause-place : goal.returns-in_default-2-clause-place
returns-in_default-2-clause-place c n e =
    let bytes = c.args.bytes.now in
    let same : length bytes - length c.loop-rest.rest.now ≡ n = cc in
    let no_gap : gap c.loop-rest.rest.now ≡ None = sym c.gap.ensures ∙ ap (option_map seen) c.in_default-gap.is in
    subst (Stops bytes) same
    (read_stops bytes _ _ _ c.loop-rest.invariant (λ h. omega (arith, false-eqb _ 0 c.loop-rest-test.ensures)) no_gap (sym c.in_ok-kind.ensures ∙ ap (option_map seen) c.in_default-2.is))

pub returns-in_default-2-clause-none : goal.returns-in_default-2-clause-none
returns-in_default-2-clause-none c n e tokens =
    let bytes = c.args.bytes.now in
    let no_gap : gap c.loop-rest.rest.now ≡ None = sym c.gap.ensures ∙ ap (option_map seen) c.in_default-gap.is in
    stops_alone bytes _ tokens
    (read_stops bytes _ _ _ c.loop-rest.invariant (λ h. omega (arith, false-eqb _ 0 c.loop-rest-test.ensures)) no_gap (sym c.in_ok-kind.ensures ∙ ap (option_map seen) c.in_default-2.is))
