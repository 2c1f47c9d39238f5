use Rattle.std.proofs.Common.{◌≡◌, ◌-◌, ◌<◌, ◌⊎◌, length, drop, Some, None, option_map, sym, ap, ◌∙◌, subst}
use Rattle.cad_grammar.specs.Views.{type_of}
use Rattle.cad_grammar.specs.declared.level.TypePosition.TheVariants as position
use Rattle.cad_parse_type.specs.Code.Reading.{type_at}
use Rattle.cad_parse_type.specs.Code.Views.{seen, seen_with}
use Rattle.cad_parse_expr.specs.Cursor.{before}
use Rattle.cad_parse_expr.proofs.Whole as whole
use Rattle.cad_parse_expr.proofs.cursor.parse_type.Goals as goal
use Rattle.cad_parse_expr.proofs.cursor.parse_type.Goals.{In-Some, In-None}

-- what was read, of the tokens from the cursor
read_some : (c : In-Some) → type_at position.Anywhere (before (128 - c.args.depth) (drop c.args.cursor.now.at c.args.cursor.now.tokens.now)) ≡ Some (type_of c.in-Some.written, seen c.in-Some.rest)
read_some c =
    ap (λ ts. type_at position.Anywhere (before (128 - c.args.depth) ts)) (sym c.tokens_from-tokens.ensures) ∙ ap (type_at position.Anywhere) (sym c.before_tokens-spot.ensures) ∙ sym c.in_ok-type_at.ensures
    ∙ ap (option_map (seen_with type_of)) c.in-Some.is

read_none : (c : In-None) → type_at position.Anywhere (before (128 - c.args.depth) (drop c.args.cursor.now.at c.args.cursor.now.tokens.now)) ≡ None
read_none c =
    ap (λ ts. type_at position.Anywhere (before (128 - c.args.depth) ts)) (sym c.tokens_from-tokens.ensures) ∙ ap (type_at position.Anywhere) (sym c.before_tokens-spot.ensures) ∙ sym c.in_ok-type_at.ensures
    ∙ ap (option_map (seen_with type_of)) c.in-None.is

pub overflow_sub-cursor : goal.overflow_sub-cursor
unfolding seen
overflow_sub-cursor c = (whole.type_place c.args.cursor.now.tokens.now c.args.cursor.now.at (128 - c.args.depth) _ (read_some c)).1

pub returns-in-None-clause-none : goal.returns-in-None-clause-none
returns-in-None-clause-none c = λ phase at _ a rest w.
    let d = (goal.at.returns-in-None-clause-none c).In-None in
    whole.type_none (128 - c.args.depth) (drop c.args.cursor.now.at c.args.cursor.now.tokens.now) (read_none d) a rest w

-- what was read is spelled, and its rest is where the cursor then stands
place : (c : In-Some) → c.in-Some.rest.tokens.now ≡ drop (length c.args.cursor.now.tokens.now - length c.in-Some.rest.tokens.now) c.args.cursor.now.tokens.now
unfolding seen
place c = sym (whole.type_place c.args.cursor.now.tokens.now c.args.cursor.now.at (128 - c.args.depth) _ (read_some c)).0

pub returns-in-Some-clause-found : goal.returns-in-Some-clause-found
unfolding seen
returns-in-Some-clause-found c =
    let d = (goal.at.returns-in-Some-clause-found c).In-Some in
    (seen c.in-Some.rest, whole.type_sound (128 - c.args.depth) (drop c.args.cursor.now.at c.args.cursor.now.tokens.now) _ (read_some d), place d)

pub returns-in-Some-clause-longest : goal.returns-in-Some-clause-longest
unfolding seen
returns-in-Some-clause-longest c = λ a rest w.
    let d = (goal.at.returns-in-Some-clause-longest c).In-Some in
    subst (λ us. ((a ≡ type_of c.in-Some.written) × (rest ≡ us)) ⊎ (length us < length rest)) (place d) (whole.type_longest (128 - c.args.depth) _ _ (read_some d) a rest w)
