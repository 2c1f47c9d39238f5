use Rattle.std.proofs.Common.{rules, ◌≡◌, ◌+◌, drop, [], refl, map, ◌∙◌, arith}
use Rattle.std.proofs.lemmas.List.{drop_all}
use Rattle.cad_declarations.specs.Typed.{terms_of, arguments_of, entries_of}
use Rattle.cad_declarations.specs.Views.{term_of, argument_of, pair_of}
use Rattle.cad_paths.specs.Letters as spec
use Rattle.cad_paths.specs.Paths.{seq}
use Rattle.cad_moves.specs.Views.{does, item_of, body_of, reading_of}
use Rattle.cad_moves.proofs.Rows.{over_end}
use Rattle.cad_moves.proofs.Turns.{push_step, terms_step, arguments_step, entries_step}
use Rattle.cad_moves.proofs.letters.+letters.Goals as goal

pub terms_letters-loop-term-preserved : goal.terms_letters-loop-term-preserved
terms_letters-loop-term-preserved t c =
    c.in_ok-push_do.ensures _
    ∙ terms_step (reading_of c.args.reading.now) c.args.at c.args.all.now c.loop-term.term-index c.term-item.result (search rules) c.term-item.is (map item_of c.loop-term.items.items) _ _
    c.in_ok-part.ensures c.loop-term.invariant

pub arguments_letters-loop-argument-preserved : goal.arguments_letters-loop-argument-preserved
arguments_letters-loop-argument-preserved t c =
    c.in_ok-push_do.ensures _
    ∙ arguments_step (reading_of c.args.reading.now) c.args.at c.args.all.now c.loop-argument.argument-index c.argument-item.result (search rules) c.argument-item.is (map item_of c.loop-argument.items.items) _ _
    c.in_ok-part.ensures c.loop-argument.invariant

pub entries_letters-loop-entry-preserved : goal.entries_letters-loop-entry-preserved
entries_letters-loop-entry-preserved t c =
    c.in_ok-push_do-2.ensures _ ∙ c.in_ok-push_do.ensures _
    ∙ entries_step (reading_of c.args.reading.now) c.args.at c.args.all.now c.loop-entry.entry-index c.entry-item.result (search rules) c.entry-item.is (map item_of c.loop-entry.items.items) _ _ _
    c.in_ok-key.ensures c.in_ok-value.ensures c.loop-entry.invariant

pub terms_letters-returns : goal.terms_letters-returns
terms_letters-returns t c =
    let n : drop c.loop-term.term-index c.args.all.now ≡ [] = drop_all c.loop-term.term-index c.args.all.now (omega arith) in
    c.block.ensures ∙ over_end c.loop-term.items.items ∙ (rw n at c.loop-term.invariant)

pub arguments_letters-returns : goal.arguments_letters-returns
arguments_letters-returns t c =
    let n : drop c.loop-argument.argument-index c.args.all.now ≡ [] = drop_all c.loop-argument.argument-index c.args.all.now (omega arith) in
    c.block.ensures ∙ over_end c.loop-argument.items.items ∙ (rw n at c.loop-argument.invariant)

pub entries_letters-returns : goal.entries_letters-returns
entries_letters-returns t c =
    let n : drop c.loop-entry.entry-index c.args.all.now ≡ [] = drop_all c.loop-entry.entry-index c.args.all.now (omega arith) in
    c.block.ensures ∙ over_end c.loop-entry.items.items ∙ (rw n at c.loop-entry.invariant)
