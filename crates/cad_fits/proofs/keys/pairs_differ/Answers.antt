use Rattle.std.proofs.Common.{◌+◌, List, drop, map}
use Rattle.cad_values.specs.Keys.{key_form, KeysDiffer}
use Rattle.cad_values.specs.Values.{pure_entry, entries_of, keys}
use Rattle.cad_values.specs.declared.value.DictionaryEntry.{DictionaryEntry}
use Rattle.cad_fits.specs.Keys.{Lacks}
use Rattle.cad_fits.proofs.Each.{next, broken, not_so, is_so}
use Rattle.cad_fits.proofs.keys.pairs_differ.Goals as goal

abbrev Apart : List DictionaryEntry → Type 0
Apart xs = KeysDiffer (keys (entries_of (map pure_entry xs)))

pub returns-then-not-branch : goal.returns-then-not-branch
returns-then-not-branch c =
    let es = c.args.entries.now in
    let i = c.loop-i.i in
    let x = c.index-entries-i.result in
    broken (Lacks (key_form (pure_entry x).key) (keys (entries_of (map pure_entry (drop (i + 1) es))))) Apart (Apart es) es i x c.loop-i-test.true c.index-entries-i.is (λ p. p, λ p. p)
    (not_so c.in_ok-lacks.field-0 c.in_ok-lacks.ensures c.if-not-branch.true) c.loop-i.invariant

pub loop-i-preserved : goal.loop-i-preserved
loop-i-preserved c =
    let es = c.args.entries.now in
    let i = c.loop-i.i in
    let x = c.index-entries-i.result in
    next (Lacks (key_form (pure_entry x).key) (keys (entries_of (map pure_entry (drop (i + 1) es))))) Apart (Apart es) es i x c.loop-i-test.true c.index-entries-i.is (λ p. p, λ p. p)
    (is_so c.in_ok-lacks.field-0 c.in_ok-lacks.ensures c.if-not-branch.false) c.loop-i.invariant
