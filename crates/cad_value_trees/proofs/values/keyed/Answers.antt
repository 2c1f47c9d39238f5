use Rattle.std.proofs.Common.{◌∙◌, map, ap, sym, drop, arith}
use Rattle.std.proofs.lemmas.List.{nil_from_length}
use Rattle.std.specs.Vec.Iter.{into_iter_items}
use Rattle.cad_values.specs.Values.{pure_entry, entries_of}
use Rattle.cad_value_trees.proofs.ValueLaws.{paired, as_entry, entries_are, paired_stop, paired_end}
use Rattle.cad_value_trees.proofs.values.keyed.Goals as goal

pub returns-in-None : goal.returns-in-None
returns-in-None c =
    ap entries_of (paired_stop as_entry (drop c.loop-key.key-index c.args.keys.now) (into_iter_items c.loop-key.left) (map pure_entry c.loop-key.entries.items) (paired as_entry c.args.keys.now c.args.values.items)
    (nil_from_length (into_iter_items c.loop-key.left) (sym c.loop-key.left.rest.ok.0 ∙ c.in-None.ensures.cases.0)) c.loop-key.invariant)
    ∙ entries_are c.args.keys.now c.args.values.items

pub returns : goal.returns
returns c =
    ap entries_of (paired_end as_entry c.args.keys.now c.loop-key.key-index (into_iter_items c.loop-key.left) (map pure_entry c.loop-key.entries.items) (paired as_entry c.args.keys.now c.args.values.items) (omega arith) c.loop-key.invariant)
    ∙ entries_are c.args.keys.now c.args.values.items
