use Rattle.std.proofs.Common.{◌∙◌, map, ap, sym, drop, arith}
use Rattle.std.proofs.lemmas.List.{nil_from_length}
use Rattle.std.specs.Vec.Iter.{into_iter_items}
use Rattle.cad_values.specs.Values.{pure_field, fields_of}
use Rattle.cad_value_trees.proofs.ValueLaws.{paired, as_field, fields_are, paired_stop, paired_end}
use Rattle.cad_value_trees.proofs.values.named.Goals as goal

pub returns-in-None : goal.returns-in-None
returns-in-None c =
    ap fields_of (paired_stop as_field (drop c.loop-name.name-index c.args.names.now) (into_iter_items c.loop-name.left) (map pure_field c.loop-name.fields.items) (paired as_field c.args.names.now c.args.values.items)
    (nil_from_length (into_iter_items c.loop-name.left) (sym c.loop-name.left.rest.ok.0 ∙ c.in-None.ensures.cases.0)) c.loop-name.invariant)
    ∙ fields_are c.args.names.now c.args.values.items

pub returns : goal.returns
returns c =
    ap fields_of (paired_end as_field c.args.names.now c.loop-name.name-index (into_iter_items c.loop-name.left) (map pure_field c.loop-name.fields.items) (paired as_field c.args.names.now c.args.values.items) (omega arith) c.loop-name.invariant)
    ∙ fields_are c.args.names.now c.args.values.items
