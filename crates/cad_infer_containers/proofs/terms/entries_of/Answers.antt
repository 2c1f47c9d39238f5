use Rattle.std.proofs.Common.{◌∙◌, map, sym}
use Rattle.std.proofs.lemmas.List.{nil_from_length}
use Rattle.std.specs.Vec.Iter.{into_iter_items}
use Rattle.cad_declarations.specs.Views.{pair_of}
use Rattle.cad_typing.specs.Containers.{pair_term}
use Rattle.cad_infer_containers.specs.Views.{typings_of}
use Rattle.cad_infer_containers.proofs.Rows.{one_more, no_more}
use Rattle.cad_infer_containers.proofs.terms.entries_of.Goals as goal

pub loop-pair-preserved : goal.loop-pair-preserved
loop-pair-preserved c =
    one_more pair_term typings_of (map pair_of c.loop-pair.entries.items) (map pair_of c.push_entry.new.all.items) (pair_of c.entry_of.result)
    (into_iter_items c.loop-pair.left) (into_iter_items c.next.new.self) c.in-Some.pair _ c.in_default-push_entry.ensures c.entry_of.ensures c.in-Some.ensures.items c.loop-pair.invariant

pub returns : goal.returns
returns c =
    no_more pair_term typings_of (map pair_of c.loop-pair.entries.items) (into_iter_items c.loop-pair.left) _
    (nil_from_length (into_iter_items c.loop-pair.left) (sym c.loop-pair.left.rest.ok.0 ∙ c.in_default.ensures.cases.0)) c.loop-pair.invariant
