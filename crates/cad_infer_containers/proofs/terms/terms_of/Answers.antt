use Rattle.std.proofs.Common.{◌∙◌, map, ap, sym}
use Rattle.std.proofs.lemmas.List.{nil_from_length}
use Rattle.std.specs.Vec.Iter.{into_iter_items}
use Rattle.cad_declarations.specs.Views.{term_of}
use Rattle.cad_typing.specs.Environments.{Typing}
use Rattle.cad_environment.specs.Views.{typing_of}
use Rattle.cad_infer_containers.proofs.Rows.{one_more, no_more}
use Rattle.cad_infer_containers.proofs.terms.terms_of.Goals as goal

pub loop-x-preserved : goal.loop-x-preserved
loop-x-preserved c =
    one_more (λ (x : Typing). x.term) typing_of (map term_of c.loop-x.terms.items) (map term_of c.push_term.new.all.items) (term_of c.into_term.result)
    (into_iter_items c.loop-x.left) (into_iter_items c.next.new.self) c.in-Some.x _ c.in_default-push_term.ensures (ap term_of c.into_term.ensures) c.in-Some.ensures.items c.loop-x.invariant

pub returns : goal.returns
returns c =
    no_more (λ (x : Typing). x.term) typing_of (map term_of c.loop-x.terms.items) (into_iter_items c.loop-x.left) _
    (nil_from_length (into_iter_items c.loop-x.left) (sym c.loop-x.left.rest.ok.0 ∙ c.in_default.ensures.cases.0)) c.loop-x.invariant
