use Rattle.std.proofs.Common.{rules, arith, ◌≡◌, ◌∙◌, ap, sym, drop, ◌+◌, ◌∷◌, Some}
use Rattle.std.proofs.lemmas.List.{drop_more}
use Rattle.cad_declarations.specs.Scopes as spec
use Rattle.cad_scopes.specs.Views.{scope_of}
use Rattle.cad_scopes.proofs.Each.{behind, one_more}
use Rattle.cad_scopes.proofs.resolve.each_interface.Goals as goal

pub loop-names-preserved : goal.loop-names-preserved
loop-names-preserved c =
    let f = spec.resolved_interface (scope_of c.args.scope) in
    let split : drop c.loop-names.names-index c.args.all.now ≡ c.names-item.result ∷ drop (c.loop-names.names-index + 1) c.args.all.now =
    drop_more c.args.all.now c.loop-names.names-index c.names-item.result (omega arith) ∙ ap (λ x. x ∷ drop (c.loop-names.names-index + 1) c.args.all.now) (sym c.names-item.is) in
    let some : f c.names-item.result ≡ Some c.in-Some.id = search rules in
    ap (λ ids. behind ids (spec.each_of f (drop (c.loop-names.names-index + 1) c.args.all.now))) c.in_ok-push-in-Some.ensures.items
    ∙ one_more f (drop c.loop-names.names-index c.args.all.now) (drop (c.loop-names.names-index + 1) c.args.all.now) c.names-item.result c.in-Some.id c.loop-names.ids.items (spec.each_of f c.args.all.now) split some c.loop-names.invariant
