use Rattle.std.proofs.Common.{rules, arith, ◌≡◌, ◌∙◌, ap, sym, drop, ◌+◌, ◌∷◌, [], reverse}
use Rattle.std.proofs.lemmas.List.{drop_more}
use Rattle.cad_declarations.specs.Build.{with_names, import_names}
use Rattle.cad_stop_points.proofs.Befores.{one_more}
use Rattle.cad_stop_points.proofs.names.import_names.Goals as goal

pub loop-import-preserved : goal.loop-import-preserved
loop-import-preserved c =
    let split : drop c.loop-import.import-index c.args.imports.now ≡ c.import-item.result ∷ drop (c.loop-import.import-index + 1) c.args.imports.now =
    drop_more c.args.imports.now c.loop-import.import-index c.import-item.result (omega arith) ∙ ap (λ x. x ∷ drop (c.loop-import.import-index + 1) c.args.imports.now) (sym c.import-item.is) in
    let more : reverse c.push_names.new.before ≡ with_names c.import-item.result.names (reverse c.loop-import.all) = search rules in
    one_more (drop c.loop-import.import-index c.args.imports.now) (drop (c.loop-import.import-index + 1) c.args.imports.now) c.import-item.result
    (reverse c.loop-import.all) (reverse c.push_names.new.before) (with_names (import_names c.args.imports.now) []) split more c.loop-import.invariant
