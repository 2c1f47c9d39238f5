use Rattle.std.proofs.Common.{rules, ◌≡◌, ◌+◌, refl, ap, drop, map, reverse}
use Rattle.std.specs.Prelude.{option_map}
use Rattle.cad_declarations.specs.Build.{first_stop, name_points, import_points, with_names}
use Rattle.cad_contracts.specs.Views.{entry_of, own_of}
use Rattle.cad_tables.specs.Code.Beside.{no_scope}
use Rattle.cad_stop_points.proofs.Turns.{stops_here, goes_past}
use Rattle.cad_tables.proofs.import_points.linked_stop.Goals as goal

pub returns-in-Some : goal.returns-in-Some
returns-in-Some c =
    stops_here no_scope (λ is. import_points (map entry_of c.args.contracts.now) (option_map own_of c.args.own.now) (reverse c.loop-import.before) is)
    c.args.imports.now c.loop-import.import-index c.import-item.result
    (name_points (map entry_of c.args.contracts.now) (option_map own_of c.args.own.now) (reverse c.loop-import.before) c.import-item.result.address c.import-item.result.names)
    (import_points (map entry_of c.args.contracts.now) (option_map own_of c.args.own.now) (with_names c.import-item.result.names (reverse c.loop-import.before)) (drop (c.loop-import.import-index + 1) c.args.imports.now))
    c.in_ok-stop.field-0 _ c.in-Some.stop (search rules) c.import-item.is refl (search rules) c.in-Some.is c.loop-import.invariant

pub loop-import-preserved : goal.loop-import-preserved
loop-import-preserved c =
    let more : reverse c.push_names.new.before ≡ with_names c.import-item.result.names (reverse c.loop-import.before) = search rules in
    goes_past no_scope (λ is. import_points (map entry_of c.args.contracts.now) (option_map own_of c.args.own.now) (reverse c.loop-import.before) is)
    c.args.imports.now c.loop-import.import-index c.import-item.result
    (name_points (map entry_of c.args.contracts.now) (option_map own_of c.args.own.now) (reverse c.loop-import.before) c.import-item.result.address c.import-item.result.names)
    (import_points (map entry_of c.args.contracts.now) (option_map own_of c.args.own.now) (with_names c.import-item.result.names (reverse c.loop-import.before)) (drop (c.loop-import.import-index + 1) c.args.imports.now))
    (import_points (map entry_of c.args.contracts.now) (option_map own_of c.args.own.now) (reverse c.push_names.new.before) (drop (c.loop-import.import-index + 1) c.args.imports.now))
    c.in_ok-stop.field-0 _ (search rules) c.import-item.is refl
    (ap (λ names. import_points (map entry_of c.args.contracts.now) (option_map own_of c.args.own.now) names (drop (c.loop-import.import-index + 1) c.args.imports.now)) more)
    (search rules) c.in_default.is c.loop-import.invariant
