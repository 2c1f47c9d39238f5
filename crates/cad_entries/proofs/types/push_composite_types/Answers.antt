use Rattle.std.proofs.Common.{rules, ◌≡◌, map, filter_map}
use Rattle.cad_grammar.specs.Views as tree
use Rattle.cad_declarations.specs.Entries as spec
use Rattle.cad_declarations.specs.Views.{type_entry_of}
use Rattle.cad_scopes.specs.Views.{scope_of}
use Rattle.cad_entries.proofs.Turns.{behind_one}
use Rattle.cad_entries.proofs.types.push_composite_types.Goals as goal

pub returns : goal.returns
returns c =
    behind_one (map type_entry_of c.push_nested_events.new.all.items) (map type_entry_of c.push_composite_type.new.all.items) (map type_entry_of c.args.all.now.items)
    (filter_map (spec.nested_event (scope_of c.args.scope) c.args.links.now c.args.id.now) (tree.composite_of c.args.x.now).members)
    (spec.composite_type (scope_of c.args.scope) c.args.links.now c.args.id.now (tree.composite_of c.args.x.now))
    (search rules) c.in_ok-push_composite_type.ensures
