use Rattle.std.proofs.Common.{◌≡◌, map, drop, reverse, []}
use Rattle.cad_declarations.specs.Points as p
use Rattle.cad_grammar.specs.Views as g
use Rattle.cad_tables.proofs.program_points.fields_are_new.Given as goal

abbrev pub invariant-loop-field : goal.invariant-loop-field
invariant-loop-field l =
    p.are_new (reverse l.before) (map (λ f. f.name) (map g.transaction_field_of (drop l.field-index l.fields))) ≡ p.are_new [] (map (λ f. f.name) (map g.transaction_field_of l.fields))
