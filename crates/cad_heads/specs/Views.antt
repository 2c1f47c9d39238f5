-- The routines that values of the program are.
use Rattle.std.specs.Prelude.{Bool, true, false, option_copied, option_map, map}
use Rattle.cad_grammar.specs.Views.{parameter_of, annotation_of, condition_of, stmt_of}
use Rattle.cad_typing.specs.Environments.{Part, function_body, initializer_body}
use Rattle.cad_typing.specs.Functions as f
use Rattle.cad_heads.specs.declared.routine.Routine.{Routine}

abbrev pub part_by : Bool → Part
part_by true = initializer_body
part_by false = function_body

abbrev pub routine_of : Routine → f.Routine
routine_of x = record {
  inside = x.inside.now;
  within = option_copied x.within;
  part = part_by x.is_initializer;
  is_view = x.is_view;
  parameters = map parameter_of x.parameters.now;
  result = option_map (λ a. annotation_of a.now) x.result;
  pre = map condition_of x.pre.now;
  post = map condition_of x.post.now;
  body = option_map (λ b. map stmt_of b.now) x.body;
}
