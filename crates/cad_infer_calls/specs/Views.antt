-- Calls, as values of the program are.
use Rattle.std.specs.Prelude.{option_map, map}
use Rattle.cad_syntax.specs.Types.{pure_type}
use Rattle.cad_declarations.specs.Views.{place_of}
use Rattle.cad_typing.specs.Calls as c
use Rattle.cad_environment.specs.Views.{hidden_of}
use Rattle.cad_parameters.specs.Views.{parameter_view, count_view}
use Rattle.cad_infer_calls.specs.declared.call.Method.{Method}
use Rattle.cad_infer_calls.specs.declared.call.Method.TheVariants as method
use Rattle.cad_infer_calls.specs.declared.call.Callee.{Callee}
use Rattle.cad_infer_calls.specs.declared.call.Callee.TheVariants as callee
use Rattle.cad_infer_calls.specs.declared.call.Call.{Call}
use Rattle.cad_infer_calls.specs.declared.call.Invocation.{Invocation}

abbrev pub method_view : Method → c.Method
method_view (method.Declared name is_view is_never) = c.declared_method name is_view is_never
method_view (method.BuiltIn b types) = c.built_in_method b (map pure_type types.items)

abbrev pub callee_view : Callee → c.Callee
callee_view (callee.Function name is_view is_never) = c.of_function name is_view is_never
callee_view (callee.Struct id) = c.of_struct id
callee_view (callee.Resource id) = c.of_resource id
callee_view (callee.Builtin b types) = c.of_builtin b (map pure_type types.items)
callee_view (callee.Type t) = c.of_type (pure_type t)
callee_view (callee.Method place m) = c.of_method (place_of place) (method_view m)
callee_view (callee.Chain place m wraps) = c.of_chain (place_of place) (method_view m) wraps
callee_view (callee.Before n) = c.of_before n

abbrev pub call_view : Call → c.Call
call_view x = record {
  hidden = option_map hidden_of x.hidden;
  callee = callee_view x.callee;
  parameters = map parameter_view x.parameters.items;
  count = count_view x.count;
  result = pure_type x.outcome;
}

abbrev pub invocation_view : Invocation → c.Invocation
invocation_view x = record {
  method = method_view x.method;
  parameters = map parameter_view x.parameters.items;
  count = count_view x.count;
  result = pure_type x.outcome;
}
