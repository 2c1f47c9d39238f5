-- Forms that can be called, and forms that stand somewhere: nothing of any other form.
use Rattle.std.specs.Prelude.{Option, Some, None}
use Rattle.cad_grammar.specs.Trees as s
use Rattle.cad_typing.specs.Calls.{Call}
use Rattle.cad_typing.specs.Environments.{Environment}
use Rattle.cad_typing.specs.Receivers.{Base}
use Rattle.cad_infer_parts.specs.Code.Steps.{callee, place}

unfoldable pub callee_form : Environment → s.Annotations → s.ExprTree → Option (Option Call)
callee_form env types (s.name n) = Some (callee env types (s.name n))
callee_form env types (s.member a n) = Some (callee env types (s.member a n))
callee_form env types (s.optional_member a n) = Some (callee env types (s.optional_member a n))
callee_form env types _ = None

unfoldable pub place_form : Environment → s.ExprTree → Option (Option Base)
place_form env (s.name n) = Some (place env (s.name n))
place_form env s.self = Some (place env s.self)
place_form env (s.member a n) = Some (place env (s.member a n))
place_form env (s.index a b) = Some (place env (s.index a b))
place_form env (s.force a) = Some (place env (s.force a))
place_form env (s.optional_member a n) = Some (place env (s.optional_member a n))
place_form env _ = None
