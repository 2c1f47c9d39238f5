use Rattle.std.specs.Prelude.{IfOk, option_map}
use Rattle.std.proofs.Common.{◌≡◌, ap, sym, subst}
use Rattle.cad_declarations.specs.Tables.{MemberForm}
use Rattle.cad_declarations.specs.Views.{form_of, member_of}
use Rattle.cad_declarations.specs.declared.member.MemberKind.{MemberKind}
use Rattle.cad_typing.specs.Calls as spec
use Rattle.cad_environment.specs.Views.{environment_of, receiver_of}
use Rattle.cad_infer_calls.specs.Views.{invocation_view}
use Rattle.cad_infer_calls.proofs.methods.invoke_form.Goals as goal

pub returns-in-Function : goal.returns-in-Function
returns-in-Function c =
    subst (λ (kind : MemberKind). IfOk c.invoke_function.result (λ i. option_map invocation_view i ≡ spec.invoke_form (environment_of c.args.env) (receiver_of c.args.r.now) (member_of c.args.x.now) (form_of kind)))
    (sym c.in-Function.is) c.invoke_function.ensures
