-- What stands between the readers of members and the grammar.
use Rattle.std.proofs.Common.{false}
use Rattle.cad_syntax.specs.declared.keyword.Keyword.TheVariants as k
use Rattle.cad_parse_type.proofs.TypeLaws.{TypeLaws}
use Rattle.cad_parse_expr.proofs.ExpressionLaws.{ExpressionLaws}
use Rattle.cad_parse_statement.proofs.StatementLaws.{StatementLaws}
use Rattle.cad_parse.proofs.MemberLaws.{MemberLaws}
use Rattle.cad_parse.proofs.AccessLaws as access_laws
use Rattle.cad_parse.proofs.ParameterLaws as parameter_laws
use Rattle.cad_parse.proofs.ConditionLaws as condition_laws
use Rattle.cad_parse.proofs.FunctionLaws as function_laws
use Rattle.cad_parse.proofs.MemberReads as reads

pub member_laws : (types : TypeLaws) (expressions : ExpressionLaws) (statements : StatementLaws) → MemberLaws
member_laws types expressions statements = record {
  access_sound = access_laws.access_sound types;
  access_exact = λ d. access_laws.access_exact types d;
  access_shorter = λ d. access_laws.access_shorter types d;
  access_word = λ d. access_laws.access_word d;
  parameters_sound = parameter_laws.parameters_sound types;
  parameters_exact = λ d. parameter_laws.parameters_exact types d;
  parameters_shorter = λ d. parameter_laws.parameters_shorter types d;
  pre_sound = condition_laws.behind_sound expressions k.Pre;
  pre_exact = λ d. condition_laws.behind_exact expressions k.Pre d;
  pre_shorter = λ d. condition_laws.behind_short expressions k.Pre d;
  post_sound = condition_laws.behind_sound expressions k.Post;
  post_exact = λ d. condition_laws.behind_exact expressions k.Post d;
  post_shorter = λ d. condition_laws.behind_short expressions k.Post d;
  field_sound = reads.field_sound types;
  field_exact = λ d. reads.field_exact types d;
  field_shorter = λ d. reads.field_shorter types d;
  function_sound = function_laws.function_sound types expressions statements false;
  function_exact = λ d. function_laws.function_exact types expressions statements d;
  function_shorter = λ d. function_laws.function_shorter types expressions statements false d;
  open_event_sound = reads.open_event_sound types expressions;
  destruction_sound = reads.destruction_sound types expressions;
  event_exact = λ d. reads.event_exact types expressions d;
  event_shorter = λ d. reads.event_shorter types expressions d;
  init_sound = function_laws.init_sound types expressions statements;
  init_exact = λ d. function_laws.init_exact types expressions statements d;
  init_shorter = λ d. function_laws.init_shorter types expressions statements d;
  interface_member_sound = reads.interface_member_sound types expressions statements;
  interface_member_exact = λ d. reads.interface_member_exact types expressions statements d;
  interface_member_shorter = λ d. reads.interface_member_shorter types expressions statements d;
}
