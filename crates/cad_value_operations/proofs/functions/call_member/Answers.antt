use Rattle.cad_evaluation.specs.Arguments.{with_argument}
use Rattle.cad_evaluation.specs.Numbers.{converted}
use Rattle.cad_evaluation.specs.Texts.{number_read, text_encoded, text_from_bytes}
use Rattle.cad_outcomes.proofs.Steps.{gives_here}
use Rattle.cad_outcomes.specs.Outcomes.{Does}
use Rattle.cad_rows.specs.Views.{pure_row, pure_tree}
use Rattle.cad_state.specs.Views.{state_over}
use Rattle.cad_syntax.specs.Types.{pure_type}
use Rattle.cad_value_operations.specs.Code.Members.{call_member}
use Rattle.cad_value_operations.specs.declared.groups.Called.{Called}
use Rattle.std.proofs.Common.{ap, map, subst, sym, ◌∙◌}
use Rattle.cad_value_operations.proofs.functions.call_member.Goals as goal

pub returns-in-Encoded : goal.returns-in-Encoded
returns-in-Encoded c = λ w.
    let s = (state_over w c.args.state.now) in
    subst (λ (k : Called). Does pure_tree (call_member k (map (λ t. pure_type t) c.args.types.now) (pure_row c.args.row.now)) s s c.encoded.result) (sym c.in-Encoded.is) (gives_here pure_tree (with_argument (pure_row c.args.row.now) text_encoded) c.encoded.result s c.encoded.ensures)

pub returns-in-Read : goal.returns-in-Read
returns-in-Read c = λ w.
    let s = (state_over w c.args.state.now) in
    subst (λ (k : Called). Does pure_tree (call_member k (map (λ t. pure_type t) c.args.types.now) (pure_row c.args.row.now)) s s c.read.result) (sym c.in-Read.is) (gives_here pure_tree (with_argument (pure_row c.args.row.now) text_from_bytes) c.read.result s c.read.ensures)

pub returns-in-Converted : goal.returns-in-Converted
returns-in-Converted c = λ w.
    let s = (state_over w c.args.state.now) in
    subst (λ (k : Called). Does pure_tree (call_member k (map (λ t. pure_type t) c.args.types.now) (pure_row c.args.row.now)) s s c.conversion.result) (sym c.in-Converted.is) (gives_here pure_tree (with_argument (pure_row c.args.row.now) (converted c.in-Converted.kind)) c.conversion.result s c.conversion.ensures)

pub returns-in-Parsed : goal.returns-in-Parsed
returns-in-Parsed c = λ w.
    let s = (state_over w c.args.state.now) in
    subst (λ (k : Called). Does pure_tree (call_member k (map (λ t. pure_type t) c.args.types.now) (pure_row c.args.row.now)) s s c.parsed.result) (sym c.in-Parsed.is) (gives_here pure_tree (with_argument (pure_row c.args.row.now) (number_read c.in-Parsed.kind)) c.parsed.result s c.parsed.ensures)

pub returns-in-Least : goal.returns-in-Least
returns-in-Least c = λ w. ap (λ (k : Called). call_member k (map (λ t. pure_type t) c.args.types.now) (pure_row c.args.row.now) (state_over w c.args.state.now)) c.in-Least.is ∙ c.least.ensures (state_over w c.args.state.now)

pub returns-in-Greatest : goal.returns-in-Greatest
returns-in-Greatest c = λ w. ap (λ (k : Called). call_member k (map (λ t. pure_type t) c.args.types.now) (pure_row c.args.row.now) (state_over w c.args.state.now)) c.in-Greatest.is ∙ c.greatest.ensures (state_over w c.args.state.now)

pub returns-in-Case : goal.returns-in-Case
returns-in-Case c = λ w. subst (λ (k : Called). Does pure_tree (call_member k (map (λ t. pure_type t) c.args.types.now) (pure_row c.args.row.now)) (state_over w c.args.state.now) (state_over w c.args.state.now) c.enum_case.result) (sym c.in-Case.is) (c.enum_case.ensures w)
