use Rattle.std.proofs.Common.{◌≡◌, map, drop}
use Rattle.cad_syntax.specs.Types.{pure_type}
use Rattle.cad_grammar.specs.Trees.{cases_of}
use Rattle.cad_grammar.specs.Views.{expr_of, case_of}
use Rattle.cad_declarations.specs.Views.{term_of}
use Rattle.cad_environment.specs.Views.{environment_of}
use Rattle.cad_typing.specs.StatementForms as spec
use Rattle.cad_statement_forms.specs.Views.{terms_before}
use Rattle.cad_statement_forms.proofs.switches.push_values.Given as goal

abbrev pub invariant-loop-case : goal.invariant-loop-case
invariant-loop-case l =
    terms_before (map term_of l.terms.items) (spec.infer_cases (environment_of l.env) (expr_of l.value) (pure_type l.t) (cases_of (map case_of (drop l.case-index l.cases))))
    ≡ terms_before (map term_of l.initial.terms.items) (spec.infer_cases (environment_of l.env) (expr_of l.value) (pure_type l.t) (cases_of (map case_of l.cases)))
