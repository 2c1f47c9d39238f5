use Rattle.std.proofs.Common.{map, rules, ◌∙◌}
use Rattle.std.specs.Prelude.{option_map}
use Rattle.cad_syntax.specs.Types.{pure_type}
use Rattle.cad_declarations.specs.Views.{function_of, tables_of}
use Rattle.cad_environment.specs.Views.{local_of}
use Rattle.cad_heads.specs.Views.{routine_of}
use Rattle.cad_statements.specs.Views.{judged}
use Rattle.cad_routines.proofs.Parts.{along, function_parts, numbered_parts}
use Rattle.cad_routines.proofs.function.type_parts.Goals as goal

pub returns : goal.returns
returns c =
    along c.parts_at.result (judged function_of) _ _ (search rules)
    (numbered_parts (tables_of c.args.known.tables.now) (routine_of c.args.routine.now) (map local_of c.in_ok-locals.locals.items) (pure_type c.in_ok-outcome.outcome) (option_map local_of c.in_ok-result_local.result_local)
    c.in_ok-count.count c.in_ok-behind.behind c.in_ok-result_local.ensures c.in_ok-count.ensures (search rules)
    ∙ function_parts (tables_of c.args.known.tables.now) (routine_of c.args.routine.now) (map local_of c.in_ok-locals.locals.items) (pure_type c.in_ok-outcome.outcome) (search rules) (search rules))
