use Rattle.std.proofs.Common.{◌∙◌, ap, sym, map, arith}
use Rattle.std.specs.Prelude.{option_map}
use Rattle.cad_grammar.specs.Views.{event_parameter_of}
use Rattle.cad_declarations.specs.Views.{argument_of, tables_of}
use Rattle.cad_routines.specs.Code.Parts.{default_of}
use Rattle.cad_routines.proofs.Each.{each_none, each_turn}
use Rattle.cad_routines.proofs.destroyed.push_defaults.Goals as goal

pub returns-in-None : goal.returns-in-None
returns-in-None c =
    each_none event_parameter_of (default_of (tables_of c.args.known.tables.now) c.args.id.now) c.args.parameters.now c.loop-parameter.parameter-index c.parameter-item.result
    (map argument_of c.loop-parameter.all.items) _ (omega arith) c.parameter-item.is (sym c.in_ok-argument.ensures ∙ ap (option_map argument_of) c.in-None.is) c.loop-parameter.invariant

pub loop-parameter-preserved : goal.loop-parameter-preserved
loop-parameter-preserved c =
    each_turn event_parameter_of (default_of (tables_of c.args.known.tables.now) c.args.id.now) c.args.parameters.now c.loop-parameter.parameter-index c.parameter-item.result
    (argument_of c.in-Some.argument) (map argument_of c.loop-parameter.all.items) (map argument_of c.push_argument.new.all.items) _ (omega arith) c.parameter-item.is (sym c.in_ok-argument.ensures ∙ ap (option_map argument_of) c.in-Some.is)
    c.in_ok-push_argument-in-Some.ensures
    c.loop-parameter.invariant
