use Rattle.std.proofs.Common.{refl, map}
use Rattle.std.specs.Prelude.{Ok}
use Rattle.cad_evaluation.specs.Arguments.{argument}
use Rattle.cad_evaluation.specs.Containers as spec
use Rattle.cad_operators.proofs.Kept.{with_this}
use Rattle.cad_rows.specs.Views.{pure_row, pure_tree}
use Rattle.cad_syntax.specs.Types.{pure_type}
use Rattle.cad_types.specs.declared.builtin.Builtin.TheVariants as m
use Rattle.cad_values.specs.Values.{pure_value}
use Rattle.cad_containers.proofs.MemberLaws.{dictionary_member}
use Rattle.cad_containers.proofs.dictionaries.read_dictionary.Goals as goal

pub returns-in-DictionaryLength : goal.returns-in-DictionaryLength
returns-in-DictionaryLength c =
    let d = c.args.dictionary in
    dictionary_member c.args.member m.DictionaryLength (pure_row c.args.arguments.now) (pure_type d.key.now) (pure_type d.value.now) (map pure_value d.keys.now) (pure_row d.parts.now) (Ok c.length.result)
    c.in-DictionaryLength.is c.length.ensures

pub returns-in-DictionaryKeys : goal.returns-in-DictionaryKeys
returns-in-DictionaryKeys c =
    let d = c.args.dictionary in
    dictionary_member c.args.member m.DictionaryKeys (pure_row c.args.arguments.now) (pure_type d.key.now) (pure_type d.value.now) (map pure_value d.keys.now) (pure_row d.parts.now) c.keys.result
    c.in-DictionaryKeys.is c.keys.ensures

pub returns-in-DictionaryValues : goal.returns-in-DictionaryValues
returns-in-DictionaryValues c =
    let d = c.args.dictionary in
    dictionary_member c.args.member m.DictionaryValues (pure_row c.args.arguments.now) (pure_type d.key.now) (pure_type d.value.now) (map pure_value d.keys.now) (pure_row d.parts.now) c.array_copy.result
    c.in-DictionaryValues.is c.array_copy.ensures

pub returns-in-Some : goal.returns-in-Some
returns-in-Some c =
    let d = c.args.dictionary in
    dictionary_member c.args.member m.DictionaryContainsKey (pure_row c.args.arguments.now) (pure_type d.key.now) (pure_type d.value.now) (map pure_value d.keys.now) (pure_row d.parts.now) c.contains_key.result
    c.in-DictionaryContainsKey.is
    (with_this pure_tree (spec.contains_key (map pure_value d.keys.now)) (argument 0 (pure_row c.args.arguments.now)) (pure_tree c.in-Some.value.now) _ c.contains_key.result c.in-Some.ensures refl c.contains_key.ensures)
