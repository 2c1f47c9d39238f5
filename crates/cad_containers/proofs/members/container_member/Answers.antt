use Rattle.cad_evaluation.specs.Builtins.{plain_member, on_dictionary_at, on_array_at, on_array, on_dictionary}
use Rattle.cad_evaluation.specs.Arguments.{with_argument}
use Rattle.cad_evaluation.specs.Containers.{array_concat}
use Rattle.cad_receivers.specs.Views.{settled_of}
use Rattle.cad_rows.specs.Views.{pure_row}
use Rattle.cad_containers.specs.Code.Members.{array_change, dictionary_change, array_read, dictionary_read}
use Rattle.cad_containers.proofs.Spots.{spot_same}
use Rattle.cad_containers.proofs.members.container_member.Goals as goal

pub returns-in-ArrayRead : goal.returns-in-ArrayRead
returns-in-ArrayRead c =
    let r = pure_row c.args.arguments.items in
    spot_same (settled_of c.args.receiver) (λ spot. plain_member c.args.member spot r) (λ spot. on_array spot (array_read c.args.member r)) c.args.state.now c.args.state.now c.read_in_array.result
    (λ spot. c.in-ArrayRead.ensures spot r) c.read_in_array.ensures

pub returns-in-DictionaryRead : goal.returns-in-DictionaryRead
returns-in-DictionaryRead c =
    let r = pure_row c.args.arguments.items in
    spot_same (settled_of c.args.receiver) (λ spot. plain_member c.args.member spot r) (λ spot. on_dictionary spot (dictionary_read c.args.member r)) c.args.state.now c.args.state.now c.read_in_dictionary.result
    (λ spot. c.in-DictionaryRead.ensures spot r) c.read_in_dictionary.ensures

pub returns-in-ArrayChange : goal.returns-in-ArrayChange
returns-in-ArrayChange c =
    let r = pure_row c.args.arguments.items in
    spot_same (settled_of c.args.receiver) (λ spot. plain_member c.args.member spot r) (λ spot. on_array_at spot (array_change c.args.member r)) c.args.state.now c.change_array.new.state c.change_array.result
    (λ spot. c.in-ArrayChange.ensures spot r) c.change_array.ensures

pub returns-in-DictionaryChange : goal.returns-in-DictionaryChange
returns-in-DictionaryChange c =
    let r = pure_row c.args.arguments.items in
    spot_same (settled_of c.args.receiver) (λ spot. plain_member c.args.member spot r) (λ spot. on_dictionary_at spot (dictionary_change c.args.member r)) c.args.state.now c.change_dictionary.new.state c.change_dictionary.result
    (λ spot. c.in-DictionaryChange.ensures spot r) c.change_dictionary.ensures

pub returns-in-ArrayConcat : goal.returns-in-ArrayConcat
returns-in-ArrayConcat c =
    let r = pure_row c.args.arguments.items in
    spot_same (settled_of c.args.receiver) (λ spot. plain_member c.args.member spot r) (λ spot. on_array spot (λ type parts. with_argument r (array_concat type parts))) c.args.state.now c.concat_array.new.state
    c.concat_array.result (λ spot. c.in-ArrayConcat.ensures spot r) c.concat_array.ensures
