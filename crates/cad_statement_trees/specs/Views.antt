-- What the program's values are to the definitions.
use Rattle.std.specs.Prelude.{option_map, List, map}
use Rattle.std.specs.declared.vec.Vec.{Vec}
use Rattle.std.specs.declared.alloc.Global.{Global}
use Rattle.cad_syntax.specs.Types.{pure_type}
use Rattle.cad_declarations.specs.Typed as e
use Rattle.cad_declarations.specs.Views as trees
use Rattle.cad_declarations.specs.declared.statement.TypedBlock.{TypedBlock}
use Rattle.cad_environment.specs.Views.{local_of}
use Rattle.cad_typing.specs.StatementForms as f
use Rattle.cad_statement_trees.specs.declared.typing.StatementTyping.{StatementTyping}
use Rattle.cad_statement_trees.specs.declared.typing.TestTyping.{TestTyping}
use Rattle.cad_statement_trees.specs.declared.typing.TestTyping.TheVariants as test
use Rattle.cad_statement_trees.specs.declared.typing.ForTyping.{ForTyping}
use Rattle.cad_statement_trees.specs.declared.typing.SwitchTyping.{SwitchTyping}

abbrev pub statement_typing_of : StatementTyping → f.StatementTyping
statement_typing_of x = record { tree = trees.statement_of x.tree; declares = option_map local_of x.declares }

abbrev pub test_typing_of : TestTyping → f.TestTyping
test_typing_of (test.Plain x) = f.plain_test (trees.term_of x)
test_typing_of (test.Content v x) = f.content_test (local_of v) (trees.term_of x.value) (pure_type x.target)
test_typing_of (test.Cast v place t) = f.cast_test (local_of v) (trees.place_of place) (pure_type t)

abbrev pub for_typing_of : ForTyping → f.ForTyping
for_typing_of x = record {
  index = option_map local_of x.index;
  element = local_of x.element;
  array = trees.term_of x.array.value;
  type = pure_type x.array.target;
}

abbrev pub switch_typing_of : SwitchTyping → f.SwitchTyping
switch_typing_of x = record { value = trees.term_of x.value; cases = map trees.term_of x.cases.items }

abbrev pub blocks_in : Vec TypedBlock Global → List e.BlockTree
blocks_in all = map trees.block_of all.items
