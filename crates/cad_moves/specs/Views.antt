-- The body that a value of the program is, and what the answers are.
use Rattle.std.specs.Prelude.{ℕ, List, [], ◌∷◌, Option, Some, None, option_map}
use Rattle.cad_syntax.specs.declared.text.Name.{Name}
use Rattle.cad_paths.specs.declared.letter.Way.TheVariants.{Next}
use Rattle.cad_paths.specs.declared.letter.Position.{Position}
use Rattle.cad_paths.specs.Paths.{PathVariable, PathBody, leave, spell, seq, either, loop, catch, scope}
use Rattle.cad_paths.specs.Linear.{Offence}
use Rattle.cad_paths.specs.Letters as letters
use Rattle.cad_moves.specs.declared.body.Body.{Body, Body-F, fold-Body}
use Rattle.cad_moves.specs.declared.body.Item.{Item, Item-F, fold-Item}
use Rattle.cad_moves.specs.declared.reading.Reading.{Reading}
use Rattle.cad_moves.specs.declared.reading.Reading.TheVariants as reading
use Rattle.cad_moves.specs.declared.misuse.Misuse.{Misuse}

-- a part of a block
pub data PathItem : Type 0 where
  declares : PathVariable → Position → PathItem
  does : PathBody → PathItem
  or_else : PathBody → PathItem
  last : PathBody → PathItem

abbrev pub placed : PathItem → PathBody → PathBody
placed (declares v s) rest = scope v s rest
placed (does a) rest = seq a rest
placed (or_else a) rest = either a rest
placed (last a) rest = a

-- a row of parts
abbrev pub row_of : List PathItem → PathBody
row_of [] = leave Next
row_of (i ∷ items) = placed i (row_of items)

abbrev pub named : ℕ → Name → PathVariable
named v name = record { number = v; name = name }

abbrev pub body_step : Body-F PathBody PathItem → PathBody
body_step (Body-F.Leave x) = leave x
body_step (Body-F.Spell v l s) = spell v l s
body_step (Body-F.Loop a) = loop a.value
body_step (Body-F.Catch c a) = catch c a.value
body_step (Body-F.Block items) = row_of items.items

abbrev pub item_step : Item-F PathBody PathItem → PathItem
item_step (Item-F.Declare v name s) = declares (named v name) s
item_step (Item-F.Do a) = does a
item_step (Item-F.Or a) = or_else a
item_step (Item-F.Last a) = last a

abbrev pub body_of : Body → PathBody
body_of = fold-Body PathBody PathItem body_step item_step

abbrev pub item_of : Item → PathItem
item_of = fold-Item PathBody PathItem body_step item_step

abbrev pub reading_of : Reading → letters.Reading
reading_of reading.Resources = letters.resources
reading_of (reading.FieldsOfSelf fs) = letters.fields_of_self fs.items
reading_of (reading.FieldsOfTransaction fs) = letters.fields_of_transaction fs.items

abbrev pub offence_of : Misuse → Offence
offence_of x = record { at = x.at; kind = x.kind; variable = named x.number x.variable }
