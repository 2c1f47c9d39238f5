-- What is in an optional.
use Rattle.cad_evaluation.specs.Changing.{Content, nothing, content, no_optional}
use Rattle.cad_rows.specs.Views.{pure_tree}
use Rattle.cad_assignments.specs.declared.opened.Opened.{Opened}
use Rattle.cad_assignments.specs.declared.opened.Opened.TheVariants as o

abbrev pub content_seen : Opened → Content
content_seen o.Nothing = nothing
content_seen (o.Content t) = content (pure_tree t)
content_seen o.NoOptional = no_optional
