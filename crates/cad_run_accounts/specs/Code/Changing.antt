-- What is done to an account.
use Rattle.std.specs.Prelude.{Option, None}
use Rattle.cad_evaluation.specs.Capabilities.{publishing, unpublishing, issuing, change_controller}
use Rattle.cad_evaluation.specs.Storage.{storing, without}
use Rattle.cad_rows.specs.Places.{bare_in}
use Rattle.cad_rows.specs.Views.{pure_tree}
use Rattle.cad_state.specs.Views.{publication_of}
use Rattle.cad_syntax.specs.Types.{pure_type}
use Rattle.cad_world.specs.Labels.{on_stored, stored_in}
use Rattle.cad_world.specs.Rows.{Tree, named}
use Rattle.cad_world.specs.State.{Account}
use Rattle.cad_run_accounts.specs.declared.changes.Change.{Change}
use Rattle.cad_run_accounts.specs.declared.changes.Change.TheVariants as c
use Rattle.cad_run_accounts.specs.Code.Edits.{edited, without_number}

abbrev pub changed_by : Change → Account → Account
changed_by (c.Label name label) a = on_stored (λ i. named i label) name.now a
changed_by (c.Store name t) a = storing name (pure_tree t) a
changed_by (c.Take name) a = without name.now a
changed_by (c.Publish p) a = publishing (publication_of p) a
changed_by (c.Unpublish name) a = unpublishing name.now a
changed_by (c.Issue type target) a = issuing (pure_type type) target a
changed_by (c.Edit n edit) a = record a { controllers = change_controller n (edited edit) a.controllers }
changed_by (c.Remove n) a = record a { controllers = without_number n a.controllers }

-- the value that leaves it
abbrev pub left_by : Change → Option Account → Option Tree
left_by (c.Take name) a = bare_in (stored_in name.now a)
left_by _ a = None
