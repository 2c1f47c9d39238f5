use Rattle.std.proofs.Common.{sym, ap, ◌∙◌}
use Rattle.cad_declarations.specs.Members.{type_in}
use Rattle.cad_declarations.specs.Views.{tables_of}
use Rattle.cad_declarations.specs.declared.program.Checked.{Checked}
use Rattle.cad_state.specs.Views.{contract_of}
use Rattle.cad_access.proofs.Found.{own_here, own_nowhere}
use Rattle.cad_access.proofs.declared.own_entry.Goals as goal

pub returns-then-is_within : goal.returns-then-is_within
returns-then-is_within c =
    c.find.ensures
    ∙ ap (λ (x : Checked). type_in (tables_of x.tables).types c.args.id.now) c.deref.ensures
    ∙ sym (own_here (contract_of c.args.contract.now) c.args.id.now (sym c.is_within.ensures ∙ c.if-is_within.true))

pub returns-else-is_within : goal.returns-else-is_within
returns-else-is_within c = sym (own_nowhere (contract_of c.args.contract.now) c.args.id.now (sym c.is_within.ensures ∙ c.if-is_within.false))
