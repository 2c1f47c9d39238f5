use Rattle.std.proofs.Common.{sym, ap, ◌∙◌}
use Rattle.cad_declarations.specs.Members.{mapping_in_entries}
use Rattle.cad_declarations.specs.Views.{tables_of}
use Rattle.cad_declarations.specs.declared.program.Checked.{Checked}
use Rattle.cad_state.specs.Views.{contract_of}
use Rattle.cad_access.proofs.Found.{mapping_here, mapping_nowhere}
use Rattle.cad_access.proofs.mappings.own_mapping.Goals as goal

pub returns-in-Some : goal.returns-in-Some
returns-in-Some c =
    c.in-Some.ensures
    ∙ ap (λ (x : Checked). mapping_in_entries (tables_of x.tables).mappings c.args.id.now) c.deref.ensures
    ∙ sym (mapping_here (contract_of c.args.contract.now) c.args.id.now (sym c.is_within.ensures ∙ c.if-is_within.true))

pub returns-in-None : goal.returns-in-None
returns-in-None c =
    c.in-None.ensures
    ∙ ap (λ (x : Checked). mapping_in_entries (tables_of x.tables).mappings c.args.id.now) c.deref.ensures
    ∙ sym (mapping_here (contract_of c.args.contract.now) c.args.id.now (sym c.is_within.ensures ∙ c.if-is_within.true))

pub returns-else-is_within : goal.returns-else-is_within
returns-else-is_within c = sym (mapping_nowhere (contract_of c.args.contract.now) c.args.id.now (sym c.is_within.ensures ∙ c.if-is_within.false))
