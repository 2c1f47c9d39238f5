use Rattle.std.proofs.Common.{Bool, IsTrue, ap, subst, sym, ◌∙◌}
use Rattle.std.specs.Prelude.{◌↔◌}
use Rattle.std.proofs.lemmas.Bool.{false≢true}
use Rattle.cad_declarations.specs.Views.{tables_of}
use Rattle.cad_declarations.specs.declared.program.Checked.{Checked}
use Rattle.cad_fits.proofs.Each.{not_so, is_so}
use Rattle.cad_rows.specs.Views.{pure_row}
use Rattle.cad_shapes.specs.Held.{shapes_of}
use Rattle.cad_state.specs.Views.{contract_of}
use Rattle.cad_world.specs.Rows.{Row}
use Rattle.cad_world.specs.Sound.{IsValueOf}
use Rattle.cad_world_checks.proofs.Soundness.{never, passed}
use Rattle.cad_world_checks.proofs.WholeWorld.{contract_so, program_so, no_program}
use Rattle.cad_world_checks.specs.Checks.{is_id, StandsThere}
use Rattle.cad_world_checks.proofs.contracts.is_sound_contract.Goals as goal

pub returns-then-running : goal.returns-then-running
returns-then-running c =
    never {P = StandsThere (shapes_of c.args.shapes.now) c.args.count (contract_of c.args.contract.now)} (λ s. false≢true (sym s.stands ∙ c.if-running.true))

pub returns-then-not-is_contract_id : goal.returns-then-not-is_contract_id
returns-then-not-is_contract_id c =
    never {P = StandsThere (shapes_of c.args.shapes.now) c.args.count (contract_of c.args.contract.now)} (λ s. not_so c.is_contract_id.result c.is_contract_id.ensures c.if-not-is_contract_id.true s.id)

pub returns-then-not-is_program_of : goal.returns-then-not-is_program_of
returns-then-not-is_program_of c =
    never {P = StandsThere (shapes_of c.args.shapes.now) c.args.count (contract_of c.args.contract.now)} (λ s. no_program c.is_program_of.result (contract_of c.args.contract.now).program.tables.contract c.args.contract.now.id (c.is_program_of.ensures ∙ ap (λ (x : Checked). is_id (tables_of x.tables).contract c.args.contract.now.id) c.deref.ensures) c.if-not-is_program_of.true s.is_contract)

pub returns : goal.returns
returns c =
    let k = shapes_of c.args.shapes.now in
    let it = contract_of c.args.contract.now in
    passed (λ (b : Bool). IsTrue b ↔ IsValueOf k it.id (pure_row c.as_slice-places.result.now)) (λ (b : Bool). IsTrue b ↔ StandsThere k c.args.count it) c.is_value_of.result
    (λ b tells. contract_so b k c.args.count it c.if-running.false (is_so c.is_contract_id.result c.is_contract_id.ensures c.if-not-is_contract_id.false) (program_so c.is_program_of.result it.program.tables.contract it.id (c.is_program_of.ensures ∙ ap (λ (x : Checked). is_id (tables_of x.tables).contract it.id) c.deref.ensures) c.if-not-is_program_of.false)
    (subst (λ (r : Row). IsTrue b ↔ IsValueOf k it.id r) (ap pure_row c.as_slice-places.ensures.value) tells)) c.is_value_of.ensures
