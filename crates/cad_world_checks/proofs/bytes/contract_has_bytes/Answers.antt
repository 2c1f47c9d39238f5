use Rattle.std.proofs.Common.{Bool, IsTrue, sym, ap, subst}
use Rattle.std.specs.Prelude.{◌↔◌}
use Rattle.std.specs.List.{AllByRecursion}
use Rattle.cad_fits.proofs.Each.{not_so, is_so}
use Rattle.cad_codec.specs.Forms.{HasBytes}
use Rattle.cad_rows.specs.Views.{pure_row}
use Rattle.cad_state.specs.Views.{contract_of}
use Rattle.cad_world.specs.Registers.{row_values}
use Rattle.cad_world.specs.Rows.{Row}
use Rattle.cad_worlds.specs.Standing.{AreOneText, ContractHasBytes}
use Rattle.cad_world_checks.proofs.ReadBack.{contract_has}
use Rattle.cad_world_checks.proofs.Soundness.{never, passed}
use Rattle.cad_world_checks.proofs.bytes.contract_has_bytes.Goals as goal

pub returns-then-not-are_one_text : goal.returns-then-not-are_one_text
returns-then-not-are_one_text c =
    never {P = ContractHasBytes (contract_of c.args.contract.now)} (λ has. not_so c.are_one_text.result c.are_one_text.ensures c.if-not-are_one_text.true (subst AreOneText (sym c.as_slice.ensures) has.name))

pub returns : goal.returns
returns c =
    passed (λ (b : Bool). IsTrue b ↔ AllByRecursion HasBytes (row_values (pure_row c.as_slice-places.result.now))) (λ (b : Bool). IsTrue b ↔ ContractHasBytes (contract_of c.args.contract.now)) c.row_has_bytes.result
    (λ b tells. contract_has b (contract_of c.args.contract.now) (subst AreOneText c.as_slice.ensures (is_so c.are_one_text.result c.are_one_text.ensures c.if-not-are_one_text.false))
    (subst (λ (r : Row). IsTrue b ↔ AllByRecursion HasBytes (row_values r)) (ap pure_row c.as_slice-places.ensures.value) tells)) c.row_has_bytes.ensures
