use Rattle.std.proofs.Common.{◌≡◌, IsTrue, ℕ, List, subst}
use Rattle.std.specs.Prelude.{◌↔◌}
use Rattle.cad_wire.specs.Fields.{number_field}
use Rattle.cad_world.specs.Registers.{next_key}
use Rattle.cad_world_registers.proofs.Same.{other_key, same_key_then}
use Rattle.cad_world_registers.proofs.listing.is_next.Goals as goal

pub returns-then-not-is_next_key : goal.returns-then-not-is_next_key
returns-then-not-is_next_key c =
    other_key c.args.row.now.key.0 c.args.row.now.value (next_key c.args.address) (number_field c.args.number) c.is_next_key.result c.if-not-is_next_key.true
    (subst (λ (key : List ℕ). IsTrue c.is_next_key.result ↔ (key ≡ next_key c.args.address)) c.as_slice.ensures c.is_next_key.ensures)

pub returns : goal.returns
returns c =
    let key = subst (λ (key : List ℕ). IsTrue c.is_next_key.result ↔ (key ≡ next_key c.args.address)) c.as_slice.ensures c.is_next_key.ensures in
    same_key_then c.args.row.now.key.0 c.args.row.now.value (next_key c.args.address) (number_field c.args.number) c.is_number.result (key.0 c.if-not-is_next_key.false)
    (subst (λ (bytes : List ℕ). IsTrue c.is_number.result ↔ (bytes ≡ number_field c.args.number)) c.as_slice-2.ensures c.is_number.ensures)
