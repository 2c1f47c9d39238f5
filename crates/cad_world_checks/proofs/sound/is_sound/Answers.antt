use Rattle.std.proofs.Common.{Bool, IsTrue, ◌≡◌, ◌++◌, map, length, ap, sym, ◌∙◌, arith}
use Rattle.std.specs.Prelude.{◌↔◌}
use Rattle.std.specs.List.{flat_map}
use Rattle.std.proofs.lemmas.List.{length-map}
use Rattle.cad_fits.proofs.Each.{not_so, is_so}
use Rattle.cad_shapes.specs.Held.{shapes_of}
use Rattle.cad_state.specs.Views.{account_of, contract_of}
use Rattle.cad_worlds.specs.Standing.{IsSoundButCode, world_of}
use Rattle.cad_world_checks.proofs.Numbers.{live_are}
use Rattle.cad_world_checks.proofs.Soundness.{never, passed}
use Rattle.cad_world_checks.proofs.WholeWorld.{contracts_known, accounts_known, own_known, contracts_there, judged, first_there}
use Rattle.cad_world_checks.specs.Identities.{AreOwn, stored_identities, contract_identities}
use Rattle.cad_world_checks.proofs.sound.is_sound.Goals as goal

pub returns-then-not-are_few : goal.returns-then-not-are_few
returns-then-not-are_few c =
    let items = c.args.world.now.accounts.items in
    let same : length (map account_of items) ≡ length c.as_slice-accounts.result.now = length-map items account_of ∙ sym (ap length c.as_slice-accounts.ensures.value) in
    never {P = IsSoundButCode (world_of c.args.world.now)} (λ s. not_so c.are_few.result c.are_few.ensures c.if-not-are_few.true (let few = s.few in omega (arith, same, few)))

pub returns-then-identity-lt1 : goal.returns-then-identity-lt1
returns-then-identity-lt1 c = never {P = IsSoundButCode (world_of c.args.world.now)} (λ s. let one = s.from_one in omega (arith, one))

pub returns-then-not-can_be_next : goal.returns-then-not-can_be_next
returns-then-not-can_be_next c =
    let items = c.args.world.now.accounts.items in
    let same : length (map account_of items) ≡ length c.as_slice-accounts.result.now = length-map items account_of ∙ sym (ap length c.as_slice-accounts.ensures.value) in
    never {P = IsSoundButCode (world_of c.args.world.now)} (λ s. not_so c.can_be_next.result c.can_be_next.ensures c.if-not-can_be_next.true (λ e. first_there (world_of c.args.world.now) s (same ∙ e)))

pub returns-then-not-contracts_sound : goal.returns-then-not-contracts_sound
returns-then-not-contracts_sound c =
    let w = world_of c.args.world.now in
    let items = c.args.world.now.accounts.items in
    let same : length (map account_of items) ≡ length c.as_slice-accounts.result.now = length-map items account_of ∙ sym (ap length c.as_slice-accounts.ensures.value) in
    let tells = contracts_known c.in_ok-contracts_sound.contracts_sound (shapes_of c.args.shapes.now) (length c.as_slice-accounts.result.now) (map contract_of c.as_slice-contracts.result.now) w c.requires (sym same) (ap (map contract_of) c.as_slice-contracts.ensures.value) c.in_ok-contracts_sound.ensures in
    never {P = IsSoundButCode w} (λ s. not_so c.in_ok-contracts_sound.contracts_sound tells c.if-not-contracts_sound.true (contracts_there w s))

pub returns-then-not-accounts_sound : goal.returns-then-not-accounts_sound
returns-then-not-accounts_sound c =
    let w = world_of c.args.world.now in
    let tells = accounts_known c.in_ok-accounts_sound.accounts_sound (shapes_of c.args.shapes.now) (map account_of c.as_slice-accounts.result.now) w c.requires (ap (map account_of) c.as_slice-accounts.ensures.value) c.in_ok-accounts_sound.ensures in
    never {P = IsSoundButCode w} (λ s. not_so c.in_ok-accounts_sound.accounts_sound tells c.if-not-accounts_sound.true s.accounts)

pub returns : goal.returns
returns c =
    let w = world_of c.args.world.now in
    let k = shapes_of c.args.shapes.now in
    let identity = c.args.world.now.next_identity in
    let accounts = c.args.world.now.accounts.items in
    let contracts = c.args.world.now.contracts.items in
    let same : length (map account_of accounts) ≡ length c.as_slice-accounts.result.now = length-map accounts account_of ∙ sym (ap length c.as_slice-accounts.ensures.value) in
    let few = is_so c.are_few.result c.are_few.ensures c.if-not-are_few.false in
    let first = is_so c.can_be_next.result c.can_be_next.ensures c.if-not-can_be_next.false in
    let contracts_tell = contracts_known c.in_ok-contracts_sound.contracts_sound k (length c.as_slice-accounts.result.now) (map contract_of c.as_slice-contracts.result.now) w c.requires (sym same) (ap (map contract_of) c.as_slice-contracts.ensures.value) c.in_ok-contracts_sound.ensures in
    let accounts_tell = accounts_known c.in_ok-accounts_sound.accounts_sound k (map account_of c.as_slice-accounts.result.now) w c.requires (ap (map account_of) c.as_slice-accounts.ensures.value) c.in_ok-accounts_sound.ensures in
    let numbers = flat_map stored_identities c.as_slice-accounts.result.now ++ flat_map contract_identities c.as_slice-contracts.result.now in
    let lives : numbers ≡ flat_map stored_identities accounts ++ flat_map contract_identities contracts = λ i. flat_map stored_identities (c.as_slice-accounts.ensures.value i) ++ flat_map contract_identities (c.as_slice-contracts.ensures.value i) in
    passed (λ (b : Bool). IsTrue b ↔ AreOwn identity numbers) (λ (b : Bool). IsTrue b ↔ IsSoundButCode w) c.are_own.result
    (λ b tells. judged b w
    (record {
      few = omega (arith, same, few);
      from_one = omega arith;
      next = omega arith;
      first = λ e. first (sym same ∙ e);
      contracts = is_so c.in_ok-contracts_sound.contracts_sound contracts_tell c.if-not-contracts_sound.false;
      accounts = is_so c.in_ok-accounts_sound.accounts_sound accounts_tell c.if-not-accounts_sound.false;
    })
    (own_known b identity numbers _ (lives ∙ sym (live_are accounts contracts identity)) tells))
    c.are_own.ensures
