-- What is known of a World is as it is there.
use Rattle.std.proofs.Common.{◌≡◌, ◌<◌, ◌+◌, ◌^◌, ℕ, zero, suc, Bool, true, false, cond, List, [], ◌∷◌, map, length, drop, Some, None, Result, Ok, Err, refl, sym, ap, ◌∙◌, arith}
use Rattle.std.specs.Prelude.{◌==◌, IfOk}
use Rattle.std.specs.declared.alloc.Global.{Global}
use Rattle.std.specs.declared.vec.Vec.{Vec}
use Rattle.cad_accounts.specs.Memory.{rows_in_blocks}
use Rattle.cad_accounts.specs.Registers.{at, are_rising}
use Rattle.cad_accounts.specs.declared.block.Block.{Block}
use Rattle.cad_accounts.specs.declared.row.Row.{Row}
use Rattle.cad_state.specs.Parts.{accounts_from, among, known_in, known_or}
use Rattle.cad_state.specs.Views.{account_of, contract_of}
use Rattle.cad_state.specs.declared.state.Contract.{Contract}
use Rattle.cad_state.specs.declared.state.Known.{Known}
use Rattle.cad_world.specs.Labels.{account_at}
use Rattle.cad_world.specs.State.{Account, World}
use Rattle.cad_worlds.proofs.Lists.{none_past}
use Rattle.cad_worlds.proofs.ToldKeys.{are_told}
use Rattle.cad_worlds.specs.Code.Passing.{LeavesOut}
use Rattle.cad_worlds.specs.Items.{draft_of}
use Rattle.cad_worlds.specs.Standing.{IsSound, StandsFor, register_of}
use Rattle.cad_worlds.specs.declared.part.WorldPart.{WorldPart}
use Rattle.cad_world_reading.specs.Wanted.{IsPartOf}
use Rattle.cad_world_registers.proofs.PartMade.{part_follows}
use Rattle.cad_world_registers.proofs.PartPassed.{take_left}
use Rattle.cad_world_registers.specs.Code.PartDrafts.{Follows, empty_part, known_at, known_of, part_of, take_all}
use Rattle.cad_world_registers.specs.Wanted.{is_wanted, wanted_account}
use Rattle.cad_world_registers.specs.declared.part_draft.PartDraft.{PartDraft}

known_is : (known : List Known) (i : ℕ) → known_in known i ≡ known_at (map known_of known) i
known_is [] i = refl
known_is (k ∷ known) i = ap (cond (k.index == i) (Some (account_of k.account))) (known_is known i)

there : (all : List Account) (i : ℕ) → i < length all → account_at all (suc i) ≡ Some (among all i)
there [] i inside = absurd (omega (arith, inside))
there (a ∷ all) zero inside = refl
there (a ∷ all) (suc i) inside = there all i (omega (arith, inside))

from_there : (all : List Account) (i : ℕ) → i < length all → drop i all ≡ among all i ∷ drop (suc i) all
from_there [] i inside = absurd (omega (arith, inside))
from_there (a ∷ all) zero inside = refl
from_there (a ∷ all) (suc i) inside = from_there all i (omega (arith, inside))

known_or_not : (a : Account) (b : Bool) → known_or a (cond b (Some a) None) ≡ a
known_or_not a true = refl
known_or_not a false = refl

module _ (wanted : List ℕ) (base : List Account) (known : List Known) (are : (i : ℕ) → known_in known i ≡ wanted_account wanted base i) where
  one_again : (i : ℕ) → i < length base → known_or (among base i) (known_in known i) ≡ among base i
  one_again i inside =
      ap (known_or (among base i)) (are i ∙ ap (λ o. cond (is_wanted wanted i) o None) (there base i inside)) ∙ known_or_not (among base i) (is_wanted wanted i)

  accounts_again : (i n : ℕ) → i + n ≡ length base → accounts_from base known i n ≡ drop i base
  accounts_again i zero e = sym (none_past base i (omega (arith, e)))
  accounts_again i (suc n) e =
      let inside : i < length base = omega (arith, e) in
      (λ j. one_again i inside j ∷ accounts_again (suc i) n (omega (arith, e)) j) ∙ sym (from_there base i inside)

  pub all_again : (count : ℕ) → count ≡ length base → accounts_from base known 0 count ≡ base
  all_again count e = accounts_again 0 count (omega (arith, e))

abbrev part_with : PartDraft → Vec Contract Global → WorldPart
part_with draft contracts = record { count = draft.count; known = draft.known; contracts = contracts; next_identity = draft.next_identity }

pub part_is : (wanted : List ℕ) (w : World) (draft : PartDraft) (contracts : Vec Contract Global) → Follows wanted (length w.accounts) (draft_of w) (part_of draft) → map contract_of contracts.items ≡ w.contracts → IsPartOf wanted w (part_with draft contracts)
part_is wanted w draft contracts f are =
    let known : (i : ℕ) → known_in draft.known.items i ≡ wanted_account wanted w.accounts i = λ i. known_is draft.known.items i ∙ f.known_are i in
    let accounts = all_again wanted w.accounts draft.known.items known draft.count f.count_is in
    record { known = known; is = λ j. record { accounts = accounts j; contracts = are j; next_identity = f.identity_is j } }

-- of blocks of rows that stand for a World
pub part_known : {E : Type 0} (blocks : List Block) (wanted : List ℕ) (rows_found : List Row) (draft : PartDraft) (r : Result WorldPart E) → are_rising (rows_in_blocks blocks) ≡ true
    → LeavesOut wanted rows_found (rows_in_blocks blocks) → take_all wanted (map register_of rows_found) empty_part ≡ Some (part_of draft)
    → ((is : List ℕ) (w : World) → Follows is (length w.accounts) (draft_of w) (part_of draft) → IsSound w → IfOk r (λ part. IsPartOf is w part)) → IfOk r (λ part. (w : World) → StandsFor (at (rows_in_blocks blocks)) w → IsPartOf wanted w part)
part_known blocks wanted rows_found draft (Ok part) a leaves is found = λ w st.
    let rows = rows_in_blocks blocks in
    let fits : length w.accounts < 2 ^ 64 = omega (arith, st.sound.0.few) in
    let all = sym (take_left wanted rows_found rows empty_part leaves (are_told rows w fits st.are) a) ∙ is in
    found wanted w (part_follows rows wanted w (part_of draft) a st all) st.sound
part_known blocks wanted rows_found draft (Err e) a leaves is found = tt
