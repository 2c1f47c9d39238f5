-- One row of a state is written.
use Rattle.std.proofs.Common.{◌≡◌, ℕ, zero, suc, ◌<◌, ◌≤◌, List, [], ◌∷◌, map, Some, None, refl, sym, ap, subst, ◌∙◌, arith, length, get_or}
use Rattle.std.specs.Prelude.{slice_set, option_map}
use Rattle.cad_nodes.specs.Exchanges.{is_held, IsExchanged}
use Rattle.cad_nodes.specs.declared.edit.OpenNode.{OpenNode}
use Rattle.cad_rows.specs.Exchanges.{exchanged, shape_of, parts_of}
use Rattle.cad_rows.specs.Views.{pure_row, pure_shape}
use Rattle.cad_rows.specs.Ways.{node_at}
use Rattle.cad_rows.specs.declared.tree.Place.{Place}
use Rattle.cad_state.specs.Views.{state_over, account_of, accounts_over, frame_of, contract_of}
use Rattle.cad_state.specs.Ways.{is_there, account_in, row_at, reached, at_index, if_held, in_stored, with_row}
use Rattle.cad_state.specs.declared.hints.Root.{Root}
use Rattle.cad_state.specs.declared.hints.Root.TheVariants as root
use Rattle.cad_state.specs.declared.state.Account.{Account as AccountCode}
use Rattle.cad_state.specs.declared.state.Accounts.{Accounts}
use Rattle.cad_state.specs.declared.state.Call.{Call}
use Rattle.cad_state.specs.declared.state.Contract as c
use Rattle.cad_state.specs.declared.state.RunState.{RunState}
use Rattle.cad_world.specs.State.{Account, Contract, Frame}

pub frames_written : (h : Frame → Frame) (cs : List Call) (i : ℕ) (old new : Call) → i < length cs → old ≡ get_or cs i old → frame_of new ≡ h (frame_of old)
    → map frame_of (slice_set cs i new) ≡ at_index i h (map frame_of cs)
frames_written h [] i old new inside is e = absurd (omega (arith, inside))
frames_written h (d ∷ cs) zero old new inside is e = ap (λ f. f ∷ map frame_of cs) (e ∙ ap (λ y. h (frame_of y)) is)
frames_written h (d ∷ cs) (suc i) old new inside is e = ap (λ fs. frame_of d ∷ fs) (frames_written h cs i old new (omega (arith, inside)) is e)

pub frames_kept : (h : Frame → Frame) (cs : List Call) (i : ℕ) → length cs ≤ i → map frame_of cs ≡ at_index i h (map frame_of cs)
frames_kept h [] i outside = refl
frames_kept h (d ∷ cs) zero outside = absurd (omega (arith, outside))
frames_kept h (d ∷ cs) (suc i) outside = ap (λ fs. frame_of d ∷ fs) (frames_kept h cs i (omega (arith, outside)))

pub stored_written : (h : Account → Account) (cs : List AccountCode) (i : ℕ) (old new : AccountCode) → i < length cs → old ≡ get_or cs i old → account_of new ≡ h (account_of old)
    → map account_of (slice_set cs i new) ≡ at_index i h (map account_of cs)
stored_written h [] i old new inside is e = absurd (omega (arith, inside))
stored_written h (d ∷ cs) zero old new inside is e = ap (λ f. f ∷ map account_of cs) (e ∙ ap (λ y. h (account_of y)) is)
stored_written h (d ∷ cs) (suc i) old new inside is e = ap (λ fs. account_of d ∷ fs) (stored_written h cs i old new (omega (arith, inside)) is e)

pub values_written : (h : Contract → Contract) (cs : List c.Contract) (i : ℕ) (old new : c.Contract) → i < length cs → old ≡ get_or cs i old → contract_of new ≡ h (contract_of old)
    → map contract_of (slice_set cs i new) ≡ at_index i h (map contract_of cs)
values_written h [] i old new inside is e = absurd (omega (arith, inside))
values_written h (d ∷ cs) zero old new inside is e = ap (λ f. f ∷ map contract_of cs) (e ∙ ap (λ y. h (contract_of y)) is)
values_written h (d ∷ cs) (suc i) old new inside is e = ap (λ fs. contract_of d ∷ fs) (values_written h cs i old new (omega (arith, inside)) is e)

pub values_kept : (h : Contract → Contract) (cs : List c.Contract) (i : ℕ) → length cs ≤ i → map contract_of cs ≡ at_index i h (map contract_of cs)
values_kept h [] i outside = refl
values_kept h (d ∷ cs) zero outside = absurd (omega (arith, outside))
values_kept h (d ∷ cs) (suc i) outside = ap (λ fs. contract_of d ∷ fs) (values_kept h cs i (omega (arith, outside)))

-- the row is there
pub swapped : (at_root : Root) (ds : List ℕ) (x y : RunState) (ps : List Place) (a b : OpenNode) → row_at at_root x ≡ Some ps
    → ((w : List Account) → state_over w y ≡ with_row at_root (exchanged ds (pure_shape a.shape) (pure_row a.parts.items)) w x)
    → pure_shape b.shape ≡ shape_of (pure_shape a.shape) (node_at ds (pure_row ps)) → pure_row b.parts.items ≡ parts_of (pure_row a.parts.items) (node_at ds (pure_row ps))
    → is_held at_root y.accounts ≡ is_held at_root x.accounts → IsExchanged at_root ds x y a b
swapped at_root ds x y ps a b there state shape parts held = record {
  state = state;
  shape = shape ∙ ap (λ o. shape_of (pure_shape a.shape) (reached ds o)) (sym there);
  parts = parts ∙ ap (λ o. parts_of (pure_row a.parts.items) (reached ds o)) (sym there);
  held = held;
}

-- it isn't
pub missed : (at_root : Root) (ds : List ℕ) (x : RunState) (a : OpenNode) → row_at at_root x ≡ None
    → ((w : List Account) → state_over w x ≡ with_row at_root (exchanged ds (pure_shape a.shape) (pure_row a.parts.items)) w x) → IsExchanged at_root ds x x a a
missed at_root ds x a nowhere state = record {
  state = state;
  shape = ap (λ o. shape_of (pure_shape a.shape) (reached ds o)) (sym nowhere);
  parts = ap (λ o. parts_of (pure_row a.parts.items) (reached ds o)) (sym nowhere);
  held = refl;
}

-- the same in what an account stores that the run has
pub stored_swapped : (i : ℕ) (ds : List ℕ) (x : RunState) (new : Accounts) (old one : AccountCode) (a b : OpenNode) → account_in x.accounts i ≡ Some old → account_in new i ≡ Some one
    → ((w : List Account) → accounts_over w new ≡ at_index i (in_stored (exchanged ds (pure_shape a.shape) (pure_row a.parts.items))) (accounts_over w x.accounts))
    → pure_shape b.shape ≡ shape_of (pure_shape a.shape) (node_at ds (pure_row old.stored.items)) → pure_row b.parts.items ≡ parts_of (pure_row a.parts.items) (node_at ds (pure_row old.stored.items))
    → IsExchanged (root.Stored i) ds x (record x { accounts = new }) a b
stored_swapped i ds x new old one a b there then written shape parts =
    let g = exchanged ds (pure_shape a.shape) (pure_row a.parts.items) in
    swapped (root.Stored i) ds x (record x { accounts = new }) old.stored.items a b
    (ap (option_map (λ (y : AccountCode). y.stored.items)) there)
    (λ w. ap (λ all. record (state_over w x) { accounts = all }) (written w ∙ ap (λ o. if_held o (at_index i (in_stored g)) (accounts_over w x.accounts)) (sym there)))
    shape parts (ap is_there then ∙ sym (ap is_there there))

pub stored_missed : (i : ℕ) (ds : List ℕ) (x : RunState) (all : Accounts) (a : OpenNode) → x.accounts ≡ all → account_in x.accounts i ≡ None → IsExchanged (root.Stored i) ds x (record x { accounts = all }) a a
stored_missed i ds x all a is nowhere =
    let g = exchanged ds (pure_shape a.shape) (pure_row a.parts.items) in
    subst (λ o. IsExchanged (root.Stored i) ds x (record x { accounts = o }) a a) is
    (missed (root.Stored i) ds x a (ap (option_map (λ (y : AccountCode). y.stored.items)) nowhere)
    (λ w. ap (λ all. record (state_over w x) { accounts = all }) (ap (λ o. if_held o (at_index i (in_stored g)) (accounts_over w x.accounts)) (sym nowhere))))
