-- The programs of contracts are joined to their codes and their values, one by one.
use Rattle.std.proofs.Common.{◌≡◌, ℕ, suc, ◌<◌, List, [], ◌∷◌, ◌++◌, map, length, drop, get_or, refl, sym, ap, ◌∙◌, append_assoc, append-nil, arith}
use Rattle.std.specs.declared.alloc.Global.{Global}
use Rattle.std.specs.declared.rc.Rc.{Rc}
use Rattle.std.proofs.lemmas.List.{map-append, length-append, length-map}
use Rattle.cad_declarations.specs.declared.program.Checked.{Checked}
use Rattle.cad_loads.specs.Views.{source_of}
use Rattle.cad_loads.specs.declared.sources.Source.{Source}
use Rattle.cad_loads.specs.Loads as loads
use Rattle.cad_state.specs.Views.{account_of, contract_of}
use Rattle.cad_state.specs.declared.state.Account.{Account}
use Rattle.cad_state.specs.declared.state.Contract.{Contract}
use Rattle.cad_values.specs.declared.value.Value.{Value}
use Rattle.cad_world.specs.Rows.{Row}
use Rattle.cad_world.specs.State as s
use Rattle.cad_worlds.proofs.Lists.{from_item}
use Rattle.cad_worlds.specs.Items.{contracts_from, world_from}
use Rattle.cad_world_reading.specs.Loading.{contract_from, program_in}
use Rattle.cad_world_registers.specs.Meaning.{value_row}

pub contracts_more : (cs : List Contract) (c : Contract) → map contract_of (cs ++ c ∷ []) ≡ map contract_of cs ++ contract_of c ∷ []
contracts_more cs c = map-append contract_of cs (c ∷ [])

-- the contracts of what is left of codes, programs and values
abbrev pub left_from : List Source → List (Rc Checked Global) → List Value → List s.Contract
left_from ss ps vs = contracts_from (map source_of ss) (map program_in ps) (map value_row vs)

pub one_longer : (old new : List Contract) (c : s.Contract) → map contract_of new ≡ map contract_of old ++ c ∷ [] → length new ≡ suc (length old)
one_longer old new c e =
    let more = length-append (map contract_of old) (c ∷ []) in
    omega (arith, more, ap length e, length-map new contract_of, length-map old contract_of)

-- the contract of one code, its program and its value
abbrev pub joined : Source → Rc Checked Global → Value → s.Contract
joined x p v = contract_from (source_of x) (program_in p) (value_row v)

-- one contract more
module _ (ss : List Source) (vs : List Value) (x : Source) (v : Value) (p : Rc Checked Global) (left rest : List (Rc Checked Global)) (all : List s.Contract) where
  step : (i : ℕ) → i < length ss → i < length vs → x ≡ get_or ss i x → v ≡ get_or vs i v → left ≡ p ∷ rest → left_from (drop i ss) left (drop i vs) ≡ joined x p v ∷ left_from (drop (suc i) ss) rest (drop (suc i) vs)
  step i inside within is there split = λ j. left_from (from_item ss i x inside is j) (split j) (from_item vs i v within there j)

  pub joined_turn : (i : ℕ) (old new : List Contract) → i ≡ length old → i < length ss → i < length vs → x ≡ get_or ss i x → v ≡ get_or vs i v → left ≡ p ∷ rest
      → map contract_of old ++ left_from (drop (length old) ss) left (drop (length old) vs) ≡ all → map contract_of new ≡ map contract_of old ++ joined x p v ∷ []
      → map contract_of new ++ left_from (drop (length new) ss) rest (drop (length new) vs) ≡ all
  joined_turn i old new here inside within is there split so_far grown =
      let others = left_from (drop (suc i) ss) rest (drop (suc i) vs) in
      let more : length new ≡ suc i = one_longer old new (joined x p v) grown ∙ ap suc (sym here) in
      (λ j. grown j ++ left_from (drop (more j) ss) rest (drop (more j) vs))
      ∙ append_assoc (map contract_of old) (joined x p v ∷ []) others
      ∙ ap (λ (z : List s.Contract). map contract_of old ++ z) (sym (step i inside within is there split))
      ∙ ap (λ (k : ℕ). map contract_of old ++ left_from (drop k ss) left (drop k vs)) here
      ∙ so_far

none_left : (ss : List loads.Source) (rs : List Row) → contracts_from ss [] rs ≡ []
none_left [] rs = refl
none_left (x ∷ ss) rs = refl

-- no program is left
pub joined_end : (ss : List Source) (left : List (Rc Checked Global)) (vs : List Value) (now all : List s.Contract) → left ≡ [] → now ++ left_from ss left vs ≡ all → now ≡ all
joined_end ss left vs now all none so_far =
    sym (append-nil now)
    ∙ ap (λ (z : List s.Contract). now ++ z) (sym (none_left (map source_of ss) (map value_row vs)) ∙ ap (λ (ps : List (Rc Checked Global)). left_from ss ps vs) (sym none))
    ∙ so_far

-- ---- the World

abbrev world_with : List Account → List Contract → ℕ → s.World
world_with accounts contracts identity = record { accounts = map account_of accounts; contracts = map contract_of contracts; next_identity = identity }

-- of what registers made
pub world_joined : (accounts : List Account) (contracts : List Contract) (ss : List Source) (programs : List (Rc Checked Global)) (vs : List Value) (identity : ℕ) → map contract_of contracts ≡ left_from ss programs vs
    → world_with accounts contracts identity ≡ world_from (record { accounts = map account_of accounts; sources = map source_of ss; values = map value_row vs; next_identity = identity }) (map program_in programs)
world_joined accounts contracts ss programs vs identity e = λ j. record { accounts = map account_of accounts; contracts = e j; next_identity = identity }
