-- What a line asks to be judged.
use Rattle.std.specs.Prelude.{ℕ, Bool, ◌||◌, ◌==◌, List, [], codes, Option, Some, None, option_map, option_and_then, Result, Ok, Err, if◌then◌else◌}
use Rattle.std.specs.Cmp.Lexicographic.{pointwise}
use Rattle.serde_json.specs.Data.{Data, Items, no_items, item}
use Rattle.serde_json.specs.Find.{get, as_array}
use Rattle.cad_syntax.specs.Addresses.{address_of}
use Rattle.cad_declarations.specs.Scopes.{option_cons}
use Rattle.cad_request.specs.Fields.{text_at}

-- a contract: the account in which it stands, its name, and its code
pub record Contract : Type 0 where
  pub address : ℕ
  pub name : List ℕ
  pub code : List ℕ

-- what is judged: the code of a script or transaction, which stands nowhere, or a contract
pub data Subject : Type 0 where
  program : List ℕ → Subject
  contract : Contract → Subject

-- the contracts that are judged first, one after another, and what is judged beside them
pub record Asked : Type 0 where
  pub contracts : List Contract
  pub subject : Subject

-- ---- contracts

abbrev pub with_code : ℕ → List ℕ → List ℕ → Contract
with_code address name code = record { address = address; name = name; code = code }

abbrev pub address_at : Data → Option ℕ
address_at d = option_and_then address_of (text_at (codes "address") d)

-- the contract of an object with an address and two texts
abbrev pub contract_in : Data → Option Contract
contract_in d = option_and_then (λ address. option_and_then (λ name. option_map (with_code address name) (text_at (codes "code") d)) (text_at (codes "name") d)) (address_at d)

-- all of a list's, where each is a contract
abbrev pub each_contract : Items → Option (List Contract)
each_contract no_items = Some []
each_contract (item d ds) = option_cons (contract_in d) (each_contract ds)

-- the contracts of a list; none where there is no list
abbrev pub contracts_in : Option Data → Option (List Contract)
contracts_in None = Some []
contracts_in (Some d) = option_and_then each_contract (as_array d)

-- ---- kinds

abbrev pub is_kind : List ℕ → List ℕ → Bool
is_kind text kind = pointwise ◌==◌ kind text

-- 22 where a field isn't there
abbrev pub needed : {A : Type 0} → Option A → Result A ℕ
needed None = Err 22
needed (Some x) = Ok x

-- 23 where the kind is none of three
abbrev pub subject_of_kind : List ℕ → Data → Result Subject ℕ
subject_of_kind kind d = if is_kind (codes "contract") kind then needed (option_map contract (contract_in d))
    else if is_kind (codes "script") kind || is_kind (codes "transaction") kind then needed (option_map program (text_at (codes "code") d))
    else Err 23

abbrev pub subject_by : Option (List ℕ) → Data → Result Subject ℕ
subject_by None d = Err 22
subject_by (Some kind) d = subject_of_kind kind d

abbrev pub subject_in : Data → Result Subject ℕ
subject_in d = subject_by (text_at (codes "kind") d) d

abbrev pub beside : Option (List Contract) → Subject → Result Asked ℕ
beside None subject = Err 22
beside (Some contracts) subject = Ok (record { contracts = contracts; subject = subject })

abbrev pub asked_with : Option (List Contract) → Result Subject ℕ → Result Asked ℕ
asked_with contracts (Err n) = Err n
asked_with contracts (Ok subject) = beside contracts subject

-- what is asked, or the number of the fault: 22 where the kind is missing, 23, and 22 where another field is missing or of
-- another form
abbrev pub asked : Data → Result Asked ℕ
asked d = asked_with (contracts_in (get (codes "contracts") d)) (subject_in d)
