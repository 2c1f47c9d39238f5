-- Worlds between commands as programs can leave them.
use Rattle.std.specs.Prelude.{◌≡◌, ℕ, suc, ◌-◌, ◌<◌, ◌≤◌, ◌^◌, Bool, true, false, not, List, [], ◌∷◌, length, All, filter, Some, IsUtf8, zero}
use Rattle.cad_syntax.specs.TypeIds.{same_id}
use Rattle.cad_syntax.specs.declared.address.Address.{Address}
use Rattle.cad_syntax.specs.declared.text.Name.{Name}
use Rattle.cad_syntax.specs.declared.type_id.TypeId.{TypeId}
use Rattle.cad_text.specs.Texts.{most_bytes}
use Rattle.cad_values.specs.Fits.{FitsContract}
use Rattle.cad_values.specs.Keys.{Distinct}
use Rattle.cad_values.specs.Shapes.{Shapes, is_type, is_reference_type}
use Rattle.cad_values.specs.Values.{PureValue}
use Rattle.cad_world.specs.Rows.{Row, stop, gap, node, Tree, alone}
use Rattle.cad_world.specs.State.{Publication, Controller, Account, Contract, Program, World}
use Rattle.cad_world.specs.Trees.{value_of}
use Rattle.cad_world.specs.Fits.{FitsItself, Lasts}
use Rattle.cad_world.specs.Fronts.{Front, accepted}
use Rattle.cad_world.specs.Live.{live}
use Rattle.cad_world.specs.Orders.{rises, name_before, publication_before, controller_before, contract_before}
use Rattle.cad_world.specs.Registers.{Coding, map_of}
use Rattle.cad_world.specs.Shapes.{shapes}

-- how many accounts there may be
abbrev pub most_accounts : ℕ
most_accounts = 1000000

-- the greatest number of an identity or a controller that may be next
abbrev pub most_next : ℕ
most_next = 2 ^ 64 - 1

-- ---- accounts

-- a value for each identifier, of its own type
abbrev pub AreStored : Shapes → List Name → Row → Type 0
AreStored k [] stop = Unit {0}
AreStored k (i ∷ is) (node [] n s parts r) =
    IsUtf8 i.0 × FitsItself k (record { optionals = n; shape = s; parts = parts }) × Lasts k (record { optionals = n; shape = s; parts = parts }) × AreStored k is r
AreStored k _ _ = ⊥

-- a capability of the account's own
pub record SoundPublication (k : Shapes) (p : Publication) : Type 0 where
  pub identifier : IsUtf8 p.identifier.0
  pub from_one : 1 ≤ p.number
  pub number : p.number < 2 ^ 64
  pub lent : is_reference_type p.lent ≡ true
  pub type : is_type k p.lent ≡ true

-- its number is below the account's next one
pub record SoundController (k : Shapes) (next : ℕ) (c : Controller) : Type 0 where
  pub from_one : 1 ≤ c.number
  pub number : c.number < next
  pub borrow : is_reference_type c.borrow ≡ true
  pub type : is_type k c.borrow ≡ true
  pub tag : IsUtf8 c.tag
  pub short : length c.tag ≤ most_bytes
  pub target : IsUtf8 c.target.0

pub record SoundAccount (k : Shapes) (a : Account) : Type 0 where
  pub identifiers : rises name_before a.identifiers ≡ true
  pub stored : AreStored k a.identifiers a.stored
  pub published_rise : rises publication_before a.published ≡ true
  pub published : All (SoundPublication k) a.published
  pub controllers_rise : rises controller_before a.controllers ≡ true
  pub controllers : All (SoundController k a.next_controller) a.controllers
  pub from_one : 1 ≤ a.next_controller
  pub next : a.next_controller ≤ most_next

-- ---- contracts

abbrev pub others : TypeId → List Contract → List Contract
others id contracts = filter (λ c. not (same_id c.id id)) contracts

-- the address and the name
abbrev pub HasOneName : List Name → Type 0
HasOneName (n ∷ []) = Unit {0}
HasOneName _ = ⊥

-- the value is of the contract's type
abbrev pub IsValueOf : Shapes → TypeId → Row → Type 0
IsValueOf k id (node [] n s parts stop) =
    FitsContract k (value_of (record { optionals = n; shape = s; parts = parts })) id × Lasts k (record { optionals = n; shape = s; parts = parts })
IsValueOf k id _ = ⊥

-- which program a code at an address is accepted as, beside these contracts
abbrev pub Accepts : Type 1
Accepts = List Contract → Address → List ℕ → Program → Type 0

abbrev pub accepted_by : Front → Accepts
accepted_by front contracts address code p = front contracts address code ≡ accepted p

-- its code is one contract of the name under which it stands, accepted beside the others
pub record SoundContract (accepts : Accepts) (w : World) (c : Contract) : Type 0 where
  pub from_one : 1 ≤ c.id.address.0
  pub there : c.id.address.0 ≤ length w.accounts
  pub name : HasOneName c.id.names
  pub accepted : accepts (others c.id w.contracts) c.id.address c.code c.program
  pub is_contract : c.program.tables.contract ≡ Some c.id
  pub value : IsValueOf (shapes w.contracts) c.id c.value
  pub stands : c.is_running ≡ false

-- ---- Worlds

pub record Sound (accepts : Accepts) (w : World) : Type 0 where
  pub few : length w.accounts ≤ most_accounts
  pub accounts : All (SoundAccount (shapes w.contracts)) w.accounts
  pub contracts_rise : rises contract_before w.contracts ≡ true
  pub contracts : All (SoundContract accepts w) w.contracts
  pub identities : Distinct (live w)
  pub given : All (λ i. i < w.next_identity) (live w)
  pub from_one : 1 ≤ w.next_identity
  pub next : w.next_identity ≤ most_next
  pub first : w.accounts ≡ [] → w.next_identity ≡ 1

-- Law: registers are of one sound World, where a front end looks at the identifiers and the codes of contracts alone.
pub record SameCode (c d : Contract) : Type 0 where
  pub id : c.id ≡ d.id
  pub code : c.code ≡ d.code

abbrev pub AreSameCode : List Contract → List Contract → Type 0
AreSameCode [] [] = Unit {0}
AreSameCode (c ∷ cs) (d ∷ ds) = SameCode c d × AreSameCode cs ds
AreSameCode _ _ = ⊥

abbrev pub LooksAtCode : Front → Type 0
LooksAtCode front = (cs ds : List Contract) → AreSameCode cs ds → front cs ≡ front ds

abbrev pub OneWorld : Coding → Type 0
OneWorld coding = (front : Front) (w v : World) → LooksAtCode front → Sound (accepted_by front) w → Sound (accepted_by front) v
    → ((key : List ℕ) → map_of coding w key ≡ map_of coding v key) → w ≡ v
