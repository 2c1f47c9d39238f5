-- What is tested of a World, part by part.
use Rattle.std.specs.Prelude.{◌≡◌, ◌≤◌, ◌<◌, ◌^◌, ◌==◌, ◌&&◌, ◌||◌, nat_lt, Bool, true, false, All, List, [], ◌∷◌, ℕ, Option, Some, None, length, IsUtf8}
use Rattle.cad_codec.specs.Forms.{HasBytes, TypeHasBytes}
use Rattle.cad_rows.specs.Views.{PlaceView, vacant, taken}
use Rattle.cad_syntax.specs.TypeIds.{same_id}
use Rattle.cad_syntax.specs.declared.text.Name.{Name}
use Rattle.cad_syntax.specs.declared.type_id.TypeId.{TypeId}
use Rattle.cad_text.specs.Texts.{most_bytes}
use Rattle.cad_values.specs.Fits as of
use Rattle.cad_values.specs.Forms.{is_storable_value}
use Rattle.cad_values.specs.Shapes.{Shapes}
use Rattle.cad_values.specs.Sizes.{height, most_high}
use Rattle.cad_values.specs.Types.{type_of_value}
use Rattle.cad_values.specs.Values.{PureValue}
use Rattle.cad_world.specs.Fits.{IsOfValue, FitsItself, Lasts, have_identities}
use Rattle.cad_world.specs.Orders.{rises, text_before, publication_before, controller_before, contract_before}
use Rattle.cad_world.specs.Rows.{Tree, alone}
use Rattle.cad_world.specs.Sound.{SoundPublication, SoundController, HasOneName, IsValueOf}
use Rattle.cad_world.specs.State.{Publication, Controller, Contract}
use Rattle.cad_world.specs.Trees.{value_of}

-- ---- values

-- it is the tree of a value, whose resources have identities
abbrev pub CanStand : Shapes → Tree → Type 0
CanStand k t = IsOfValue t × (have_identities k (alone t) ≡ true)

-- it can be stored, and isn't too high
abbrev pub CanLast : PureValue → Type 0
CanLast x = (is_storable_value x ≡ true) × (height x ≤ most_high)

-- and all in it is as its own type says
abbrev pub LastsAs : Shapes → PureValue → Type 0
LastsAs k x = CanLast x × of.Fits k x (type_of_value x)

-- or it is the value of this contract
abbrev pub LastsOf : Shapes → TypeId → PureValue → Type 0
LastsOf k id x = CanLast x × of.FitsContract k x id

-- a value that can stand in an account stands in the place, without labels, under this identifier
abbrev pub IsKept : Shapes → Name → PlaceView → Type 0
IsKept k name vacant = ⊥
IsKept k name (taken l t) = (l ≡ []) × IsUtf8 name.0 × FitsItself k t × Lasts k t

-- the value of this contract stands in the place, without labels
abbrev pub HoldsContract : Shapes → TypeId → PlaceView → Type 0
HoldsContract k id vacant = ⊥
HoldsContract k id (taken l t) = (l ≡ []) × of.FitsContract k (value_of t) id × Lasts k t

-- ---- accounts

abbrev pub IsTag : List ℕ → Type 0
IsTag tag = IsUtf8 tag × (length tag ≤ most_bytes)

-- the publications and the controllers of a sound account
abbrev pub SoundPublished : Shapes → List Publication → Type 0
SoundPublished k ps = (rises publication_before ps ≡ true) × All (SoundPublication k) ps

abbrev pub SoundControlled : Shapes → ℕ → List Controller → Type 0
SoundControlled k next cs = (rises controller_before cs ≡ true) × All (SoundController k next) cs

-- over no accounts the next identity is the first
abbrev pub IsFirst : ℕ → ℕ → Type 0
IsFirst count identity = count ≡ 0 → identity ≡ 1

-- ---- contracts

-- the bytes of the first name
abbrev pub first_text : List Name → List ℕ
first_text [] = []
first_text (n ∷ ns) = n.0

-- contracts in their order, where each has one name
abbrev pub named_before : Contract → Contract → Bool
named_before c d = nat_lt c.id.address.0 d.id.address.0 || ((c.id.address.0 == d.id.address.0) && text_before (first_text c.id.names) (first_text d.id.names))

-- the address of one of so many accounts, and one name
abbrev pub IsContractId : ℕ → TypeId → Type 0
IsContractId count id = (1 ≤ id.address.0) × (id.address.0 ≤ count) × HasOneName id.names

-- a program is the contract of this identifier
abbrev pub is_id : Option TypeId → TypeId → Bool
is_id None id = false
is_id (Some own) id = same_id own id

-- a contract that is sound, whatever program its code is, where there are so many accounts
pub record StandsThere (k : Shapes) (count : ℕ) (c : Contract) : Type 0 where
  pub stands : c.is_running ≡ false
  pub id : IsContractId count c.id
  pub is_contract : c.program.tables.contract ≡ Some c.id
  pub value : IsValueOf k c.id c.value

abbrev pub SoundContracts : Shapes → ℕ → List Contract → Type 0
SoundContracts k count cs = (rises contract_before cs ≡ true) × All (StandsThere k count) cs

-- ---- bytes that nothing else has: of what stands in a place, of a publication and of a controller

abbrev pub PlaceHasBytes : PlaceView → Type 0
PlaceHasBytes vacant = Unit {0}
PlaceHasBytes (taken l t) = HasBytes (value_of t)

abbrev pub LentHasBytes : Publication → Type 0
LentHasBytes p = TypeHasBytes p.lent

abbrev pub BorrowedHasBytes : Controller → Type 0
BorrowedHasBytes c = TypeHasBytes c.borrow × (length c.target.0 < 2 ^ 32)
