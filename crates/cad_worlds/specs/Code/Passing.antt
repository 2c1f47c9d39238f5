-- Registers that are left out where some accounts are asked for: those of other accounts.
use Rattle.std.specs.Prelude.{◌≡◌, ◌⊎◌, ℕ, zero, suc, ◌^◌, ◌<◌, ◌==◌, ◌&&◌, ◌||◌, not, nat_lt, nat_le, Bool, true, false, List, [], ◌∷◌, ◌++◌, Option, Some, None, option_map, if◌then◌else◌}
use Rattle.std.specs.List.{AllByRecursion, list_any}
use Rattle.cad_accounts.specs.Memory.{block_rows}
use Rattle.cad_accounts.specs.Registers.{are_rising}
use Rattle.cad_accounts.specs.declared.block.Block.{Block}
use Rattle.cad_accounts.specs.declared.row.Row.{Row}
use Rattle.cad_wire.specs.Fields.{number_at, number_field}
use Rattle.cad_worlds.specs.Code.KnownRegisters.{is_of_all}
use Rattle.cad_worlds.specs.Merging.{chosen}
use Rattle.cad_worlds.specs.declared.spans.Span.{Span}

-- ---- between which addresses rows are

abbrev pub first_key : List Row → List ℕ
first_key [] = []
first_key (r ∷ rows) = r.key.0

abbrev pub last_key : List Row → List ℕ
last_key [] = []
last_key (r ∷ []) = r.key.0
last_key (r ∷ s ∷ rows) = last_key (s ∷ rows)

-- the address at the front of bytes
abbrev pub front_number : List ℕ → Option ℕ
front_number bytes = option_map (λ found. found.0) (number_at bytes)

abbrev pub span_from : ℕ → Option ℕ → Option ℕ → Option Span
span_from kind None most = None
span_from kind (Some least) None = None
span_from kind (Some least) (Some most) = Some (record { kind = kind; least = least; most = most })

-- of two keys of one kind
abbrev pub span_between : List ℕ → List ℕ → Option Span
span_between [] last = None
span_between (k ∷ first) [] = None
span_between (k ∷ first) (j ∷ last) = if k == j then span_from k (front_number first) (front_number last) else None

-- of the first row and the last
abbrev pub span_of : List Row → Option Span
span_of [] = None
span_of (r ∷ rows) = span_between r.key.0 (last_key (r ∷ rows))

-- the last key of the last of some blocks
abbrev pub last_in : List Block → List ℕ
last_in [] = []
last_in (b ∷ []) = last_key (block_rows b)
last_in (b ∷ c ∷ blocks) = last_in (c ∷ blocks)

-- of the first row of the first block and the last row of the last
abbrev pub span_in : List Block → Option Span
span_in [] = None
span_in (b ∷ blocks) = span_between (first_key (block_rows b)) (last_in (b ∷ blocks))

-- ---- those that are passed over

-- whether registers of a kind are of one account each
abbrev pub is_of_account : ℕ → Bool
is_of_account kind = kind == 1 || (kind == 4 || (kind == 5 || kind == 6))

-- the address of the account at an index is between two
abbrev pub is_between : ℕ → ℕ → ℕ → Bool
is_between least most i = nat_lt i most && nat_le least (suc i)

-- one of the accounts at these indexes is
abbrev pub has_between : List ℕ → ℕ → ℕ → Bool
has_between indexes least most = list_any (λ i. is_between least most i) indexes

abbrev pub is_passed : List ℕ → Option Span → Bool
is_passed indexes None = false
is_passed indexes (Some s) = is_of_account s.kind && not (has_between indexes s.least s.most)

-- ---- keys of registers: of all accounts, or of one

pub record HasAddress (kind : ℕ) (rest : List ℕ) : Type 0 where
  pub address : ℕ
  pub name : List ℕ
  pub rest_is : rest ≡ number_field address ++ name
  pub fits : address < 2 ^ 64

abbrev pub IsTold : List ℕ → Type 0
IsTold [] = ⊥
IsTold (kind ∷ rest) = (is_of_all kind ≡ true) ⊎ HasAddress kind rest

abbrev pub AreTold : List Row → Type 0
AreTold rows = AllByRecursion (λ r. IsTold r.key.0) rows

-- ---- rows but for some of other accounts

-- whether the account of an address is at one of these indexes
abbrev pub is_among : List ℕ → ℕ → Bool
is_among indexes zero = false
is_among indexes (suc i) = list_any (λ j. j == i) indexes

-- the key of a register of one account, which isn't
abbrev pub IsOfOther : List ℕ → List ℕ → Type 0
IsOfOther indexes [] = ⊥
IsOfOther indexes (kind ∷ rest) = (is_of_account kind ≡ true) × (h : HasAddress kind rest) × (is_among indexes h.address ≡ false)

-- a test that no such key passes
abbrev pub RefusesOthers : List ℕ → (List ℕ → Bool) → Type 0
RefusesOthers indexes p = (key : List ℕ) → IsOfOther indexes key → p key ≡ false

-- of what passes any such test, what was found has the same as all of the rows, where these are registers in byte order
abbrev pub LeavesOut : List ℕ → List Row → List Row → Type 0
LeavesOut indexes found rows = (p : List ℕ → Bool) → RefusesOthers indexes p → AreTold rows → are_rising rows ≡ true → chosen p found ≡ chosen p rows

-- what was found so far and what is found of the rows that are left are found of all
abbrev pub GoesOn : List ℕ → List Row → List Row → List Row → Type 0
GoesOn indexes found left rows = (more : List Row) → LeavesOut indexes more left → LeavesOut indexes (found ++ more) rows
