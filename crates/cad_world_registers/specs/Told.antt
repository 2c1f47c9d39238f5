-- What a register says, as it is read, and what is made of registers one behind another.
use Rattle.std.specs.Prelude.{ℕ, ◌==◌, List, [], ◌∷◌, Option, Some, None, option_map, if◌then◌else◌}
use Rattle.std.specs.Str.{is_utf8}
use Rattle.cad_codec.specs.Code.Fields.{name_of}
use Rattle.cad_codec.specs.Code.Values.{value_at, whole, whole_type_at}
use Rattle.cad_declarations.specs.Imports.{contract_id}
use Rattle.cad_syntax.specs.Types.{PureType}
use Rattle.cad_syntax.specs.declared.text.Name.{Name}
use Rattle.cad_syntax.specs.declared.type_id.TypeId.{TypeId}
use Rattle.cad_values.specs.Sizes.{most_high}
use Rattle.cad_values.specs.Values.{PureValue, capability}
use Rattle.cad_wire.specs.Fields.{◌>>=◌, number_at, bytes_at}
use Rattle.cad_world.specs.Registers.{Register}
use Rattle.cad_world.specs.State.{Controller}
use Rattle.cad_worlds.specs.Items.{Item, head, next, code, fields, stored, published, controlled, Draft, put}

-- ---- what all of the bytes are

abbrev pub number_in : List ℕ → Option ℕ
number_in bytes = whole (number_at bytes)

abbrev pub name_in : List ℕ → Option Name
name_in bytes = if is_utf8 bytes then Some (name_of bytes) else None

unfoldable pub value_in : List ℕ → Option PureValue
value_in bytes = whole (value_at most_high bytes)

unfoldable pub type_in : List ℕ → Option PureType
type_in bytes = whole (whole_type_at bytes)

-- the number and the type of a capability of the account of this address
abbrev pub lent_by : ℕ → PureValue → Option (ℕ × PureType)
lent_by address (capability a n t) = if a.0 == address then Some (n, t) else None
lent_by address _ = None

abbrev pub lent_in : ℕ → List ℕ → Option (ℕ × PureType)
lent_in address bytes = value_in bytes >>= lent_by address

-- the contract of an address and a name
abbrev pub contract_at : List ℕ → Option TypeId
contract_at place = number_at place >>= λ n. name_in n.1 >>= λ i. Some (contract_id n.0 i)

-- ---- registers of each kind, by what stands behind the kind in their keys, and their bytes

abbrev pub head_in : List ℕ → Option Item
head_in bytes = number_at bytes >>= λ count. number_in count.1 >>= λ identity. Some (head count.0 identity)

abbrev pub next_in : List ℕ → List ℕ → Option Item
next_in place bytes = number_in place >>= λ n. number_in bytes >>= λ number. Some (next n number)

abbrev pub code_in : List ℕ → List ℕ → Option Item
code_in place bytes = contract_at place >>= λ id. Some (code id bytes)

abbrev pub fields_in : List ℕ → List ℕ → Option Item
fields_in place bytes = contract_at place >>= λ id. value_in bytes >>= λ v. Some (fields id v)

abbrev pub stored_in : List ℕ → List ℕ → Option Item
stored_in place bytes = number_at place >>= λ n. name_in n.1 >>= λ i. value_in bytes >>= λ v. Some (stored n.0 i v)

abbrev pub published_in : List ℕ → List ℕ → Option Item
published_in place bytes = number_at place >>= λ n. name_in n.1 >>= λ i. lent_in n.0 bytes >>= λ l. Some (published n.0 (record { identifier = i; number = l.0; lent = l.1 }))

abbrev pub controller_in : ℕ → List ℕ → Option Controller
controller_in number bytes = bytes_at bytes >>= λ a. bytes_at a.1 >>= λ b. name_in a.0 >>= λ i. type_in b.1 >>= λ t. Some (record { number = number; borrow = t; tag = b.0; target = i })

abbrev pub controlled_in : List ℕ → List ℕ → Option Item
controlled_in place bytes = number_at place >>= λ n. number_in n.1 >>= λ number. controller_in number bytes >>= λ c. Some (controlled n.0 c)

abbrev pub of_kind : ℕ → List ℕ → List ℕ → Option Item
of_kind kind place bytes =
    if kind == 0 then head_in bytes
    else (if kind == 1 then next_in place bytes
    else (if kind == 2 then code_in place bytes
    else (if kind == 3 then fields_in place bytes
    else (if kind == 4 then stored_in place bytes
    else (if kind == 5 then published_in place bytes
    else (if kind == 6 then controlled_in place bytes else None))))))

-- by its key and its bytes
abbrev pub item_in : List ℕ → List ℕ → Option Item
item_in [] bytes = None
item_in (kind ∷ place) bytes = of_kind kind place bytes

-- ---- what they make

abbrev pub made : Option Item → Draft → Option Draft
made o d = option_map (λ x. put x d) o

-- registers one behind another
abbrev pub one_by_one : {D : Type 0} → (List ℕ → List ℕ → D → Option D) → List Register → D → Option D
one_by_one step [] d = Some d
one_by_one step (r ∷ rs) d = step r.key r.bytes d >>= λ e. one_by_one step rs e

-- by the key and the bytes of one
abbrev pub make_one : List ℕ → List ℕ → Draft → Option Draft
make_one key bytes d = made (item_in key bytes) d

abbrev pub all_made : List Register → Draft → Option Draft
all_made = one_by_one make_one
