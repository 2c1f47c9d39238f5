-- A value without where its parts lie in memory.
use Rattle.std.specs.Prelude.{ℕ, Bool, List, [], ◌∷◌}
use Rattle.cad_syntax.specs.declared.address.Address.{Address}
use Rattle.cad_syntax.specs.declared.address.Path.{Path}
use Rattle.cad_syntax.specs.declared.num.Num.{Num}
use Rattle.cad_syntax.specs.declared.text.Name.{Name}
use Rattle.cad_syntax.specs.declared.type_id.TypeId.{TypeId}
use Rattle.cad_syntax.specs.declared.types.Authorization.{Authorization}
use Rattle.cad_syntax.specs.Types.{PureType, pure_type}
use Rattle.cad_values.specs.declared.value.Target.{Target}
use Rattle.cad_values.specs.declared.value.Value.{Value, Value-F, fold-Value}
use Rattle.cad_values.specs.declared.value.CompositeField.{CompositeField, CompositeField-F, fold-CompositeField}
use Rattle.cad_values.specs.declared.value.DictionaryEntry.{DictionaryEntry, DictionaryEntry-F, fold-DictionaryEntry}

mutual
  pub data PureValue : Type 0 where
    void : PureValue
    nil : PureValue
    some : PureValue → PureValue
    bool : Bool → PureValue
    number : Num → PureValue
    string : List ℕ → PureValue
    character : List ℕ → PureValue
    address : Address → PureValue
    path : Path → PureValue
    -- a type as a value
    meta : PureType → PureValue
    -- the account, the number there, and the type that is lent
    capability : Address → ℕ → PureType → PureValue
    -- the type of the elements
    array : PureType → Values → PureValue
    -- the types of the keys and of the values
    dictionary : PureType → PureType → Entries → PureValue
    -- the type, and the identity, 0 of what is no resource
    composite : TypeId → ℕ → Fields → PureValue
    -- what it may do, the type of the target, and what it leads to
    reference : Authorization → PureType → Target → PureValue

  pub data Values : Type 0 where
    no_values : Values
    values : PureValue → Values → Values

  -- keys, and what stands under them
  pub data Entries : Type 0 where
    no_entries : Entries
    entries : PureValue → PureValue → Entries → Entries

  pub data Fields : Type 0 where
    no_fields : Fields
    fields : Name → PureValue → Fields → Fields

pub record PureEntry : Type 0 where
  pub key : PureValue
  pub value : PureValue

pub record PureField : Type 0 where
  pub name : Name
  pub value : PureValue

abbrev pub values_of : List PureValue → Values
values_of [] = no_values
values_of (v ∷ vs) = values v (values_of vs)

abbrev pub entries_of : List PureEntry → Entries
entries_of [] = no_entries
entries_of (e ∷ es) = entries e.key e.value (entries_of es)

abbrev pub fields_of : List PureField → Fields
fields_of [] = no_fields
fields_of (f ∷ fs) = fields f.name f.value (fields_of fs)

-- the elements, the keys and the names, as lists
abbrev pub elements : Values → List PureValue
elements no_values = []
elements (values v vs) = v ∷ elements vs

abbrev pub keys : Entries → List PureValue
keys no_entries = []
keys (entries k v es) = k ∷ keys es

abbrev pub names : Fields → List Name
names no_fields = []
names (fields n v fs) = n ∷ names fs

-- ---- what a value of the program is

abbrev pub value_step : Value-F PureValue PureField PureEntry → PureValue
value_step Value-F.Void = void
value_step Value-F.Nil = nil
value_step (Value-F.Some b) = some b.value
value_step (Value-F.Bool b) = bool b
value_step (Value-F.Number n) = number n
value_step (Value-F.String t) = string t
value_step (Value-F.Character t) = character t
value_step (Value-F.Address a) = address a
value_step (Value-F.Path p) = path p
value_step (Value-F.Meta t) = meta (pure_type t)
value_step (Value-F.Capability c) = capability c.address c.id (pure_type c.borrow)
value_step (Value-F.Array t v) = array (pure_type t) (values_of v.items)
value_step (Value-F.Dictionary k t v) = dictionary (pure_type k) (pure_type t) (entries_of v.items)
value_step (Value-F.Composite id n v) = composite id n (fields_of v.items)
value_step (Value-F.Reference r) = reference r.authorization (pure_type r.target) r.to

abbrev pub field_step : CompositeField-F PureValue PureField PureEntry → PureField
field_step f = record { name = f.name; value = f.value }

abbrev pub entry_step : DictionaryEntry-F PureValue PureField PureEntry → PureEntry
entry_step e = record { key = e.key; value = e.value }

abbrev pub pure_value : Value → PureValue
pure_value = fold-Value PureValue PureField PureEntry value_step field_step entry_step

abbrev pub pure_field : CompositeField → PureField
pure_field = fold-CompositeField PureValue PureField PureEntry value_step field_step entry_step

abbrev pub pure_entry : DictionaryEntry → PureEntry
pure_entry = fold-DictionaryEntry PureValue PureField PureEntry value_step field_step entry_step
