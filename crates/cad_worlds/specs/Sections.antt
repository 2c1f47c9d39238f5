-- The registers of a World as they are written: kind by kind, and place by place.
use Rattle.std.specs.Prelude.{ℕ, ◌==◌, List, [], ◌∷◌, ◌++◌, if◌then◌else◌}
use Rattle.cad_codec.specs.ValueBytes.{value_bytes}
use Rattle.cad_rows.specs.Views.{PlaceView, vacant, taken}
use Rattle.cad_state.specs.Views.{contract_of, controller_of, publication_of}
use Rattle.cad_state.specs.declared.state.Contract.{Contract}
use Rattle.cad_state.specs.declared.state.Controller.{Controller}
use Rattle.cad_state.specs.declared.state.Publication.{Publication}
use Rattle.cad_syntax.specs.declared.text.Name.{Name}
use Rattle.cad_syntax.specs.declared.type_id.TypeId.{TypeId}
use Rattle.cad_values.specs.Values.{PureValue}
use Rattle.cad_wire.specs.Fields.{number_field}
use Rattle.cad_world.specs.Orders.{contract_name}
use Rattle.cad_world.specs.Registers.{Register, register, head_key, fields_key, stored_key, code_register, fields_registers, next_register, stored_registers, published_register, published_registers, controller_register, controller_registers}
use Rattle.cad_world.specs.State.{Account}
use Rattle.cad_world.specs.Trees.{value_of}
use Rattle.cad_worlds.specs.Standing.{coding}
use Rattle.cad_worlds.specs.declared.writing.Section.{Section}
use Rattle.cad_worlds.specs.declared.writing.Section.TheVariants as section

-- the registers of an account, of one kind
abbrev pub of_section : Section → ℕ → Account → List Register
of_section section.Next = next_register
of_section section.Stored = stored_registers coding
of_section section.Published = published_registers coding
of_section section.Controllers = controller_registers coding

-- the first register, where there are so many accounts
abbrev pub head : ℕ → ℕ → List Register
head count identity = if count == 0 then [] else register head_key (number_field count ++ number_field identity) ∷ []

-- the register of what stands in a place, under the first of these names
abbrev pub place_registers : ℕ → List Name → PlaceView → List Register
place_registers n names vacant = []
place_registers n [] (taken l t) = []
place_registers n (i ∷ is) (taken l t) = register (stored_key n i) (value_bytes (value_of t)) ∷ []

-- the names of what stands behind it
abbrev pub names_left : List Name → PlaceView → List Name
names_left names vacant = names
names_left [] (taken l t) = []
names_left (i ∷ is) (taken l t) = is

-- the registers of a publication and of a controller
abbrev pub published_of : ℕ → Publication → Register
published_of n p = published_register coding n (publication_of p)

abbrev pub controlled_of : ℕ → Controller → Register
controlled_of n c = controller_register coding n (controller_of c)

abbrev pub name_bytes : Name → List ℕ
name_bytes n = n.0

-- the registers of a contract's code and of its value
abbrev pub code_of : Contract → Register
code_of c = code_register (contract_of c)

abbrev pub fields_register : TypeId → PureValue → Register
fields_register id v = register (fields_key id.address.0 (contract_name id)) (value_bytes v)

abbrev pub fields_of : Contract → List Register
fields_of c = fields_registers coding (contract_of c)

-- of what stands in a place
abbrev pub place_fields : TypeId → PlaceView → List Register
place_fields id vacant = []
place_fields id (taken l t) = fields_register id (value_of t) ∷ []
