-- Declarations and whole programs: where they are ill-typed, in source order.
use Rattle.std.specs.Prelude.{◌≡◌, refl, ℕ, true, false, Option, Some, None, List, [], ◌∷◌, codes}
use Rattle.cad_grammar.specs.Trees as s
use Rattle.cad_grammar.specs.declared.declaration.Access.TheVariants as access
use Rattle.cad_grammar.specs.declared.declaration.CompositeKind.TheVariants as kind
use Rattle.cad_grammar.specs.declared.declaration.EnumCase.{EnumCase}
use Rattle.cad_grammar.specs.declared.statement.Transfer.TheVariants as sign
use Rattle.cad_grammar.specs.declared.statement.VariableKind.TheVariants as v
use Rattle.cad_declarations.specs.Build.{stop_at}
use Rattle.cad_declarations.specs.Points.{word}
use Rattle.cad_declarations.specs.declared.stop.Stop.{Stop}
use Rattle.cad_typing.proofs.SampleParts.{a, b, f, C, R, S, type, of, at, int, resource, one, use_of, of_self, let_is, let_of, set, returned, parameter, statements, function, initializer, field, composite, resource_composite, ill, ill_contract, in_script, in_contract}

abbrev in_type : ℕ → Option Stop
in_type n = Some (stop_at (C ∷ S ∷ []) n)

-- ---- fields

-- a struct has no resource, and neither has an interface of structs
resource_in_struct : ill_contract (s.composite (resource_composite R []) ∷ s.composite (composite S (s.field (field a resource) ∷ [])) ∷ []) ≡ in_type 0
resource_in_struct = refl

abbrev interface : s.InterfaceMemberTree → s.ContractMemberTree
interface x = s.interface (record { access = access.All; kind = kind.Struct; name = S; conformances = []; members = x ∷ [] })

resource_in_interface : ill_contract (s.composite (resource_composite R []) ∷ interface (s.interface_field (field a resource)) ∷ []) ≡ in_type 0
resource_in_interface = refl

resource_in_resource : ill_contract (s.composite (resource_composite R []) ∷ s.composite (resource_composite S (s.field (field a resource) ∷ [])) ∷ []) ≡ None
resource_in_resource = refl

-- what a contract has can be stored
stored_reference : ill_contract (s.contract_field (field a (of (s.reference None (type (codes "Int"))))) ∷ []) ≡ Some (stop_at (C ∷ []) 0)
stored_reference = refl

stored_resource : ill_contract (s.composite (resource_composite R []) ∷ s.contract_field (field a resource) ∷ []) ≡ None
stored_resource = refl

-- an intersection is of structs or of resources
abbrev empty_interface : s.ContractMemberTree
empty_interface = s.interface (record { access = access.All; kind = kind.Resource; name = R; conformances = []; members = [] })

mixed_intersection : ill_contract (empty_interface ∷ interface (s.interface_field (field a (of (s.intersection ((R ∷ []) ∷ (S ∷ []) ∷ []))))) ∷ []) ≡ in_type 0
mixed_intersection = refl

-- fields come before the functions of their declaration, wherever they stand in it
field_behind_function : ill_contract (s.contract_function (function f [] None (statements (let_is b (use_of a) ∷ [])))
    ∷ s.contract_field (field a (of (s.reference None (type (codes "Int"))))) ∷ []) ≡ Some (stop_at (C ∷ []) 0)
field_behind_function = refl

-- else source order decides
struct_before_function : ill_contract (s.composite (composite S (s.field (field a (at (type (codes "Int")))) ∷ []))
    ∷ s.contract_function (function f [] None (statements (let_is b (use_of a) ∷ []))) ∷ []) ≡ in_type 0
struct_before_function = refl

function_before_struct : ill_contract (s.contract_function (function f [] None (statements (let_is b (use_of a) ∷ [])))
    ∷ s.composite (composite S (s.field (field a (at (type (codes "Int")))) ∷ [])) ∷ []) ≡ in_contract 0
function_before_struct = refl

-- ---- enums

abbrev case_of : EnumCase
case_of = record { access = access.All; name = a }

abbrev enum : List ℕ → List EnumCase → s.ContractMemberTree
enum raw cases = s.enumeration (record { access = access.All; name = S; raw = word raw ∷ []; cases = cases })

enum_of_numbers : ill_contract (enum (codes "UInt8") (case_of ∷ []) ∷ []) ≡ None
enum_of_numbers = refl

enum_of_texts : ill_contract (enum (codes "String") (case_of ∷ []) ∷ []) ≡ in_type 0
enum_of_texts = refl

enum_of_fixed : ill_contract (enum (codes "UFix64") [] ∷ []) ≡ in_type 0
enum_of_fixed = refl

-- ---- `main`

main_importable : ill None (s.top_function (function (word (codes "main")) (parameter a (of (type (codes "Type"))) ∷ []) None (statements [])) ∷ []) ≡ Some (stop_at (word (codes "main") ∷ []) 0)
main_importable = refl

main_exportable : ill None (s.top_function (function (word (codes "main")) [] (Some (of (type (codes "Type")))) (statements [])) ∷ []) ≡ Some (stop_at (word (codes "main") ∷ []) 0)
main_exportable = refl

-- another function isn't asked for it
other_function : ill None (s.top_function (function f (parameter a (of (type (codes "Type"))) ∷ []) None (statements [])) ∷ []) ≡ None
other_function = refl

-- ---- transactions

abbrev transaction : Option (List s.ParameterTree) → List s.TransactionFieldTree → Option s.PrepareTree → Option (List s.StmtTree) → Option Stop
transaction parameters fields prepare execute =
    ill None (s.transaction (record { parameters = parameters; fields = fields; prepare = prepare; pre = None; execute = execute; post = None }) ∷ [])

abbrev in_part : List ℕ → ℕ → Option Stop
in_part text n = Some (stop_at (word text ∷ []) n)

abbrev account : s.Annotation
account = of (s.reference None (type (codes "Account")))

abbrev prepare : s.Annotation → List s.StmtTree → Option s.PrepareTree
prepare t all = Some (record { parameters = parameter a t ∷ []; body = all })

importable_parameter : transaction (Some (parameter a (of (type (codes "Type"))) ∷ [])) [] None None ≡ in_part (codes "transaction") 0
importable_parameter = refl

signer : transaction None [] (prepare account []) None ≡ None
signer = refl

signer_by_value : transaction None [] (prepare (of (type (codes "Account"))) []) None ≡ in_part (codes "prepare") 0
signer_by_value = refl

-- the parameters of the transaction are in scope in each part, in a scope outside that of those of `prepare`
outer_parameter : transaction (Some (parameter a int ∷ [])) [] (prepare account []) (Some (let_of b int (use_of a) ∷ [])) ≡ None
outer_parameter = refl

signer_in_execute : transaction None [] (prepare account []) (Some (let_is b (use_of a) ∷ [])) ≡ in_part (codes "execute") 0
signer_in_execute = refl

-- a `let` field is set in `prepare`
abbrev let_field : s.TransactionFieldTree
let_field = record { kind = v.Let; name = b; annotation = int }

set_in_prepare : transaction None (let_field ∷ []) (prepare account (set (of_self b) one ∷ [])) None ≡ None
set_in_prepare = refl

set_in_execute : transaction None (let_field ∷ []) (prepare account (set (of_self b) one ∷ [])) (Some (set (of_self b) one ∷ [])) ≡ in_part (codes "execute") 0
set_in_execute = refl

-- parts have numbers of their own
second_statement : transaction None [] (prepare account (let_is b one ∷ [])) (Some (let_is b one ∷ let_is b one ∷ [])) ≡ in_part (codes "execute") 1
second_statement = refl

-- ---- interfaces

abbrev interface_function : Option s.FunctionBlockTree → s.ContractMemberTree
interface_function block = interface (s.interface_function (function f [] None block))

-- the functions of an interface are typed as others are
ill_default : ill_contract (interface_function (statements (let_is b (use_of a) ∷ [])) ∷ []) ≡ Some (stop_at (C ∷ S ∷ f ∷ []) 0)
ill_default = refl

no_block : ill_contract (interface_function None ∷ []) ≡ None
no_block = refl
