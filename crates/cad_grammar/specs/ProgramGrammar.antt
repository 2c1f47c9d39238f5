-- The grammar of declarations and programs.
use Rattle.std.specs.Prelude.{◌≡◌, ◌==◌, if◌then◌else◌, ℕ, Bool, true, false, List, [], ◌∷◌, codes, Option, Some, None}
use Rattle.std.specs.Cmp.Lexicographic.{pointwise}
use Rattle.cad_grammar.specs.declared.token.Sign.TheVariants as s
use Rattle.cad_syntax.specs.declared.keyword.Keyword.{Keyword}
use Rattle.cad_syntax.specs.declared.keyword.Keyword.TheVariants as k
use Rattle.cad_grammar.specs.declared.token.TokenKind.{TokenKind}
use Rattle.cad_grammar.specs.declared.token.TokenKind.TheVariants as kind
use Rattle.cad_grammar.specs.declared.token.Token.{Token}
use Rattle.cad_syntax.specs.declared.text.Name.{Name}
use Rattle.cad_grammar.specs.declared.type_expr.Entitlements.{Entitlements}
use Rattle.cad_grammar.specs.declared.type_expr.Entitlements.TheVariants as entitlements
use Rattle.cad_grammar.specs.declared.statement.VariableKind.{VariableKind}
use Rattle.cad_grammar.specs.declared.declaration.Access.{Access}
use Rattle.cad_grammar.specs.declared.declaration.Access.TheVariants as access
use Rattle.cad_grammar.specs.declared.declaration.CompositeKind.{CompositeKind}
use Rattle.cad_grammar.specs.declared.declaration.CompositeKind.TheVariants as composite_kind
use Rattle.cad_grammar.specs.declared.declaration.EnumCase.{EnumCase}
use Rattle.cad_grammar.specs.declared.declaration.Entitlement.{Entitlement}
use Rattle.cad_grammar.specs.declared.declaration.MappingItem.{MappingItem}
use Rattle.cad_grammar.specs.declared.declaration.MappingItem.TheVariants as mapping_item
use Rattle.cad_grammar.specs.declared.declaration.Import.{Import}
use Rattle.cad_grammar.specs.Trees as tree
use Rattle.cad_grammar.specs.Trees.{Annotation, ExprTree, StmtTree, ParameterTree, ConditionTree, FunctionBlockTree, FunctionTree, InitTree, FieldTree, EventParameterTree, EventTree}
use Rattle.cad_grammar.specs.Trees.{CompositeMemberTree, CompositeTree, InterfaceMemberTree, InterfaceTree, EnumTree, MappingTree, ContractMemberTree, ContractTree}
use Rattle.cad_grammar.specs.Trees.{TransactionFieldTree, PrepareTree, TransactionTree, DeclTree, ProgramTree}
use Rattle.cad_grammar.specs.Spots.{Spot, back, read, after, keyword, word, name, opened, opening, then, ◌>>=◌, either}
use Rattle.cad_grammar.specs.Lists.{Listed, Repeated, Maybe}
use Rattle.cad_grammar.specs.TypeGrammar.{Dotted, Entitled, Annotated}
use Rattle.cad_grammar.specs.ExpressionGrammar.{Expression}
use Rattle.cad_grammar.specs.StatementGrammar.{variable_word, begins_plainly, parted, MaybeAnnotated, Block, Statements}

-- ---- access

-- `all`, `self`, `contract` and `account`
abbrev pub plain_access_named : Name → Option Access
plain_access_named n =
    if pointwise ◌==◌ n.0 (codes "all") then Some access.All
    else (if pointwise ◌==◌ n.0 (codes "account") then Some access.Account
    else None)

abbrev pub plain_access_of : TokenKind → Option Access
plain_access_of (kind.Name n) = plain_access_named n
plain_access_of (kind.Keyword k.Self_) = Some access.Self_
plain_access_of (kind.Keyword k.Contract) = Some access.Contract
plain_access_of _ = None

-- the words `all` and `account`, which are no entitlements where they stand alone
abbrev pub is_plain_word : List Name → Bool
is_plain_word (n ∷ []) = either (plain_access_named n) (λ a. true) false
is_plain_word _ = false

abbrev pub is_plain_access : Entitlements → Bool
is_plain_access (entitlements.All (names ∷ [])) = is_plain_word names
is_plain_access _ = false

-- what stands between the parentheses, and ")"
pub data Allows : Spot → Access → Spot → Type 0 where
  plain_access : {p q r : Spot} {a : Access} → read plain_access_of p ≡ Some (a, q) → after s.CloseParenthesis q ≡ Some r → Allows p a r
  mapping_access : {p q r u : Spot} {n : List Name}
      → word (codes "mapping") p ≡ Some q → Dotted q n r → after s.CloseParenthesis r ≡ Some u → Allows p (access.Mapping n) u
  entitled_access : {p q : Spot} {e : Entitlements} → Entitled p e q → is_plain_access e ≡ false → Allows p (access.Entitled e) q

-- access "(" .. ")"
pub data ReadsAccess : Spot → Access → Spot → Type 0 where
  allowed : {p q r u : Spot} {a : Access} → keyword k.Access p ≡ Some q → opening s.OpenParenthesis q ≡ Some r → Allows r a u → ReadsAccess p a (back p u)

-- ---- parameters, conditions and blocks

-- Parameter = [ Name ] Name ":" TypeAnnotation
pub data ReadsParameter : Spot → ParameterTree → Spot → Type 0 where
  unlabelled : {p q r u : Spot} {n : Name} {a : Annotation}
      → name p ≡ Some (n, q) → after s.Colon q ≡ Some r → Annotated r a u → ReadsParameter p (record { label = None; name = n; annotation = a }) u
  labelled : {p q r u v : Spot} {l n : Name} {a : Annotation}
      → name p ≡ Some (l, q) → name q ≡ Some (n, r) → after s.Colon r ≡ Some u → Annotated u a v
      → ReadsParameter p (record { label = Some l; name = n; annotation = a }) v

-- "(" [ Parameter { "," Parameter } ] ")"
pub data Parameters : Spot → List ParameterTree → Spot → Type 0 where
  parameters : {p q r : Spot} {all : List ParameterTree}
      → opening s.OpenParenthesis p ≡ Some q → Listed ReadsParameter s.CloseParenthesis q all r → Parameters p all (back p r)

-- Condition = Expression [ ":" Expression ] | emit Expression
pub data ReadsCondition : Spot → ConditionTree → Spot → Type 0 where
  test : {p q r : Spot} {e : ExprTree} {m : Option ExprTree}
      → begins_plainly p ≡ true → Expression p e q → Maybe (after s.Colon) Expression q m r → ReadsCondition p (tree.test e m) r
  emitted : {p q r : Spot} {e : ExprTree} → keyword k.Emit p ≡ Some q → Expression q e r → ReadsCondition p (tree.emitted e) r

-- Conditions stand apart as statements do.
pub data ConditionsIn : Spot → List ConditionTree → Spot → Type 0 where
  no_condition : {p q : Spot} → after s.CloseBrace p ≡ Some q → ConditionsIn p [] q
  condition : {p q r u : Spot} {c : ConditionTree} {all : List ConditionTree}
      → ReadsCondition p c q → parted q ≡ Some r → ConditionsIn r all u → ConditionsIn p (c ∷ all) u

-- "{" Conditions "}"
pub data Conditions : Spot → List ConditionTree → Spot → Type 0 where
  conditions : {p q r : Spot} {all : List ConditionTree} → opening s.OpenBrace p ≡ Some q → ConditionsIn q all r → Conditions p all (back p r)

-- [ pre Conditions ], [ post Conditions ]
abbrev pub Pre : Spot → Option (List ConditionTree) → Spot → Type 0
Pre = Maybe (keyword k.Pre) Conditions

abbrev pub Post : Spot → Option (List ConditionTree) → Spot → Type 0
Post = Maybe (keyword k.Post) Conditions

-- "{" [ pre Conditions ] [ post Conditions ] Statements "}"
pub data FunctionBlock : Spot → FunctionBlockTree → Spot → Type 0 where
  function_block : {p q r u v w : Spot} {pre post : Option (List ConditionTree)} {body : List StmtTree}
      → opening s.OpenBrace p ≡ Some q → Pre q pre r → Post r post u → Statements u body v → after s.CloseBrace v ≡ Some w
      → FunctionBlock p (record { pre = pre; post = post; body = body }) (back p w)

-- ---- members

-- ( let | var ) Name ":" TypeAnnotation
pub data Typed : Spot → VariableKind → Name → Annotation → Spot → Type 0 where
  typed : {p q r u v : Spot} {kind : VariableKind} {n : Name} {a : Annotation}
      → variable_word p ≡ Some (kind, q) → name q ≡ Some (n, r) → after s.Colon r ≡ Some u → Annotated u a v → Typed p kind n a v

-- Field = Access ( let | var ) Name ":" TypeAnnotation
pub data ReadsField : Spot → FieldTree → Spot → Type 0 where
  field : {p q r : Spot} {c : Access} {kind : VariableKind} {n : Name} {a : Annotation}
      → ReadsAccess p c q → Typed q kind n a r → ReadsField p (record { access = c; kind = Some kind; name = n; annotation = a }) r

-- of an interface: Access [ let | var ] Name ":" TypeAnnotation
pub data ReadsInterfaceField : Spot → FieldTree → Spot → Type 0 where
  sorted : {p q : Spot} {f : FieldTree} → ReadsField p f q → ReadsInterfaceField p f q
  unsorted : {p q r u v : Spot} {c : Access} {n : Name} {a : Annotation}
      → ReadsAccess p c q → name q ≡ Some (n, r) → after s.Colon r ≡ Some u → Annotated u a v
      → ReadsInterfaceField p (record { access = c; kind = None; name = n; annotation = a }) v

-- [ view ] and this keyword
unfoldable pub viewed : Keyword → Spot → Option (Bool × Spot)
viewed kind p = either (word (codes "view") p) (λ q. keyword kind q >>= (λ r. Some (true, r))) (keyword kind p >>= (λ r. Some (false, r)))

-- Access [ view ] fun Name Parameters [ ":" TypeAnnotation ], with this block behind it
pub data FunctionWith (HasBlock : Spot → Option FunctionBlockTree → Spot → Type 0) : Spot → FunctionTree → Spot → Type 0 where
  function : {p q r u v w x : Spot} {c : Access} {is_view : Bool} {n : Name} {parameters : List ParameterTree}
      {result : Option Annotation} {block : Option FunctionBlockTree}
      → ReadsAccess p c q → viewed k.Fun q ≡ Some (is_view, r) → name r ≡ Some (n, u) → Parameters u parameters v → MaybeAnnotated v result w → HasBlock w block x
      → FunctionWith HasBlock p (record { access = c; is_view = is_view; name = n; parameters = parameters; result = result; block = block }) x

pub data Blocked : Spot → Option FunctionBlockTree → Spot → Type 0 where
  blocked : {p q : Spot} {b : FunctionBlockTree} → FunctionBlock p b q → Blocked p (Some b) q

-- in an interface there may be no block
pub data MaybeBlocked : Spot → Option FunctionBlockTree → Spot → Type 0 where
  no_block : {p : Spot} → after s.OpenBrace p ≡ None → MaybeBlocked p None p
  a_block : {p q : Spot} {b : FunctionBlockTree} → FunctionBlock p b q → MaybeBlocked p (Some b) q

abbrev pub ReadsFunction : Spot → FunctionTree → Spot → Type 0
ReadsFunction = FunctionWith Blocked

-- Init = [ view ] init Parameters FunctionBlock
pub data ReadsInit : Spot → InitTree → Spot → Type 0 where
  init : {p q r u : Spot} {is_view : Bool} {parameters : List ParameterTree} {b : FunctionBlockTree}
      → viewed k.Init p ≡ Some (is_view, q) → Parameters q parameters r → FunctionBlock r b u
      → ReadsInit p (record { is_view = is_view; parameters = parameters; block = b }) u

-- a parameter of an event, and a default: of `ResourceDestroyed` each has one, of any other event none
pub data EventParameter : Bool → Spot → EventParameterTree → Spot → Type 0 where
  without_default : {p q : Spot} {x : ParameterTree} → ReadsParameter p x q → EventParameter false p (record { parameter = x; default_value = None }) q
  with_default : {p q r u : Spot} {x : ParameterTree} {e : ExprTree}
      → ReadsParameter p x q → after s.Assign q ≡ Some r → Expression r e u → EventParameter true p (record { parameter = x; default_value = Some e }) u

abbrev pub is_destruction : Name → Bool
is_destruction n = pointwise ◌==◌ n.0 (codes "ResourceDestroyed")

-- event Name "(" parameters ")"
pub data EventHead : Spot → Name → List EventParameterTree → Spot → Type 0 where
  event_head : {p q r u v : Spot} {n : Name} {all : List EventParameterTree}
      → keyword k.Event p ≡ Some q → name q ≡ Some (n, r) → opening s.OpenParenthesis r ≡ Some u
      → Listed (EventParameter (is_destruction n)) s.CloseParenthesis u all v → EventHead p n all (back p v)

-- Event = [ Access ] event Name Parameters; without access `ResourceDestroyed` alone
pub data ReadsEvent : Spot → EventTree → Spot → Type 0 where
  open_event : {p q r : Spot} {c : Access} {n : Name} {all : List EventParameterTree}
      → ReadsAccess p c q → EventHead q n all r → ReadsEvent p (record { access = Some c; name = n; parameters = all }) r
  destruction : {p q : Spot} {n : Name} {all : List EventParameterTree}
      → EventHead p n all q → is_destruction n ≡ true → ReadsEvent p (record { access = None; name = n; parameters = all }) q

pub data ReadsCompositeMember : Spot → CompositeMemberTree → Spot → Type 0 where
  field_member : {p q : Spot} {x : FieldTree} → ReadsField p x q → ReadsCompositeMember p (tree.field x) q
  function_member : {p q : Spot} {x : FunctionTree} → ReadsFunction p x q → ReadsCompositeMember p (tree.function x) q
  init_member : {p q : Spot} {x : InitTree} → ReadsInit p x q → ReadsCompositeMember p (tree.init x) q
  event_member : {p q : Spot} {x : EventTree} → ReadsEvent p x q → ReadsCompositeMember p (tree.event x) q

pub data ReadsInterfaceMember : Spot → InterfaceMemberTree → Spot → Type 0 where
  interface_field : {p q : Spot} {x : FieldTree} → ReadsInterfaceField p x q → ReadsInterfaceMember p (tree.interface_field x) q
  interface_function : {p q : Spot} {x : FunctionTree} → FunctionWith MaybeBlocked p x q → ReadsInterfaceMember p (tree.interface_function x) q

-- ---- declarations of a contract

abbrev pub composite_kind_of : TokenKind → Option CompositeKind
composite_kind_of (kind.Keyword k.Struct) = Some composite_kind.Struct
composite_kind_of (kind.Keyword k.Resource) = Some composite_kind.Resource
composite_kind_of _ = None

-- Dotted { "," Dotted } [ "," ] "{", of which the "{" is passed
pub data Conforms : Spot → List (List Name) → Spot → Type 0 where
  conforms : {p q : Spot} {n : List Name} {all : List (List Name)} → Listed Dotted s.OpenBrace p (n ∷ all) q → Conforms p (n ∷ all) q

-- [ ":" Dotted { "," Dotted } ] "{", of which the "{" opens a nesting
pub data Conforming : Spot → List (List Name) → Spot → Type 0 where
  to_nothing : {p q : Spot} → opening s.OpenBrace p ≡ Some q → Conforming p [] q
  to_these : {p q r u : Spot} {all : List (List Name)} → after s.Colon p ≡ Some q → Conforms q all r → opened r ≡ Some u → Conforming p all u

-- Access ( struct | resource ) Name [ ":" Dotted { "," Dotted } ] "{" { member } "}"
pub data ReadsComposite : Spot → CompositeTree → Spot → Type 0 where
  composite : {p q r u v w : Spot} {c : Access} {kind : CompositeKind} {n : Name} {conformances : List (List Name)} {members : List CompositeMemberTree}
      → ReadsAccess p c q → read composite_kind_of q ≡ Some (kind, r) → name r ≡ Some (n, u) → Conforming u conformances v
      → Repeated ReadsCompositeMember s.CloseBrace v members w
      → ReadsComposite p (record { access = c; kind = kind; name = n; conformances = conformances; members = members }) (back p w)

-- Access ( struct | resource ) interface Name [ ":" Dotted { "," Dotted } ] "{" { member } "}"
pub data ReadsInterface : Spot → InterfaceTree → Spot → Type 0 where
  interface : {p q r u v w x : Spot} {c : Access} {kind : CompositeKind} {n : Name} {conformances : List (List Name)} {members : List InterfaceMemberTree}
      → ReadsAccess p c q → read composite_kind_of q ≡ Some (kind, r) → keyword k.Interface r ≡ Some u → name u ≡ Some (n, v) → Conforming v conformances w
      → Repeated ReadsInterfaceMember s.CloseBrace w members x
      → ReadsInterface p (record { access = c; kind = kind; name = n; conformances = conformances; members = members }) (back p x)

-- Access case Name
pub data ReadsEnumCase : Spot → EnumCase → Spot → Type 0 where
  enum_case : {p q r u : Spot} {c : Access} {n : Name}
      → ReadsAccess p c q → keyword k.Case q ≡ Some r → name r ≡ Some (n, u) → ReadsEnumCase p (record { access = c; name = n }) u

-- Access enum Name ":" Dotted "{" { case } "}"
pub data ReadsEnum : Spot → EnumTree → Spot → Type 0 where
  enumeration : {p q r u v w x y : Spot} {c : Access} {n : Name} {raw : List Name} {cases : List EnumCase}
      → ReadsAccess p c q → keyword k.Enum q ≡ Some r → name r ≡ Some (n, u) → after s.Colon u ≡ Some v → Dotted v raw w
      → opening s.OpenBrace w ≡ Some x → Repeated ReadsEnumCase s.CloseBrace x cases y
      → ReadsEnum p (record { access = c; name = n; raw = raw; cases = cases }) (back p y)

-- mapping Name "{", of which the "{" opens a nesting
unfoldable pub mapping_head : Spot → Option (Name × Spot)
mapping_head p = word (codes "mapping") p >>= (λ q. name q >>= (λ x. opening s.OpenBrace x.1 >>= (λ r. Some (x.0, r))))

-- Access entitlement Name, where what follows `entitlement` is no head of a mapping
pub data ReadsEntitlement : Spot → Entitlement → Spot → Type 0 where
  entitlement : {p q r u : Spot} {c : Access} {n : Name}
      → ReadsAccess p c q → word (codes "entitlement") q ≡ Some r → mapping_head r ≡ None → name r ≡ Some (n, u)
      → ReadsEntitlement p (record { access = c; name = n }) u

-- include Identity | Dotted "->" Dotted
pub data ReadsMappingItem : Spot → MappingItem → Spot → Type 0 where
  identity : {p q r : Spot} → word (codes "include") p ≡ Some q → word (codes "Identity") q ≡ Some r → ReadsMappingItem p mapping_item.Identity r
  pair : {p q r u : Spot} {from to : List Name}
      → Dotted p from q → after s.Arrow q ≡ Some r → Dotted r to u → ReadsMappingItem p (mapping_item.Pair from to) u

-- Access entitlement mapping Name "{" { item } "}"
pub data ReadsMapping : Spot → MappingTree → Spot → Type 0 where
  mapping : {p q r u v : Spot} {c : Access} {n : Name} {items : List MappingItem}
      → ReadsAccess p c q → word (codes "entitlement") q ≡ Some r → mapping_head r ≡ Some (n, u) → Repeated ReadsMappingItem s.CloseBrace u items v
      → ReadsMapping p (record { access = c; name = n; items = items }) (back p v)

pub data ReadsContractMember : Spot → ContractMemberTree → Spot → Type 0 where
  contract_field : {p q : Spot} {x : FieldTree} → ReadsField p x q → ReadsContractMember p (tree.contract_field x) q
  contract_function : {p q : Spot} {x : FunctionTree} → ReadsFunction p x q → ReadsContractMember p (tree.contract_function x) q
  contract_init : {p q : Spot} {x : InitTree} → ReadsInit p x q → ReadsContractMember p (tree.contract_init x) q
  contract_composite : {p q : Spot} {x : CompositeTree} → ReadsComposite p x q → ReadsContractMember p (tree.composite x) q
  contract_interface : {p q : Spot} {x : InterfaceTree} → ReadsInterface p x q → ReadsContractMember p (tree.interface x) q
  contract_event : {p q : Spot} {x : EventTree} → ReadsEvent p x q → ReadsContractMember p (tree.contract_event x) q
  contract_enum : {p q : Spot} {x : EnumTree} → ReadsEnum p x q → ReadsContractMember p (tree.enumeration x) q
  contract_entitlement : {p q : Spot} {x : Entitlement} → ReadsEntitlement p x q → ReadsContractMember p (tree.entitlement x) q
  contract_mapping : {p q : Spot} {x : MappingTree} → ReadsMapping p x q → ReadsContractMember p (tree.mapping x) q

-- Access contract Name "{" { member } "}"
pub data ReadsContract : Spot → ContractTree → Spot → Type 0 where
  contract : {p q r u v w : Spot} {c : Access} {n : Name} {members : List ContractMemberTree}
      → ReadsAccess p c q → keyword k.Contract q ≡ Some r → name r ≡ Some (n, u) → opening s.OpenBrace u ≡ Some v
      → Repeated ReadsContractMember s.CloseBrace v members w
      → ReadsContract p (record { access = c; name = n; members = members }) (back p w)

-- ---- transactions

pub data Fields : Spot → List TransactionFieldTree → Spot → Type 0 where
  no_field : {p : Spot} → variable_word p ≡ None → Fields p [] p
  more_fields : {p q r : Spot} {kind : VariableKind} {n : Name} {a : Annotation} {all : List TransactionFieldTree}
      → Typed p kind n a q → Fields q all r → Fields p (record { kind = kind; name = n; annotation = a } ∷ all) r

-- Parameters Block
pub data Prepares : Spot → PrepareTree → Spot → Type 0 where
  prepares : {p q r : Spot} {all : List ParameterTree} {body : List StmtTree}
      → Parameters p all q → Block q body r → Prepares p (record { parameters = all; body = body }) r

-- [ Parameters ]
pub data MaybeParameters : Spot → Option (List ParameterTree) → Spot → Type 0 where
  no_parameters : {p : Spot} → after s.OpenParenthesis p ≡ None → MaybeParameters p None p
  some_parameters : {p q : Spot} {all : List ParameterTree} → Parameters p all q → MaybeParameters p (Some all) q

-- transaction [ Parameters ] "{" { field } [ prepare Parameters Block ] [ pre Conditions ] [ execute Block ] [ post Conditions ] "}"
pub data ReadsTransaction : Spot → TransactionTree → Spot → Type 0 where
  transaction : {p q r u v w x y z end : Spot} {parameters : Option (List ParameterTree)} {fields : List TransactionFieldTree}
      {prepare : Option PrepareTree} {pre post : Option (List ConditionTree)} {execute : Option (List StmtTree)}
      → keyword k.Transaction p ≡ Some q → MaybeParameters q parameters r → opening s.OpenBrace r ≡ Some u → Fields u fields v
      → Maybe (keyword k.Prepare) Prepares v prepare w → Pre w pre x → Maybe (keyword k.Execute) Block x execute y → Post y post z
      → after s.CloseBrace z ≡ Some end
      → ReadsTransaction p (record { parameters = parameters; fields = fields; prepare = prepare; pre = pre; execute = execute; post = post }) (back p end)

-- ---- programs

pub data ReadsDecl : Spot → DeclTree → Spot → Type 0 where
  contract_decl : {p q : Spot} {x : ContractTree} → ReadsContract p x q → ReadsDecl p (tree.contract x) q
  function_decl : {p q : Spot} {x : FunctionTree} → ReadsFunction p x q → ReadsDecl p (tree.top_function x) q
  transaction_decl : {p q : Spot} {x : TransactionTree} → ReadsTransaction p x q → ReadsDecl p (tree.transaction x) q

-- a hexadecimal literal
abbrev pub hexadecimal_of : TokenKind → Option ℕ
hexadecimal_of (kind.Whole value true) = Some value
hexadecimal_of _ = None

-- `from` and a hexadecimal literal
unfoldable pub origin : Spot → Option (ℕ × Spot)
origin p = word (codes "from") p >>= read hexadecimal_of

-- { "," Name } [ "," ] from Whole; behind a comma `from` is the word exactly where a literal follows it
pub data ImportedNames : Spot → List Name → ℕ → Spot → Type 0 where
  from_there : {p q : Spot} {address : ℕ} → origin p ≡ Some (address, q) → ImportedNames p [] address q
  last_comma : {p q r : Spot} {address : ℕ} → after s.Comma p ≡ Some q → origin q ≡ Some (address, r) → ImportedNames p [] address r
  and_name : {p q r u : Spot} {n : Name} {names : List Name} {address : ℕ}
      → after s.Comma p ≡ Some q → origin q ≡ None → name q ≡ Some (n, r) → ImportedNames r names address u
      → ImportedNames p (n ∷ names) address u

-- Import = import Name { "," Name } from Whole
pub data ReadsImport : Spot → Import → Spot → Type 0 where
  import : {p q r u : Spot} {n : Name} {names : List Name} {address : ℕ}
      → keyword k.Import p ≡ Some q → name q ≡ Some (n, r) → ImportedNames r names address u
      → ReadsImport p (record { names = n ∷ names; address = address }) u

pub data Chain {A : Type 0} (Item : Spot → A → Spot → Type 0) : Spot → List A → Spot → Type 0 where
  end : {p : Spot} → Chain Item p [] p
  link : {p q r : Spot} {a : A} {all : List A} → Item p a q → Chain Item q all r → Chain Item p (a ∷ all) r

-- Program = { Import } { Contract | Function | Transaction }
pub data ReadsProgram : Spot → ProgramTree → Spot → Type 0 where
  program : {p q r : Spot} {imports : List Import} {declarations : List DeclTree}
      → Chain ReadsImport p imports q → Chain ReadsDecl q declarations r
      → ReadsProgram p (record { imports = imports; declarations = declarations }) r

-- at the start of all tokens, with 128 nestings to open
abbrev pub begin : List Token → Spot
begin tokens = record { left = 128; after_name = false; tokens = tokens }

-- These tokens spell the program.
pub data Spells (tokens : List Token) (program : ProgramTree) : Type 0 where
  spells : {end : Spot} → ReadsProgram (begin tokens) program end → end.tokens ≡ [] → Spells tokens program
