-- Reading declarations and programs as a function of the spot.
use Rattle.std.specs.Prelude.{ℕ, zero, suc, Bool, true, false, if◌then◌else◌, List, [], ◌∷◌, ◌++◌, length, codes, Option, Some, None}
use Rattle.cad_grammar.specs.declared.token.Sign.TheVariants as s
use Rattle.cad_syntax.specs.declared.keyword.Keyword.TheVariants as k
use Rattle.cad_syntax.specs.declared.text.Name.{Name}
use Rattle.cad_grammar.specs.declared.statement.VariableKind.{VariableKind}
use Rattle.cad_grammar.specs.declared.declaration.Access.{Access}
use Rattle.cad_grammar.specs.declared.declaration.CompositeKind.{CompositeKind}
use Rattle.cad_grammar.specs.declared.declaration.EnumCase.{EnumCase}
use Rattle.cad_grammar.specs.declared.declaration.Entitlement.{Entitlement}
use Rattle.cad_grammar.specs.declared.declaration.MappingItem.{MappingItem}
use Rattle.cad_grammar.specs.declared.declaration.MappingItem.TheVariants as mapping_item
use Rattle.cad_grammar.specs.declared.declaration.Import.{Import}
use Rattle.cad_grammar.specs.Trees as tree
use Rattle.cad_grammar.specs.Trees.{Annotation, StmtTree, ParameterTree, ConditionTree, FunctionBlockTree, FunctionTree, InitTree, FieldTree, EventParameterTree, EventTree}
use Rattle.cad_grammar.specs.Trees.{CompositeMemberTree, CompositeTree, InterfaceMemberTree, InterfaceTree, EnumTree, MappingTree, ContractMemberTree, ContractTree}
use Rattle.cad_grammar.specs.Trees.{TransactionFieldTree, PrepareTree, TransactionTree, DeclTree, ProgramTree}
use Rattle.cad_grammar.specs.Spots.{Spot, back, read, then, ◌>>=◌, either, after, keyword, word, name, opened, opening}
use Rattle.cad_grammar.specs.StatementGrammar.{variable_word}
use Rattle.cad_grammar.specs.ProgramGrammar.{viewed, is_destruction, composite_kind_of, mapping_head, origin}
use Rattle.cad_parse_type.specs.Code.Reading.{Reader, listed, maybe, dotted, dotted_list, annotation}
use Rattle.cad_parse_expr.specs.Code.Reading.{expression}
use Rattle.cad_parse_statement.specs.Code.Reading.{maybe_annotated, block_in}
use Rattle.cad_parse.specs.Code.Parts.{repeated, chain, accessed, labelled, parameter, parameters, conditions_behind, function_block}

-- ---- functions

unfoldable pub blocked : Reader (Option FunctionBlockTree)
blocked p = function_block p >>= (λ b. Some (Some b.0, b.1))

unfoldable pub maybe_blocked : Reader (Option FunctionBlockTree)
maybe_blocked p = either (after s.OpenBrace p) (λ q. blocked p) (Some (None, p))

-- the block of a function in an interface, or elsewhere
unfoldable pub block_of : Bool → Reader (Option FunctionBlockTree)
block_of in_interface p = if in_interface then maybe_blocked p else blocked p

-- behind the `fun`
unfoldable pub function_body : Bool → Reader ((Name × List ParameterTree) × (Option Annotation × Option FunctionBlockTree))
function_body in_interface p = do
  n ← name p
  all ← parameters n.1
  a ← maybe_annotated all.1
  b ← block_of in_interface a.1
  Some (((n.0, all.0), (a.0, b.0)), b.1)

-- behind the access c
unfoldable pub function_with : Bool → Access → Reader FunctionTree
function_with in_interface c p = do
  v ← viewed k.Fun p
  n ← name v.1
  all ← parameters n.1
  a ← maybe_annotated all.1
  b ← block_of in_interface a.1
  Some (record { access = c; is_view = v.0; name = n.0; parameters = all.0; result = a.0; block = b.0 }, b.1)

abbrev pub function : Access → Reader FunctionTree
function = function_with false

-- behind `init`
unfoldable pub initializer : Bool → Reader InitTree
initializer is_view p = do
  all ← parameters p
  b ← function_block all.1
  Some (record { is_view = is_view; parameters = all.0; block = b.0 }, b.1)

-- ---- fields and events

-- behind the access and `let` or `var`
unfoldable pub field : Access → VariableKind → Reader FieldTree
field c kind p = do
  n ← labelled p
  a ← annotation n.1
  Some (record { access = c; kind = Some kind; name = n.0; annotation = a.0 }, a.1)

-- a default, which each parameter has or none
unfoldable pub event_parameter : Bool → Reader EventParameterTree
event_parameter has_default p = do
  x ← parameter p
  if has_default then (do
    q ← after s.Assign x.1
    e ← expression q
    Some (record { parameter = x.0; default_value = Some e.0 }, e.1)) else Some (record { parameter = x.0; default_value = None }, x.1)

-- up to the ")"
abbrev pub event_parameter_list : Bool → Reader (List EventParameterTree)
event_parameter_list has_default p = listed (event_parameter has_default) s.CloseParenthesis (length p.tokens) [] p

unfoldable pub event_parameters : Bool → Reader (List EventParameterTree)
event_parameters has_default p = do
  q ← opening s.OpenParenthesis p
  all ← event_parameter_list has_default q
  Some (all.0, back p all.1)

-- behind the access and `event`; at the spot `from` stands `event`
unfoldable pub event : Spot → Access → Reader EventTree
event from c p = do
  n ← name p
  all ← event_parameters (is_destruction n.0) n.1
  Some (record { access = Some c; name = n.0; parameters = all.0 }, back from all.1)

-- behind an `event` without access
unfoldable pub destruction : Spot → Reader EventTree
destruction from p = do
  n ← name p
  if is_destruction n.0 then (do
    all ← event_parameters true n.1
    Some (record { access = None; name = n.0; parameters = all.0 }, back from all.1)) else None

-- ---- composites and interfaces

-- behind the access c
unfoldable pub composite_member_with : Access → Reader CompositeMemberTree
composite_member_with c p = either (variable_word p) (λ x. field c x.0 x.1 >>= (λ y. Some (tree.field y.0, y.1)))
    (either (keyword k.Event p) (λ q. event p c q >>= (λ y. Some (tree.event y.0, y.1)))
    (function c p >>= (λ y. Some (tree.function y.0, y.1))))

unfoldable pub composite_member : Reader CompositeMemberTree
composite_member p = either (accessed p) (λ c. composite_member_with c.0 c.1)
    (either (keyword k.Event p) (λ q. destruction p q >>= (λ y. Some (tree.event y.0, y.1)))
    (viewed k.Init p >>= (λ v. initializer v.0 v.1 >>= (λ y. Some (tree.init y.0, y.1)))))

-- up to the "}"
abbrev pub composite_members : Reader (List CompositeMemberTree)
composite_members p = repeated composite_member s.CloseBrace (length p.tokens) [] p

-- an interface's field of no sort, behind its name and ":"
unfoldable pub unsorted : Access → Name → Reader InterfaceMemberTree
unsorted c n p = do
  a ← annotation p
  Some (tree.interface_field (record { access = c; kind = None; name = n; annotation = a.0 }), a.1)

-- behind the access c
unfoldable pub interface_member_with : Access → Reader InterfaceMemberTree
interface_member_with c p = either (variable_word p) (λ x. field c x.0 x.1 >>= (λ y. Some (tree.interface_field y.0, y.1)))
    (either (labelled p) (λ n. unsorted c n.0 n.1)
    (function_with true c p >>= (λ y. Some (tree.interface_function y.0, y.1))))

unfoldable pub interface_member : Reader InterfaceMemberTree
interface_member p = accessed p >>= (λ c. interface_member_with c.0 c.1)

abbrev pub interface_members : Reader (List InterfaceMemberTree)
interface_members p = repeated interface_member s.CloseBrace (length p.tokens) [] p

-- behind ":"
unfoldable pub conforms : Reader (List (List Name))
conforms p = do
  all ← dotted_list s.OpenBrace p
  q ← opened all.1
  Some (all.0, q)

-- up to the "{", which opens a nesting
unfoldable pub conforming : Reader (List (List Name))
conforming p = either (after s.Colon p) conforms (opening s.OpenBrace p >>= (λ q. Some ([], q)))

-- behind a composite's name, up to the "}"
unfoldable pub composite_body : Reader (List (List Name) × List CompositeMemberTree)
composite_body p = do
  x ← conforming p
  all ← composite_members x.1
  Some ((x.0, all.0), all.1)

-- behind the access c, which stands at `from`, and `struct` or `resource`
unfoldable pub composite : Spot → Access → CompositeKind → Reader CompositeTree
composite from c kind p = do
  n ← name p
  x ← conforming n.1
  all ← composite_members x.1
  Some (record { access = c; kind = kind; name = n.0; conformances = x.0; members = all.0 }, back from all.1)

-- behind an interface's name, up to the "}"
unfoldable pub interface_body : Reader (List (List Name) × List InterfaceMemberTree)
interface_body p = do
  x ← conforming p
  all ← interface_members x.1
  Some ((x.0, all.0), all.1)

-- behind `interface`
unfoldable pub interface : Spot → Access → CompositeKind → Reader InterfaceTree
interface from c kind p = do
  n ← name p
  x ← conforming n.1
  all ← interface_members x.1
  Some (record { access = c; kind = kind; name = n.0; conformances = x.0; members = all.0 }, back from all.1)

-- ---- enums, entitlements and mappings

unfoldable pub enum_case : Reader EnumCase
enum_case p = do
  c ← accessed p
  q ← keyword k.Case c.1
  n ← name q
  Some (record { access = c.0; name = n.0 }, n.1)

abbrev pub enum_cases : Reader (List EnumCase)
enum_cases p = repeated enum_case s.CloseBrace (length p.tokens) [] p

-- behind an enum's name and ":", up to the "}"
unfoldable pub enum_body : Reader (List Name × List EnumCase)
enum_body p = do
  raw ← dotted p
  q ← opening s.OpenBrace raw.1
  all ← enum_cases q
  Some ((raw.0, all.0), all.1)

-- behind `enum`
unfoldable pub enumeration : Spot → Access → Reader EnumTree
enumeration from c p = do
  n ← labelled p
  raw ← dotted n.1
  q ← opening s.OpenBrace raw.1
  all ← enum_cases q
  Some (record { access = c; name = n.0; raw = raw.0; cases = all.0 }, back from all.1)

unfoldable pub identity : Spot → Option Spot
identity p = word (codes "include") p >>= word (codes "Identity")

unfoldable pub pair : Reader MappingItem
pair p = do
  from ← dotted p
  q ← after s.Arrow from.1
  to ← dotted q
  Some (mapping_item.Pair from.0 to.0, to.1)

unfoldable pub mapping_entry : Reader MappingItem
mapping_entry p = either (identity p) (λ q. Some (mapping_item.Identity, q)) (pair p)

abbrev pub mapping_entries : Reader (List MappingItem)
mapping_entries p = repeated mapping_entry s.CloseBrace (length p.tokens) [] p

-- behind the head of a mapping
unfoldable pub mapping : Spot → Access → Name → Reader MappingTree
mapping from c n p = do
  all ← mapping_entries p
  Some (record { access = c; name = n; items = all.0 }, back from all.1)

unfoldable pub entitlement : Access → Reader Entitlement
entitlement c p = do
  n ← name p
  Some (record { access = c; name = n.0 }, n.1)

-- behind `entitlement`
unfoldable pub entitling : Spot → Access → Reader ContractMemberTree
entitling from c p = either (mapping_head p) (λ n. mapping from c n.0 n.1 >>= (λ y. Some (tree.mapping y.0, y.1)))
    (entitlement c p >>= (λ y. Some (tree.entitlement y.0, y.1)))

-- ---- contracts

-- behind `struct` or `resource`
unfoldable pub composing : Spot → Access → CompositeKind → Reader ContractMemberTree
composing from c kind p = either (keyword k.Interface p) (λ q. interface from c kind q >>= (λ y. Some (tree.interface y.0, y.1)))
    (composite from c kind p >>= (λ y. Some (tree.composite y.0, y.1)))

-- behind the access c, which stands at `from`
unfoldable pub contract_member_with : Spot → Access → Reader ContractMemberTree
contract_member_with from c p = either (variable_word p) (λ x. field c x.0 x.1 >>= (λ y. Some (tree.contract_field y.0, y.1)))
    (either (read composite_kind_of p) (λ x. composing from c x.0 x.1)
    (either (keyword k.Event p) (λ q. event p c q >>= (λ y. Some (tree.contract_event y.0, y.1)))
    (either (keyword k.Enum p) (λ q. enumeration from c q >>= (λ y. Some (tree.enumeration y.0, y.1)))
    (either (word (codes "entitlement") p) (entitling from c)
    (function c p >>= (λ y. Some (tree.contract_function y.0, y.1)))))))

unfoldable pub contract_member : Reader ContractMemberTree
contract_member p = either (accessed p) (λ c. contract_member_with p c.0 c.1)
    (either (keyword k.Event p) (λ q. destruction p q >>= (λ y. Some (tree.contract_event y.0, y.1)))
    (viewed k.Init p >>= (λ v. initializer v.0 v.1 >>= (λ y. Some (tree.contract_init y.0, y.1)))))

abbrev pub contract_members : Reader (List ContractMemberTree)
contract_members p = repeated contract_member s.CloseBrace (length p.tokens) [] p

-- behind `contract`
unfoldable pub contract : Spot → Access → Reader ContractTree
contract from c p = do
  n ← name p
  q ← opening s.OpenBrace n.1
  all ← contract_members q
  Some (record { access = c; name = n.0; members = all.0 }, back from all.1)

-- ---- transactions

-- behind `let` or `var`
unfoldable pub transaction_field : VariableKind → Reader TransactionFieldTree
transaction_field kind p = do
  n ← labelled p
  a ← annotation n.1
  Some (record { kind = kind; name = n.0; annotation = a.0 }, a.1)

unfoldable pub fields : ℕ → List TransactionFieldTree → Reader (List TransactionFieldTree)
fields zero found p = Some (found, p)
fields (suc turns) found p = either (variable_word p) (λ x. do
  f ← transaction_field x.0 x.1
  fields turns (found ++ f.0 ∷ []) f.1) (Some (found, p))

abbrev pub field_list : Reader (List TransactionFieldTree)
field_list p = fields (length p.tokens) [] p

unfoldable pub maybe_parameters : Reader (Option (List ParameterTree))
maybe_parameters p = either (after s.OpenParenthesis p) (λ q. parameters p >>= (λ x. Some (Some x.0, x.1))) (Some (None, p))

-- behind `prepare`
unfoldable pub prepared : Reader PrepareTree
prepared p = do
  all ← parameters p
  b ← block_in all.1
  Some (record { parameters = all.0; body = b.0 }, b.1)

unfoldable pub prepare : Reader (Option PrepareTree)
prepare = maybe (keyword k.Prepare) prepared

unfoldable pub execute : Reader (Option (List StmtTree))
execute = maybe (keyword k.Execute) block_in

-- behind `prepare`, up to the "}"
unfoldable pub phases : Reader ((Option (List ConditionTree) × Option (List StmtTree)) × Option (List ConditionTree))
phases p = do
  a ← conditions_behind k.Pre p
  z ← execute a.1
  b ← conditions_behind k.Post z.1
  r ← after s.CloseBrace b.1
  Some (((a.0, z.0), b.0), r)

-- behind the "{", up to the "}"
unfoldable pub transaction_body : Reader ((List TransactionFieldTree × Option PrepareTree) × ((Option (List ConditionTree) × Option (List StmtTree)) × Option (List ConditionTree)))
transaction_body p = do
  f ← field_list p
  y ← prepare f.1
  z ← phases y.1
  Some (((f.0, y.0), z.0), z.1)

-- behind `transaction`
unfoldable pub transaction : Spot → Reader TransactionTree
transaction from p = do
  x ← maybe_parameters p
  q ← opening s.OpenBrace x.1
  f ← field_list q
  y ← prepare f.1
  a ← conditions_behind k.Pre y.1
  z ← execute a.1
  b ← conditions_behind k.Post z.1
  r ← after s.CloseBrace b.1
  Some (record { parameters = x.0; fields = f.0; prepare = y.0; pre = a.0; execute = z.0; post = b.0 }, back from r)

-- ---- programs

-- behind the access c, which stands at `from`
unfoldable pub accessed_declaration : Spot → Access → Reader DeclTree
accessed_declaration from c p = either (keyword k.Contract p) (λ q. contract from c q >>= (λ y. Some (tree.contract y.0, y.1)))
    (function c p >>= (λ y. Some (tree.top_function y.0, y.1)))

unfoldable pub declaration : Reader DeclTree
declaration p = either (keyword k.Transaction p) (λ q. transaction p q >>= (λ y. Some (tree.transaction y.0, y.1)))
    (accessed p >>= (λ c. accessed_declaration p c.0 c.1))

-- the names of an import up to its address, behind those that were found
unfoldable pub imported : ℕ → List Name → Reader Import
imported zero found p = None
imported (suc turns) found p = either (origin p) (λ x. Some (record { names = found; address = x.0 }, x.1)) (do
  q ← after s.Comma p
  either (origin q) (λ x. Some (record { names = found; address = x.0 }, x.1)) (do
    n ← name q
    imported turns (found ++ n.0 ∷ []) n.1))

unfoldable pub import : Reader Import
import p = do
  q ← keyword k.Import p
  n ← name q
  imported (length n.1.tokens) (n.0 ∷ []) n.1

abbrev pub imports : Reader (List Import)
imports p = chain import (length p.tokens) [] p

abbrev pub declarations : Reader (List DeclTree)
declarations p = chain declaration (length p.tokens) [] p

-- the longest program from here on
unfoldable pub program : Reader ProgramTree
program p = do
  i ← imports p
  d ← declarations i.1
  Some (record { imports = i.0; declarations = d.0 }, d.1)
