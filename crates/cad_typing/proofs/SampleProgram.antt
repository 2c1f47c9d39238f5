-- A contract, and where expressions stand beside it and inside it, for samples.
use Rattle.std.specs.Prelude.{ℕ, zero, suc, Bool, true, false, Option, Some, None, List, [], ◌∷◌, codes, map, option_map, Result, Ok, Err}
use Rattle.cad_syntax.specs.Types.{PureType, basic, optional, array, dictionary, intersection, declared, reference, capability, capability_of}
use Rattle.cad_syntax.specs.declared.text.Name.{Name}
use Rattle.cad_syntax.specs.declared.address.Domain.TheVariants as domain
use Rattle.cad_syntax.specs.declared.type_id.TypeId.{TypeId}
use Rattle.cad_syntax.specs.declared.kind.Kind.TheVariants as k
use Rattle.cad_syntax.specs.declared.types.Basic.TheVariants as b
use Rattle.cad_syntax.specs.declared.types.Authorization.TheVariants as a
use Rattle.cad_grammar.specs.Trees as s
use Rattle.cad_grammar.specs.declared.type_expr.Entitlements.TheVariants as w
use Rattle.cad_grammar.specs.declared.expression.UnaryOperator.TheVariants as un
use Rattle.cad_grammar.specs.declared.expression.BinaryOperator.TheVariants as bi
use Rattle.cad_grammar.specs.declared.statement.VariableKind.TheVariants as wo
use Rattle.cad_grammar.specs.declared.statement.Transfer.TheVariants as tr
use Rattle.cad_grammar.specs.declared.declaration.Access.TheVariants as ac
use Rattle.cad_grammar.specs.declared.declaration.CompositeKind.TheVariants as ck
use Rattle.cad_grammar.specs.declared.declaration.MappingItem.TheVariants as mi
use Rattle.cad_types.specs.Optionals.{fits}
use Rattle.cad_declarations.specs.Build.{build}
use Rattle.cad_declarations.specs.Imports.{contract_entry, contract_id}
use Rattle.cad_declarations.specs.Names.{built_in}
use Rattle.cad_declarations.specs.Tables.{ProgramTables}
use Rattle.cad_declarations.specs.Typed as e
use Rattle.cad_declarations.specs.declared.stop.Stop.{Stop}
use Rattle.cad_typing.specs.Environments.{Environment, Local, function_body, initializer_body, prepare_body, execute_body, postcondition, ordinary, kinds, when, ◌>=>◌}
use Rattle.cad_typing.specs.Expressions.{infer}
use Rattle.cad_typing.specs.Places.{infer_declared, infer_target, infer_event}

abbrev pub n : List ℕ → Name
n text = record { 0 = text }

abbrev pub v : List ℕ → s.ExprTree
v text = s.name (n text)

abbrev pub an : Bool → s.TypeTree → s.Annotation
an is_resource t = record { is_resource = is_resource; written = t }

abbrev pub storage_path : List ℕ → s.ExprTree
storage_path text = s.path (record { domain = domain.Storage; identifier = n text })

abbrev pub public_path : List ℕ → s.ExprTree
public_path text = s.path (record { domain = domain.Public; identifier = n text })

-- The contract:
--
-- access(all) contract C {
--   access(all) entitlement E
--   access(all) entitlement F
--   access(all) entitlement G
--   access(all) entitlement mapping M { E -> F }
--   access(all) entitlement mapping D {
--     E -> E
--     E -> F
--     G -> G
--   }
--   access(all) enum Color: UInt8 {
--     access(all) case red
--     access(all) case blue
--   }
--   access(all) event Ev(n: Int)
--   access(all) struct interface SI {
--     access(all) fun si(): Int
--     access(self) fun quiet(): Int { return 1 }
--   }
--   access(all) resource interface RI {
--     access(all) var n: Int
--   }
--   access(all) struct P {
--     access(all) var m: Int
--     init() { self.m = 1 }
--     access(F) fun f(): Int { return 1 }
--     access(all) fun set(_ m: Int) { self.m = m }
--   }
--   access(all) struct S: SI {
--     access(all) var n: Int
--     access(all) let list: [Int]
--     access(all) let any: AnyStruct
--     access(all) let color: Color
--     access(all) var inner: P
--     access(all) var maybe: P?
--     access(mapping M) let mapped: P
--     access(mapping M) let number: Int
--     access(E) let secret: Int
--     access(self) let own: Int
--     access(contract) let con: Int
--     access(account) let acc: Int
--     init(n: Int) {
--       self.n = n
--       self.list = [n]
--       self.any = n
--       self.color = Color.red
--       self.inner = P()
--       self.maybe = nil
--       self.mapped = P()
--       self.number = n
--       self.secret = n
--       self.own = n
--       self.con = n
--       self.acc = n
--     }
--     access(all) fun si(): Int { return self.n }
--     access(all) view fun add(_ a: Int, to b: Int, c: Int): Int { return a + b + c }
--     access(E) fun guarded(): Int { return 1 }
--     access(E | F) fun either(): Int { return 1 }
--     access(mapping M) fun image(): Int { return 1 }
--     access(mapping D) fun two(): Int { return 1 }
--     access(all) fun opt(): Int? { return nil }
--     access(all) fun stop(): Never { panic("") }
--     access(self) fun hidden(): Int { return 1 }
--   }
--   access(all) resource R: RI {
--     access(all) var n: Int
--     access(all) var child: @R?
--     access(all) let list: @[R]
--     access(all) let map: @{String: R}
--     init(n: Int) {
--       self.n = n
--       self.child <- nil
--       self.list <- []
--       self.map <- {}
--     }
--     access(all) fun eat(_ r: @R): Int {
--       destroy r
--       return 1
--     }
--     access(all) fun give(): @R? { return nil }
--   }
--   access(all) var count: Int
--   access(all) var table: {String: Int}
--   access(all) fun make(): @R { return <-create R(n: 1) }
--   access(all) fun maybe(): @R? { return nil }
--   access(all) fun fresh(): S { return S(n: 1) }
--   init() {
--     self.count = 0
--     self.table = {}
--   }
-- }
abbrev pub contract_tree : s.ProgramTree
contract_tree = record { imports = ([]); declarations = ((s.contract (record { access = ac.All; name = (n (codes "C")); members = ((s.entitlement (record { access = ac.All; name = (n (codes "E")) })) ∷ (s.entitlement (record { access = ac.All; name = (n (codes "F")) })) ∷ (s.entitlement (record { access = ac.All; name = (n (codes "G")) })) ∷ (s.mapping (record { access = ac.All; name = (n (codes "M")); items = ((mi.Pair ((n (codes "E")) ∷ []) ((n (codes "F")) ∷ [])) ∷ []) })) ∷ (s.mapping (record { access = ac.All; name = (n (codes "D")); items = ((mi.Pair ((n (codes "E")) ∷ []) ((n (codes "E")) ∷ [])) ∷ (mi.Pair ((n (codes "E")) ∷ []) ((n (codes "F")) ∷ [])) ∷ (mi.Pair ((n (codes "G")) ∷ []) ((n (codes "G")) ∷ [])) ∷ []) })) ∷ (s.enumeration (record { access = ac.All; name = (n (codes "Color")); raw = ((n (codes "UInt8")) ∷ []); cases = (record { access = ac.All; name = (n (codes "red")) } ∷ record { access = ac.All; name = (n (codes "blue")) } ∷ []) })) ∷ (s.contract_event (record { access = (Some ac.All); name = (n (codes "Ev")); parameters = (record { parameter = record { label = None; name = (n (codes "n")); annotation = (an false (s.named ((n (codes "Int")) ∷ []) s.no_annotations)) }; default_value = None } ∷ []) })) ∷ (s.interface (record { access = ac.All; kind = ck.Struct; name = (n (codes "SI")); conformances = ([]); members = ((s.interface_function (record { access = ac.All; is_view = false; name = (n (codes "si")); parameters = ([]); result = (Some (an false (s.named ((n (codes "Int")) ∷ []) s.no_annotations))); block = None })) ∷ (s.interface_function (record { access = ac.Self_; is_view = false; name = (n (codes "quiet")); parameters = ([]); result = (Some (an false (s.named ((n (codes "Int")) ∷ []) s.no_annotations))); block = (Some (record { pre = None; post = None; body = ((s.return_value (Some (s.whole 1 false))) ∷ []) })) })) ∷ []) })) ∷ (s.interface (record { access = ac.All; kind = ck.Resource; name = (n (codes "RI")); conformances = ([]); members = ((s.interface_field (record { access = ac.All; kind = (Some wo.Var); name = (n (codes "n")); annotation = (an false (s.named ((n (codes "Int")) ∷ []) s.no_annotations)) })) ∷ []) })) ∷ (s.composite (record { access = ac.All; kind = ck.Struct; name = (n (codes "P")); conformances = ([]); members = ((s.field (record { access = ac.All; kind = (Some wo.Var); name = (n (codes "m")); annotation = (an false (s.named ((n (codes "Int")) ∷ []) s.no_annotations)) })) ∷ (s.init (record { is_view = false; parameters = ([]); block = (record { pre = None; post = None; body = ((s.assignment (s.member s.self (n (codes "m"))) tr.Copy (s.whole 1 false)) ∷ []) }) })) ∷ (s.function (record { access = (ac.Entitled (w.All (((n (codes "F")) ∷ []) ∷ []))); is_view = false; name = (n (codes "f")); parameters = ([]); result = (Some (an false (s.named ((n (codes "Int")) ∷ []) s.no_annotations))); block = (Some (record { pre = None; post = None; body = ((s.return_value (Some (s.whole 1 false))) ∷ []) })) })) ∷ (s.function (record { access = ac.All; is_view = false; name = (n (codes "set")); parameters = (record { label = (Some (n (codes "_"))); name = (n (codes "m")); annotation = (an false (s.named ((n (codes "Int")) ∷ []) s.no_annotations)) } ∷ []); result = None; block = (Some (record { pre = None; post = None; body = ((s.assignment (s.member s.self (n (codes "m"))) tr.Copy (v (codes "m"))) ∷ []) })) })) ∷ []) })) ∷ (s.composite (record { access = ac.All; kind = ck.Struct; name = (n (codes "S")); conformances = (((n (codes "SI")) ∷ []) ∷ []); members = ((s.field (record { access = ac.All; kind = (Some wo.Var); name = (n (codes "n")); annotation = (an false (s.named ((n (codes "Int")) ∷ []) s.no_annotations)) })) ∷ (s.field (record { access = ac.All; kind = (Some wo.Let); name = (n (codes "list")); annotation = (an false (s.array (s.named ((n (codes "Int")) ∷ []) s.no_annotations))) })) ∷ (s.field (record { access = ac.All; kind = (Some wo.Let); name = (n (codes "any")); annotation = (an false (s.named ((n (codes "AnyStruct")) ∷ []) s.no_annotations)) })) ∷ (s.field (record { access = ac.All; kind = (Some wo.Let); name = (n (codes "color")); annotation = (an false (s.named ((n (codes "Color")) ∷ []) s.no_annotations)) })) ∷ (s.field (record { access = ac.All; kind = (Some wo.Var); name = (n (codes "inner")); annotation = (an false (s.named ((n (codes "P")) ∷ []) s.no_annotations)) })) ∷ (s.field (record { access = ac.All; kind = (Some wo.Var); name = (n (codes "maybe")); annotation = (an false (s.optional (s.named ((n (codes "P")) ∷ []) s.no_annotations))) })) ∷ (s.field (record { access = (ac.Mapping ((n (codes "M")) ∷ [])); kind = (Some wo.Let); name = (n (codes "mapped")); annotation = (an false (s.named ((n (codes "P")) ∷ []) s.no_annotations)) })) ∷ (s.field (record { access = (ac.Mapping ((n (codes "M")) ∷ [])); kind = (Some wo.Let); name = (n (codes "number")); annotation = (an false (s.named ((n (codes "Int")) ∷ []) s.no_annotations)) })) ∷ (s.field (record { access = (ac.Entitled (w.All (((n (codes "E")) ∷ []) ∷ []))); kind = (Some wo.Let); name = (n (codes "secret")); annotation = (an false (s.named ((n (codes "Int")) ∷ []) s.no_annotations)) })) ∷ (s.field (record { access = ac.Self_; kind = (Some wo.Let); name = (n (codes "own")); annotation = (an false (s.named ((n (codes "Int")) ∷ []) s.no_annotations)) })) ∷ (s.field (record { access = ac.Contract; kind = (Some wo.Let); name = (n (codes "con")); annotation = (an false (s.named ((n (codes "Int")) ∷ []) s.no_annotations)) })) ∷ (s.field (record { access = ac.Account; kind = (Some wo.Let); name = (n (codes "acc")); annotation = (an false (s.named ((n (codes "Int")) ∷ []) s.no_annotations)) })) ∷ (s.init (record { is_view = false; parameters = (record { label = None; name = (n (codes "n")); annotation = (an false (s.named ((n (codes "Int")) ∷ []) s.no_annotations)) } ∷ []); block = (record { pre = None; post = None; body = ((s.assignment (s.member s.self (n (codes "n"))) tr.Copy (v (codes "n"))) ∷ (s.assignment (s.member s.self (n (codes "list"))) tr.Copy (s.list (s.exprs (v (codes "n")) s.no_exprs))) ∷ (s.assignment (s.member s.self (n (codes "any"))) tr.Copy (v (codes "n"))) ∷ (s.assignment (s.member s.self (n (codes "color"))) tr.Copy (s.member (v (codes "Color")) (n (codes "red")))) ∷ (s.assignment (s.member s.self (n (codes "inner"))) tr.Copy (s.call (v (codes "P")) s.no_annotations s.no_arguments)) ∷ (s.assignment (s.member s.self (n (codes "maybe"))) tr.Copy s.nil) ∷ (s.assignment (s.member s.self (n (codes "mapped"))) tr.Copy (s.call (v (codes "P")) s.no_annotations s.no_arguments)) ∷ (s.assignment (s.member s.self (n (codes "number"))) tr.Copy (v (codes "n"))) ∷ (s.assignment (s.member s.self (n (codes "secret"))) tr.Copy (v (codes "n"))) ∷ (s.assignment (s.member s.self (n (codes "own"))) tr.Copy (v (codes "n"))) ∷ (s.assignment (s.member s.self (n (codes "con"))) tr.Copy (v (codes "n"))) ∷ (s.assignment (s.member s.self (n (codes "acc"))) tr.Copy (v (codes "n"))) ∷ []) }) })) ∷ (s.function (record { access = ac.All; is_view = false; name = (n (codes "si")); parameters = ([]); result = (Some (an false (s.named ((n (codes "Int")) ∷ []) s.no_annotations))); block = (Some (record { pre = None; post = None; body = ((s.return_value (Some (s.member s.self (n (codes "n"))))) ∷ []) })) })) ∷ (s.function (record { access = ac.All; is_view = true; name = (n (codes "add")); parameters = (record { label = (Some (n (codes "_"))); name = (n (codes "a")); annotation = (an false (s.named ((n (codes "Int")) ∷ []) s.no_annotations)) } ∷ record { label = (Some (n (codes "to"))); name = (n (codes "b")); annotation = (an false (s.named ((n (codes "Int")) ∷ []) s.no_annotations)) } ∷ record { label = None; name = (n (codes "c")); annotation = (an false (s.named ((n (codes "Int")) ∷ []) s.no_annotations)) } ∷ []); result = (Some (an false (s.named ((n (codes "Int")) ∷ []) s.no_annotations))); block = (Some (record { pre = None; post = None; body = ((s.return_value (Some (s.binary bi.Add (s.binary bi.Add (v (codes "a")) (v (codes "b"))) (v (codes "c"))))) ∷ []) })) })) ∷ (s.function (record { access = (ac.Entitled (w.All (((n (codes "E")) ∷ []) ∷ []))); is_view = false; name = (n (codes "guarded")); parameters = ([]); result = (Some (an false (s.named ((n (codes "Int")) ∷ []) s.no_annotations))); block = (Some (record { pre = None; post = None; body = ((s.return_value (Some (s.whole 1 false))) ∷ []) })) })) ∷ (s.function (record { access = (ac.Entitled (w.Any (((n (codes "E")) ∷ []) ∷ ((n (codes "F")) ∷ []) ∷ []))); is_view = false; name = (n (codes "either")); parameters = ([]); result = (Some (an false (s.named ((n (codes "Int")) ∷ []) s.no_annotations))); block = (Some (record { pre = None; post = None; body = ((s.return_value (Some (s.whole 1 false))) ∷ []) })) })) ∷ (s.function (record { access = (ac.Mapping ((n (codes "M")) ∷ [])); is_view = false; name = (n (codes "image")); parameters = ([]); result = (Some (an false (s.named ((n (codes "Int")) ∷ []) s.no_annotations))); block = (Some (record { pre = None; post = None; body = ((s.return_value (Some (s.whole 1 false))) ∷ []) })) })) ∷ (s.function (record { access = (ac.Mapping ((n (codes "D")) ∷ [])); is_view = false; name = (n (codes "two")); parameters = ([]); result = (Some (an false (s.named ((n (codes "Int")) ∷ []) s.no_annotations))); block = (Some (record { pre = None; post = None; body = ((s.return_value (Some (s.whole 1 false))) ∷ []) })) })) ∷ (s.function (record { access = ac.All; is_view = false; name = (n (codes "opt")); parameters = ([]); result = (Some (an false (s.optional (s.named ((n (codes "Int")) ∷ []) s.no_annotations)))); block = (Some (record { pre = None; post = None; body = ((s.return_value (Some s.nil)) ∷ []) })) })) ∷ (s.function (record { access = ac.All; is_view = false; name = (n (codes "stop")); parameters = ([]); result = (Some (an false (s.named ((n (codes "Never")) ∷ []) s.no_annotations))); block = (Some (record { pre = None; post = None; body = ((s.expression (s.call (v (codes "panic")) s.no_annotations (s.arguments None (s.text []) s.no_arguments))) ∷ []) })) })) ∷ (s.function (record { access = ac.Self_; is_view = false; name = (n (codes "hidden")); parameters = ([]); result = (Some (an false (s.named ((n (codes "Int")) ∷ []) s.no_annotations))); block = (Some (record { pre = None; post = None; body = ((s.return_value (Some (s.whole 1 false))) ∷ []) })) })) ∷ []) })) ∷ (s.composite (record { access = ac.All; kind = ck.Resource; name = (n (codes "R")); conformances = (((n (codes "RI")) ∷ []) ∷ []); members = ((s.field (record { access = ac.All; kind = (Some wo.Var); name = (n (codes "n")); annotation = (an false (s.named ((n (codes "Int")) ∷ []) s.no_annotations)) })) ∷ (s.field (record { access = ac.All; kind = (Some wo.Var); name = (n (codes "child")); annotation = (an true (s.optional (s.named ((n (codes "R")) ∷ []) s.no_annotations))) })) ∷ (s.field (record { access = ac.All; kind = (Some wo.Let); name = (n (codes "list")); annotation = (an true (s.array (s.named ((n (codes "R")) ∷ []) s.no_annotations))) })) ∷ (s.field (record { access = ac.All; kind = (Some wo.Let); name = (n (codes "map")); annotation = (an true (s.dictionary (s.named ((n (codes "String")) ∷ []) s.no_annotations) (s.named ((n (codes "R")) ∷ []) s.no_annotations))) })) ∷ (s.init (record { is_view = false; parameters = (record { label = None; name = (n (codes "n")); annotation = (an false (s.named ((n (codes "Int")) ∷ []) s.no_annotations)) } ∷ []); block = (record { pre = None; post = None; body = ((s.assignment (s.member s.self (n (codes "n"))) tr.Copy (v (codes "n"))) ∷ (s.assignment (s.member s.self (n (codes "child"))) tr.Move s.nil) ∷ (s.assignment (s.member s.self (n (codes "list"))) tr.Move (s.list s.no_exprs)) ∷ (s.assignment (s.member s.self (n (codes "map"))) tr.Move (s.pairs s.no_entries)) ∷ []) }) })) ∷ (s.function (record { access = ac.All; is_view = false; name = (n (codes "eat")); parameters = (record { label = (Some (n (codes "_"))); name = (n (codes "r")); annotation = (an true (s.named ((n (codes "R")) ∷ []) s.no_annotations)) } ∷ []); result = (Some (an false (s.named ((n (codes "Int")) ∷ []) s.no_annotations))); block = (Some (record { pre = None; post = None; body = ((s.expression (s.unary un.Destroy (v (codes "r")))) ∷ (s.return_value (Some (s.whole 1 false))) ∷ []) })) })) ∷ (s.function (record { access = ac.All; is_view = false; name = (n (codes "give")); parameters = ([]); result = (Some (an true (s.optional (s.named ((n (codes "R")) ∷ []) s.no_annotations)))); block = (Some (record { pre = None; post = None; body = ((s.return_value (Some s.nil)) ∷ []) })) })) ∷ []) })) ∷ (s.contract_field (record { access = ac.All; kind = (Some wo.Var); name = (n (codes "count")); annotation = (an false (s.named ((n (codes "Int")) ∷ []) s.no_annotations)) })) ∷ (s.contract_field (record { access = ac.All; kind = (Some wo.Var); name = (n (codes "table")); annotation = (an false (s.dictionary (s.named ((n (codes "String")) ∷ []) s.no_annotations) (s.named ((n (codes "Int")) ∷ []) s.no_annotations))) })) ∷ (s.contract_function (record { access = ac.All; is_view = false; name = (n (codes "make")); parameters = ([]); result = (Some (an true (s.named ((n (codes "R")) ∷ []) s.no_annotations))); block = (Some (record { pre = None; post = None; body = ((s.return_value (Some (s.unary un.Move (s.create ((n (codes "R")) ∷ []) (s.arguments (Some (n (codes "n"))) (s.whole 1 false) s.no_arguments))))) ∷ []) })) })) ∷ (s.contract_function (record { access = ac.All; is_view = false; name = (n (codes "maybe")); parameters = ([]); result = (Some (an true (s.optional (s.named ((n (codes "R")) ∷ []) s.no_annotations)))); block = (Some (record { pre = None; post = None; body = ((s.return_value (Some s.nil)) ∷ []) })) })) ∷ (s.contract_function (record { access = ac.All; is_view = false; name = (n (codes "fresh")); parameters = ([]); result = (Some (an false (s.named ((n (codes "S")) ∷ []) s.no_annotations))); block = (Some (record { pre = None; post = None; body = ((s.return_value (Some (s.call (v (codes "S")) s.no_annotations (s.arguments (Some (n (codes "n"))) (s.whole 1 false) s.no_arguments)))) ∷ []) })) })) ∷ (s.contract_init (record { is_view = false; parameters = ([]); block = (record { pre = None; post = None; body = ((s.assignment (s.member s.self (n (codes "count"))) tr.Copy (s.whole 0 false)) ∷ (s.assignment (s.member s.self (n (codes "table"))) tr.Copy (s.pairs s.no_entries)) ∷ []) }) })) ∷ []) })) ∷ []) }

-- The script:
--
-- import C from 0x1
-- access(all) fun twice(_ n: UInt8): UInt8 { return n }
-- access(all) fun main() {}
abbrev pub script_tree : s.ProgramTree
script_tree = record { imports = (record { names = ((n (codes "C")) ∷ []); address = 1 } ∷ []); declarations = ((s.top_function (record { access = ac.All; is_view = false; name = (n (codes "twice")); parameters = (record { label = (Some (n (codes "_"))); name = (n (codes "n")); annotation = (an false (s.named ((n (codes "UInt8")) ∷ []) s.no_annotations)) } ∷ []); result = (Some (an false (s.named ((n (codes "UInt8")) ∷ []) s.no_annotations))); block = (Some (record { pre = None; post = None; body = ((s.return_value (Some (v (codes "n")))) ∷ []) })) })) ∷ (s.top_function (record { access = ac.All; is_view = false; name = (n (codes "main")); parameters = ([]); result = None; block = (Some (record { pre = None; post = None; body = ([]) })) })) ∷ []) }

abbrev pub no_tables : ProgramTables
no_tables = record { place = None; contract = None; imports = []; types = []; entitlements = []; mappings = []; functions = [] }

abbrev pub tables_in : Result ProgramTables Stop → ProgramTables
tables_in (Ok t) = t
tables_in (Err stop) = no_tables

abbrev pub contract_tables : ProgramTables
contract_tables = tables_in (build [] (Some (record { 0 = 1 })) contract_tree)

abbrev pub script_tables : ProgramTables
script_tables = tables_in (build (contract_entry (contract_id 1 (n (codes "C"))) contract_tables ∷ []) None script_tree)

-- what the contract declares
abbrev pub c : List (List ℕ) → TypeId
c names = record { address = record { 0 = 1 }; names = n (codes "C") ∷ map n names }

-- ---- where expressions stand

abbrev pub local : ℕ → List ℕ → PureType → Bool → Local
local number text t is_var = record { number = number; name = n text; type = t; is_var = is_var }

abbrev pub variables : List Local
variables = local 0 (codes "x") (basic (b.Number k.Int)) true ∷ local 1 (codes "o") (optional (basic (b.Number k.Int))) false ∷ local 2 (codes "u") (basic (b.Number k.UInt8)) false ∷ local 3 (codes "b") (basic b.Bool) false ∷ local 4 (codes "t") (basic b.String) false ∷ local 5 (codes "ch") (basic b.Character) false ∷ local 6 (codes "a") (array (basic (b.Number k.Int))) true ∷ local 7 (codes "d") (dictionary (basic b.String) (basic (b.Number k.Int))) false ∷ local 8 (codes "s") (declared (c (codes "S" ∷ []))) true ∷ local 9 (codes "os") (optional (declared (c (codes "S" ∷ [])))) true ∷ local 10 (codes "r") (declared (c (codes "R" ∷ []))) false ∷ local 11 (codes "or") (optional (declared (c (codes "R" ∷ [])))) false ∷ local 12 (codes "f") (reference a.Unauthorized (declared (c (codes "S" ∷ [])))) false ∷ local 13 (codes "g") (reference (a.All ((c (codes "E" ∷ [])) ∷ [])) (declared (c (codes "S" ∷ [])))) false ∷ local 14 (codes "of") (optional (reference a.Unauthorized (declared (c (codes "S" ∷ []))))) false ∷ local 15 (codes "l") (array (declared (c (codes "R" ∷ [])))) false ∷ local 16 (codes "any") (basic b.AnyStruct) false ∷ local 17 (codes "h") (reference a.Unauthorized (basic (b.Number k.Int))) false ∷ local 18 (codes "p") (basic b.Path) false ∷ local 19 (codes "at") (basic (b.Number k.Address)) false ∷ local 20 (codes "rr") (reference a.Unauthorized (declared (c (codes "R" ∷ [])))) false ∷ local 21 (codes "fa") (reference a.Unauthorized (array (basic (b.Number k.Int)))) false ∷ local 22 (codes "fm") (reference (a.All ((built_in (codes "Mutate")) ∷ [])) (array (basic (b.Number k.Int)))) false ∷ local 23 (codes "acc") (reference (a.All ((built_in (codes "Storage")) ∷ [])) (basic b.Account)) false ∷ local 24 (codes "cap") (capability_of (reference a.Unauthorized (declared (c (codes "S" ∷ []))))) false ∷ local 25 (codes "oo") (optional (optional (basic (b.Number k.Int)))) false ∷ local 26 (codes "si") (intersection ((c (codes "SI" ∷ [])) ∷ [])) false ∷ local 27 (codes "w") (basic (b.Number k.Word8)) false ∷ local 28 (codes "q") (basic (b.Number k.UFix64)) false ∷ local 29 (codes "sp") (basic b.StoragePath) false ∷ local 30 (codes "acv") (basic b.Account) false ∷ local 31 (codes "ctl") (basic b.StorageCapabilityController) false ∷ local 32 (codes "ar") (basic b.AnyResource) false ∷ local 33 (codes "ao") (array (optional (basic (b.Number k.Int)))) false ∷ local 34 (codes "eg") (reference (a.Any ((c (codes "E" ∷ [])) ∷ (c (codes "G" ∷ [])) ∷ [])) (declared (c (codes "S" ∷ [])))) false ∷ []

abbrev pub beginning : ProgramTables → Environment
beginning tables = record { tables = tables; within = None; transaction_fields = None; part = function_body; scopes = []; in_use = 0; befores = 0 }

-- a function of the script, with a variable of each of these types
abbrev pub script : Environment
script = record (beginning script_tables) { scopes = variables ∷ []; in_use = 35 }

-- functions and initializers of what the contract declares, with the same variables
abbrev pub inside : List (List ℕ) → Environment
inside names = record (beginning contract_tables) { within = Some (c names); scopes = variables ∷ []; in_use = 35 }

abbrev pub in_contract : Environment
in_contract = inside []

abbrev pub in_contract_init : Environment
in_contract_init = record (inside []) { part = initializer_body }

abbrev pub in_struct : Environment
in_struct = inside (codes "S" ∷ [])

abbrev pub in_resource : Environment
in_resource = inside (codes "R" ∷ [])

abbrev pub in_interface : Environment
in_interface = inside (codes "RI" ∷ [])

abbrev pub in_init : Environment
in_init = record in_struct { part = initializer_body }

-- a transaction with the fields `let vault: @C.R` and `var sum: Int`
abbrev pub transaction_fields : List Local
transaction_fields = local 0 (codes "vault") (declared (c (codes "R" ∷ []))) false ∷ local 1 (codes "sum") (basic (b.Number k.Int)) true ∷ []

abbrev pub in_prepare : Environment
in_prepare = record (beginning script_tables) { transaction_fields = Some transaction_fields; part = prepare_body; in_use = 2 }

abbrev pub in_execute : Environment
in_execute = record in_prepare { part = execute_body }

-- the postconditions of a function with these parameters whose result is an Int, of a struct and of an interface
abbrev pub result : Local
result = local 35 (codes "result") (basic (b.Number k.Int)) false

abbrev pub after_function : Environment
after_function = record in_struct { part = postcondition (Some result); in_use = 36 }

abbrev pub after_interface : Environment
after_interface = record in_interface { part = postcondition (Some result); in_use = 36 }

abbrev pub arrays : ℕ → PureType
arrays zero = basic (b.Number k.Int)
arrays (suc m) = array (arrays m)

-- with a variable whose type nests so deep
abbrev pub deep_script : ℕ → Environment
deep_script m = record script { scopes = (local 100 (codes "deep") (arrays m) false ∷ []) ∷ script.scopes; in_use = 101 }

-- ---- what is seen of an answer

abbrev pub type_of : Environment → s.ExprTree → Option PureType
type_of env a = option_map (λ x. x.type) (infer env ordinary None a)

-- behind the sign of a move
abbrev pub type_moved : Environment → s.ExprTree → Option PureType
type_moved env a = option_map (λ x. x.type) (infer_declared env tr.Move a)

-- where a type is expected, which it fits
abbrev pub type_expected : Environment → PureType → s.ExprTree → Option PureType
type_expected env t a = infer env ordinary (Some t) a >=> (λ x. when (fits (kinds env) x.type t) (Some x.type))

abbrev pub term_of : Environment → s.ExprTree → Option e.TermTree
term_of env a = option_map (λ x. x.term) (infer env ordinary None a)

abbrev pub target_of : Environment → s.ExprTree → Option PureType
target_of env a = option_map (λ x. x.type) (infer_target env a)

abbrev pub event_of : Environment → s.ExprTree → Option TypeId
event_of env a = option_map (λ x. x.event) (infer_event env a)
