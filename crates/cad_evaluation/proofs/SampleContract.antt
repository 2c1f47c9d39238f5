-- A small contract: a struct, a resource whose end is told, an interface with conditions, an event and an enum.
use Rattle.std.specs.Prelude.{ℕ, Bool, true, false, List, [], ◌∷◌, Some, None, codes}
use Rattle.cad_syntax.specs.Types.{PureType, basic, optional, array, declared}
use Rattle.cad_syntax.specs.declared.kind.Kind.TheVariants as k
use Rattle.cad_syntax.specs.declared.text.Name.{Name}
use Rattle.cad_syntax.specs.declared.type_id.TypeId.{TypeId}
use Rattle.cad_syntax.specs.declared.types.Authorization.{Authorization}
use Rattle.cad_syntax.specs.declared.types.Authorization.TheVariants.{Unauthorized, All}
use Rattle.cad_syntax.specs.declared.types.Basic.TheVariants as b
use Rattle.cad_types.specs.declared.builtin.Builtin.TheVariants as m
use Rattle.cad_types.specs.declared.declared.Sort.{Sort}
use Rattle.cad_types.specs.declared.declared.Sort.TheVariants as sort
use Rattle.cad_grammar.specs.declared.expression.BinaryOperator.TheVariants as o
use Rattle.cad_grammar.specs.declared.statement.VariableKind.TheVariants.{Var}
use Rattle.cad_declarations.specs.declared.member.MemberAccess.{MemberAccess}
use Rattle.cad_declarations.specs.declared.member.MemberAccess.TheVariants as access
use Rattle.cad_declarations.specs.Tables.{TypeEntry, MemberEntry, SignatureType, field, function}
use Rattle.cad_declarations.specs.Typed as e
use Rattle.cad_values.specs.Values as v
use Rattle.cad_world.specs.Rows.{Tree, alone, node, gap, stop, composite}
use Rattle.cad_world.specs.State.{State, Contract, Outcome, ok}
use Rattle.cad_world.specs.Trees.{tree_of}
use Rattle.cad_evaluation.proofs.SampleParts.{int, literal, int_type, named, variable, body, function_named, main, no_tables, script, state, Seen, seen, runs}

-- ---- names

abbrev pub c_id : TypeId
c_id = record { address = record { 0 = 1 }; names = named (codes "C") ∷ [] }

abbrev pub inside : List ℕ → TypeId
inside text = record { address = record { 0 = 1 }; names = named (codes "C") ∷ named text ∷ [] }

abbrev pub s_id : TypeId
s_id = inside (codes "S")

abbrev pub r_id : TypeId
r_id = inside (codes "R")

abbrev pub i_id : TypeId
i_id = inside (codes "I")

abbrev pub j_id : TypeId
j_id = inside (codes "J")

abbrev pub twice_name : Name
twice_name = named (codes "twice")

abbrev pub replace_name : Name
replace_name = named (codes "replace")

abbrev pub fill_name : Name
fill_name = named (codes "fill")

abbrev pub tie_name : Name
tie_name = named (codes "tie")

abbrev pub mark_name : Name
mark_name = named (codes "mark")

abbrev pub b_id : TypeId
b_id = inside (codes "B")

abbrev pub gone_id : TypeId
gone_id = record { address = record { 0 = 1 }; names = named (codes "C") ∷ named (codes "R") ∷ named (codes "ResourceDestroyed") ∷ [] }

abbrev pub told_id : TypeId
told_id = inside (codes "T")

abbrev pub enum_id : TypeId
enum_id = inside (codes "K")

abbrev pub right : Authorization
right = All (inside (codes "X") ∷ [])

abbrev pub n_name : Name
n_name = named (codes "n")

abbrev pub list_name : Name
list_name = named (codes "l")

abbrev pub kid_name : Name
kid_name = named (codes "kid")

abbrev pub add_name : Name
add_name = named (codes "add")

-- ---- declarations

abbrev pub field_of : TypeId → Name → MemberAccess → PureType → MemberEntry
field_of id name a type = record { name = name; access = a; declared_by = id; form = field (Some Var) type }

abbrev pub signature : List PureType → PureType → SignatureType
signature types result = record { is_view = false; parameters = []; result = result }

abbrev pub function_of : TypeId → Name → MemberAccess → Bool → MemberEntry
function_of id name a has_body = record { name = name; access = a; declared_by = id; form = function (signature [] int_type) has_body }

abbrev pub entry : TypeId → Sort → List TypeId → List MemberEntry → TypeEntry
entry id s interfaces members = record { id = id; sort = s; parents = interfaces; interfaces = interfaces; members = members; initializer = None; cases = []; raw = None }

abbrev pub kid_type : PureType
kid_type = optional (declared r_id)

abbrev pub types : List TypeEntry
types =
    entry c_id sort.Contract [] (field_of c_id n_name access.All int_type ∷ [])
    ∷ entry s_id sort.Struct (i_id ∷ j_id ∷ []) (field_of s_id n_name access.All int_type ∷ field_of s_id list_name access.All (array int_type) ∷ function_of s_id add_name access.All true ∷ [])
    ∷ entry r_id sort.Resource [] (field_of r_id n_name access.Own int_type ∷ field_of r_id kid_name access.All kid_type ∷ function_of r_id add_name (access.Entitled right) true ∷ function_of r_id replace_name access.All true ∷ function_of r_id fill_name access.All true ∷ function_of r_id tie_name access.All true ∷ function_of r_id mark_name access.All true ∷ [])
    ∷ entry b_id sort.Struct [] (field_of b_id n_name access.All (basic b.AnyStruct) ∷ [])
    ∷ entry i_id sort.StructInterface [] (function_of i_id add_name access.All false ∷ [])
    ∷ entry j_id sort.StructInterface [] (function_of j_id twice_name access.All true ∷ [])
    ∷ entry gone_id sort.Event [] (field_of gone_id n_name access.All (basic (b.Number k.UInt64)) ∷ [])
    ∷ entry told_id sort.Event [] (field_of told_id n_name access.All int_type ∷ [])
    ∷ record (entry enum_id sort.Enum [] []) { cases = named (codes "a") ∷ named (codes "b") ∷ []; raw = Some k.Int } ∷ []

-- ---- bodies

abbrev pub self_field : TypeId → Name → e.PlaceTree
self_field id name = e.field e.self (declared id) name

abbrev pub self_read : Name → e.TermTree
self_read name = e.on e.self (e.get name Unauthorized)

abbrev pub argument : ℕ → e.TermTree
argument n = e.copy (e.variable n)

abbrev pub tells : ℕ → e.TermTree → e.ConditionBody
tells n t = e.emitted 0 told_id (e.arguments t int_type e.no_arguments)

-- init(_ n: Int) { self.n = n; self.l = [n] }
abbrev pub s_init : e.FunctionBody
s_init = body (variable 0 int_type ∷ []) (basic b.Void)
    (e.assign 0 (self_field s_id n_name) (argument 0) int_type
    ∷ e.assign 1 (self_field s_id list_name) (e.array int_type (e.terms (argument 0) e.no_terms)) (array int_type) ∷ [])

-- fun add(_ m: Int): Int { pre { emit T(1) } post { emit T(before(self.n)) } self.n = self.n + m; return self.n }
abbrev pub s_add : e.FunctionBody
s_add = record (body (variable 0 int_type ∷ []) int_type
    (e.assign 0 (self_field s_id n_name) (e.binary o.Add (self_read n_name) (argument 0)) int_type ∷ e.return_value 1 (self_read n_name) int_type ∷ [])) {
      result_variable = Some (variable 1 int_type);
      pre = tells 0 (literal 1) ∷ [];
      before = record { at = 0; value = self_read n_name } ∷ [];
      post = tells 0 (e.before 0) ∷ [];
    }

-- in the interface: fun add(_ m: Int): Int { pre { m > 0 } post { emit T(result) } }
abbrev pub i_add : e.FunctionBody
i_add = record (body (variable 0 int_type ∷ []) int_type []) {
  result_variable = Some (variable 1 int_type);
  pre = e.test 0 (e.binary o.Greater (argument 0) (literal 0)) None ∷ [];
  post = tells 0 (argument 1) ∷ [];
  body = None;
}

-- init(_ n: Int, _ kid: @R?) { self.n = n; self.kid <- kid }
abbrev pub r_init : e.FunctionBody
r_init = body (variable 0 int_type ∷ variable 1 kid_type ∷ []) (basic b.Void)
    (e.assign 0 (self_field r_id n_name) (argument 0) int_type ∷ e.assign 1 (self_field r_id kid_name) (e.take (e.variable 1)) kid_type ∷ [])

-- access(X) fun add(_ m: Int): Int { self.n = self.n + m; return self.n }
abbrev pub r_add : e.FunctionBody
r_add = body (variable 0 int_type ∷ []) int_type
    (e.assign 0 (self_field r_id n_name) (e.binary o.Add (self_read n_name) (argument 0)) int_type ∷ e.return_value 1 (self_read n_name) int_type ∷ [])

-- fun replace(_ k: @R?): @R? { let old <- self.kid <- k; return <-old }
abbrev pub r_replace : e.FunctionBody
r_replace = body (variable 0 kid_type ∷ []) kid_type
    (e.exchange 0 (variable 1 kid_type) (self_field r_id kid_name) kid_type (e.take (e.variable 0)) ∷ e.return_value 1 (e.take (e.variable 1)) kid_type ∷ [])

-- fun fill(_ k: @R?) { self.kid <-! k }
abbrev pub r_fill : e.FunctionBody
r_fill = body (variable 0 kid_type ∷ []) (basic b.Void) (e.force_assign 0 (self_field r_id kid_name) (e.take (e.variable 0)) kid_type ∷ [])

-- fun tie(_ r: @R) { r.kid <-! r }
abbrev pub r_tie : e.FunctionBody
r_tie = body (variable 0 (declared r_id) ∷ []) (basic b.Void) (e.force_assign 0 (e.field (e.variable 0) (declared r_id) kid_name) (e.take (e.variable 0)) kid_type ∷ [])

-- fun mark() { C.n = 3 }
abbrev pub r_mark : e.FunctionBody
r_mark = body [] (basic b.Void) (e.assign 0 (e.field (e.contract c_id) (declared c_id) n_name) (literal 3) int_type ∷ [])

-- init(_ n: AnyStruct) { self.n = n }
abbrev pub b_init : e.FunctionBody
b_init = body (variable 0 (basic b.AnyStruct) ∷ []) (basic b.Void) (e.assign 0 (self_field b_id n_name) (argument 0) (basic b.AnyStruct) ∷ [])

-- in the second interface: fun twice(): Int { return self.n * 2 }
abbrev pub j_twice : e.FunctionBody
j_twice = body [] int_type (e.return_value 0 (e.binary o.Multiply (self_read n_name) (literal 2)) int_type ∷ [])

abbrev pub bodies : List e.TypeBody
bodies =
    record { id = c_id; initializer = None; functions = function_named (named (codes "make")) make ∷ []; destroyed = None }
    ∷ record { id = s_id; initializer = Some s_init; functions = function_named add_name s_add ∷ []; destroyed = None }
    ∷ record { id = r_id; initializer = Some r_init; functions = function_named add_name r_add ∷ function_named replace_name r_replace ∷ function_named fill_name r_fill ∷ function_named tie_name r_tie ∷ function_named mark_name r_mark ∷ []; destroyed = Some told }
    ∷ record { id = b_id; initializer = Some b_init; functions = []; destroyed = None }
    ∷ record { id = i_id; initializer = None; functions = function_named add_name i_add ∷ []; destroyed = None }
    ∷ record { id = j_id; initializer = None; functions = function_named twice_name j_twice ∷ []; destroyed = None } ∷ []
  where
    make : e.FunctionBody
    make = body [] (declared r_id) []

    told : e.DestroyedBody
    told = record { event = gone_id; arguments = record { value = e.on e.self (e.builtin_field m.ResourceUuid); target = basic (b.Number k.UInt64) } ∷ [] }

-- ---- the contract, and scripts beside it

abbrev pub contract : Contract
contract = record {
  id = c_id;
  code = [];
  program = record { tables = record no_tables { contract = Some c_id; types = types }; bodies = record { types = bodies; functions = []; transaction = None } };
  value = alone (tree_of (v.composite c_id 0 (v.fields n_name (int 7) v.no_fields)));
  is_running = false;
}

-- the same while its initializer runs and has set nothing
abbrev pub unset_contract : Contract
unset_contract = record contract { value = node [] 0 (composite c_id 0 (n_name ∷ [])) (gap stop) stop; is_running = true }

abbrev pub beside : PureType → List e.StatementTree → ℕ → State
beside result all units = state [] (contract ∷ []) (script (function_named main (body [] result all) ∷ [])) units

-- the value and the units left
abbrev pub run : PureType → List e.StatementTree → ℕ → Seen
run result all units = seen (runs (beside result all units))

-- what a run has left: the events, and the identities that were made and destroyed
pub data Left : Type 0 where
  left : List v.PureValue → List ℕ → List ℕ → Left
  nothing_left : Left

abbrev pub left_of : Outcome Tree → Left
left_of (ok t s) = left s.events s.made s.destroyed
left_of _ = nothing_left

abbrev pub leaves : PureType → List e.StatementTree → ℕ → Left
leaves result all units = left_of (runs (beside result all units))

abbrev pub event : TypeId → v.PureValue → v.PureValue
event id x = v.composite id 0 (v.fields n_name x v.no_fields)

-- the same in a state that was changed before
abbrev pub runs_from : (State → State) → PureType → List e.StatementTree → ℕ → Seen
runs_from change result all units = seen (runs (change (beside result all units)))

abbrev pub with_depth : ℕ → State → State
with_depth n s = record s { depth = n }

abbrev pub with_identity : ℕ → State → State
with_identity n s = record s { next_identity = n }

abbrev pub with_unset : State → State
with_unset s = record s { contracts = unset_contract ∷ [] }
