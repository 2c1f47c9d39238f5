-- Short forms of which samples are written: the value and the units left of 30, or an error.
use Rattle.std.specs.Prelude.{ℕ, false, List, [], ◌∷◌, ◌++◌}
use Rattle.cad_syntax.specs.Types.{PureType, basic, array, dictionary, declared, reference}
use Rattle.cad_syntax.specs.declared.kind.Kind.{Kind}
use Rattle.cad_syntax.specs.declared.types.Authorization.TheVariants.{Unauthorized}
use Rattle.cad_syntax.specs.declared.types.Basic.TheVariants as b
use Rattle.cad_grammar.specs.declared.expression.BinaryOperator.TheVariants as o
use Rattle.cad_types.specs.declared.builtin.Builtin.{Builtin}
use Rattle.cad_declarations.specs.Typed as e
use Rattle.cad_values.specs.Values.{PureValue}
use Rattle.cad_values.specs.Values as v
use Rattle.cad_evaluation.proofs.SampleParts.{num, literal, int_type, variable, Seen, alone}
use Rattle.cad_evaluation.proofs.SampleContract.{r_id, kid_type, run}

-- ---- types

abbrev pub bool_type : PureType
bool_type = basic b.Bool

abbrev pub text_type : PureType
text_type = basic b.String

abbrev pub void_type : PureType
void_type = basic b.Void

abbrev pub any_type : PureType
any_type = basic b.AnyStruct

abbrev pub of_kind : Kind → PureType
of_kind kind = basic (b.Number kind)

abbrev pub ints : PureType
ints = array int_type

abbrev pub table : PureType
table = dictionary int_type int_type

abbrev pub link : PureType → PureType
link type = reference Unauthorized type

abbrev pub r_type : PureType
r_type = declared r_id

-- ---- expressions

abbrev pub of_int : Kind → ℕ → e.TermTree
of_int kind n = e.number (num kind n)

abbrev pub text : List ℕ → e.TermTree
text t = e.string t

abbrev pub copy : ℕ → e.TermTree
copy n = e.copy (e.variable n)

abbrev pub take : ℕ → e.TermTree
take n = e.take (e.variable n)

abbrev pub giving : e.TermTree → PureType → e.TargetedTerm
giving t type = record { value = t; target = type }

abbrev pub list : List e.TermTree → e.TermTree
list all = e.array int_type (e.terms_of all)

abbrev pub pairs : List e.TermPair → e.TermTree
pairs all = e.dictionary int_type int_type (e.entries_of all)

abbrev pub pair : ℕ → ℕ → e.TermPair
pair key value = record { key = literal key; value = literal value }

-- a built-in member on a place: called with arguments, or read
abbrev pub calls : e.PlaceTree → Builtin → List e.TargetedTerm → e.TermTree
calls p member all = e.on p (e.builtin_call member [] (e.arguments_of all))

abbrev pub reads : e.PlaceTree → Builtin → e.TermTree
reads p member = e.on p (e.builtin_field member)

-- the same on a value, which a hidden variable holds
abbrev pub calls_on : PureType → e.TermTree → Builtin → List e.TargetedTerm → e.TermTree
calls_on type t member all = e.hold 0 type t (calls (e.variable 0) member all)

abbrev pub reads_on : PureType → e.TermTree → Builtin → e.TermTree
reads_on type t member = e.hold 0 type t (reads (e.variable 0) member)

abbrev pub of_type : Builtin → List e.TargetedTerm → e.TermTree
of_type member all = e.builtin member [] (e.arguments_of all)

-- `&x as &T`
abbrev pub refer : e.PlaceTree → PureType → e.TermTree
refer p type = e.borrow p Unauthorized type false false

-- 1 / 0, whose evaluation is 103
abbrev pub fails : e.TermTree
fails = e.binary o.Divide (literal 1) (literal 0)

-- create R(n, kid)
abbrev pub new_r : ℕ → e.TermTree → e.TermTree
new_r n kid = e.create r_id (e.arguments_of (giving (literal n) int_type ∷ giving kid kid_type ∷ []))

-- ---- statements

abbrev pub declares : ℕ → PureType → e.TermTree → e.StatementTree
declares n type t = e.declare 0 (variable n type) t

abbrev pub does : e.TermTree → e.StatementTree
does t = e.expression 0 t

abbrev pub returns : PureType → e.TermTree → e.StatementTree
returns type t = e.return_value 0 t type

-- ---- runs

abbrev pub gives : PureType → List e.StatementTree → e.TermTree → Seen
gives type all t = alone type (all ++ returns type t ∷ []) 30

-- beside the contract C
abbrev pub gives_beside : PureType → List e.StatementTree → e.TermTree → Seen
gives_beside type all t = run type (all ++ returns type t ∷ []) 60

-- ---- values

abbrev pub of : Kind → ℕ → PureValue
of kind n = v.number (num kind n)

abbrev pub array_of : PureType → List PureValue → PureValue
array_of type all = v.array type (v.values_of all)
