-- The tree of a form, as the code finds it.
use Rattle.std.proofs.Common.{◌≡◌, ℕ, Bool, ap, sym, ◌∙◌, map}
use Rattle.std.specs.Global.{Box, Vec}
use Rattle.cad_syntax.specs.Types.{pure_type}
use Rattle.cad_syntax.specs.declared.address.Address.{Address}
use Rattle.cad_syntax.specs.declared.address.Path.{Path}
use Rattle.cad_syntax.specs.declared.num.Num.{Num}
use Rattle.cad_syntax.specs.declared.text.Name.{Name}
use Rattle.cad_syntax.specs.declared.text.Text.{Text}
use Rattle.cad_syntax.specs.declared.type_id.TypeId.{TypeId}
use Rattle.cad_syntax.specs.declared.types.Authorization.{Authorization}
use Rattle.cad_syntax.specs.declared.types.CadType.{CadType}
use Rattle.cad_grammar.specs.declared.expression.BinaryOperator.{BinaryOperator}
use Rattle.cad_grammar.specs.declared.expression.CastKind.{CastKind}
use Rattle.cad_grammar.specs.declared.expression.UnaryOperator.{UnaryOperator}
use Rattle.cad_types.specs.declared.builtin.Builtin.{Builtin}
use Rattle.cad_declarations.specs.Typed as e
use Rattle.cad_declarations.specs.Typed.{PlaceTree, TermTree, UseTree, TargetedTerm, TermPair}
use Rattle.cad_declarations.specs.Views.{place_of, term_of, use_of, argument_of, pair_of, place_step, term_step, use_step, argument_step, pair_step}
use Rattle.cad_declarations.specs.declared.term.Argument.{Argument}
use Rattle.cad_declarations.specs.declared.term.TermEntry.{TermEntry}
use Rattle.cad_declarations.specs.declared.term.Term.{Term, Term-F, fold-roll-Term}
use Rattle.cad_declarations.specs.declared.term.Term.TheVariants as term
use Rattle.cad_declarations.specs.declared.term.Term.TheVariants.{rolls-Number, rolls-Address, rolls-Bool, rolls-Nil, rolls-String, rolls-Character, rolls-Path, rolls-Meta, rolls-Case, rolls-Copy, rolls-Take, rolls-Array, rolls-Dictionary, rolls-Construct, rolls-Create, rolls-Call, rolls-Builtin, rolls-On, rolls-Chain, rolls-Index, rolls-Hold, rolls-Destroy, rolls-Borrow, rolls-Unary, rolls-Force, rolls-Cast, rolls-Binary, rolls-Coalesce, rolls-IsNil, rolls-Conditional, rolls-Before}
use Rattle.cad_declarations.specs.declared.term.Place.{Place, Place-F, fold-roll-Place}
use Rattle.cad_declarations.specs.declared.term.Place.TheVariants as place
use Rattle.cad_declarations.specs.declared.term.Place.TheVariants.{rolls-Variable, rolls-Self_, rolls-Contract, rolls-Target, rolls-Field, rolls-Element, rolls-Content}
use Rattle.cad_declarations.specs.declared.term.Use.{Use, Use-F, fold-roll-Use}
use Rattle.cad_declarations.specs.declared.term.Use.TheVariants as usage
use Rattle.cad_declarations.specs.declared.term.Use.TheVariants.{rolls-Field as rolls-Get, rolls-Method, rolls-BuiltinField, rolls-BuiltinCall}

-- ---- expressions

pub number_at : (t : Term) (x0 : Num) → t ≡ term.Number x0 → term_of t ≡ e.number x0
number_at t x0 is = ap term_of (is ∙ sym (rolls-Number x0)) ∙ fold-roll-Term PlaceTree TermTree UseTree TargetedTerm TermPair place_step term_step use_step argument_step pair_step (Term-F.Number x0)

pub address_at : (t : Term) (x0 : Address) → t ≡ term.Address x0 → term_of t ≡ e.address x0
address_at t x0 is = ap term_of (is ∙ sym (rolls-Address x0)) ∙ fold-roll-Term PlaceTree TermTree UseTree TargetedTerm TermPair place_step term_step use_step argument_step pair_step (Term-F.Address x0)

pub bool_at : (t : Term) (x0 : Bool) → t ≡ term.Bool x0 → term_of t ≡ e.bool x0
bool_at t x0 is = ap term_of (is ∙ sym (rolls-Bool x0)) ∙ fold-roll-Term PlaceTree TermTree UseTree TargetedTerm TermPair place_step term_step use_step argument_step pair_step (Term-F.Bool x0)

pub nil_at : (t : Term) → t ≡ term.Nil → term_of t ≡ e.nil
nil_at t is = ap term_of (is ∙ sym rolls-Nil) ∙ fold-roll-Term PlaceTree TermTree UseTree TargetedTerm TermPair place_step term_step use_step argument_step pair_step Term-F.Nil

pub string_at : (t : Term) (x0 : Text) → t ≡ term.String x0 → term_of t ≡ e.string x0
string_at t x0 is = ap term_of (is ∙ sym (rolls-String x0)) ∙ fold-roll-Term PlaceTree TermTree UseTree TargetedTerm TermPair place_step term_step use_step argument_step pair_step (Term-F.String x0)

pub character_at : (t : Term) (x0 : Text) → t ≡ term.Character x0 → term_of t ≡ e.character x0
character_at t x0 is = ap term_of (is ∙ sym (rolls-Character x0)) ∙ fold-roll-Term PlaceTree TermTree UseTree TargetedTerm TermPair place_step term_step use_step argument_step pair_step (Term-F.Character x0)

pub path_at : (t : Term) (x0 : Path) → t ≡ term.Path x0 → term_of t ≡ e.path x0
path_at t x0 is = ap term_of (is ∙ sym (rolls-Path x0)) ∙ fold-roll-Term PlaceTree TermTree UseTree TargetedTerm TermPair place_step term_step use_step argument_step pair_step (Term-F.Path x0)

pub meta_at : (t : Term) (x0 : CadType) → t ≡ term.Meta x0 → term_of t ≡ e.meta (pure_type x0)
meta_at t x0 is = ap term_of (is ∙ sym (rolls-Meta x0)) ∙ fold-roll-Term PlaceTree TermTree UseTree TargetedTerm TermPair place_step term_step use_step argument_step pair_step (Term-F.Meta x0)

pub case_at : (t : Term) (x0 : TypeId) (x1 : ℕ) → t ≡ term.Case x0 x1 → term_of t ≡ e.case x0 x1
case_at t x0 x1 is = ap term_of (is ∙ sym (rolls-Case x0 x1)) ∙ fold-roll-Term PlaceTree TermTree UseTree TargetedTerm TermPair place_step term_step use_step argument_step pair_step (Term-F.Case x0 x1)

pub copy_at : (t : Term) (x0 : Box Place) → t ≡ term.Copy x0 → term_of t ≡ e.copy (place_of x0.value)
copy_at t x0 is = ap term_of (is ∙ sym (rolls-Copy x0)) ∙ fold-roll-Term PlaceTree TermTree UseTree TargetedTerm TermPair place_step term_step use_step argument_step pair_step (Term-F.Copy x0)

pub take_at : (t : Term) (x0 : Box Place) → t ≡ term.Take x0 → term_of t ≡ e.take (place_of x0.value)
take_at t x0 is = ap term_of (is ∙ sym (rolls-Take x0)) ∙ fold-roll-Term PlaceTree TermTree UseTree TargetedTerm TermPair place_step term_step use_step argument_step pair_step (Term-F.Take x0)

pub array_at : (t : Term) (x0 : CadType) (x1 : Vec Term) → t ≡ term.Array x0 x1 → term_of t ≡ e.array (pure_type x0) (e.terms_of (map term_of x1.items))
array_at t x0 x1 is = ap term_of (is ∙ sym (rolls-Array x0 x1)) ∙ fold-roll-Term PlaceTree TermTree UseTree TargetedTerm TermPair place_step term_step use_step argument_step pair_step (Term-F.Array x0 x1)

pub dictionary_at : (t : Term) (x0 : CadType) (x1 : CadType) (x2 : Vec TermEntry) → t ≡ term.Dictionary x0 x1 x2 → term_of t ≡ e.dictionary (pure_type x0) (pure_type x1) (e.entries_of (map pair_of x2.items))
dictionary_at t x0 x1 x2 is = ap term_of (is ∙ sym (rolls-Dictionary x0 x1 x2)) ∙ fold-roll-Term PlaceTree TermTree UseTree TargetedTerm TermPair place_step term_step use_step argument_step pair_step (Term-F.Dictionary x0 x1 x2)

pub construct_at : (t : Term) (x0 : TypeId) (x1 : Vec Argument) → t ≡ term.Construct x0 x1 → term_of t ≡ e.construct x0 (e.arguments_of (map argument_of x1.items))
construct_at t x0 x1 is = ap term_of (is ∙ sym (rolls-Construct x0 x1)) ∙ fold-roll-Term PlaceTree TermTree UseTree TargetedTerm TermPair place_step term_step use_step argument_step pair_step (Term-F.Construct x0 x1)

pub create_at : (t : Term) (x0 : TypeId) (x1 : Vec Argument) → t ≡ term.Create x0 x1 → term_of t ≡ e.create x0 (e.arguments_of (map argument_of x1.items))
create_at t x0 x1 is = ap term_of (is ∙ sym (rolls-Create x0 x1)) ∙ fold-roll-Term PlaceTree TermTree UseTree TargetedTerm TermPair place_step term_step use_step argument_step pair_step (Term-F.Create x0 x1)

pub call_at : (t : Term) (x0 : Name) (x1 : Bool) (x2 : Bool) (x3 : Vec Argument) → t ≡ term.Call x0 x1 x2 x3 → term_of t ≡ e.call x0 x1 x2 (e.arguments_of (map argument_of x3.items))
call_at t x0 x1 x2 x3 is = ap term_of (is ∙ sym (rolls-Call x0 x1 x2 x3)) ∙ fold-roll-Term PlaceTree TermTree UseTree TargetedTerm TermPair place_step term_step use_step argument_step pair_step (Term-F.Call x0 x1 x2 x3)

pub builtin_at : (t : Term) (x0 : Builtin) (x1 : Vec CadType) (x2 : Vec Argument) → t ≡ term.Builtin x0 x1 x2 → term_of t ≡ e.builtin x0 (map pure_type x1.items) (e.arguments_of (map argument_of x2.items))
builtin_at t x0 x1 x2 is = ap term_of (is ∙ sym (rolls-Builtin x0 x1 x2)) ∙ fold-roll-Term PlaceTree TermTree UseTree TargetedTerm TermPair place_step term_step use_step argument_step pair_step (Term-F.Builtin x0 x1 x2)

pub on_at : (t : Term) (x0 : Box Place) (x1 : Box Use) → t ≡ term.On x0 x1 → term_of t ≡ e.on (place_of x0.value) (use_of x1.value)
on_at t x0 x1 is = ap term_of (is ∙ sym (rolls-On x0 x1)) ∙ fold-roll-Term PlaceTree TermTree UseTree TargetedTerm TermPair place_step term_step use_step argument_step pair_step (Term-F.On x0 x1)

pub chain_at : (t : Term) (x0 : Box Place) (x1 : Box Use) (x2 : Bool) → t ≡ term.Chain x0 x1 x2 → term_of t ≡ e.chain (place_of x0.value) (use_of x1.value) x2
chain_at t x0 x1 x2 is = ap term_of (is ∙ sym (rolls-Chain x0 x1 x2)) ∙ fold-roll-Term PlaceTree TermTree UseTree TargetedTerm TermPair place_step term_step use_step argument_step pair_step (Term-F.Chain x0 x1 x2)

pub index_at : (t : Term) (x0 : Box Place) (x1 : CadType) (x2 : Box Term) → t ≡ term.Index x0 x1 x2 → term_of t ≡ e.index (place_of x0.value) (pure_type x1) (term_of x2.value)
index_at t x0 x1 x2 is = ap term_of (is ∙ sym (rolls-Index x0 x1 x2)) ∙ fold-roll-Term PlaceTree TermTree UseTree TargetedTerm TermPair place_step term_step use_step argument_step pair_step (Term-F.Index x0 x1 x2)

pub hold_at : (t : Term) (x0 : ℕ) (x1 : CadType) (x2 : Box Term) (x3 : Box Term) → t ≡ term.Hold x0 x1 x2 x3 → term_of t ≡ e.hold x0 (pure_type x1) (term_of x2.value) (term_of x3.value)
hold_at t x0 x1 x2 x3 is = ap term_of (is ∙ sym (rolls-Hold x0 x1 x2 x3)) ∙ fold-roll-Term PlaceTree TermTree UseTree TargetedTerm TermPair place_step term_step use_step argument_step pair_step (Term-F.Hold x0 x1 x2 x3)

pub destroy_at : (t : Term) (x0 : Box Term) → t ≡ term.Destroy x0 → term_of t ≡ e.destroy (term_of x0.value)
destroy_at t x0 is = ap term_of (is ∙ sym (rolls-Destroy x0)) ∙ fold-roll-Term PlaceTree TermTree UseTree TargetedTerm TermPair place_step term_step use_step argument_step pair_step (Term-F.Destroy x0)

pub borrow_at : (t : Term) (x0 : Box Place) (x1 : Authorization) (x2 : CadType) (x3 : Bool) (x4 : Bool) → t ≡ term.Borrow x0 x1 x2 x3 x4 → term_of t ≡ e.borrow (place_of x0.value) x1 (pure_type x2) x3 x4
borrow_at t x0 x1 x2 x3 x4 is = ap term_of (is ∙ sym (rolls-Borrow x0 x1 x2 x3 x4)) ∙ fold-roll-Term PlaceTree TermTree UseTree TargetedTerm TermPair place_step term_step use_step argument_step pair_step (Term-F.Borrow x0 x1 x2 x3 x4)

pub unary_at : (t : Term) (x0 : UnaryOperator) (x1 : Box Term) → t ≡ term.Unary x0 x1 → term_of t ≡ e.unary x0 (term_of x1.value)
unary_at t x0 x1 is = ap term_of (is ∙ sym (rolls-Unary x0 x1)) ∙ fold-roll-Term PlaceTree TermTree UseTree TargetedTerm TermPair place_step term_step use_step argument_step pair_step (Term-F.Unary x0 x1)

pub force_at : (t : Term) (x0 : Box Term) → t ≡ term.Force x0 → term_of t ≡ e.force (term_of x0.value)
force_at t x0 is = ap term_of (is ∙ sym (rolls-Force x0)) ∙ fold-roll-Term PlaceTree TermTree UseTree TargetedTerm TermPair place_step term_step use_step argument_step pair_step (Term-F.Force x0)

pub cast_at : (t : Term) (x0 : CastKind) (x1 : Box Term) (x2 : CadType) → t ≡ term.Cast x0 x1 x2 → term_of t ≡ e.cast x0 (term_of x1.value) (pure_type x2)
cast_at t x0 x1 x2 is = ap term_of (is ∙ sym (rolls-Cast x0 x1 x2)) ∙ fold-roll-Term PlaceTree TermTree UseTree TargetedTerm TermPair place_step term_step use_step argument_step pair_step (Term-F.Cast x0 x1 x2)

pub binary_at : (t : Term) (x0 : BinaryOperator) (x1 : Box Term) (x2 : Box Term) → t ≡ term.Binary x0 x1 x2 → term_of t ≡ e.binary x0 (term_of x1.value) (term_of x2.value)
binary_at t x0 x1 x2 is = ap term_of (is ∙ sym (rolls-Binary x0 x1 x2)) ∙ fold-roll-Term PlaceTree TermTree UseTree TargetedTerm TermPair place_step term_step use_step argument_step pair_step (Term-F.Binary x0 x1 x2)

pub coalesce_at : (t : Term) (x0 : Box Term) (x1 : Box Term) (x2 : Bool) (x3 : CadType) → t ≡ term.Coalesce x0 x1 x2 x3 → term_of t ≡ e.coalesce (term_of x0.value) (term_of x1.value) x2 (pure_type x3)
coalesce_at t x0 x1 x2 x3 is = ap term_of (is ∙ sym (rolls-Coalesce x0 x1 x2 x3)) ∙ fold-roll-Term PlaceTree TermTree UseTree TargetedTerm TermPair place_step term_step use_step argument_step pair_step (Term-F.Coalesce x0 x1 x2 x3)

pub is_nil_at : (t : Term) (x0 : Box Place) (x1 : Bool) → t ≡ term.IsNil x0 x1 → term_of t ≡ e.is_nil (place_of x0.value) x1
is_nil_at t x0 x1 is = ap term_of (is ∙ sym (rolls-IsNil x0 x1)) ∙ fold-roll-Term PlaceTree TermTree UseTree TargetedTerm TermPair place_step term_step use_step argument_step pair_step (Term-F.IsNil x0 x1)

pub conditional_at : (t : Term) (x0 : Box Term) (x1 : Box Term) (x2 : Box Term) → t ≡ term.Conditional x0 x1 x2 → term_of t ≡ e.conditional (term_of x0.value) (term_of x1.value) (term_of x2.value)
conditional_at t x0 x1 x2 is = ap term_of (is ∙ sym (rolls-Conditional x0 x1 x2)) ∙ fold-roll-Term PlaceTree TermTree UseTree TargetedTerm TermPair place_step term_step use_step argument_step pair_step (Term-F.Conditional x0 x1 x2)

pub before_at : (t : Term) (x0 : ℕ) → t ≡ term.Before x0 → term_of t ≡ e.before x0
before_at t x0 is = ap term_of (is ∙ sym (rolls-Before x0)) ∙ fold-roll-Term PlaceTree TermTree UseTree TargetedTerm TermPair place_step term_step use_step argument_step pair_step (Term-F.Before x0)

-- ---- places

pub place_variable_at : (t : Place) (x0 : ℕ) → t ≡ place.Variable x0 → place_of t ≡ e.variable x0
place_variable_at t x0 is = ap place_of (is ∙ sym (rolls-Variable x0)) ∙ fold-roll-Place PlaceTree TermTree UseTree TargetedTerm TermPair place_step term_step use_step argument_step pair_step (Place-F.Variable x0)

pub place_self_at : (t : Place) → t ≡ place.Self_ → place_of t ≡ e.self
place_self_at t is = ap place_of (is ∙ sym rolls-Self_) ∙ fold-roll-Place PlaceTree TermTree UseTree TargetedTerm TermPair place_step term_step use_step argument_step pair_step Place-F.Self_

pub place_contract_at : (t : Place) (x0 : TypeId) → t ≡ place.Contract x0 → place_of t ≡ e.contract x0
place_contract_at t x0 is = ap place_of (is ∙ sym (rolls-Contract x0)) ∙ fold-roll-Place PlaceTree TermTree UseTree TargetedTerm TermPair place_step term_step use_step argument_step pair_step (Place-F.Contract x0)

pub place_target_at : (t : Place) (x0 : Box Term) → t ≡ place.Target x0 → place_of t ≡ e.target (term_of x0.value)
place_target_at t x0 is = ap place_of (is ∙ sym (rolls-Target x0)) ∙ fold-roll-Place PlaceTree TermTree UseTree TargetedTerm TermPair place_step term_step use_step argument_step pair_step (Place-F.Target x0)

pub place_field_at : (t : Place) (x0 : Box Place) (x1 : CadType) (x2 : Name) → t ≡ place.Field x0 x1 x2 → place_of t ≡ e.field (place_of x0.value) (pure_type x1) x2
place_field_at t x0 x1 x2 is = ap place_of (is ∙ sym (rolls-Field x0 x1 x2)) ∙ fold-roll-Place PlaceTree TermTree UseTree TargetedTerm TermPair place_step term_step use_step argument_step pair_step (Place-F.Place::Field x0 x1 x2)

pub place_element_at : (t : Place) (x0 : Box Place) (x1 : CadType) (x2 : Box Term) → t ≡ place.Element x0 x1 x2 → place_of t ≡ e.element (place_of x0.value) (pure_type x1) (term_of x2.value)
place_element_at t x0 x1 x2 is = ap place_of (is ∙ sym (rolls-Element x0 x1 x2)) ∙ fold-roll-Place PlaceTree TermTree UseTree TargetedTerm TermPair place_step term_step use_step argument_step pair_step (Place-F.Element x0 x1 x2)

pub place_content_at : (t : Place) (x0 : Box Place) (x1 : Bool) → t ≡ place.Content x0 x1 → place_of t ≡ e.content (place_of x0.value) x1
place_content_at t x0 x1 is = ap place_of (is ∙ sym (rolls-Content x0 x1)) ∙ fold-roll-Place PlaceTree TermTree UseTree TargetedTerm TermPair place_step term_step use_step argument_step pair_step (Place-F.Content x0 x1)

-- ---- uses

pub use_get_at : (t : Use) (x0 : Name) (x1 : Authorization) → t ≡ usage.Field x0 x1 → use_of t ≡ e.get x0 x1
use_get_at t x0 x1 is = ap use_of (is ∙ sym (rolls-Get x0 x1)) ∙ fold-roll-Use PlaceTree TermTree UseTree TargetedTerm TermPair place_step term_step use_step argument_step pair_step (Use-F.Use::Field x0 x1)

pub use_method_at : (t : Use) (x0 : Name) (x1 : Bool) (x2 : Bool) (x3 : Vec Argument) → t ≡ usage.Method x0 x1 x2 x3 → use_of t ≡ e.method x0 x1 x2 (e.arguments_of (map argument_of x3.items))
use_method_at t x0 x1 x2 x3 is = ap use_of (is ∙ sym (rolls-Method x0 x1 x2 x3)) ∙ fold-roll-Use PlaceTree TermTree UseTree TargetedTerm TermPair place_step term_step use_step argument_step pair_step (Use-F.Method x0 x1 x2 x3)

pub use_builtin_field_at : (t : Use) (x0 : Builtin) → t ≡ usage.BuiltinField x0 → use_of t ≡ e.builtin_field x0
use_builtin_field_at t x0 is = ap use_of (is ∙ sym (rolls-BuiltinField x0)) ∙ fold-roll-Use PlaceTree TermTree UseTree TargetedTerm TermPair place_step term_step use_step argument_step pair_step (Use-F.BuiltinField x0)

pub use_builtin_call_at : (t : Use) (x0 : Builtin) (x1 : Vec CadType) (x2 : Vec Argument) → t ≡ usage.BuiltinCall x0 x1 x2 → use_of t ≡ e.builtin_call x0 (map pure_type x1.items) (e.arguments_of (map argument_of x2.items))
use_builtin_call_at t x0 x1 x2 is = ap use_of (is ∙ sym (rolls-BuiltinCall x0 x1 x2)) ∙ fold-roll-Use PlaceTree TermTree UseTree TargetedTerm TermPair place_step term_step use_step argument_step pair_step (Use-F.BuiltinCall x0 x1 x2)
