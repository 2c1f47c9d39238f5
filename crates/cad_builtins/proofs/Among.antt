-- The first of a name in tables that stand one behind the other.
use Rattle.std.specs.Prelude.{Bool, true, false, Option, Some, None, List, [], ◌∷◌, ◌++◌, find, option_map, if◌then◌else◌}
use Rattle.std.specs.Option.{option_or}
use Rattle.std.proofs.Common.{◌≡◌, ◌∙◌, refl, ap, sym}
use Rattle.cad_syntax.specs.Types.{PureType}
use Rattle.cad_syntax.specs.declared.text.Name.{Name}
use Rattle.cad_syntax.specs.declared.kind.Kind.{Kind}
use Rattle.cad_syntax.specs.declared.kind.Kind.TheVariants as k
use Rattle.cad_types.specs.Declarations.{Declaration}
use Rattle.cad_types.specs.declared.builtin.Builtin.{Builtin}
use Rattle.cad_declarations.specs.Names.{is_spelled}
use Rattle.cad_declarations.specs.BuiltinNames.{MemberName, member_among, own_members, any_members, array_members, dictionary_members, number_members, saturating_members}
use Rattle.cad_builtins.specs.Code.Names.{all_array_members, copying_if, comparing_if, array_by_parts, all_dictionary_members, values_if, dictionary_by_parts, all_number_members, bytes_if, numbered, builtin_by_parts}

pub among_both : (xs ys : List MemberName) (name : Name) → member_among (xs ++ ys) name ≡ option_or (member_among xs name) (member_among ys name)
among_both [] ys name = refl
among_both (x ∷ xs) ys name =
    elim (is_spelled x.text name) as (λ v. option_map (λ n. n.member) (if v then Some x else find (λ n. is_spelled n.text name) (xs ++ ys))
    ≡ option_or (option_map (λ n. n.member) (if v then Some x else find (λ n. is_spelled n.text name) xs)) (member_among ys name))
    [ true ↦ refl | false ↦ among_both xs ys name ]

pub all_builtin : (d : List Declaration) (t : PureType) (name : Name) → builtin_by_parts d t name ≡ member_among (own_members d t ++ any_members) name
all_builtin d t name = sym (among_both (own_members d t) any_members name)

or_then : {A : Type 0} (o p q : Option A) → option_or o (option_or p q) ≡ option_or (option_or o p) q
or_then None p q = refl
or_then (Some x) p q = refl

three : (xs ys zs : List MemberName) (name : Name)
    → option_or (member_among xs name) (option_or (member_among ys name) (member_among zs name)) ≡ member_among (xs ++ ys ++ zs) name
three xs ys zs name =
    or_then (member_among xs name) (member_among ys name) (member_among zs name)
    ∙ ap (λ o. option_or o (member_among zs name)) (sym (among_both xs ys name))
    ∙ sym (among_both (xs ++ ys) zs name)

pub all_array : (d : List Declaration) (t : PureType) (name : Name) → array_by_parts d t name ≡ member_among (array_members d t) name
all_array d t name = three all_array_members (copying_if d t) (comparing_if d t) name

pub all_dictionary : (d : List Declaration) (t : PureType) (name : Name) → dictionary_by_parts d t name ≡ member_among (dictionary_members d t) name
all_dictionary d t name = sym (among_both all_dictionary_members (values_if d t) name)

pub all_number : (kind : Kind) (name : Name) → numbered kind name ≡ member_among (number_members kind) name
all_number k.Address name = refl
all_number kind name = three all_number_members (bytes_if kind) (saturating_members kind) name
