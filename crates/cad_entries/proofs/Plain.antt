-- Types whose interfaces aren't told are closed.
use Rattle.std.specs.Prelude.{Bool, true, false, Option, Some, None, option_map, option_to_list, List, [], ◌∷◌, ◌++◌, flat_map, map, if◌then◌else◌}
use Rattle.std.proofs.Common.{◌≡◌, ◌∙◌, refl, ap, sym, subst}
use Rattle.cad_syntax.specs.TypeIds.{same_id, has}
use Rattle.cad_syntax.specs.declared.type_id.TypeId.{TypeId}
use Rattle.cad_grammar.specs.Trees as t
use Rattle.cad_types.specs.Declarations.{Declaration, found, interfaces_in, interfaces_of, IsClosed}
use Rattle.cad_declarations.specs.Imports.{ContractEntry}
use Rattle.cad_declarations.specs.Own.{OwnContract, named, named_by, named_in}
use Rattle.cad_declarations.specs.Tables.{TypeEntry}

-- none of them has interfaces
abbrev pub IsPlain : List Declaration → Type 0
IsPlain [] = Unit {0}
IsPlain (d ∷ ds) = (d.interfaces ≡ []) × IsPlain ds

both : (a b : List Declaration) → IsPlain a → IsPlain b → IsPlain (a ++ b)
both [] b p q = q
both (d ∷ a) b p q = (p.0, both a b p.1 q)

types_plain : (types : List TypeEntry) → IsPlain (map (λ t. named t.id t.sort) types)
types_plain [] = tt
types_plain (t ∷ types) = (refl, types_plain types)

imports_plain : (imports : List ContractEntry) → IsPlain (flat_map (λ c. map (λ t. named t.id t.sort) c.types) imports)
imports_plain [] = tt
imports_plain (c ∷ imports) = both (map (λ t. named t.id t.sort) c.types) (flat_map (λ c. map (λ t. named t.id t.sort) c.types) imports) (types_plain c.types) (imports_plain imports)

member_plain : (id : TypeId) (x : t.ContractMemberTree) → IsPlain (named_by id x)
member_plain id (t.composite x) = (refl, tt)
member_plain id (t.interface x) = (refl, tt)
member_plain id (t.contract_event x) = (refl, tt)
member_plain id (t.enumeration x) = (refl, tt)
member_plain id (t.contract_field x) = tt
member_plain id (t.contract_function x) = tt
member_plain id (t.contract_init x) = tt
member_plain id (t.entitlement x) = tt
member_plain id (t.mapping x) = tt

members_plain : (id : TypeId) (all : List t.ContractMemberTree) → IsPlain (flat_map (named_by id) all)
members_plain id [] = tt
members_plain id (x ∷ all) = both (named_by id x) (flat_map (named_by id) all) (member_plain id x) (members_plain id all)

own_plain : (own : Option OwnContract) → IsPlain (flat_map named_in (option_to_list own))
own_plain None = tt
own_plain (Some own) = both (named_in own) [] (refl, members_plain own.id own.members) tt

none_there : (ds : List Declaration) → IsPlain ds → (id : TypeId) → interfaces_of ds id ≡ []
none_there [] p id = refl
none_there (d ∷ ds) p id = by (same_id d.id id) (none_there ds p.1 id)
  where
    by : (q : Bool) → interfaces_of ds id ≡ [] → interfaces_in (if q then Some d else found ds id) ≡ []
    by true rest = p.0
    by false rest = rest

pub plain_closed : (ds : List Declaration) → IsPlain ds → IsClosed ds
plain_closed ds p i j m there next = absurd (let e : has [] j ≡ true = ap (λ ids. has ids j) (sym (none_there ds p i)) ∙ there in cc)

-- the types that names are looked up in are closed
pub named_closed : (ds : List Declaration) (imports : List ContractEntry) (own : Option OwnContract)
    → ds ≡ flat_map (λ c. map (λ t. named t.id t.sort) c.types) imports ++ flat_map named_in (option_to_list own) → IsClosed ds
named_closed ds imports own is =
    plain_closed ds (let P : List Declaration → Type 0 = IsPlain in subst P (sym is) (both (flat_map (λ c. map (λ t. named t.id t.sort) c.types) imports) (flat_map named_in (option_to_list own)) (imports_plain imports) (own_plain own)))
