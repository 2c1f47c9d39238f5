-- A type that meets an interface has its members.
use Rattle.std.specs.Prelude.{Bool, true, false, Option, Some, None, List, [], ◌∷◌, filter_map, find, if◌then◌else◌}
use Rattle.std.specs.List.{cons_option}
use Rattle.std.specs.Option.{option_or}
use Rattle.std.proofs.Common.{◌≡◌, ◌∙◌, ◌⊎◌, inl, inr, refl, ap, sym, subst}
use Rattle.cad_syntax.specs.TypeIds.{has}
use Rattle.cad_syntax.specs.declared.text.Name.{Name}
use Rattle.cad_syntax.specs.declared.type_id.TypeId.{TypeId}
use Rattle.cad_syntax.proofs.Same.{names_tell}
use Rattle.cad_types.specs.Declarations.{Declaration}
use Rattle.cad_declarations.specs.Meets.{MemberMeets, only, composite_offer, offer, Offers, Each, MeetsInterface, Meets}
use Rattle.cad_declarations.specs.Members.{type_in, member_in, members_in, interfaces_in, own_member, first_some, default_in, interface_member, composite_member, is_interface_entry, declared_member}
use Rattle.cad_declarations.specs.Names.{same_name}
use Rattle.cad_declarations.specs.Scopes.{is_interface_sort}
use Rattle.cad_declarations.specs.Tables.{MemberEntry, TypeEntry}
use Rattle.cad_table_laws.specs.Laws.{MembersAreMet}
use Rattle.cad_table_laws.proofs.Reaching.{head_or_tail}

each_of : (P : TypeId → Type 0) (ids : List TypeId) (id : TypeId) → Each P ids → has ids id ≡ true → P id
each_of P [] id e h = cc
each_of P (x ∷ ids) id e h = by_place (each_of P ids id e.1) (head_or_tail x ids id h)
  where
    by_place : (has ids id ≡ true → P id) → (x ≡ id) ⊎ (has ids id ≡ true) → P id
    by_place later (inl same) = subst P same e.0
    by_place later (inr k) = later k

-- what is found has the property, and the name
found_has : (P : MemberEntry → Type 0) (members : List MemberEntry) (name : Name) (m : MemberEntry) → Each P members → member_in members name ≡ Some m
    → P m × (m.name ≡ name)
found_has P [] name m e h = cc
found_has P (x ∷ members) name m e h = by_first (same_name x.name name) refl (found_has P members name m e.1) h
  where
    by_first : (q : Bool) → same_name x.name name ≡ q → (member_in members name ≡ Some m → P m × (m.name ≡ name))
        → (if q then Some x else member_in members name) ≡ Some m → P m × (m.name ≡ name)
    by_first true same later k = let g : x ≡ m = cc in (subst P g e.0, ap (λ (y : MemberEntry). y.name) (sym g) ∙ (names_tell x.name name).0 same)
    by_first false other later k = later k

only_is : {X : Type 0} (x y : X) (more : List X) → only (x ∷ more) ≡ Some y → x ≡ y
only_is x y [] h = cc
only_is x y (z ∷ more) h = cc

-- the only one is the first
only_first : {X Y : Type 0} (f : X → Option Y) (xs : List X) (y : Y) → only (filter_map f xs) ≡ Some y → first_some f xs ≡ Some y
only_first f [] y h = cc
only_first f (x ∷ xs) y h = by_first (f x) (only_first f xs y) h
  where
    by_first : (o : Option _) → (only (filter_map f xs) ≡ Some y → first_some f xs ≡ Some y) → only (cons_option o (filter_map f xs)) ≡ Some y
        → option_or o (first_some f xs) ≡ Some y
    by_first None later k = later k
    by_first (Some z) later k = ap Some (only_is z y (filter_map f xs) k)

-- what stands for a member is the member that look-up finds
composite_found : (types : List TypeEntry) (t : TypeEntry) (name : Name) (own : MemberEntry) → type_in types t.id ≡ Some t
    → composite_offer types t name ≡ Some own → composite_member types name t.id ≡ Some own
composite_found types t name own there h = by_own (own_member types name t.id) h
  where
    by_own : (o : Option MemberEntry) → option_or o (only (filter_map (default_in types name) t.interfaces)) ≡ Some own
        → option_or o (first_some (default_in types name) (interfaces_in (type_in types t.id))) ≡ Some own
    by_own None k =
        ap (λ (e : Option TypeEntry). first_some (default_in types name) (interfaces_in e)) there ∙ only_first (default_in types name) t.interfaces own k
    by_own (Some m) k = k

offer_found : (types : List TypeEntry) (t : TypeEntry) (name : Name) (own : MemberEntry) → type_in types t.id ≡ Some t
    → offer types t name ≡ Some own → declared_member types name t.id ≡ Some own
offer_found types t name own there h =
    ap (λ (e : Option TypeEntry). if is_interface_entry e then interface_member types name t.id else composite_member types name t.id) there
    ∙ by_sort (is_interface_sort t.sort) h
  where
    by_sort : (q : Bool) → (if q then interface_member types name t.id else composite_offer types t name) ≡ Some own
        → (if q then interface_member types name t.id else composite_member types name t.id) ≡ Some own
    by_sort true k = k
    by_sort false k = composite_found types t name own there k

offered : (k : List Declaration) (o : Option MemberEntry) (asked : MemberEntry) → Offers k o asked → (own : MemberEntry) × (o ≡ Some own) × MemberMeets k own asked
offered k None asked h = absurd h
offered k (Some own) asked h = (own, refl, h)

pub members_met : MembersAreMet
members_met k types t interface name asked there meets is there_too =
    let all = each_of (MeetsInterface k types t) t.interfaces interface meets is in
    let found = found_has (λ m. Offers k (offer types t m.name) m) (members_in (type_in types interface)) name asked all there_too in
    let own = offered k (offer types t name) asked (subst (λ (n : Name). Offers k (offer types t n) asked) found.1 found.0) in
    (own.0, offer_found types t name own.0 there own.1, own.2)
