-- Enums, entitlements and mappings: what is read is spelled, and what is spelled is read.
use Rattle.std.proofs.Common.{◌≡◌, ℕ, ◌<◌, List, ◌∷◌, length, codes, Option, Some, None, refl, sym, ap, ◌∙◌, arith}
use Rattle.cad_grammar.specs.declared.token.Sign.{Sign}
use Rattle.cad_grammar.specs.declared.token.Sign.TheVariants as s
use Rattle.cad_syntax.specs.declared.keyword.Keyword.TheVariants as k
use Rattle.cad_grammar.specs.declared.token.TokenKind.{TokenKind}
use Rattle.cad_grammar.specs.declared.token.TokenKind.TheVariants as kind
use Rattle.cad_grammar.specs.declared.token.Token.{Token}
use Rattle.cad_syntax.specs.declared.text.Name.{Name}
use Rattle.cad_grammar.specs.declared.declaration.Access.{Access}
use Rattle.cad_grammar.specs.declared.declaration.EnumCase.{EnumCase}
use Rattle.cad_grammar.specs.declared.declaration.Entitlement.{Entitlement}
use Rattle.cad_grammar.specs.declared.declaration.MappingItem.{MappingItem}
use Rattle.cad_grammar.specs.declared.declaration.MappingItem.TheVariants as mapping_item
use Rattle.cad_grammar.specs.Trees.{EnumTree, MappingTree}
use Rattle.cad_grammar.specs.Spots.{Spot, after, keyword, word, name, opening}
use Rattle.cad_parse_type.specs.Code.Levels.{token_strength}
use Rattle.cad_grammar.specs.TypeGrammar.{Dotted}
use Rattle.cad_grammar.specs.TypeGrammar as types_of
use Rattle.cad_grammar.specs.ProgramGrammar.{ReadsAccess, ReadsEnumCase, ReadsEnum, mapping_head, ReadsEntitlement, ReadsMappingItem, ReadsMapping}
use Rattle.cad_grammar.specs.ProgramGrammar as g
use Rattle.cad_parse_type.specs.Code.Reading.{dotted}
use Rattle.cad_parse_type.proofs.TypeLaws.{TypeLaws}
use Rattle.cad_parse_type.proofs.Heads.{none_of, some_same, then_some, head, head_of, next_taken, read_taken, name_head, after_head, other, not_after, opening_head, weak_after, after_shorter, name_shorter, next_shorter, keyword_shorter, opening_shorter}
use Rattle.cad_parse_type.proofs.Climbs.{then_is, either_is, either_not, IfFound, then_found, either_found, found_is}
use Rattle.cad_parse.specs.Code.Parts as parts
use Rattle.cad_parse.specs.Code.Reading as r
use Rattle.cad_parse.proofs.MemberLaws.{MemberLaws}
use Rattle.cad_parse.proofs.Firsts.{Begins, begins_weak, begins_no_sign, named_begins, word_head}
use Rattle.cad_parse.proofs.ParameterLaws.{labelled_is, labelled_exact}
use Rattle.cad_parse.proofs.RepeatedLaws.{As, ItemLaws, repeated_sound, repeated_shorter, repeated_exact}
use Rattle.cad_parse.proofs.CompositeLaws.{access_begins}

-- ---- where a name stands before a sign

dotted_begins : {p q : Spot} {n : List Name} → Dotted p n q → Begins p
dotted_begins (types_of.single {p} {q} {n} e) = named_begins p n (name_head p (n, q) e)
dotted_begins (types_of.further {p} {q} {n} e f d) = named_begins p n (name_head p (n, q) e)

-- behind its first name comes a dot, or all of it is over
dotted_first : {p q : Spot} {n : List Name} → Dotted p n q → (sign : Sign) → head q ≡ Some (kind.Sign sign)
    → (x : Name × Spot) × (found : Sign) × (name p ≡ Some x) × (head x.1 ≡ Some (kind.Sign found))
dotted_first (types_of.single {p} {q} {n} e) sign h = ((n, q), sign, e, h)
dotted_first (types_of.further {p} {q} {r = u} {n} e f d) sign h = ((n, q), s.Dot, e, after_head s.Dot q u f)

rest_same : (t u : Token) (ts us : List Token) → t ∷ ts ≡ u ∷ us → ts ≡ us
rest_same t u ts us e = cc

-- behind a word stands the same as behind it as a name
word_name : (text : List ℕ) (p q : Spot) (x : Name × Spot) → word text p ≡ Some q → name p ≡ Some x → head q ≡ head x.1
word_name text p q x e f =
    let w = next_taken _ p q e in
    let v = read_taken _ p x f in
    ap head_of (rest_same w.0.token v.0.token q.tokens x.1.tokens (sym w.0.split ∙ v.0.split))

sign_or_name : (sign : Sign) (n : Name) → ◌≡◌ {A = Option TokenKind} (Some (kind.Sign sign)) (Some (kind.Name n)) → ⊥
sign_or_name sign n e = cc

module _ (types : TypeLaws) (members : MemberLaws) where
  -- ---- cases and enums

  enum_case_found : (p : Spot) → IfFound (As ReadsEnumCase p) (r.enum_case p)
  unfolding r.enum_case
  enum_case_found p =
      let P = As ReadsEnumCase p in
      then_found P (parts.accessed p) _ (λ c e. then_found P (keyword k.Case c.1) _ (λ q f. then_found P (name q) _ (λ n h. g.enum_case (members.access_sound p c e) f h)))

  enum_case_exact : {p q : Spot} {x : EnumCase} → ReadsEnumCase p x q → r.enum_case p ≡ Some (x, q)
  unfolding r.enum_case
  enum_case_exact (g.enum_case {p} {q} {r = u} {u = v} {c} {n} d e f) =
      then_is (parts.accessed p) _ (c, q) (members.access_exact d) ∙ then_is (keyword k.Case q) _ u e ∙ then_is (name u) _ (n, v) f

  enum_case_shorter : {p q : Spot} {x : EnumCase} → ReadsEnumCase p x q → length q.tokens < length p.tokens
  enum_case_shorter (g.enum_case {p} {q} {r = u} {u = v} {c} {n} d e f) = omega (arith, members.access_shorter d, keyword_shorter k.Case q u e, name_shorter u (n, v) f)

  enum_case_begins : {p q : Spot} {x : EnumCase} → ReadsEnumCase p x q → Begins p
  enum_case_begins (g.enum_case d e f) = access_begins types members d

  pub enum_case_laws : ItemLaws ReadsEnumCase r.enum_case s.CloseBrace
  enum_case_laws = record {
    is_sound = λ p x e. found_is (As ReadsEnumCase p) (r.enum_case p) x (enum_case_found p) e;
    is_exact = λ p q a d w. enum_case_exact d;
    is_shorter = λ p q a d. enum_case_shorter d;
    is_weak = λ p q a d. begins_weak p (enum_case_begins d);
    is_open = λ p q a d. begins_no_sign s.CloseBrace p (enum_case_begins d);
  }

  pub enumeration_found : (p q u : Spot) (c : Access) → ReadsAccess p c q → keyword k.Enum q ≡ Some u → IfFound (As ReadsEnum p) (r.enumeration p c u)
  unfolding r.enumeration
  enumeration_found p q u c d e =
      let P = As ReadsEnum p in
      then_found P (parts.labelled u) _ (λ n e1. let w = labelled_is u n e1 in then_found P (dotted n.1) _ (λ raw e2. then_found P (opening s.OpenBrace raw.1) _ (λ v e3.
      then_found P (r.enum_cases v) _ (λ all e4.
      g.enumeration d e w.1 w.2 (types.dotted_sound n.1 raw e2) e3 (repeated_sound ReadsEnumCase r.enum_case s.CloseBrace enum_case_laws.is_sound (length v.tokens) v all e4)))))

  pub enumeration_shorter : {p q : Spot} {x : EnumTree} → ReadsEnum p x q → length q.tokens < length p.tokens
  enumeration_shorter (g.enumeration {p} {q} {r = u} {u = v} {v = w} {w = y} {x = z} {y = end} d e n f raw o all) =
      omega (
        arith,
        members.access_shorter d,
        keyword_shorter k.Enum q u e,
        name_shorter u _ n,
        after_shorter s.Colon v w f,
        types.dotted_shorter raw,
        opening_shorter s.OpenBrace y z o,
        repeated_shorter ReadsEnumCase r.enum_case s.CloseBrace enum_case_laws (λ b. refl) all,
      )

  pub enumeration_begins : {p q : Spot} {x : EnumTree} → ReadsEnum p x q → Begins p
  enumeration_begins (g.enumeration d e n f raw o all) = access_begins types members d

  -- how an enum is read behind its access
  pub record EnumRead (p : Spot) (x : EnumTree) (q : Spot) : Type 0 where
    pub access : Access
    pub word : Spot
    pub behind : Spot
    pub accesses : ReadsAccess p access word
    pub words : keyword k.Enum word ≡ Some behind
    pub reads : r.enumeration p access behind ≡ Some (x, q)

  pub enumeration_exact : {p q : Spot} {x : EnumTree} → ReadsEnum p x q → EnumRead p x q
  unfolding r.enumeration
  enumeration_exact (g.enumeration {p} {q} {r = u} {u = v} {v = w} {w = y} {x = z} {y = end} {c} {n} {raw = dots} {cases = all} d e f h raw o m) = record {
    access = c;
    word = q;
    behind = u;
    accesses = d;
    words = e;
    reads = then_is (parts.labelled u) _ (n, w) (labelled_exact u v w n f h)
        ∙ then_is (dotted w) _ (dots, y) (types.dotted_exact raw (not_after s.OpenBrace s.Dot y (λ x. cc) (opening_head s.OpenBrace y z o)))
        ∙ then_is (opening s.OpenBrace y) _ z o
        ∙ then_is (r.enum_cases z) _ (all, end) (repeated_exact ReadsEnumCase r.enum_case s.CloseBrace enum_case_laws (λ b. refl) m);
  }

  -- ---- items of mappings

  identity_found : (p : Spot) (q : Spot) → r.identity p ≡ Some q → ReadsMappingItem p mapping_item.Identity q
  unfolding r.identity
  identity_found p q e = let w = then_some (word (codes "include") p) _ q e in g.identity w.1 w.2

  pair_found : (p : Spot) → IfFound (As ReadsMappingItem p) (r.pair p)
  unfolding r.pair
  pair_found p =
      let P = As ReadsMappingItem p in
      then_found P (dotted p) _ (λ from e. then_found P (after s.Arrow from.1) _ (λ q f. then_found P (dotted q) _ (λ to h.
      g.pair (types.dotted_sound p from e) f (types.dotted_sound q to h))))

  mapping_entry_found : (p : Spot) → IfFound (As ReadsMappingItem p) (r.mapping_entry p)
  unfolding r.mapping_entry
  mapping_entry_found p = either_found (As ReadsMappingItem p) (r.identity p) _ _ (λ q e. identity_found p q e) (λ _. pair_found p)

  -- no pair begins with two names
  no_identity : {p q u : Spot} {n : List Name} → Dotted p n q → after s.Arrow q ≡ Some u → r.identity p ≡ None
  unfolding r.identity
  no_identity {p} {q} {u} d a = none_of (r.identity p) (λ v e.
      let w = then_some (word (codes "include") p) _ v e in
      let x = dotted_first d s.Arrow (after_head s.Arrow q u a) in
      let y = word_head (codes "Identity") w.0 v w.2 in
      sign_or_name x.1 y.0 (sym x.3 ∙ sym (word_name (codes "include") p w.0 x.0 w.1 x.2) ∙ y.1))

  mapping_entry_exact : {p q : Spot} {x : MappingItem} → ReadsMappingItem p x q → token_strength q ≡ 0 → r.mapping_entry p ≡ Some (x, q)
  unfolding r.mapping_entry r.identity r.pair
  mapping_entry_exact (g.identity {p} {q} {r = u} e f) weak = either_is (r.identity p) _ _ u (then_is (word (codes "include") p) _ q e ∙ f)
  mapping_entry_exact (g.pair {p} {q} {r = u} {u = v} {from} {to} d e f) weak =
      either_not (r.identity p) _ _ (no_identity d e) ∙ then_is (dotted p) _ (from, q) (types.dotted_exact d (other s.Arrow s.Dot q u (λ x. cc) e))
      ∙ then_is (after s.Arrow q) _ u e ∙ then_is (dotted u) _ (to, v) (types.dotted_exact f (weak_after s.Dot v 13 (λ b. omega arith) (omega (arith, weak))))

  mapping_entry_shorter : {p q : Spot} {x : MappingItem} → ReadsMappingItem p x q → length q.tokens < length p.tokens
  mapping_entry_shorter (g.identity {p} {q} {r = u} e f) = omega (arith, next_shorter _ p q e, next_shorter _ q u f)
  mapping_entry_shorter (g.pair {p} {q} {r = u} {u = v} d e f) = omega (arith, types.dotted_shorter d, after_shorter s.Arrow q u e, types.dotted_shorter f)

  mapping_entry_begins : {p q : Spot} {x : MappingItem} → ReadsMappingItem p x q → Begins p
  mapping_entry_begins (g.identity {p} {q} {r = u} e f) = let h = word_head (codes "include") p q e in named_begins p h.0 h.1
  mapping_entry_begins (g.pair d e f) = dotted_begins d

  pub mapping_entry_laws : ItemLaws ReadsMappingItem r.mapping_entry s.CloseBrace
  mapping_entry_laws = record {
    is_sound = λ p x e. found_is (As ReadsMappingItem p) (r.mapping_entry p) x (mapping_entry_found p) e;
    is_exact = λ p q a d w. mapping_entry_exact d w;
    is_shorter = λ p q a d. mapping_entry_shorter d;
    is_weak = λ p q a d. begins_weak p (mapping_entry_begins d);
    is_open = λ p q a d. begins_no_sign s.CloseBrace p (mapping_entry_begins d);
  }

  -- ---- mappings and entitlements

  mapping_head_shorter : (p : Spot) (x : Name × Spot) → mapping_head p ≡ Some x → length x.1.tokens < length p.tokens
  unfolding mapping_head
  mapping_head_shorter p x e =
      let w = then_some (word (codes "mapping") p) _ x e in
      let v = then_some (name w.0) _ x w.2 in
      let u = then_some (opening s.OpenBrace v.0.1) _ x v.2 in
      let same = some_same (v.0.0, u.0) x u.2 in
      omega (arith, next_shorter _ p w.0 w.1, name_shorter w.0 v.0 v.1, opening_shorter s.OpenBrace v.0.1 u.0 u.1, ap (λ y. length y.1.tokens) same)

  pub mapping_found : (p q u v : Spot) (c : Access) (n : Name) → ReadsAccess p c q → word (codes "entitlement") q ≡ Some u → mapping_head u ≡ Some (n, v) → IfFound (As ReadsMapping p) (r.mapping p c n v)
  unfolding r.mapping
  mapping_found p q u v c n d e f =
      let P = As ReadsMapping p in
      then_found P (r.mapping_entries v) _ (λ all h.
      g.mapping d e f (repeated_sound ReadsMappingItem r.mapping_entry s.CloseBrace mapping_entry_laws.is_sound (length v.tokens) v all h))

  pub entitlement_found : (p q u : Spot) (c : Access) → ReadsAccess p c q → word (codes "entitlement") q ≡ Some u → mapping_head u ≡ None → IfFound (As ReadsEntitlement p) (r.entitlement c u)
  unfolding r.entitlement
  entitlement_found p q u c d e f = then_found (As ReadsEntitlement p) (name u) _ (λ n h. g.entitlement d e f h)

  pub mapping_shorter : {p q : Spot} {x : MappingTree} → ReadsMapping p x q → length q.tokens < length p.tokens
  mapping_shorter (g.mapping {p} {q} {r = u} {u = v} {v = w} {c} {n} d e f all) =
      omega (arith, members.access_shorter d, next_shorter _ q u e, mapping_head_shorter u (n, v) f, repeated_shorter ReadsMappingItem r.mapping_entry s.CloseBrace mapping_entry_laws (λ b. refl) all)

  pub entitlement_shorter : {p q : Spot} {x : Entitlement} → ReadsEntitlement p x q → length q.tokens < length p.tokens
  entitlement_shorter (g.entitlement {p} {q} {r = u} {u = v} {c} {n} d e f h) = omega (arith, members.access_shorter d, next_shorter _ q u e, name_shorter u (n, v) h)

  pub mapping_begins : {p q : Spot} {x : MappingTree} → ReadsMapping p x q → Begins p
  mapping_begins (g.mapping d e f all) = access_begins types members d

  pub entitlement_begins : {p q : Spot} {x : Entitlement} → ReadsEntitlement p x q → Begins p
  entitlement_begins (g.entitlement d e f h) = access_begins types members d

  -- how a mapping and an entitlement are read behind their access
  pub record MappingRead (p : Spot) (x : MappingTree) (q : Spot) : Type 0 where
    pub access : Access
    pub place : Spot
    pub behind : Spot
    pub named : Name
    pub inside : Spot
    pub accesses : ReadsAccess p access place
    pub words : word (codes "entitlement") place ≡ Some behind
    pub heads : mapping_head behind ≡ Some (named, inside)
    pub reads : r.mapping p access named inside ≡ Some (x, q)

  pub record EntitlementRead (p : Spot) (x : Entitlement) (q : Spot) : Type 0 where
    pub access : Access
    pub place : Spot
    pub behind : Spot
    pub accesses : ReadsAccess p access place
    pub words : word (codes "entitlement") place ≡ Some behind
    pub lacks : mapping_head behind ≡ None
    pub reads : r.entitlement access behind ≡ Some (x, q)

  pub mapping_exact : {p q : Spot} {x : MappingTree} → ReadsMapping p x q → MappingRead p x q
  unfolding r.mapping
  mapping_exact (g.mapping {p} {q} {r = u} {u = v} {v = w} {c} {n} {items = all} d e f m) = record {
    access = c;
    place = q;
    behind = u;
    named = n;
    inside = v;
    accesses = d;
    words = e;
    heads = f;
    reads = then_is (r.mapping_entries v) _ (all, w) (repeated_exact ReadsMappingItem r.mapping_entry s.CloseBrace mapping_entry_laws (λ b. refl) m);
  }

  pub entitlement_exact : {p q : Spot} {x : Entitlement} → ReadsEntitlement p x q → EntitlementRead p x q
  unfolding r.entitlement
  entitlement_exact (g.entitlement {p} {q} {r = u} {u = v} {c} {n} d e f h) = record {
    access = c;
    place = q;
    behind = u;
    accesses = d;
    words = e;
    lacks = f;
    reads = then_is (name u) _ (n, v) h;
  }
