-- Contracts: what is read is spelled, and what is spelled is read.
use Rattle.std.proofs.Common.{◌≡◌, ◌⊎◌, inl, inr, ◌<◌, length, codes, Some, None, refl, ◌∙◌, arith}
use Rattle.cad_grammar.specs.declared.token.Sign.TheVariants as s
use Rattle.cad_syntax.specs.declared.keyword.Keyword.{Keyword}
use Rattle.cad_syntax.specs.declared.keyword.Keyword.TheVariants as k
use Rattle.cad_grammar.specs.declared.token.TokenKind.TheVariants as kind
use Rattle.cad_grammar.specs.declared.declaration.Access.{Access}
use Rattle.cad_grammar.specs.declared.declaration.CompositeKind.{CompositeKind}
use Rattle.cad_grammar.specs.declared.declaration.Entitlement.{Entitlement}
use Rattle.cad_grammar.specs.Trees as tree
use Rattle.cad_grammar.specs.Trees.{FunctionTree, InitTree, FieldTree, EventTree, CompositeTree, InterfaceTree, EnumTree, MappingTree, ContractMemberTree, ContractTree}
use Rattle.cad_grammar.specs.Spots.{Spot, read, keyword, word, name, opening}
use Rattle.cad_parse_type.specs.Code.Levels.{token_strength}
use Rattle.cad_grammar.specs.StatementGrammar.{variable_word, variable_kind_of}
use Rattle.cad_grammar.specs.ProgramGrammar.{composite_kind_of, viewed, mapping_head, ReadsAccess, ReadsContractMember, ReadsContract}
use Rattle.cad_grammar.specs.ProgramGrammar as g
use Rattle.cad_parse_type.proofs.TypeLaws.{TypeLaws}
use Rattle.cad_parse_type.proofs.Heads.{keyword_head, read_not, name_shorter, keyword_shorter, opening_shorter}
use Rattle.cad_parse_type.proofs.Climbs.{then_is, either_is, either_not, IfFound, then_found, either_found, found_is}
use Rattle.cad_parse.specs.Code.Parts as parts
use Rattle.cad_parse.specs.Code.Reading as r
use Rattle.cad_parse.proofs.MemberLaws.{MemberLaws, FieldRead, FunctionRead, OpenEventRead, DestructionRead, InitRead}
use Rattle.cad_parse.proofs.Firsts.{Begins, begins_weak, begins_no_sign, not_keyword, word_head, word_no_keyword, viewed_is, view_no_keyword, view_no_word, view_no_read, composite_no_variable}
use Rattle.cad_parse.proofs.RepeatedLaws.{As, ItemLaws, repeated_sound, repeated_shorter, repeated_exact}
use Rattle.cad_parse.proofs.CompositeLaws.{no_access, field_begins, function_begins, event_begins, init_begins, composite_begins, interface_begins}
use Rattle.cad_parse.proofs.CompositeLaws.{composite_found, composite_shorter, CompositeRead, composite_exact, interface_found, interface_shorter, InterfaceRead, interface_exact}
use Rattle.cad_parse.proofs.EnumLaws.{enumeration_found, enumeration_shorter, enumeration_begins, EnumRead, enumeration_exact}
use Rattle.cad_parse.proofs.EnumLaws.{mapping_found, mapping_shorter, mapping_begins, MappingRead, mapping_exact, entitlement_found, entitlement_shorter, entitlement_begins, EntitlementRead, entitlement_exact}

module _ (types : TypeLaws) (members : MemberLaws) where
  -- ---- what is read is spelled

  composing_found : (p q u : Spot) (c : Access) (sort : CompositeKind) → ReadsAccess p c q → read composite_kind_of q ≡ Some (sort, u) → IfFound (As ReadsContractMember p) (r.composing p c sort u)
  unfolding r.composing
  composing_found p q u c sort d e =
      let P = As ReadsContractMember p in
      either_found P (keyword k.Interface u) _ _
      (λ v f. then_found P (r.interface p c sort v) _ (λ y h. g.contract_interface (found_is (As g.ReadsInterface p) _ y (interface_found types members p q u v c sort d e f) h)))
      (λ _. then_found P (r.composite p c sort u) _ (λ y h. g.contract_composite (found_is (As g.ReadsComposite p) _ y (composite_found types members p q u c sort d e) h)))

  entitling_found : (p q u : Spot) (c : Access) → ReadsAccess p c q → word (codes "entitlement") q ≡ Some u → IfFound (As ReadsContractMember p) (r.entitling p c u)
  unfolding r.entitling
  entitling_found p q u c d e =
      let P = As ReadsContractMember p in
      either_found P (mapping_head u) _ _
      (λ n f. then_found P (r.mapping p c n.0 n.1) _ (λ y h. g.contract_mapping (found_is (As g.ReadsMapping p) _ y (mapping_found types members p q u n.1 c n.0 d e f) h)))
      (λ lacks. then_found P (r.entitlement c u) _ (λ y h. g.contract_entitlement (found_is (As g.ReadsEntitlement p) _ y (entitlement_found types members p q u c d e lacks) h)))

  contract_member_with_found : (p q : Spot) (c : Access) → ReadsAccess p c q → IfFound (As ReadsContractMember p) (r.contract_member_with p c q)
  unfolding r.contract_member_with
  contract_member_with_found p q c d =
      let P = As ReadsContractMember p in
      either_found P (variable_word q) _ _ (λ x e. then_found P (r.field c x.0 x.1) _ (λ y f. g.contract_field (members.field_sound p q x.1 c x.0 y d e f))) (λ _.
      either_found P (read composite_kind_of q) _ _ (λ x e. composing_found p q x.1 c x.0 d e) (λ _.
      either_found P (keyword k.Event q) _ _ (λ u e. then_found P (r.event q c u) _ (λ y f. g.contract_event (members.open_event_sound p q u c y d e f))) (λ _.
      either_found P (keyword k.Enum q) _ _
      (λ u e. then_found P (r.enumeration p c u) _ (λ y f. g.contract_enum (found_is (As g.ReadsEnum p) _ y (enumeration_found types members p q u c d e) f))) (λ _.
      either_found P (word (codes "entitlement") q) _ _ (λ u e. entitling_found p q u c d e) (λ _.
      then_found P (r.function c q) _ (λ y f. g.contract_function (members.function_sound p q c y d f)))))))

  contract_member_found : (p : Spot) → IfFound (As ReadsContractMember p) (r.contract_member p)
  unfolding r.contract_member
  contract_member_found p =
      let P = As ReadsContractMember p in
      either_found P (parts.accessed p) _ _ (λ c e. contract_member_with_found p c.1 c.0 (members.access_sound p c e)) (λ _.
      either_found P (keyword k.Event p) _ _ (λ q e. then_found P (r.destruction p q) _ (λ y f. g.contract_event (members.destruction_sound p q y e f))) (λ _.
      then_found P (viewed k.Init p) _ (λ v e. then_found P (r.initializer v.0 v.1) _ (λ y f. g.contract_init (members.init_sound p v.1 v.0 y e f)))))

  -- ---- what is spelled takes tokens, and begins with its access, `event` or `init`

  contract_member_begins : {p q : Spot} {m : ContractMemberTree} → ReadsContractMember p m q → Begins p
  contract_member_begins (g.contract_field d) = field_begins types members d
  contract_member_begins (g.contract_function d) = function_begins types members d
  contract_member_begins (g.contract_init d) = init_begins types members d
  contract_member_begins (g.contract_composite d) = composite_begins types members d
  contract_member_begins (g.contract_interface d) = interface_begins types members d
  contract_member_begins (g.contract_event d) = event_begins types members d
  contract_member_begins (g.contract_enum d) = enumeration_begins types members d
  contract_member_begins (g.contract_entitlement d) = entitlement_begins types members d
  contract_member_begins (g.contract_mapping d) = mapping_begins types members d

  contract_member_shorter : {p q : Spot} {m : ContractMemberTree} → ReadsContractMember p m q → length q.tokens < length p.tokens
  contract_member_shorter (g.contract_field d) = members.field_shorter d
  contract_member_shorter (g.contract_function d) = members.function_shorter d
  contract_member_shorter (g.contract_init d) = members.init_shorter d
  contract_member_shorter (g.contract_composite d) = composite_shorter types members d
  contract_member_shorter (g.contract_interface d) = interface_shorter types members d
  contract_member_shorter (g.contract_event d) = members.event_shorter d
  contract_member_shorter (g.contract_enum d) = enumeration_shorter types members d
  contract_member_shorter (g.contract_entitlement d) = entitlement_shorter types members d
  contract_member_shorter (g.contract_mapping d) = mapping_shorter types members d

  -- ---- what is spelled is read

  -- behind an access
  accessed_is : (p q : Spot) (c : Access) → ReadsAccess p c q → r.contract_member p ≡ r.contract_member_with p c q
  unfolding r.contract_member
  accessed_is p q c d = either_is (parts.accessed p) _ _ (c, q) (members.access_exact d)

  field_is : (p q : Spot) (f : FieldTree) → FieldRead p f q → r.contract_member p ≡ Some (tree.contract_field f, q)
  unfolding r.contract_member_with
  field_is p q f w =
      accessed_is p w.word w.access w.accesses ∙ either_is (variable_word w.word) _ _ (w.kind, w.behind) w.kinds ∙ then_is (r.field w.access w.kind w.behind) _ (f, q) w.reads

  -- behind an access and a keyword that is neither of a field nor of a composite
  keyword_is : (p q : Spot) (c : Access) (asked : Keyword) → variable_kind_of (kind.Keyword asked) ≡ None → composite_kind_of (kind.Keyword asked) ≡ None → (u : Spot) → keyword asked q ≡ Some u
      → (variable_word q ≡ None) × (read composite_kind_of q ≡ None)
  keyword_is p q c asked a b u e = (read_not variable_kind_of q (kind.Keyword asked) (keyword_head asked q u e) a, read_not composite_kind_of q (kind.Keyword asked) (keyword_head asked q u e) b)

  function_is : (p q : Spot) (f : FunctionTree) → FunctionRead p f q → r.contract_member p ≡ Some (tree.contract_function f, q)
  unfolding r.contract_member_with
  function_is p q f w =
      let v = viewed_is k.Fun w.word (w.is_view, w.behind) w.views in
      accessed_is p w.word w.access w.accesses
      ∙ either_not (variable_word w.word) _ _ (view_no_read variable_kind_of k.Fun w.word (λ n. refl) refl v)
      ∙ either_not (read composite_kind_of w.word) _ _ (view_no_read composite_kind_of k.Fun w.word (λ n. refl) refl v)
      ∙ either_not (keyword k.Event w.word) _ _ (view_no_keyword k.Event k.Fun w.word (λ x. cc) v)
      ∙ either_not (keyword k.Enum w.word) _ _ (view_no_keyword k.Enum k.Fun w.word (λ x. cc) v)
      ∙ either_not (word (codes "entitlement") w.word) _ _ (view_no_word (codes "entitlement") k.Fun w.word (λ x. cc) v)
      ∙ then_is (r.function w.access w.word) _ (f, q) w.reads

  event_is : (p q : Spot) (e : EventTree) → OpenEventRead p e q ⊎ DestructionRead p e q → r.contract_member p ≡ Some (tree.contract_event e, q)
  unfolding r.contract_member r.contract_member_with
  event_is p q e (inl w) =
      let h = keyword_is p w.word w.access k.Event refl refl w.behind w.words in
      accessed_is p w.word w.access w.accesses ∙ either_not (variable_word w.word) _ _ h.0 ∙ either_not (read composite_kind_of w.word) _ _ h.1
      ∙ either_is (keyword k.Event w.word) _ _ w.behind w.words ∙ then_is (r.event w.word w.access w.behind) _ (e, q) w.reads
  event_is p q e (inr w) =
      either_not (parts.accessed p) _ _ (no_access types members p (not_keyword k.Access k.Event p (λ x. cc) (keyword_head k.Event p w.behind w.words)))
      ∙ either_is (keyword k.Event p) _ _ w.behind w.words ∙ then_is (r.destruction p w.behind) _ (e, q) w.reads

  init_is : (p q : Spot) (i : InitTree) → InitRead p i q → r.contract_member p ≡ Some (tree.contract_init i, q)
  unfolding r.contract_member
  init_is p q i w =
      let v = viewed_is k.Init p (w.is_view, w.behind) w.views in
      either_not (parts.accessed p) _ _ (no_access types members p (view_no_keyword k.Access k.Init p (λ x. cc) v))
      ∙ either_not (keyword k.Event p) _ _ (view_no_keyword k.Event k.Init p (λ x. cc) v)
      ∙ then_is (viewed k.Init p) _ (w.is_view, w.behind) w.views ∙ then_is (r.initializer w.is_view w.behind) _ (i, q) w.reads

  composite_is : (p q : Spot) (x : CompositeTree) → CompositeRead types members p x q → r.contract_member p ≡ Some (tree.composite x, q)
  unfolding r.contract_member_with r.composing
  composite_is p q x w =
      accessed_is p w.word w.access w.accesses ∙ either_not (variable_word w.word) _ _ (composite_no_variable w.word (w.sort, w.behind) w.sorts)
      ∙ either_is (read composite_kind_of w.word) _ _ (w.sort, w.behind) w.sorts
      ∙ either_not (keyword k.Interface w.behind) _ _ w.lacks ∙ then_is (r.composite p w.access w.sort w.behind) _ (x, q) w.reads

  interface_is : (p q : Spot) (x : InterfaceTree) → InterfaceRead types members p x q → r.contract_member p ≡ Some (tree.interface x, q)
  unfolding r.contract_member_with r.composing
  interface_is p q x w =
      accessed_is p w.word w.access w.accesses ∙ either_not (variable_word w.word) _ _ (composite_no_variable w.word (w.sort, w.middle) w.sorts)
      ∙ either_is (read composite_kind_of w.word) _ _ (w.sort, w.middle) w.sorts
      ∙ either_is (keyword k.Interface w.middle) _ _ w.behind w.words ∙ then_is (r.interface p w.access w.sort w.behind) _ (x, q) w.reads

  enumeration_is : (p q : Spot) (x : EnumTree) → EnumRead types members p x q → r.contract_member p ≡ Some (tree.enumeration x, q)
  unfolding r.contract_member_with
  enumeration_is p q x w =
      let h = keyword_is p w.word w.access k.Enum refl refl w.behind w.words in
      accessed_is p w.word w.access w.accesses ∙ either_not (variable_word w.word) _ _ h.0 ∙ either_not (read composite_kind_of w.word) _ _ h.1
      ∙ either_not (keyword k.Event w.word) _ _ (not_keyword k.Event k.Enum w.word (λ x. cc) (keyword_head k.Enum w.word w.behind w.words))
      ∙ either_is (keyword k.Enum w.word) _ _ w.behind w.words ∙ then_is (r.enumeration p w.access w.behind) _ (x, q) w.reads

  -- behind an access and `entitlement`
  entitling_is : (p q u : Spot) (c : Access) → ReadsAccess p c q → word (codes "entitlement") q ≡ Some u → r.contract_member p ≡ r.entitling p c u
  unfolding r.contract_member_with
  entitling_is p q u c d e =
      let h = word_head (codes "entitlement") q u e in
      accessed_is p q c d ∙ either_not (variable_word q) _ _ (read_not variable_kind_of q (kind.Name h.0) h.1 refl)
      ∙ either_not (read composite_kind_of q) _ _ (read_not composite_kind_of q (kind.Name h.0) h.1 refl)
      ∙ either_not (keyword k.Event q) _ _ (word_no_keyword k.Event (codes "entitlement") q u e)
      ∙ either_not (keyword k.Enum q) _ _ (word_no_keyword k.Enum (codes "entitlement") q u e)
      ∙ either_is (word (codes "entitlement") q) _ _ u e

  mapping_is : (p q : Spot) (x : MappingTree) → MappingRead types members p x q → r.contract_member p ≡ Some (tree.mapping x, q)
  unfolding r.entitling
  mapping_is p q x w =
      entitling_is p w.place w.behind w.access w.accesses w.words ∙ either_is (mapping_head w.behind) _ _ (w.named, w.inside) w.heads
      ∙ then_is (r.mapping p w.access w.named w.inside) _ (x, q) w.reads

  entitlement_is : (p q : Spot) (x : Entitlement) → EntitlementRead types members p x q → r.contract_member p ≡ Some (tree.entitlement x, q)
  unfolding r.entitling
  entitlement_is p q x w =
      entitling_is p w.place w.behind w.access w.accesses w.words ∙ either_not (mapping_head w.behind) _ _ w.lacks ∙ then_is (r.entitlement w.access w.behind) _ (x, q) w.reads

  contract_member_exact : {p q : Spot} {m : ContractMemberTree} → ReadsContractMember p m q → token_strength q ≡ 0 → r.contract_member p ≡ Some (m, q)
  contract_member_exact (g.contract_field {p} {q} {x} d) weak = field_is p q x (members.field_exact d weak)
  contract_member_exact (g.contract_function {p} {q} {x} d) weak = function_is p q x (members.function_exact d)
  contract_member_exact (g.contract_init {p} {q} {x} d) weak = init_is p q x (members.init_exact d)
  contract_member_exact (g.contract_composite {p} {q} {x} d) weak = composite_is p q x (composite_exact types members d)
  contract_member_exact (g.contract_interface {p} {q} {x} d) weak = interface_is p q x (interface_exact types members d)
  contract_member_exact (g.contract_event {p} {q} {x} d) weak = event_is p q x (members.event_exact d)
  contract_member_exact (g.contract_enum {p} {q} {x} d) weak = enumeration_is p q x (enumeration_exact types members d)
  contract_member_exact (g.contract_entitlement {p} {q} {x} d) weak = entitlement_is p q x (entitlement_exact types members d)
  contract_member_exact (g.contract_mapping {p} {q} {x} d) weak = mapping_is p q x (mapping_exact types members d)

  pub contract_member_laws : ItemLaws ReadsContractMember r.contract_member s.CloseBrace
  contract_member_laws = record {
    is_sound = λ p x e. found_is (As ReadsContractMember p) (r.contract_member p) x (contract_member_found p) e;
    is_exact = λ p q a d w. contract_member_exact d w;
    is_shorter = λ p q a d. contract_member_shorter d;
    is_weak = λ p q a d. begins_weak p (contract_member_begins d);
    is_open = λ p q a d. begins_no_sign s.CloseBrace p (contract_member_begins d);
  }

  -- ---- contracts

  pub contract_found : (p q u : Spot) (c : Access) → ReadsAccess p c q → keyword k.Contract q ≡ Some u → IfFound (As ReadsContract p) (r.contract p c u)
  unfolding r.contract
  contract_found p q u c d e =
      let P = As ReadsContract p in
      then_found P (name u) _ (λ n e1. then_found P (opening s.OpenBrace n.1) _ (λ v e2. then_found P (r.contract_members v) _ (λ all e3.
      g.contract d e e1 e2 (repeated_sound ReadsContractMember r.contract_member s.CloseBrace contract_member_laws.is_sound (length v.tokens) v all e3))))

  pub contract_shorter : {p q : Spot} {x : ContractTree} → ReadsContract p x q → length q.tokens < length p.tokens
  contract_shorter (g.contract {p} {q} {r = u} {u = v} {v = w} {w = z} {c} {n} d e f o all) =
      omega (
        arith,
        members.access_shorter d,
        keyword_shorter k.Contract q u e,
        name_shorter u (n, v) f,
        opening_shorter s.OpenBrace v w o,
        repeated_shorter ReadsContractMember r.contract_member s.CloseBrace contract_member_laws (λ b. refl) all,
      )

  pub contract_begins : {p q : Spot} {x : ContractTree} → ReadsContract p x q → (c : Access) × (u : Spot) × ReadsAccess p c u
  contract_begins (g.contract {q} {c} d e f o all) = (c, q, d)

  -- how a contract is read behind its access
  pub record ContractRead (p : Spot) (x : ContractTree) (q : Spot) : Type 0 where
    pub access : Access
    pub place : Spot
    pub behind : Spot
    pub accesses : ReadsAccess p access place
    pub words : keyword k.Contract place ≡ Some behind
    pub reads : r.contract p access behind ≡ Some (x, q)

  pub contract_exact : {p q : Spot} {x : ContractTree} → ReadsContract p x q → ContractRead p x q
  unfolding r.contract
  contract_exact (g.contract {p} {q} {r = u} {u = v} {v = w} {w = z} {c} {n} {members = all} d e f o m) = record {
    access = c;
    place = q;
    behind = u;
    accesses = d;
    words = e;
    reads = then_is (name u) _ (n, v) f ∙ then_is (opening s.OpenBrace v) _ w o
        ∙ then_is (r.contract_members w) _ (all, z) (repeated_exact ReadsContractMember r.contract_member s.CloseBrace contract_member_laws (λ b. refl) m);
  }
