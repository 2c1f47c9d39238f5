-- Composites and interfaces: what is read is spelled, and what is spelled is read.
use Rattle.std.proofs.Common.{◌≡◌, ◌⊎◌, inl, inr, ◌<◌, List, [], ◌∷◌, length, Option, Some, None, refl, sym, ap, ◌∙◌, arith}
use Rattle.cad_grammar.specs.declared.token.Sign.TheVariants as s
use Rattle.cad_syntax.specs.declared.keyword.Keyword.TheVariants as k
use Rattle.cad_grammar.specs.declared.token.TokenKind.TheVariants as kind
use Rattle.cad_syntax.specs.declared.text.Name.{Name}
use Rattle.cad_grammar.specs.declared.declaration.Access.{Access}
use Rattle.cad_grammar.specs.declared.declaration.CompositeKind.{CompositeKind}
use Rattle.cad_grammar.specs.Trees as tree
use Rattle.cad_grammar.specs.Trees.{FunctionBlockTree, FunctionTree, InitTree, FieldTree, EventParameterTree, EventTree, CompositeMemberTree, CompositeTree, InterfaceMemberTree, InterfaceTree}
use Rattle.cad_grammar.specs.Spots.{Spot, read, after, keyword, name, opened, opening}
use Rattle.cad_parse_type.specs.Code.Levels.{token_strength}
use Rattle.cad_grammar.specs.StatementGrammar.{variable_word, variable_kind_of}
use Rattle.cad_grammar.specs.ProgramGrammar.{composite_kind_of, viewed, ReadsAccess, FunctionWith, ReadsInit, ReadsField, ReadsInterfaceField, EventHead, ReadsEvent, ReadsCompositeMember, ReadsInterfaceMember, Conforms, Conforming, ReadsComposite, ReadsInterface}
use Rattle.cad_grammar.specs.ProgramGrammar as g
use Rattle.cad_parse_type.specs.Code.Reading.{dotted_list}
use Rattle.cad_parse_type.proofs.TypeLaws.{TypeLaws}
use Rattle.cad_parse_type.proofs.Heads.{none_of, keyword_head, name_head, read_not, name_no_keyword, not_after, opening_head, opened_is, after_shorter, name_shorter, read_shorter, keyword_shorter, opening_shorter}
use Rattle.cad_parse_type.proofs.Climbs.{then_is, either_is, either_not, IfFound, then_found, either_found, found_is}
use Rattle.cad_parse_type.proofs.ListLaws.{IsSound, listed_shorter}
use Rattle.cad_parse.specs.Code.Parts as parts
use Rattle.cad_parse.specs.Code.Reading as r
use Rattle.cad_parse.proofs.MemberLaws.{MemberLaws, FieldRead, FunctionRead, OpenEventRead, DestructionRead, InitRead}
use Rattle.cad_parse.proofs.Firsts.{Begins, begins_weak, begins_no_sign, not_keyword, keyword_begins, viewed_is, view_begins, view_no_keyword, view_no_read}
use Rattle.cad_parse.proofs.RepeatedLaws.{As, ItemLaws, repeated_sound, repeated_shorter, repeated_exact}

module _ (types : TypeLaws) (members : MemberLaws) where
  -- ---- access, and what begins a member

  pub access_begins : {p q : Spot} {c : Access} → ReadsAccess p c q → Begins p
  access_begins {p} d = let w = members.access_word d in keyword_begins k.Access p w.0 (λ b. refl) w.1

  pub no_access : (p : Spot) → keyword k.Access p ≡ None → parts.accessed p ≡ None
  no_access p lacks = none_of (parts.accessed p) (λ x f. let w = members.access_word (members.access_sound p x f) in let c : None ≡ Some w.0 = sym lacks ∙ w.1 in cc)

  pub field_begins : {p q : Spot} {f : FieldTree} → ReadsField p f q → Begins p
  field_begins (g.field d t) = access_begins d

  pub function_begins : {HasBlock : Spot → Option FunctionBlockTree → Spot → Type 0} {p q : Spot} {f : FunctionTree} → FunctionWith HasBlock p f q → Begins p
  function_begins (g.function d v n ps a b) = access_begins d

  event_head_begins : {p q : Spot} {n : Name} {all : List EventParameterTree} → EventHead p n all q → Begins p
  event_head_begins (g.event_head {p} {q} e n o all) = keyword_begins k.Event p q (λ b. refl) e

  pub event_begins : {p q : Spot} {e : EventTree} → ReadsEvent p e q → Begins p
  event_begins (g.open_event d h) = access_begins d
  event_begins (g.destruction h e) = event_head_begins h

  pub init_begins : {p q : Spot} {i : InitTree} → ReadsInit p i q → Begins p
  init_begins (g.init {p} {q} {is_view = b} e ps body) = view_begins k.Init p (λ b. refl) (viewed_is k.Init p (b, q) e)

  interface_field_begins : {p q : Spot} {f : FieldTree} → ReadsInterfaceField p f q → Begins p
  interface_field_begins (g.sorted d) = field_begins d
  interface_field_begins (g.unsorted d n e a) = access_begins d

  interface_member_begins : {p q : Spot} {m : InterfaceMemberTree} → ReadsInterfaceMember p m q → Begins p
  interface_member_begins (g.interface_field d) = interface_field_begins d
  interface_member_begins (g.interface_function d) = function_begins d

  pub interface_member_laws : ItemLaws ReadsInterfaceMember r.interface_member s.CloseBrace
  interface_member_laws = record {
    is_sound = members.interface_member_sound;
    is_exact = λ p q a d w. members.interface_member_exact d w;
    is_shorter = λ p q a d. members.interface_member_shorter d;
    is_weak = λ p q a d. begins_weak p (interface_member_begins d);
    is_open = λ p q a d. begins_no_sign s.CloseBrace p (interface_member_begins d);
  }

  -- ---- members of composites

  composite_member_with_found : (p q : Spot) (c : Access) → ReadsAccess p c q → IfFound (As ReadsCompositeMember p) (r.composite_member_with c q)
  unfolding r.composite_member_with
  composite_member_with_found p q c d =
      let P = As ReadsCompositeMember p in
      either_found P (variable_word q) _ _ (λ x e. then_found P (r.field c x.0 x.1) _ (λ y f. g.field_member (members.field_sound p q x.1 c x.0 y d e f))) (λ _.
      either_found P (keyword k.Event q) _ _ (λ u e. then_found P (r.event q c u) _ (λ y f. g.event_member (members.open_event_sound p q u c y d e f))) (λ _.
      then_found P (r.function c q) _ (λ y f. g.function_member (members.function_sound p q c y d f))))

  composite_member_found : (p : Spot) → IfFound (As ReadsCompositeMember p) (r.composite_member p)
  unfolding r.composite_member
  composite_member_found p =
      let P = As ReadsCompositeMember p in
      either_found P (parts.accessed p) _ _ (λ c e. composite_member_with_found p c.1 c.0 (members.access_sound p c e)) (λ _.
      either_found P (keyword k.Event p) _ _ (λ q e. then_found P (r.destruction p q) _ (λ y f. g.event_member (members.destruction_sound p q y e f))) (λ _.
      then_found P (viewed k.Init p) _ (λ v e. then_found P (r.initializer v.0 v.1) _ (λ y f. g.init_member (members.init_sound p v.1 v.0 y e f)))))

  composite_member_begins : {p q : Spot} {m : CompositeMemberTree} → ReadsCompositeMember p m q → Begins p
  composite_member_begins (g.field_member d) = field_begins d
  composite_member_begins (g.function_member d) = function_begins d
  composite_member_begins (g.init_member d) = init_begins d
  composite_member_begins (g.event_member d) = event_begins d

  composite_member_shorter : {p q : Spot} {m : CompositeMemberTree} → ReadsCompositeMember p m q → length q.tokens < length p.tokens
  composite_member_shorter (g.field_member d) = members.field_shorter d
  composite_member_shorter (g.function_member d) = members.function_shorter d
  composite_member_shorter (g.init_member d) = members.init_shorter d
  composite_member_shorter (g.event_member d) = members.event_shorter d

  field_is : (p q : Spot) (f : FieldTree) → FieldRead p f q → r.composite_member p ≡ Some (tree.field f, q)
  unfolding r.composite_member r.composite_member_with
  field_is p q f w =
      either_is (parts.accessed p) _ _ (w.access, w.word) (members.access_exact w.accesses) ∙ either_is (variable_word w.word) _ _ (w.kind, w.behind) w.kinds
      ∙ then_is (r.field w.access w.kind w.behind) _ (f, q) w.reads

  function_is : (p q : Spot) (f : FunctionTree) → FunctionRead p f q → r.composite_member p ≡ Some (tree.function f, q)
  unfolding r.composite_member r.composite_member_with
  function_is p q f w =
      let v = viewed_is k.Fun w.word (w.is_view, w.behind) w.views in
      either_is (parts.accessed p) _ _ (w.access, w.word) (members.access_exact w.accesses)
      ∙ either_not (variable_word w.word) _ _ (view_no_read variable_kind_of k.Fun w.word (λ n. refl) refl v)
      ∙ either_not (keyword k.Event w.word) _ _ (view_no_keyword k.Event k.Fun w.word (λ x. cc) v) ∙ then_is (r.function w.access w.word) _ (f, q) w.reads

  event_is : (p q : Spot) (e : EventTree) → OpenEventRead p e q ⊎ DestructionRead p e q → r.composite_member p ≡ Some (tree.event e, q)
  unfolding r.composite_member r.composite_member_with
  event_is p q e (inl w) =
      either_is (parts.accessed p) _ _ (w.access, w.word) (members.access_exact w.accesses)
      ∙ either_not (variable_word w.word) _ _ (read_not variable_kind_of w.word (kind.Keyword k.Event) (keyword_head k.Event w.word w.behind w.words) refl)
      ∙ either_is (keyword k.Event w.word) _ _ w.behind w.words ∙ then_is (r.event w.word w.access w.behind) _ (e, q) w.reads
  event_is p q e (inr w) =
      either_not (parts.accessed p) _ _ (no_access p (not_keyword k.Access k.Event p (λ x. cc) (keyword_head k.Event p w.behind w.words)))
      ∙ either_is (keyword k.Event p) _ _ w.behind w.words ∙ then_is (r.destruction p w.behind) _ (e, q) w.reads

  init_is : (p q : Spot) (i : InitTree) → InitRead p i q → r.composite_member p ≡ Some (tree.init i, q)
  unfolding r.composite_member
  init_is p q i w =
      let v = viewed_is k.Init p (w.is_view, w.behind) w.views in
      either_not (parts.accessed p) _ _ (no_access p (view_no_keyword k.Access k.Init p (λ x. cc) v))
      ∙ either_not (keyword k.Event p) _ _ (view_no_keyword k.Event k.Init p (λ x. cc) v)
      ∙ then_is (viewed k.Init p) _ (w.is_view, w.behind) w.views ∙ then_is (r.initializer w.is_view w.behind) _ (i, q) w.reads

  composite_member_exact : {p q : Spot} {m : CompositeMemberTree} → ReadsCompositeMember p m q → token_strength q ≡ 0 → r.composite_member p ≡ Some (m, q)
  composite_member_exact (g.field_member {p} {q} {x} d) weak = field_is p q x (members.field_exact d weak)
  composite_member_exact (g.function_member {p} {q} {x} d) weak = function_is p q x (members.function_exact d)
  composite_member_exact (g.init_member {p} {q} {x} d) weak = init_is p q x (members.init_exact d)
  composite_member_exact (g.event_member {p} {q} {x} d) weak = event_is p q x (members.event_exact d)

  pub composite_member_laws : ItemLaws ReadsCompositeMember r.composite_member s.CloseBrace
  composite_member_laws = record {
    is_sound = λ p x e. found_is (As ReadsCompositeMember p) (r.composite_member p) x (composite_member_found p) e;
    is_exact = λ p q a d w. composite_member_exact d w;
    is_shorter = λ p q a d. composite_member_shorter d;
    is_weak = λ p q a d. begins_weak p (composite_member_begins d);
    is_open = λ p q a d. begins_no_sign s.CloseBrace p (composite_member_begins d);
  }

  -- ---- the interfaces that are conformed to

  conforms_found : (p : Spot) (all : List (List Name) × Spot) → dotted_list s.OpenBrace p ≡ Some all → Conforms p all.0 all.1
  conforms_found p ([], q) e = absurd (types.dotted_list_filled s.OpenBrace p q e)
  conforms_found p (n ∷ all, q) e = g.conforms (types.dotted_list_sound s.OpenBrace p (n ∷ all, q) e)

  conforming_found : (p : Spot) → IfFound (As Conforming p) (r.conforming p)
  unfolding r.conforming r.conforms
  conforming_found p =
      let P = As Conforming p in
      either_found P (after s.Colon p) _ _ (λ q e. then_found P (dotted_list s.OpenBrace q) _ (λ all f. then_found P (opened all.1) _ (λ u h. g.to_these e (conforms_found q all f) h)))
      (λ _. then_found P (opening s.OpenBrace p) _ (λ q e. g.to_nothing e))

  pub conforming_sound : IsSound Conforming r.conforming
  conforming_sound p x e = found_is (As Conforming p) (r.conforming p) x (conforming_found p) e

  conforms_exact : {p q : Spot} {all : List (List Name)} → Conforms p all q → dotted_list s.OpenBrace p ≡ Some (all, q)
  conforms_exact (g.conforms d) = types.dotted_list_exact (λ x. cc) (λ x. cc) d

  conforms_shorter : {p q : Spot} {all : List (List Name)} → Conforms p all q → length q.tokens < length p.tokens
  conforms_shorter (g.conforms d) = listed_shorter (λ p q a d. types.dotted_shorter d) d

  pub conforming_exact : {p q : Spot} {all : List (List Name)} → Conforming p all q → r.conforming p ≡ Some (all, q)
  unfolding r.conforming r.conforms
  conforming_exact (g.to_nothing {p} {q} e) =
      either_not (after s.Colon p) _ _ (not_after s.OpenBrace s.Colon p (λ x. cc) (opening_head s.OpenBrace p q e)) ∙ then_is (opening s.OpenBrace p) _ q e
  conforming_exact (g.to_these {p} {q} {r = v} {u = w} {all} e d f) =
      either_is (after s.Colon p) _ _ q e ∙ then_is (dotted_list s.OpenBrace q) _ (all, v) (conforms_exact d) ∙ then_is (opened v) _ w f

  pub conforming_shorter : {p q : Spot} {all : List (List Name)} → Conforming p all q → length q.tokens < length p.tokens
  conforming_shorter (g.to_nothing {p} {q} e) = opening_shorter s.OpenBrace p q e
  conforming_shorter (g.to_these {p} {q} {r = v} {u = w} e d f) = omega (arith, after_shorter s.Colon p q e, conforms_shorter d, ap length (opened_is v w f).1)

  -- ---- composites

  pub composite_found : (p q u : Spot) (c : Access) (sort : CompositeKind) → ReadsAccess p c q → read composite_kind_of q ≡ Some (sort, u) → IfFound (As ReadsComposite p) (r.composite p c sort u)
  unfolding r.composite
  composite_found p q u c sort d e =
      let P = As ReadsComposite p in
      then_found P (name u) _ (λ n e1. then_found P (r.conforming n.1) _ (λ x e2. then_found P (r.composite_members x.1) _ (λ all e3.
      g.composite d e e1 (conforming_sound n.1 x e2) (repeated_sound ReadsCompositeMember r.composite_member s.CloseBrace composite_member_laws.is_sound (length x.1.tokens) x.1 all e3))))

  pub composite_shorter : {p q : Spot} {x : CompositeTree} → ReadsComposite p x q → length q.tokens < length p.tokens
  composite_shorter (g.composite {p} {q} {r = u} {u = v} {v = w} {w = z} d e n c all) =
      omega (
        arith,
        members.access_shorter d,
        read_shorter composite_kind_of q _ e,
        name_shorter u _ n,
        conforming_shorter c,
        repeated_shorter ReadsCompositeMember r.composite_member s.CloseBrace composite_member_laws (λ b. refl) all,
      )

  pub composite_begins : {p q : Spot} {x : CompositeTree} → ReadsComposite p x q → Begins p
  composite_begins (g.composite d e n c all) = access_begins d

  -- how a composite is read behind its access
  pub record CompositeRead (p : Spot) (x : CompositeTree) (q : Spot) : Type 0 where
    pub access : Access
    pub word : Spot
    pub sort : CompositeKind
    pub behind : Spot
    pub accesses : ReadsAccess p access word
    pub sorts : read composite_kind_of word ≡ Some (sort, behind)
    pub lacks : keyword k.Interface behind ≡ None
    pub reads : r.composite p access sort behind ≡ Some (x, q)

  pub composite_exact : {p q : Spot} {x : CompositeTree} → ReadsComposite p x q → CompositeRead p x q
  unfolding r.composite
  composite_exact (g.composite {p} {q} {r = u} {u = v} {v = w} {w = z} {c} {kind = sort} {n} {conformances = conformances} {members = all} d e f h m) = record {
    access = c;
    word = q;
    sort = sort;
    behind = u;
    accesses = d;
    sorts = e;
    lacks = name_no_keyword k.Interface n u (name_head u (n, v) f);
    reads = then_is (name u) _ (n, v) f ∙ then_is (r.conforming v) _ (conformances, w) (conforming_exact h)
        ∙ then_is (r.composite_members w) _ (all, z) (repeated_exact ReadsCompositeMember r.composite_member s.CloseBrace composite_member_laws (λ b. refl) m);
  }

  -- ---- interfaces

  pub interface_found : (p q u v : Spot) (c : Access) (sort : CompositeKind) → ReadsAccess p c q → read composite_kind_of q ≡ Some (sort, u) → keyword k.Interface u ≡ Some v
      → IfFound (As ReadsInterface p) (r.interface p c sort v)
  unfolding r.interface
  interface_found p q u v c sort d e f =
      let P = As ReadsInterface p in
      then_found P (name v) _ (λ n e1. then_found P (r.conforming n.1) _ (λ x e2. then_found P (r.interface_members x.1) _ (λ all e3.
      g.interface d e f e1 (conforming_sound n.1 x e2) (repeated_sound ReadsInterfaceMember r.interface_member s.CloseBrace interface_member_laws.is_sound (length x.1.tokens) x.1 all e3))))

  pub interface_shorter : {p q : Spot} {x : InterfaceTree} → ReadsInterface p x q → length q.tokens < length p.tokens
  interface_shorter (g.interface {p} {q} {r = u} {u = v} {v = w} {w = y} {x = z} d e f n c all) =
      omega (
        arith,
        members.access_shorter d,
        read_shorter composite_kind_of q _ e,
        keyword_shorter k.Interface u v f,
        name_shorter v _ n,
        conforming_shorter c,
        repeated_shorter ReadsInterfaceMember r.interface_member s.CloseBrace interface_member_laws (λ b. refl) all,
      )

  pub interface_begins : {p q : Spot} {x : InterfaceTree} → ReadsInterface p x q → Begins p
  interface_begins (g.interface d e f n c all) = access_begins d

  pub record InterfaceRead (p : Spot) (x : InterfaceTree) (q : Spot) : Type 0 where
    pub access : Access
    pub word : Spot
    pub sort : CompositeKind
    pub middle : Spot
    pub behind : Spot
    pub accesses : ReadsAccess p access word
    pub sorts : read composite_kind_of word ≡ Some (sort, middle)
    pub words : keyword k.Interface middle ≡ Some behind
    pub reads : r.interface p access sort behind ≡ Some (x, q)

  pub interface_exact : {p q : Spot} {x : InterfaceTree} → ReadsInterface p x q → InterfaceRead p x q
  unfolding r.interface
  interface_exact (g.interface {p} {q} {r = u} {u = v} {v = w} {w = y} {x = z} {c} {kind = sort} {n} {conformances = conformances} {members = all} d e f h i m) = record {
    access = c;
    word = q;
    sort = sort;
    middle = u;
    behind = v;
    accesses = d;
    sorts = e;
    words = f;
    reads = then_is (name v) _ (n, w) h ∙ then_is (r.conforming w) _ (conformances, y) (conforming_exact i)
        ∙ then_is (r.interface_members y) _ (all, z) (repeated_exact ReadsInterfaceMember r.interface_member s.CloseBrace interface_member_laws (λ b. refl) m);
  }
