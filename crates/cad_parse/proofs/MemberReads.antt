-- Fields, events and members of interfaces: what is read is spelled, and what is spelled is read.
use Rattle.std.proofs.Common.{◌≡◌, ℕ, ◌<◌, ◌≤◌, Bool, true, false, if◌then◌else◌, List, [], ◌∷◌, length, Some, None, refl, sym, ap, ◌∙◌, ◌⊎◌, inl, inr, subst, arith}
use Rattle.cad_grammar.specs.declared.token.Sign.{Sign}
use Rattle.cad_grammar.specs.declared.token.Sign.TheVariants as s
use Rattle.cad_syntax.specs.declared.keyword.Keyword.TheVariants as k
use Rattle.cad_grammar.specs.declared.token.TokenKind.TheVariants as kind
use Rattle.cad_syntax.specs.declared.text.Name.{Name}
use Rattle.cad_grammar.specs.declared.statement.VariableKind.{VariableKind}
use Rattle.cad_grammar.specs.declared.declaration.Access.{Access}
use Rattle.cad_grammar.specs.Trees.{FieldTree, EventParameterTree, EventTree, InterfaceMemberTree}
use Rattle.cad_grammar.specs.Spots.{Spot, back, after, keyword, name, opening}
use Rattle.cad_parse_type.specs.Code.Levels.{sign_strength, token_strength}
use Rattle.cad_grammar.specs.Lists.{Listed}
use Rattle.cad_grammar.specs.StatementGrammar.{variable_kind_of, variable_word}
use Rattle.cad_grammar.specs.ProgramGrammar.{ReadsAccess, ReadsField, EventParameter, is_destruction, EventHead, ReadsEvent, ReadsInterfaceMember}
use Rattle.cad_grammar.specs.ProgramGrammar as g
use Rattle.cad_parse_type.specs.Code.Reading.{annotation}
use Rattle.cad_parse_expr.specs.Code.Reading.{expression}
use Rattle.cad_parse.specs.Code.Parts.{accessed, labelled, parameter}
use Rattle.cad_parse.specs.Code.Reading.{function_with, field, event_parameter, event_parameter_list, event_parameters, event, destruction, unsorted, interface_member_with, interface_member}
use Rattle.cad_parse_type.proofs.Heads.{some_same, then_some, head, name_head, name_no_sign, read_not, keyword_shorter, read_shorter, after_shorter, name_shorter, opening_shorter}
use Rattle.cad_parse_type.proofs.Climbs.{then_is, either_is, either_not, IfFound, then_found, either_found, found_is}
use Rattle.cad_parse_type.proofs.ListLaws.{IsSound, ReadBefore, listed_sound, listed_read, listed_exact, listed_shorter}
use Rattle.cad_parse_type.proofs.TypeLaws.{TypeLaws}
use Rattle.cad_parse_expr.proofs.ExpressionLaws.{ExpressionLaws}
use Rattle.cad_parse_statement.proofs.StatementLaws.{StatementLaws}
use Rattle.cad_parse.proofs.MemberLaws.{FieldRead, OpenEventRead, DestructionRead}
use Rattle.cad_parse.proofs.Found.{As, sound, if_found_by, if_is, sign_weak}
use Rattle.cad_parse.proofs.AccessLaws.{access_sound, access_exact, access_shorter}
use Rattle.cad_parse.proofs.ParameterLaws.{labelled_is, labelled_exact, parameter_name, parameter_sound, parameter_exact, parameter_shorter}
use Rattle.cad_parse.proofs.FunctionLaws.{function_sound, function_read, function_shorter, viewed_no_variable, viewed_not_labelled}

-- its first token is a name
event_parameter_name : {p q : Spot} {x : EventParameterTree} → (b : Bool) → EventParameter b p x q → (n : Name) × (head p ≡ Some (kind.Name n))
event_parameter_name _ (g.without_default d) = parameter_name d
event_parameter_name _ (g.with_default d e f) = parameter_name d

-- parameters of an event with their parentheses
pub record EventParameters (b : Bool) (p : Spot) (all : List EventParameterTree) (q : Spot) : Type 0 where
  pub inner : Spot
  pub end : Spot
  pub opens : opening s.OpenParenthesis p ≡ Some inner
  pub lists : Listed (EventParameter b) s.CloseParenthesis inner all end
  pub closes : q ≡ back p end

module _ (types : TypeLaws) where
  -- ---- fields

  field_found : (p q r : Spot) (c : Access) (found : VariableKind) → ReadsAccess p c q → variable_word q ≡ Some (found, r) → IfFound (As ReadsField p) (field c found r)
  unfolding field
  field_found p q r c found d e =
      let P = As ReadsField p in
      then_found P (labelled r) _ (λ n f. let w = labelled_is r n f in then_found P (annotation n.1) _ (λ a h. g.field d (g.typed e w.1 w.2 (types.annotation_sound n.1 a h))))

  pub field_sound : (p q r : Spot) (c : Access) (found : VariableKind) (x : FieldTree × Spot)
      → ReadsAccess p c q → variable_word q ≡ Some (found, r) → field c found r ≡ Some x → ReadsField p x.0 x.1
  field_sound p q r c found x d e f = found_is (As ReadsField p) (field c found r) x (field_found p q r c found d e) f

  pub field_exact : {p q : Spot} {f : FieldTree} → ReadsField p f q → token_strength q ≡ 0 → FieldRead p f q
  unfolding field
  field_exact (g.field {p} {c} {kind = found} d (g.typed {p = word} {q = behind} {r} {u} {v} {n} {a} e1 e2 e3 w)) weak = record {
    access = c;
    word = word;
    kind = found;
    behind = behind;
    accesses = d;
    kinds = e1;
    reads = then_is (labelled behind) _ (n, u) (labelled_exact behind r u n e2 e3) ∙ then_is (annotation u) _ (a, v) (types.annotation_exact w weak);
  }

  pub field_shorter : {p q : Spot} {f : FieldTree} → ReadsField p f q → length q.tokens < length p.tokens
  field_shorter (g.field d (g.typed {p = word} {q} {r} {u} {kind = found} {n} e1 e2 e3 w)) =
      omega (arith, access_shorter types d, read_shorter variable_kind_of word (found, q) e1, name_shorter q (n, r) e2, after_shorter s.Colon r u e3, types.annotated_shorter w)

  module _ (expressions : ExpressionLaws) where
    -- ---- parameters of events

    event_parameter_found : (b : Bool) (p : Spot) → IfFound (As (EventParameter b) p) (event_parameter b p)
    unfolding event_parameter
    event_parameter_found true p =
        let P = As (EventParameter true) p in
        then_found P (parameter p) _ (λ x e. then_found P (after s.Assign x.1) _ (λ q f. then_found P (expression q) _ (λ v h.
        g.with_default (parameter_sound types p x e) f (expressions.expression_sound q v h))))
    event_parameter_found false p = then_found (As (EventParameter false) p) (parameter p) _ (λ x e. g.without_default (parameter_sound types p x e))

    event_parameter_sound : (b : Bool) → IsSound (EventParameter b) (event_parameter b)
    event_parameter_sound b = sound (EventParameter b) (event_parameter b) (event_parameter_found b)

    event_parameter_exact : {p q : Spot} {x : EventParameterTree} → (b : Bool) → EventParameter b p x q → token_strength q ≡ 0 → event_parameter b p ≡ Some (x, q)
    unfolding event_parameter
    event_parameter_exact _ (g.without_default {p} {q} {x} d) weak = then_is (parameter p) _ (x, q) (parameter_exact types d weak)
    event_parameter_exact _ (g.with_default {p} {q} {r} {u} {x} {e = v} d e f) weak =
        then_is (parameter p) _ (x, q) (parameter_exact types d (sign_weak s.Assign q r (λ b. refl) e))
        ∙ then_is (after s.Assign q) _ r e ∙ then_is (expression r) _ (v, u) (expressions.expression_exact f weak)

    event_parameter_before : (b : Bool) (sign : Sign) → ((b : Bool) → sign_strength b sign ≡ 0) → ReadBefore (EventParameter b) (event_parameter b) sign
    event_parameter_before b sign weak p q r x d e = event_parameter_exact b d (sign_weak sign q r weak e)

    no_event_parameter : (b : Bool) (p q : Spot) (x : EventParameterTree × Spot) → after s.CloseParenthesis p ≡ Some q → event_parameter b p ≡ Some x → ⊥
    no_event_parameter b p q x e f =
        let w = event_parameter_name b (event_parameter_sound b p x f) in
        let c = sym e ∙ name_no_sign s.CloseParenthesis w.0 p w.1 in
        cc

    event_parameter_shorter : {p q : Spot} {x : EventParameterTree} → (b : Bool) → EventParameter b p x q → length q.tokens < length p.tokens
    event_parameter_shorter _ (g.without_default d) = parameter_shorter types d
    event_parameter_shorter _ (g.with_default {p} {q} {r} d e f) = omega (arith, parameter_shorter types d, after_shorter s.Assign q r e, expressions.expression_shorter f)

    event_parameter_takes : (b : Bool) (p : Spot) (x : EventParameterTree × Spot) → event_parameter b p ≡ Some x → length x.1.tokens < length p.tokens
    event_parameter_takes b p x e = event_parameter_shorter b (event_parameter_sound b p x e)

    event_parameters_is : (b : Bool) (p : Spot) (x : List EventParameterTree × Spot) → event_parameters b p ≡ Some x → EventParameters b p x.0 x.1
    unfolding event_parameters
    event_parameters_is b p x e =
        let w = then_some (opening s.OpenParenthesis p) _ x e in
        let v = then_some (event_parameter_list b w.0) _ x w.2 in
        let same = some_same (v.0.0, back p v.0.1) x v.2 in
        record {
          inner = w.0;
          end = v.0.1;
          opens = w.1;
          lists = listed_sound (EventParameter b) (event_parameter b) s.CloseParenthesis (event_parameter_sound b) (length w.0.tokens) w.0 (x.0, v.0.1) (v.1 ∙ ap (λ y. Some (y.0, v.0.1)) same);
          closes = sym (ap (λ y. y.1) same);
        }

    event_parameters_exact : (b : Bool) (p q r : Spot) (all : List EventParameterTree) → opening s.OpenParenthesis p ≡ Some q → Listed (EventParameter b) s.CloseParenthesis q all r
        → event_parameters b p ≡ Some (all, back p r)
    unfolding event_parameters
    event_parameters_exact b p q r all e d =
        then_is (opening s.OpenParenthesis p) _ q e
        ∙ then_is (event_parameter_list b q) _ (all, r) (listed_exact (event_parameter b) s.CloseParenthesis (λ x. cc) (no_event_parameter b) (event_parameter_takes b)
        (listed_read (event_parameter_before b s.Comma (λ x. refl)) (event_parameter_before b s.CloseParenthesis (λ x. refl)) d) (length q.tokens) (omega arith) [])

    -- ---- events

    event_found : (p q r : Spot) (c : Access) → ReadsAccess p c q → keyword k.Event q ≡ Some r → IfFound (As ReadsEvent p) (event q c r)
    unfolding event
    event_found p q r c d e =
        let P = As ReadsEvent p in
        then_found P (name r) _ (λ n e1. then_found P (event_parameters (is_destruction n.0) n.1) _ (λ all e2.
        let w = event_parameters_is (is_destruction n.0) n.1 all e2 in
        subst (λ z. ReadsEvent p (record { access = Some c; name = n.0; parameters = all.0 }) (back q z)) (sym w.closes) (g.open_event d (g.event_head e e1 w.opens w.lists))))

    pub open_event_sound : (p q r : Spot) (c : Access) (x : EventTree × Spot) → ReadsAccess p c q → keyword k.Event q ≡ Some r → event q c r ≡ Some x → ReadsEvent p x.0 x.1
    open_event_sound p q r c x d e f = found_is (As ReadsEvent p) (event q c r) x (event_found p q r c d e) f

    destruction_found : (p r : Spot) → keyword k.Event p ≡ Some r → IfFound (As ReadsEvent p) (destruction p r)
    unfolding destruction
    destruction_found p r e =
        let P = As ReadsEvent p in
        then_found P (name r) _ (λ n e1. if_found_by P (is_destruction n.0) _ _ (λ h. then_found P (event_parameters true n.1) _ (λ all e2.
        let w = event_parameters_is true n.1 all e2 in
        subst (λ z. ReadsEvent p (record { access = None; name = n.0; parameters = all.0 }) (back p z)) (sym w.closes)
        (g.destruction (g.event_head e e1 w.opens (subst (λ b. Listed (EventParameter b) s.CloseParenthesis w.inner all.0 w.end) (sym h) w.lists)) h))) (λ _. tt))

    pub destruction_sound : (p r : Spot) (x : EventTree × Spot) → keyword k.Event p ≡ Some r → destruction p r ≡ Some x → ReadsEvent p x.0 x.1
    destruction_sound p r x e f = found_is (As ReadsEvent p) (destruction p r) x (destruction_found p r e) f

    pub event_exact : {p q : Spot} {e : EventTree} → ReadsEvent p e q → OpenEventRead p e q ⊎ DestructionRead p e q
    unfolding event destruction
    event_exact (g.open_event {p} {c} d (g.event_head {p = word} {q = behind} {r} {u} {v} {n} {all} e1 e2 e3 w)) = inl (record {
      access = c;
      word = word;
      behind = behind;
      accesses = d;
      words = e1;
      reads = then_is (name behind) _ (n, r) e2 ∙ then_is (event_parameters (is_destruction n) r) _ (all, back r v) (event_parameters_exact (is_destruction n) r u v all e3 w);
    })
    event_exact (g.destruction {p} (g.event_head {q = behind} {r} {u} {v} {n} {all} e1 e2 e3 w) h) = inr (record {
      behind = behind;
      words = e1;
      reads = then_is (name behind) _ (n, r) e2 ∙ if_is (is_destruction n) _ _ h
          ∙ then_is (event_parameters true r) _ (all, back r v) (event_parameters_exact true r u v all e3 (subst (λ b. Listed (EventParameter b) s.CloseParenthesis u all v) h w));
    })

    event_head_shorter : {p q : Spot} {n : Name} {all : List EventParameterTree} → EventHead p n all q → length q.tokens < length p.tokens
    event_head_shorter (g.event_head {p} {q} {r} {u} {v} {n} e1 e2 e3 w) =
        omega (
          arith,
          keyword_shorter k.Event p q e1,
          name_shorter q (n, r) e2,
          opening_shorter s.OpenParenthesis r u e3,
          listed_shorter (λ p q x d. event_parameter_shorter (is_destruction n) d) w,
        )

    pub event_shorter : {p q : Spot} {e : EventTree} → ReadsEvent p e q → length q.tokens < length p.tokens
    event_shorter (g.open_event d h) = omega (arith, access_shorter types d, event_head_shorter h)
    event_shorter (g.destruction h e) = event_head_shorter h

-- ---- members of interfaces

module _ (types : TypeLaws) (expressions : ExpressionLaws) (statements : StatementLaws) where
  with_found : (p q : Spot) (c : Access) → ReadsAccess p c q → IfFound (As ReadsInterfaceMember p) (interface_member_with c q)
  unfolding interface_member_with unsorted
  with_found p q c d =
      let P = As ReadsInterfaceMember p in
      either_found P (variable_word q) _ _ (λ x e. then_found P (field c x.0 x.1) _ (λ y f. g.interface_field (g.sorted (field_sound types p q x.1 c x.0 y d e f))))
      (λ _. either_found P (labelled q) _ _ (λ n e. let w = labelled_is q n e in then_found P (annotation n.1) _ (λ a f. g.interface_field (g.unsorted d w.1 w.2 (types.annotation_sound n.1 a f))))
      (λ _. then_found P (function_with true c q) _ (λ y f. g.interface_function (function_sound types expressions statements true p q c y d f))))

  member_found : (p : Spot) → IfFound (As ReadsInterfaceMember p) (interface_member p)
  unfolding interface_member
  member_found p = then_found (As ReadsInterfaceMember p) (accessed p) _ (λ c e. with_found p c.1 c.0 (access_sound types p c e))

  pub interface_member_sound : IsSound ReadsInterfaceMember interface_member
  interface_member_sound = sound ReadsInterfaceMember interface_member member_found

  pub interface_member_exact : {p q : Spot} {m : InterfaceMemberTree} → ReadsInterfaceMember p m q → token_strength q ≡ 0 → interface_member p ≡ Some (m, q)
  unfolding interface_member interface_member_with unsorted
  interface_member_exact (g.interface_field {p} {q} {x} (g.sorted d)) weak =
      let w = field_exact types d weak in
      then_is (accessed p) _ (w.access, w.word) (access_exact types w.accesses)
      ∙ either_is (variable_word w.word) _ _ (w.kind, w.behind) w.kinds ∙ then_is (field w.access w.kind w.behind) _ (x, q) w.reads
  interface_member_exact (g.interface_field (g.unsorted {p} {q} {r} {u} {v} {c} {n} {a} d e f w)) weak =
      then_is (accessed p) _ (c, q) (access_exact types d)
      ∙ either_not (variable_word q) _ _ (read_not variable_kind_of q (kind.Name n) (name_head q (n, r) e) refl)
      ∙ either_is (labelled q) _ _ (n, u) (labelled_exact q r u n e f) ∙ then_is (annotation u) _ (a, v) (types.annotation_exact w weak)
  interface_member_exact (g.interface_function {p} {q} {x} d) weak =
      let w = function_read types expressions statements true d (λ _. weak) in
      then_is (accessed p) _ (w.access, w.word) (access_exact types w.accesses)
      ∙ either_not (variable_word w.word) _ _ (viewed_no_variable k.Fun w.word (w.is_view, w.behind) refl w.views)
      ∙ either_not (labelled w.word) _ _ (viewed_not_labelled k.Fun w.word (w.is_view, w.behind) w.views)
      ∙ then_is (function_with true w.access w.word) _ (x, q) w.reads

  pub interface_member_shorter : {p q : Spot} {m : InterfaceMemberTree} → ReadsInterfaceMember p m q → length q.tokens < length p.tokens
  interface_member_shorter (g.interface_field (g.sorted d)) = field_shorter types d
  interface_member_shorter (g.interface_field (g.unsorted {p} {q} {r} {u} {n} d e f w)) =
      omega (arith, access_shorter types d, name_shorter q (n, r) e, after_shorter s.Colon r u f, types.annotated_shorter w)
  interface_member_shorter (g.interface_function d) = function_shorter types expressions statements true d
