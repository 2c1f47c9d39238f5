-- Transactions: what is read is spelled, and what is spelled is read.
use Rattle.std.proofs.Common.{◌≡◌, ℕ, zero, suc, ◌<◌, ◌≤◌, Bool, List, [], ◌∷◌, ◌++◌, length, Option, Some, refl, sym, ap, ◌∙◌, subst, arith, append-nil, append_assoc}
use Rattle.cad_grammar.specs.declared.token.Sign.TheVariants as s
use Rattle.cad_syntax.specs.declared.keyword.Keyword.{Keyword}
use Rattle.cad_syntax.specs.declared.keyword.Keyword.TheVariants as k
use Rattle.cad_grammar.specs.declared.token.TokenKind.TheVariants as kind
use Rattle.cad_syntax.specs.declared.text.Name.{Name}
use Rattle.cad_grammar.specs.declared.statement.VariableKind.{VariableKind}
use Rattle.cad_grammar.specs.Trees.{Annotation, ParameterTree, StmtTree, TransactionFieldTree, PrepareTree, TransactionTree}
use Rattle.cad_grammar.specs.Spots.{Spot, after, keyword, opening}
use Rattle.cad_grammar.specs.Lists.{Maybe}
use Rattle.cad_grammar.specs.Lists as l
use Rattle.cad_parse_type.specs.Code.Levels.{kind_strength, token_strength}
use Rattle.cad_grammar.specs.StatementGrammar.{variable_word, variable_kind_of, Block}
use Rattle.cad_grammar.specs.ProgramGrammar.{Typed, Parameters, Fields, Prepares, MaybeParameters, ReadsTransaction}
use Rattle.cad_grammar.specs.ProgramGrammar as g
use Rattle.cad_parse_type.specs.Code.Reading.{Reader, annotation}
use Rattle.cad_parse_type.proofs.TypeLaws.{TypeLaws}
use Rattle.cad_parse_type.proofs.Heads.{none_of, keyword_head, head_strength, after_strength, opening_is, after_shorter, name_shorter, read_shorter, keyword_shorter, opening_shorter}
use Rattle.cad_parse_type.proofs.Climbs.{then_is, either_is, either_not, IfFound, then_found, either_found, found_is, found_weaker}
use Rattle.cad_parse_type.proofs.ListLaws.{IsRead, maybe_sound, maybe_exact, maybe_short}
use Rattle.cad_parse_statement.specs.Code.Reading.{block_in}
use Rattle.cad_parse_statement.proofs.StatementLaws.{StatementLaws}
use Rattle.cad_parse.specs.Code.Parts as parts
use Rattle.cad_parse.specs.Code.Reading as r
use Rattle.cad_parse.proofs.MemberLaws.{MemberLaws}
use Rattle.cad_parse.proofs.Firsts.{variable_weak}
use Rattle.cad_parse.proofs.RepeatedLaws.{As}
use Rattle.cad_parse.proofs.ParameterLaws.{labelled_is, labelled_exact}

-- ---- options

-- an item that is spelled is one that is read
maybe_read : {A : Type 0} {begins : Spot → Option Spot} {Item : Spot → A → Spot → Type 0} {item : Reader A} {p q : Spot} {a : Option A}
    → ((p q : Spot) (a : A) → Item p a q → item p ≡ Some (a, q)) → Maybe begins Item p a q → Maybe begins (IsRead item) p a q
maybe_read h (l.absent e) = l.absent e
maybe_read h (l.present {p} {q} {r = u} {a} e d) = l.present e (h q u a d)

-- where nothing goes on behind it, nothing goes on before
maybe_weak : {A : Type 0} {Item : Spot → A → Spot → Type 0} {p q : Spot} {a : Option A} (asked : Keyword) → ((b : Bool) → kind_strength b (kind.Keyword asked) ≡ 0)
    → Maybe (keyword asked) Item p a q → token_strength q ≡ 0 → token_strength p ≡ 0
maybe_weak asked h (l.absent e) weak = weak
maybe_weak asked h (l.present {p} {q} e d) weak = let w = head_strength p (kind.Keyword asked) (keyword_head asked p q e) in w.1 ∙ h w.0

word_short : (asked : Keyword) (p q : Spot) → keyword asked p ≡ Some q → length q.tokens ≤ length p.tokens
word_short asked p q e = omega (arith, keyword_shorter asked p q e)

-- ---- fields

-- what the reader of fields gives, behind those that were found before
abbrev FieldsAs : List TransactionFieldTree → Spot → List TransactionFieldTree × Spot → Type 0
FieldsAs found p x = (all : List TransactionFieldTree) × (x.0 ≡ found ++ all) × Fields p all x.1

abbrev FieldAs : Spot → TransactionFieldTree × Spot → Type 0
FieldAs p x = Typed p x.0.kind x.0.name x.0.annotation x.1

fields_weak : {p q : Spot} {all : List TransactionFieldTree} → Fields p all q → token_strength q ≡ 0 → token_strength p ≡ 0
fields_weak (g.no_field e) weak = weak
fields_weak (g.more_fields (g.typed {p} {q} {kind = sort} e n f a) w) weak = variable_weak p (sort, q) e

module _ (types : TypeLaws) (statements : StatementLaws) (members : MemberLaws) where
  field_found : (p u : Spot) (sort : VariableKind) → variable_word p ≡ Some (sort, u) → IfFound (FieldAs p) (r.transaction_field sort u)
  unfolding r.transaction_field
  field_found p u sort e =
      let P = FieldAs p in
      then_found P (parts.labelled u) _ (λ n f. let w = labelled_is u n f in then_found P (annotation n.1) _ (λ a h. g.typed e w.1 w.2 (types.annotation_sound n.1 a h)))

  typed_shorter : {p q : Spot} {sort : VariableKind} {n : Name} {a : Annotation} → Typed p sort n a q → length q.tokens < length p.tokens
  typed_shorter (g.typed {p} {q} {r = u} {u = v} {v = w} e n f a) =
      omega (arith, read_shorter variable_kind_of p _ e, name_shorter q _ n, after_shorter s.Colon u v f, types.annotated_shorter a)

  typed_exact : {p q : Spot} {sort : VariableKind} {n : Name} {a : Annotation} → Typed p sort n a q → token_strength q ≡ 0
      → (u : Spot) × (variable_word p ≡ Some (sort, u)) × (r.transaction_field sort u ≡ Some (record { kind = sort; name = n; annotation = a }, q))
  unfolding r.transaction_field
  typed_exact (g.typed {p} {q} {r = u} {u = v} {v = w} {kind = sort} {n} {a} e f h d) weak =
      (q, e, then_is (parts.labelled q) _ (n, v) (labelled_exact q u v n f h) ∙ then_is (annotation v) _ (a, w) (types.annotation_exact d weak))

  fields_found : (turns : ℕ) (found : List TransactionFieldTree) (p : Spot) → length p.tokens ≤ turns → IfFound (FieldsAs found p) (r.fields turns found p)
  unfolding r.fields
  fields_found zero found p le = ([], sym (append-nil found), g.no_field (none_of (variable_word p) (λ x e. let lt = read_shorter variable_kind_of p x e in omega (arith, le, lt))))
  fields_found (suc turns) found p le =
      let P = FieldsAs found p in
      either_found P (variable_word p) _ _ (λ x e. then_found P (r.transaction_field x.0 x.1) _ (λ y f.
      let d = found_is (FieldAs p) _ y (field_found p x.1 x.0 e) f in
      found_weaker (FieldsAs (found ++ y.0 ∷ []) y.1) P _ (λ z w. (y.0 ∷ w.0, w.1 ∙ append_assoc found (y.0 ∷ []) w.0, g.more_fields d w.2))
      (fields_found turns (found ++ y.0 ∷ []) y.1 (omega (arith, le, typed_shorter d))))) (λ lacks. ([], sym (append-nil found), g.no_field lacks))

  fields_sound : (p : Spot) (x : List TransactionFieldTree × Spot) → r.field_list p ≡ Some x → Fields p x.0 x.1
  fields_sound p x e =
      let w = found_is (FieldsAs [] p) _ x (fields_found (length p.tokens) [] p (omega arith)) e in
      subst (λ all. Fields p all x.1) (sym w.1) w.2

  fields_short : {p q : Spot} {all : List TransactionFieldTree} → Fields p all q → length q.tokens ≤ length p.tokens
  fields_short (g.no_field e) = omega arith
  fields_short (g.more_fields d w) = omega (arith, typed_shorter d, fields_short w)

  fields_from : {p q : Spot} {all : List TransactionFieldTree} → Fields p all q → token_strength q ≡ 0 → (turns : ℕ) → length p.tokens ≤ turns → (found : List TransactionFieldTree)
      → r.fields turns found p ≡ Some (found ++ all, q)
  unfolding r.fields
  fields_from (g.no_field {p} e) weak zero le found = ap (λ z. Some (z, p)) (sym (append-nil found))
  fields_from (g.no_field {p} e) weak (suc turns) le found = either_not (variable_word p) _ _ e ∙ ap (λ z. Some (z, p)) (sym (append-nil found))
  fields_from (g.more_fields d w) weak zero le found = let never : ⊥ = omega (arith, typed_shorter d) in absurd never
  fields_from (g.more_fields {p} {q} {r = u} {kind = sort} {n} {a} {all} d w) weak (suc turns) le found =
      let x : TransactionFieldTree = record { kind = sort; name = n; annotation = a } in
      let v = typed_exact d (fields_weak w weak) in
      either_is (variable_word p) _ _ (sort, v.0) v.1 ∙ then_is (r.transaction_field sort v.0) _ (x, q) v.2
      ∙ fields_from w weak turns (omega (arith, typed_shorter d)) (found ++ x ∷ []) ∙ ap (λ z. Some (z, u)) (append_assoc found (x ∷ []) all)

  fields_exact : {p q : Spot} {all : List TransactionFieldTree} → Fields p all q → token_strength q ≡ 0 → r.field_list p ≡ Some (all, q)
  fields_exact {p} d weak = fields_from d weak (length p.tokens) (omega arith) []

  -- ---- parameters, prepare and execute

  maybe_parameters_found : (p : Spot) → IfFound (As MaybeParameters p) (r.maybe_parameters p)
  unfolding r.maybe_parameters
  maybe_parameters_found p =
      let P = As MaybeParameters p in
      either_found P (after s.OpenParenthesis p) _ _ (λ q e. then_found P (parts.parameters p) _ (λ x f. g.some_parameters (members.parameters_sound p x f))) (λ lacks. g.no_parameters lacks)

  -- their parenthesis comes next
  parenthesis : {p q : Spot} {all : List ParameterTree} → Parameters p all q → (u : Spot) × (after s.OpenParenthesis p ≡ Some u)
  parenthesis (g.parameters {p} {q} o d) = let w = opening_is s.OpenParenthesis p q o in (w.0, w.1)

  maybe_parameters_exact : {p q : Spot} {x : Option (List ParameterTree)} → MaybeParameters p x q → r.maybe_parameters p ≡ Some (x, q)
  unfolding r.maybe_parameters
  maybe_parameters_exact (g.no_parameters {p} e) = either_not (after s.OpenParenthesis p) _ _ e
  maybe_parameters_exact (g.some_parameters {p} {q} {all} d) =
      let w = parenthesis d in either_is (after s.OpenParenthesis p) _ _ w.0 w.1 ∙ then_is (parts.parameters p) _ (all, q) (members.parameters_exact d)

  maybe_parameters_short : {p q : Spot} {x : Option (List ParameterTree)} → MaybeParameters p x q → length q.tokens ≤ length p.tokens
  maybe_parameters_short (g.no_parameters e) = omega arith
  maybe_parameters_short (g.some_parameters d) = omega (arith, members.parameters_shorter d)

  prepared_found : (p : Spot) → IfFound (As Prepares p) (r.prepared p)
  unfolding r.prepared
  prepared_found p =
      let P = As Prepares p in
      then_found P (parts.parameters p) _ (λ all e. then_found P (block_in all.1) _ (λ b f. g.prepares (members.parameters_sound p all e) (statements.block_sound all.1 b f)))

  prepared_exact : {p q : Spot} {x : PrepareTree} → Prepares p x q → r.prepared p ≡ Some (x, q)
  unfolding r.prepared
  prepared_exact (g.prepares {p} {q} {r = u} {all} {body} d e) = then_is (parts.parameters p) _ (all, q) (members.parameters_exact d) ∙ then_is (block_in q) _ (body, u) (statements.block_exact e)

  prepared_short : {p q : Spot} {x : PrepareTree} → Prepares p x q → length q.tokens ≤ length p.tokens
  prepared_short (g.prepares d e) = omega (arith, members.parameters_shorter d, statements.block_shorter e)

  prepare_sound : (p : Spot) (x : Option PrepareTree × Spot) → r.prepare p ≡ Some x → Maybe (keyword k.Prepare) Prepares p x.0 x.1
  unfolding r.prepare
  prepare_sound p x e = maybe_sound (keyword k.Prepare) r.prepared Prepares (λ p x e. found_is (As Prepares p) _ x (prepared_found p) e) p x e

  execute_sound : (p : Spot) (x : Option (List StmtTree) × Spot) → r.execute p ≡ Some x → Maybe (keyword k.Execute) Block p x.0 x.1
  unfolding r.execute
  execute_sound p x e = maybe_sound (keyword k.Execute) block_in Block statements.block_sound p x e

  prepare_exact : {p q : Spot} {x : Option PrepareTree} → Maybe (keyword k.Prepare) Prepares p x q → r.prepare p ≡ Some (x, q)
  unfolding r.prepare
  prepare_exact d = maybe_exact (keyword k.Prepare) r.prepared (maybe_read (λ p q a d. prepared_exact d) d)

  execute_exact : {p q : Spot} {x : Option (List StmtTree)} → Maybe (keyword k.Execute) Block p x q → r.execute p ≡ Some (x, q)
  unfolding r.execute
  execute_exact d = maybe_exact (keyword k.Execute) block_in (maybe_read (λ p q a d. statements.block_exact d) d)

  prepare_short : {p q : Spot} {x : Option PrepareTree} → Maybe (keyword k.Prepare) Prepares p x q → length q.tokens ≤ length p.tokens
  prepare_short d = maybe_short (word_short k.Prepare) (λ p q a d. prepared_short d) d

  execute_short : {p q : Spot} {x : Option (List StmtTree)} → Maybe (keyword k.Execute) Block p x q → length q.tokens ≤ length p.tokens
  execute_short d = maybe_short (word_short k.Execute) (λ p q a d. let lt = statements.block_shorter d in omega (arith, lt)) d

  -- ---- transactions

  pub transaction_found : (p q : Spot) → keyword k.Transaction p ≡ Some q → IfFound (As ReadsTransaction p) (r.transaction p q)
  unfolding r.transaction
  transaction_found p q e =
      let P = As ReadsTransaction p in
      then_found P (r.maybe_parameters q) _ (λ x e1. then_found P (opening s.OpenBrace x.1) _ (λ u e2. then_found P (r.field_list u) _ (λ f e3. then_found P (r.prepare f.1) _ (λ y e4.
      then_found P (parts.conditions_behind k.Pre y.1) _ (λ a e5. then_found P (r.execute a.1) _ (λ z e6. then_found P (parts.conditions_behind k.Post z.1) _ (λ b e7.
      then_found P (after s.CloseBrace b.1) _ (λ v e8.
      g.transaction e (found_is (As MaybeParameters q) _ x (maybe_parameters_found q) e1) e2 (fields_sound u f e3) (prepare_sound f.1 y e4) (members.pre_sound y.1 a e5) (execute_sound a.1 z e6)
      (members.post_sound z.1 b e7) e8))))))))

  pub transaction_shorter : {p q : Spot} {x : TransactionTree} → ReadsTransaction p x q → length q.tokens < length p.tokens
  transaction_shorter (g.transaction {p} {q} {r = t} {u} {z} {end} e ps o fs pr pre ex post c) =
      omega (
        arith,
        keyword_shorter k.Transaction p q e,
        maybe_parameters_short ps,
        opening_shorter s.OpenBrace t u o,
        fields_short fs,
        prepare_short pr,
        members.pre_shorter pre,
        execute_short ex,
        members.post_shorter post,
        after_shorter s.CloseBrace z end c,
      )

  pub transaction_word : {p q : Spot} {x : TransactionTree} → ReadsTransaction p x q → (u : Spot) × (keyword k.Transaction p ≡ Some u)
  transaction_word (g.transaction {q} e ps o fs pr pre ex post c) = (q, e)

  -- how a transaction is read behind its word
  pub record TransactionRead (p : Spot) (x : TransactionTree) (q : Spot) : Type 0 where
    pub behind : Spot
    pub words : keyword k.Transaction p ≡ Some behind
    pub reads : r.transaction p behind ≡ Some (x, q)

  pub transaction_exact : {p q : Spot} {x : TransactionTree} → ReadsTransaction p x q → TransactionRead p x q
  unfolding r.transaction
  transaction_exact (g.transaction {p} {q} {r = t} {u} {v} {w} {x} {y} {z} {end} {parameters} {fields} {prepare} {pre} {post} {execute} e ps o fs pr a ex b c) =
      let closing = after_strength s.CloseBrace z end c in
      let weak_post : token_strength y ≡ 0 = maybe_weak k.Post (λ b. refl) b closing.1 in
      let weak_execute : token_strength x ≡ 0 = maybe_weak k.Execute (λ b. refl) ex weak_post in
      let weak_pre : token_strength w ≡ 0 = maybe_weak k.Pre (λ b. refl) a weak_execute in
      let weak_prepare : token_strength v ≡ 0 = maybe_weak k.Prepare (λ b. refl) pr weak_pre in
      record {
        behind = q;
        words = e;
        reads = then_is (r.maybe_parameters q) _ (parameters, t) (maybe_parameters_exact ps) ∙ then_is (opening s.OpenBrace t) _ u o ∙ then_is (r.field_list u) _ (fields, v) (fields_exact fs weak_prepare)
            ∙ then_is (r.prepare v) _ (prepare, w) (prepare_exact pr) ∙ then_is (parts.conditions_behind k.Pre w) _ (pre, x) (members.pre_exact a) ∙ then_is (r.execute x) _ (execute, y) (execute_exact ex)
            ∙ then_is (parts.conditions_behind k.Post y) _ (post, z) (members.post_exact b) ∙ then_is (after s.CloseBrace z) _ end c;
      }
