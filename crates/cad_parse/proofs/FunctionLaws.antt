-- Blocks of functions, functions and initializers: what is read is spelled, and what is spelled is read.
use Rattle.std.proofs.Common.{◌≡◌, ℕ, ◌<◌, ◌≤◌, Bool, true, false, [], ◌∷◌, length, codes, Option, Some, None, refl, sym, ap, ◌∙◌, ◌⊎◌, inl, inr, arith}
use Rattle.cad_grammar.specs.declared.token.Sign.TheVariants as s
use Rattle.cad_syntax.specs.declared.keyword.Keyword.{Keyword}
use Rattle.cad_syntax.specs.declared.keyword.Keyword.TheVariants as k
use Rattle.cad_grammar.specs.declared.token.TokenKind.TheVariants as kind
use Rattle.cad_syntax.specs.declared.text.Name.{Name}
use Rattle.cad_grammar.specs.declared.declaration.Access.{Access}
use Rattle.cad_grammar.specs.Trees.{FunctionBlockTree, FunctionTree, InitTree}
use Rattle.cad_grammar.specs.Spots.{Spot, then, either, after, keyword, word, name, opening}
use Rattle.cad_parse_type.specs.Code.Levels.{token_strength}
use Rattle.cad_grammar.specs.StatementGrammar.{variable_kind_of, variable_word}
use Rattle.cad_grammar.specs.ProgramGrammar.{ReadsAccess, ReadsFunction, FunctionBlock, FunctionWith, Blocked, MaybeBlocked, ReadsInit, viewed}
use Rattle.cad_grammar.specs.ProgramGrammar as g
use Rattle.cad_parse_statement.specs.Code.Reading.{maybe_annotated, statements_in}
use Rattle.cad_parse.specs.Code.Parts.{labelled, parameters, conditions_behind, function_block}
use Rattle.cad_parse.specs.Code.Reading.{blocked, maybe_blocked, block_of, function_with, initializer}
use Rattle.cad_parse_type.proofs.Heads.{none_of, then_some, head, keyword_head, keyword_shorter, keyword_no_sign, keyword_no_name, read_not, after_shorter, name_shorter, opening_shorter, opening_is}
use Rattle.cad_parse_type.proofs.Climbs.{then_is, either_is, either_not, cases_of, IfFound, then_found, either_found, found_is}
use Rattle.cad_parse_type.proofs.ListLaws.{IsSound}
use Rattle.cad_parse_type.proofs.TypeLaws.{TypeLaws}
use Rattle.cad_parse_expr.proofs.ExpressionLaws.{ExpressionLaws}
use Rattle.cad_parse_statement.proofs.StatementLaws.{StatementLaws}
use Rattle.cad_parse.proofs.MemberLaws.{FunctionRead, InitRead}
use Rattle.cad_parse.proofs.Found.{As, sound, taken_same, name_taken, word_taken, word_head, word_shorter, sign_weak}
use Rattle.cad_parse.proofs.AccessLaws.{access_shorter}
use Rattle.cad_parse.proofs.ParameterLaws.{labelled_is, parameters_sound, parameters_exact, parameters_shorter, annotated_sound, annotated_exact, annotated_short}
use Rattle.cad_parse.proofs.ConditionLaws.{behind_sound, behind_exact, behind_short}

-- ---- `view` and a keyword

pub viewed_shorter : (asked : Keyword) (p : Spot) (x : Bool × Spot) → viewed asked p ≡ Some x → length x.1.tokens < length p.tokens
unfolding viewed
viewed_shorter asked p x e =
    cases_of _ (word (codes "view") p)
    (λ f. let w = then_some (keyword asked p) _ x (sym (either_not (word (codes "view") p) _ _ f) ∙ e) in
    omega (arith, keyword_shorter asked p w.0 w.1, ap (λ y. length y.1.tokens) (same (false, w.0) x w.2)))
    (λ q f. let w = then_some (keyword asked q) _ x (sym (either_is (word (codes "view") p) _ _ q f) ∙ e) in
    omega (arith, word_shorter (codes "view") p q f, keyword_shorter asked q w.0 w.1, ap (λ y. length y.1.tokens) (same (true, w.0) x w.2)))
  where
    same : (a b : Bool × Spot) → Some a ≡ Some b → a ≡ b
    same a b e = cc

-- the keyword, or the name `view`, comes next
pub viewed_head : (asked : Keyword) (p : Spot) (x : Bool × Spot) → viewed asked p ≡ Some x → (head p ≡ Some (kind.Keyword asked)) ⊎ ((n : Name) × (head p ≡ Some (kind.Name n)))
unfolding viewed
viewed_head asked p x e =
    cases_of _ (word (codes "view") p)
    (λ f. let w = then_some (keyword asked p) _ x (sym (either_not (word (codes "view") p) _ _ f) ∙ e) in inl (keyword_head asked p w.0 w.1))
    (λ q f. inr (word_head (codes "view") p q f))

-- it is neither a variable's word nor a name before a `:`
pub viewed_no_variable : (asked : Keyword) (p : Spot) (x : Bool × Spot) → variable_kind_of (kind.Keyword asked) ≡ None → viewed asked p ≡ Some x → variable_word p ≡ None
viewed_no_variable asked p x h e = by_head (viewed_head asked p x e)
  where
    by_head : (head p ≡ Some (kind.Keyword asked)) ⊎ ((n : Name) × (head p ≡ Some (kind.Name n))) → variable_word p ≡ None
    by_head (inl f) = read_not variable_kind_of p (kind.Keyword asked) f h
    by_head (inr w) = read_not variable_kind_of p (kind.Name w.0) w.1 refl

named_no_keyword : (asked : Keyword) (p q : Spot) (n : Name) → name p ≡ Some (n, q) → keyword asked p ≡ None
named_no_keyword asked p q n e = none_of (keyword asked p) (λ u f. let c = sym e ∙ keyword_no_name asked p (keyword_head asked p u f) in cc)

pub viewed_not_labelled : (asked : Keyword) (p : Spot) (x : Bool × Spot) → viewed asked p ≡ Some x → labelled p ≡ None
unfolding viewed
viewed_not_labelled asked p x e = none_of (labelled p) (λ y f.
    let w = labelled_is p y f in
    cases_of ⊥ (word (codes "view") p)
    (λ g1. let v = then_some (keyword asked p) _ x (sym (either_not (word (codes "view") p) _ _ g1) ∙ e) in
    let c = sym v.1 ∙ named_no_keyword asked p w.0 y.0 w.1 in cc)
    (λ q g1. let v = then_some (keyword asked q) _ x (sym (either_is (word (codes "view") p) _ _ q g1) ∙ e) in
    let same = taken_same p q w.0 (word_taken (codes "view") p q g1) (name_taken p (y.0, w.0) w.1) in
    let c = sym w.2 ∙ ap (after s.Colon) (sym same) ∙ keyword_no_sign s.Colon asked q (keyword_head asked q v.0 v.1) in cc))

-- ---- which block a function has

abbrev pub BlockOf : Bool → Spot → Option FunctionBlockTree → Spot → Type 0
BlockOf true = MaybeBlocked
BlockOf false = Blocked

module _ (types : TypeLaws) (expressions : ExpressionLaws) (statements : StatementLaws) where
  -- ---- what is read is spelled

  function_block_found : (p : Spot) → IfFound (As FunctionBlock p) (function_block p)
  unfolding function_block
  function_block_found p =
      let P = As FunctionBlock p in
      then_found P (opening s.OpenBrace p) _ (λ q e. then_found P (conditions_behind k.Pre q) _ (λ a e1. then_found P (conditions_behind k.Post a.1) _ (λ b e2.
      then_found P (statements_in b.1) _ (λ body e3. then_found P (after s.CloseBrace body.1) _ (λ u e4.
      g.function_block e (behind_sound expressions k.Pre q a e1) (behind_sound expressions k.Post a.1 b e2) (statements.statements_sound b.1 body e3) e4)))))

  pub function_block_sound : IsSound FunctionBlock function_block
  function_block_sound = sound FunctionBlock function_block function_block_found

  block_found : (in_interface : Bool) (p : Spot) → IfFound (As (BlockOf in_interface) p) (block_of in_interface p)
  unfolding block_of maybe_blocked blocked
  block_found true p =
      let P = As MaybeBlocked p in
      either_found P (after s.OpenBrace p) _ _ (λ q _. then_found P (function_block p) _ (λ b e. g.a_block (function_block_sound p b e))) (λ e. g.no_block e)
  block_found false p = then_found (As Blocked p) (function_block p) _ (λ b e. g.blocked (function_block_sound p b e))

  function_found : (in_interface : Bool) (p q : Spot) (c : Access) → ReadsAccess p c q → IfFound (As (FunctionWith (BlockOf in_interface)) p) (function_with in_interface c q)
  unfolding function_with
  function_found in_interface p q c d =
      let P = As (FunctionWith (BlockOf in_interface)) p in
      then_found P (viewed k.Fun q) _ (λ v e1. then_found P (name v.1) _ (λ n e2. then_found P (parameters n.1) _ (λ all e3. then_found P (maybe_annotated all.1) _ (λ a e4.
      then_found P (block_of in_interface a.1) _ (λ b e5.
      g.function d e1 e2 (parameters_sound types n.1 all e3) (annotated_sound types all.1 a e4) (sound (BlockOf in_interface) (block_of in_interface) (block_found in_interface) a.1 b e5))))))

  pub function_sound : (in_interface : Bool) (p q : Spot) (c : Access) (x : FunctionTree × Spot) → ReadsAccess p c q → function_with in_interface c q ≡ Some x
      → FunctionWith (BlockOf in_interface) p x.0 x.1
  function_sound in_interface p q c x d e = found_is (As (FunctionWith (BlockOf in_interface)) p) (function_with in_interface c q) x (function_found in_interface p q c d) e

  init_found : (p q : Spot) (is_view : Bool) → viewed k.Init p ≡ Some (is_view, q) → IfFound (As ReadsInit p) (initializer is_view q)
  unfolding initializer
  init_found p q is_view e =
      let P = As ReadsInit p in
      then_found P (parameters q) _ (λ all e1. then_found P (function_block all.1) _ (λ b e2. g.init e (parameters_sound types q all e1) (function_block_sound all.1 b e2)))

  pub init_sound : (p q : Spot) (is_view : Bool) (x : InitTree × Spot) → viewed k.Init p ≡ Some (is_view, q) → initializer is_view q ≡ Some x → ReadsInit p x.0 x.1
  init_sound p q is_view x e f = found_is (As ReadsInit p) (initializer is_view q) x (init_found p q is_view e) f

  -- ---- what is spelled is read

  pub function_block_exact : {p q : Spot} {b : FunctionBlockTree} → FunctionBlock p b q → function_block p ≡ Some (b, q)
  unfolding function_block
  function_block_exact (g.function_block {p} {q} {r} {u} {v} {w} {pre} {post} {body} e a b d c) =
      then_is (opening s.OpenBrace p) _ q e ∙ then_is (conditions_behind k.Pre q) _ (pre, r) (behind_exact expressions k.Pre a)
      ∙ then_is (conditions_behind k.Post r) _ (post, u) (behind_exact expressions k.Post b)
      ∙ then_is (statements_in u) _ (body, v) (statements.statements_exact d) ∙ then_is (after s.CloseBrace v) _ w c

  block_opens : {p q : Spot} {b : FunctionBlockTree} → FunctionBlock p b q → (u : Spot) × (after s.OpenBrace p ≡ Some u)
  block_opens (g.function_block {p} {q} e a b d c) = let w = opening_is s.OpenBrace p q e in (w.0, w.1)

  block_exact : (p q : Spot) (b : Option FunctionBlockTree) (in_interface : Bool) → BlockOf in_interface p b q → block_of in_interface p ≡ Some (b, q)
  unfolding block_of maybe_blocked blocked
  block_exact _ _ _ true (g.no_block {p} e) = either_not (after s.OpenBrace p) _ _ e
  block_exact _ _ _ true (g.a_block {p} {q} {b} d) = let w = block_opens d in either_is (after s.OpenBrace p) _ _ w.0 w.1 ∙ then_is (function_block p) _ (b, q) (function_block_exact d)
  block_exact _ _ _ false (g.blocked {p} {q} {b} d) = then_is (function_block p) _ (b, q) (function_block_exact d)

  -- a block begins with a token that goes on nothing, and so does what follows where there is none
  block_weak : (p q : Spot) (b : Option FunctionBlockTree) (in_interface : Bool) → BlockOf in_interface p b q → (in_interface ≡ true → token_strength q ≡ 0) → token_strength p ≡ 0
  block_weak _ _ _ true (g.no_block e) weak = weak refl
  block_weak _ _ _ true (g.a_block {p} d) weak = let w = block_opens d in sign_weak s.OpenBrace p w.0 (λ b. refl) w.1
  block_weak _ _ _ false (g.blocked {p} d) weak = let w = block_opens d in sign_weak s.OpenBrace p w.0 (λ b. refl) w.1

  -- how a function is read behind its access
  pub record WithRead (in_interface : Bool) (p : Spot) (f : FunctionTree) (q : Spot) : Type 0 where
    pub access : Access
    pub word : Spot
    pub is_view : Bool
    pub behind : Spot
    pub accesses : ReadsAccess p access word
    pub views : viewed k.Fun word ≡ Some (is_view, behind)
    pub reads : function_with in_interface access word ≡ Some (f, q)

  pub function_read : {p q : Spot} {f : FunctionTree} → (in_interface : Bool) → FunctionWith (BlockOf in_interface) p f q → (in_interface ≡ true → token_strength q ≡ 0) → WithRead in_interface p f q
  unfolding function_with
  function_read in_interface (g.function {p} {q} {r} {u} {v} {w} {x} {c} {is_view} {n} {parameters = all} {result} {block} d e1 e2 h a b) weak = record {
    access = c;
    word = q;
    is_view = is_view;
    behind = r;
    accesses = d;
    views = e1;
    reads = then_is (viewed k.Fun q) _ (is_view, r) e1 ∙ then_is (name r) _ (n, u) e2 ∙ then_is (parameters u) _ (all, v) (parameters_exact types h)
        ∙ then_is (maybe_annotated v) _ (result, w) (annotated_exact types a (block_weak _ _ _ in_interface b weak)) ∙ then_is (block_of in_interface w) _ (block, x) (block_exact _ _ _ in_interface b);
  }

  pub function_exact : {p q : Spot} {f : FunctionTree} → ReadsFunction p f q → FunctionRead p f q
  function_exact d =
      let w = function_read false d (λ e. cc) in
      record { access = w.access; word = w.word; is_view = w.is_view; behind = w.behind; accesses = w.accesses; views = w.views; reads = w.reads }

  pub init_exact : {p q : Spot} {i : InitTree} → ReadsInit p i q → InitRead p i q
  unfolding initializer
  init_exact (g.init {p} {q} {r} {u} {is_view} {parameters = all} {b} e d f) = record {
    is_view = is_view;
    behind = q;
    views = e;
    reads = then_is (parameters q) _ (all, r) (parameters_exact types d) ∙ then_is (function_block r) _ (b, u) (function_block_exact f);
  }

  -- ---- what holds of all that is spelled

  function_block_shorter : {p q : Spot} {b : FunctionBlockTree} → FunctionBlock p b q → length q.tokens < length p.tokens
  function_block_shorter (g.function_block {p} {q} {r} {u} {v} {w} e a b d c) =
      omega (arith, opening_shorter s.OpenBrace p q e, behind_short expressions k.Pre a, behind_short expressions k.Post b, statements.statements_shorter d, after_shorter s.CloseBrace v w c)

  block_short : (p q : Spot) (b : Option FunctionBlockTree) (in_interface : Bool) → BlockOf in_interface p b q → length q.tokens ≤ length p.tokens
  block_short _ _ _ true (g.no_block e) = omega arith
  block_short _ _ _ true (g.a_block d) = omega (arith, function_block_shorter d)
  block_short _ _ _ false (g.blocked d) = omega (arith, function_block_shorter d)

  pub function_shorter : {p q : Spot} {f : FunctionTree} → (in_interface : Bool) → FunctionWith (BlockOf in_interface) p f q → length q.tokens < length p.tokens
  function_shorter in_interface (g.function {p} {q} {r} {u} {v} {w} {x} {is_view} {n} c e1 e2 d a b) =
      omega (arith, access_shorter types c, viewed_shorter k.Fun q (is_view, r) e1, name_shorter r (n, u) e2, parameters_shorter types d, annotated_short types a, block_short _ _ _ in_interface b)

  pub init_shorter : {p q : Spot} {i : InitTree} → ReadsInit p i q → length q.tokens < length p.tokens
  init_shorter (g.init {p} {q} {r} {u} {is_view} e d f) = omega (arith, viewed_shorter k.Init p (is_view, q) e, parameters_shorter types d, function_block_shorter f)
