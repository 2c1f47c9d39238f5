-- What holds of all statements that are spelled: they take tokens, give their nestings back, and begin with a token of their own.
use Rattle.std.proofs.Common.{◌≡◌, ◌<◌, ◌≤◌, Bool, true, false, not, ◌||◌, List, [], ◌∷◌, length, Option, Some, None, refl, sym, ap, ◌∙◌, ◌⊎◌, inl, inr, subst, arith}
use Rattle.cad_grammar.specs.declared.token.Sign.{Sign}
use Rattle.cad_grammar.specs.declared.token.Sign.TheVariants as s
use Rattle.cad_syntax.specs.declared.keyword.Keyword.{Keyword}
use Rattle.cad_syntax.specs.declared.keyword.Keyword.TheVariants as k
use Rattle.cad_grammar.specs.declared.token.TokenKind.{TokenKind}
use Rattle.cad_grammar.specs.declared.token.TokenKind.TheVariants as kind
use Rattle.cad_grammar.specs.declared.token.Token.{Token}
use Rattle.cad_syntax.specs.declared.text.Name.{Name}
use Rattle.cad_grammar.specs.declared.statement.VariableKind.{VariableKind}
use Rattle.cad_grammar.specs.declared.statement.Transfer.{Transfer}
use Rattle.cad_grammar.specs.Trees.{Annotation, TestTree, SecondTree, StmtTree, OtherwiseTree, CaseTree, Default}
use Rattle.cad_grammar.specs.Spots.{Spot, either, only_if, holds_of, holds, after, keyword}
use Rattle.cad_grammar.specs.Levels.{sign_start, keyword_start, kind_start}
use Rattle.cad_parse_type.specs.Code.Levels.{sign_strength, kind_strength, strength_of, token_strength, start_of, start}
use Rattle.cad_grammar.specs.StatementGrammar.{MaybeAnnotated, Tested, Seconded, Loops, ReadsStmt, ReadsIf, ReadsOtherwise, ReadsCases, ReadsDefault, Block, Statements, variable_word, variable_kind_of, transfer, transfer_of, begins_no_statement, begins_plainly, ends_statements, ends, breaks_or_ends, parted}
use Rattle.cad_grammar.specs.StatementGrammar as g
use Rattle.cad_grammar.specs.Lists as lists
use Rattle.cad_parse_type.proofs.TypeLaws.{TypeLaws}
use Rattle.cad_parse_type.proofs.Heads.{some_same, head_of, head, head_strength, read_head, keyword_head, after_strength, after_shorter, after_left, keyword_shorter, keyword_left, name_shorter, name_left, read_shorter, read_left, opened_is, opening_shorter}
use Rattle.cad_parse_expr.proofs.ExpressionLaws.{ExpressionLaws}
use Rattle.cad_parse_statement.specs.Code.Reading.{NamedValue}
use Rattle.cad_parse_statement.proofs.PartLaws.{Valued, valued}

-- ---- what stands behind a statement

parted_of : (o : Option Spot) (b : Bool) (p q : Spot) → either o Some (only_if b p) ≡ Some q → (o ≡ Some q) ⊎ ((b ≡ true) × (p ≡ q))
parted_of (Some x) b p q e = inl e
parted_of None true p q e = inr (refl, some_same p q e)
parted_of None false p q e = cc

-- a `;`, which is passed, or a line break or the end of the statements
pub parted_is : (p q : Spot) → parted p ≡ Some q → (after s.Semicolon p ≡ Some q) ⊎ ((breaks_or_ends p ≡ true) × (p ≡ q))
unfolding parted
parted_is p q e = parted_of (after s.Semicolon p) (breaks_or_ends p) p q e

parted_facts : (p q : Spot) → (after s.Semicolon p ≡ Some q) ⊎ ((breaks_or_ends p ≡ true) × (p ≡ q)) → (length q.tokens ≤ length p.tokens) × (q.left ≡ p.left)
parted_facts p q (inl e) = (omega (arith, after_shorter _ _ _ e), after_left _ _ _ e)
parted_facts p q (inr w) = (omega (arith, ap (λ r. length r.tokens) w.1), sym (ap (λ r. r.left) w.1))

pub parted_short : (p q : Spot) → parted p ≡ Some q → length q.tokens ≤ length p.tokens
parted_short p q e = (parted_facts p q (parted_is p q e)).0

pub parted_left : (p q : Spot) → parted p ≡ Some q → q.left ≡ p.left
parted_left p q e = (parted_facts p q (parted_is p q e)).1

-- ---- the first token

-- A token comes next that goes on after nothing where a line break stands before it, and that ends no statements.
pub record Begins (p : Spot) : Type 0 where
  pub found : TokenKind
  pub is : head p ≡ Some found
  pub weak : kind_strength true found ≡ 0
  pub no_end : ends_statements found ≡ false

begins_by : (word : Keyword) (p q : Spot) → kind_strength true (kind.Keyword word) ≡ 0 → ends_statements (kind.Keyword word) ≡ false → keyword word p ≡ Some q → Begins p
begins_by word p q w n e = record { found = kind.Keyword word; is = keyword_head word p q e; weak = w; no_end = n }

variable_kind_weak : (found : TokenKind) (v : VariableKind) → variable_kind_of found ≡ Some v → (kind_strength true found ≡ 0) × (ends_statements found ≡ false) × (kind_start found ≡ 0)
variable_kind_weak (kind.Keyword k.Let) v e = (refl, refl, refl)
variable_kind_weak (kind.Keyword k.Var) v e = (refl, refl, refl)
variable_kind_weak _ v e = cc

pub variable_start : (p : Spot) (x : VariableKind × Spot) → variable_word p ≡ Some x → (found : TokenKind) × (head p ≡ Some found) × (kind_start found ≡ 0)
variable_start p x e = let w = read_head variable_kind_of p x e in (w.0, w.1, (variable_kind_weak w.0 x.0 w.2).2)

variable_begins : (p : Spot) (x : VariableKind × Spot) → variable_word p ≡ Some x → Begins p
variable_begins p x e =
    let w = read_head variable_kind_of p x e in
    let h = variable_kind_weak w.0 x.0 w.2 in
    record { found = w.0; is = w.1; weak = h.0; no_end = h.1 }

plain_sign : (sign : Sign) → not (begins_no_statement (kind.Sign sign)) ≡ true → 12 ≤ sign_start sign → (sign_strength true sign ≡ 0) × (ends_statements (kind.Sign sign) ≡ false)
plain_sign s.OpenParenthesis e lt = (refl, refl)
plain_sign s.OpenBracket e lt = (refl, refl)
plain_sign s.Bang e lt = (refl, refl)
plain_sign s.OpenBrace e lt = cc
plain_sign s.Minus e lt = cc
plain_sign s.Star e lt = cc
plain_sign s.Ampersand e lt = cc
plain_sign s.Move e lt = cc
plain_sign s.Slash e lt = cc
plain_sign _ e lt = let never : ⊥ = omega arith in absurd never

plain_keyword : (word : Keyword) → 12 ≤ keyword_start word → (kind_strength true (kind.Keyword word) ≡ 0) × (ends_statements (kind.Keyword word) ≡ false)
plain_keyword k.As lt = let never : ⊥ = omega arith in absurd never
plain_keyword k.Case lt = let never : ⊥ = omega arith in absurd never
plain_keyword k.Default lt = let never : ⊥ = omega arith in absurd never
plain_keyword _ lt = (refl, refl)

plain_kind : (found : TokenKind) → not (begins_no_statement found) ≡ true → 12 ≤ kind_start found → (kind_strength true found ≡ 0) × (ends_statements found ≡ false)
plain_kind (kind.Sign sign) e lt = plain_sign sign e lt
plain_kind (kind.Keyword word) e lt = plain_keyword word lt
plain_kind _ e lt = (refl, refl)

plain_tokens : (ts : List Token) → holds_of (λ broken found. not (begins_no_statement found)) ts ≡ true → 12 ≤ start_of ts
    → (found : TokenKind) × (head_of ts ≡ Some found) × (kind_strength true found ≡ 0) × (ends_statements found ≡ false)
plain_tokens [] e lt = cc
plain_tokens (t ∷ ts) e lt = let w = plain_kind t.kind e lt in (t.kind, refl, w.0, w.1)

pub plainly_begins : (p : Spot) → begins_plainly p ≡ true → 12 ≤ start p → Begins p
unfolding holds
plainly_begins p e lt = let w = plain_tokens p.tokens e lt in record { found = w.0; is = w.1; weak = w.2; no_end = w.3 }

-- ---- what the token behind a statement does

end_weak : (b : Bool) (found : TokenKind) → ends_statements found ≡ true → kind_strength b found ≡ 0
end_weak b (kind.Sign s.CloseBrace) e = refl
end_weak b (kind.Keyword k.Case) e = refl
end_weak b (kind.Keyword k.Default) e = refl
end_weak b _ e = cc

ends_tokens : (ts : List Token) → holds_of (λ broken found. ends_statements found) ts ≡ true → (strength_of ts ≡ 0) × (0 < length ts)
ends_tokens [] e = cc
ends_tokens (t ∷ ts) e = (end_weak t.after_break t.kind e, omega arith)

pub ends_weak : (p : Spot) → ends p ≡ true → token_strength p ≡ 0
unfolding holds
ends_weak p e = (ends_tokens p.tokens e).0

pub ends_some : (p : Spot) → ends p ≡ true → 0 < length p.tokens
unfolding holds
ends_some p e = (ends_tokens p.tokens e).1

no_end_tokens : (ts : List Token) (found : TokenKind) → head_of ts ≡ Some found → ends_statements found ≡ false → holds_of (λ broken found. ends_statements found) ts ≡ false
no_end_tokens [] found e f = cc
no_end_tokens (t ∷ ts) found e f = ap ends_statements (some_same t.kind found e) ∙ f

pub begins_no_end : (p : Spot) → Begins p → ends p ≡ false
unfolding holds
begins_no_end p w = no_end_tokens p.tokens w.found w.is w.no_end

broken_weak : (b : Bool) (found : TokenKind) → kind_strength true found ≡ 0 → (b || ends_statements found) ≡ true → kind_strength b found ≡ 0
broken_weak true found w e = w
broken_weak false found w e = end_weak false found e

broken_tokens : (ts : List Token) (found : TokenKind) → head_of ts ≡ Some found → kind_strength true found ≡ 0
    → holds_of (λ broken found. broken || ends_statements found) ts ≡ true → strength_of ts ≡ 0
broken_tokens [] found e w h = cc
broken_tokens (t ∷ ts) found e w h = broken_weak t.after_break t.kind (ap (kind_strength true) (some_same t.kind found e) ∙ w) h

pub begins_weak : (p : Spot) → Begins p → breaks_or_ends p ≡ true → token_strength p ≡ 0
unfolding holds
begins_weak p w h = broken_tokens p.tokens w.found w.is w.weak h

transfer_kind_weak : (b : Bool) (found : TokenKind) (t : Transfer) → transfer_of found ≡ Some t → kind_strength b found ≡ 0
transfer_kind_weak b (kind.Sign s.Assign) t e = refl
transfer_kind_weak b (kind.Sign s.Move) t e = refl
transfer_kind_weak b (kind.Sign s.ForceMove) t e = refl
transfer_kind_weak b _ t e = cc

pub transfer_weak : (p : Spot) (x : Transfer × Spot) → transfer p ≡ Some x → token_strength p ≡ 0
transfer_weak p x e =
    let w = read_head transfer_of p x e in
    let h = head_strength p w.0 w.1 in
    h.1 ∙ transfer_kind_weak h.0 w.0 x.0 w.2

pub sign_weak : (sign : Sign) (p q : Spot) → ((b : Bool) → sign_strength b sign ≡ 0) → after sign p ≡ Some q → token_strength p ≡ 0
sign_weak sign p q h e = let w = after_strength sign p q e in w.1 ∙ h w.0

-- ---- tokens and nestings

pub loops_shorter : {p q : Spot} {i : Option Name} {n : Name} → Loops p i n q → length q.tokens < length p.tokens
loops_shorter (g.over a b) = omega (arith, name_shorter _ _ a, keyword_shorter _ _ _ b)
loops_shorter (g.indexed a b c d) = omega (arith, name_shorter _ _ a, after_shorter _ _ _ b, name_shorter _ _ c, keyword_shorter _ _ _ d)

pub loops_left : {p q : Spot} {i : Option Name} {n : Name} → Loops p i n q → q.left ≡ p.left
loops_left (g.over a b) = keyword_left _ _ _ b ∙ name_left _ _ a
loops_left (g.indexed a b c d) = keyword_left _ _ _ d ∙ name_left _ _ c ∙ after_left _ _ _ b ∙ name_left _ _ a

module _ (types : TypeLaws) (expressions : ExpressionLaws) where
  annotated_short : {p q : Spot} {a : Option Annotation} → MaybeAnnotated p a q → length q.tokens ≤ length p.tokens
  annotated_short (lists.absent e) = omega arith
  annotated_short (lists.present e d) = omega (arith, after_shorter _ _ _ e, types.annotated_shorter d)

  annotated_left : {p q : Spot} {a : Option Annotation} → MaybeAnnotated p a q → q.left ≡ p.left
  annotated_left (lists.absent e) = refl
  annotated_left (lists.present e d) = types.annotated_left d ∙ after_left _ _ _ e

  valued_shorter : {p q : Spot} {b : NamedValue} → Valued p b q → length q.tokens < length p.tokens
  valued_shorter (valued n a t e) = omega (arith, name_shorter _ _ n, annotated_short a, read_shorter _ _ _ t, expressions.expression_shorter e)

  valued_left : {p q : Spot} {b : NamedValue} → Valued p b q → q.left ≡ p.left
  valued_left (valued n a t e) = expressions.expression_left e ∙ read_left _ _ _ t ∙ annotated_left a ∙ name_left _ _ n

  pub tested_shorter : {p q : Spot} {t : TestTree} → Tested p t q → length q.tokens < length p.tokens
  tested_shorter (g.expression_test lacks e) = expressions.expression_shorter e
  tested_shorter (g.binding f n a t e) = omega (arith, read_shorter _ _ _ f, valued_shorter (valued n a t e))

  pub tested_left : {p q : Spot} {t : TestTree} → Tested p t q → q.left ≡ p.left
  tested_left (g.expression_test lacks e) = expressions.expression_left e
  tested_left (g.binding f n a t e) = valued_left (valued n a t e) ∙ read_left _ _ _ f

  seconded_short : {p q : Spot} {x : Option SecondTree} → Seconded p x q → length q.tokens ≤ length p.tokens
  seconded_short (g.no_second e) = omega arith
  seconded_short (g.second t e) = omega (arith, read_shorter _ _ _ t, expressions.expression_shorter e)

  seconded_left : {p q : Spot} {x : Option SecondTree} → Seconded p x q → q.left ≡ p.left
  seconded_left (g.no_second e) = refl
  seconded_left (g.second t e) = expressions.expression_left e ∙ read_left _ _ _ t

  pub seconded_weak : {p q : Spot} {x : Option SecondTree} → Seconded p x q → token_strength q ≡ 0 → token_strength p ≡ 0
  seconded_weak (g.no_second e) st = st
  seconded_weak (g.second t e) st = transfer_weak _ _ t

  mutual
    pub stmt_shorter : {p q : Spot} {x : StmtTree} → ReadsStmt p x q → length q.tokens < length p.tokens
    stmt_shorter (g.variable f n a t e d) = omega (arith, read_shorter _ _ _ f, valued_shorter (valued n a t e), seconded_short d)
    stmt_shorter (g.conditional d) = omega (arith, if_shorter d)
    stmt_shorter (g.while_loop w e b) = omega (arith, keyword_shorter _ _ _ w, expressions.expression_shorter e, block_shorter b)
    stmt_shorter (g.for_loop w l e b) = omega (arith, keyword_shorter _ _ _ w, loops_shorter l, expressions.expression_shorter e, block_shorter b)
    stmt_shorter (g.switch w e o c d z) = omega (arith, keyword_shorter _ _ _ w, expressions.expression_shorter e, opening_shorter _ _ _ o, cases_short c, default_short d, after_shorter _ _ _ z)
    stmt_shorter (g.break_loop w) = keyword_shorter _ _ _ w
    stmt_shorter (g.continue_loop w) = keyword_shorter _ _ _ w
    stmt_shorter (g.return_nothing w lacks) = keyword_shorter _ _ _ w
    stmt_shorter (g.return_value w holds_so e) = omega (arith, keyword_shorter _ _ _ w, expressions.expression_shorter e)
    stmt_shorter (g.emit w e) = omega (arith, keyword_shorter _ _ _ w, expressions.expression_shorter e)
    stmt_shorter (g.assignment b a t e) = omega (arith, expressions.expression_shorter a, read_shorter _ _ _ t, expressions.expression_shorter e)
    stmt_shorter (g.swap b a t e) = omega (arith, expressions.expression_shorter a, after_shorter _ _ _ t, expressions.expression_shorter e)
    stmt_shorter (g.expression b a lacks lacks_too) = expressions.expression_shorter a

    if_shorter : {p q : Spot} {x : StmtTree} → ReadsIf p x q → length q.tokens < length p.tokens
    if_shorter (g.if_else w t b o) = omega (arith, keyword_shorter _ _ _ w, tested_shorter t, block_shorter b, otherwise_short o)

    otherwise_short : {p q : Spot} {x : OtherwiseTree} → ReadsOtherwise p x q → length q.tokens ≤ length p.tokens
    otherwise_short (g.nothing lacks) = omega arith
    otherwise_short (g.else_block w b) = omega (arith, keyword_shorter _ _ _ w, block_shorter b)
    otherwise_short (g.else_if w o d) = omega (arith, keyword_shorter _ _ _ w, ap length (opened_is _ _ o).1, if_shorter d)

    pub cases_short : {p q : Spot} {x : List CaseTree} → ReadsCases p x q → length q.tokens ≤ length p.tokens
    cases_short (g.no_case lacks) = omega arith
    cases_short (g.case w e c b d) = omega (arith, keyword_shorter _ _ _ w, expressions.expression_shorter e, after_shorter _ _ _ c, statements_short b, cases_short d)

    pub default_short : {p q : Spot} {x : Default} → ReadsDefault p x q → length q.tokens ≤ length p.tokens
    default_short (g.no_default lacks) = omega arith
    default_short (g.default w c b) = omega (arith, keyword_shorter _ _ _ w, after_shorter _ _ _ c, statements_short b)

    pub block_shorter : {p q : Spot} {x : List StmtTree} → Block p x q → length q.tokens < length p.tokens
    block_shorter (g.block o b c) = omega (arith, opening_shorter _ _ _ o, statements_short b, after_shorter _ _ _ c)

    pub statements_short : {p q : Spot} {x : List StmtTree} → Statements p x q → length q.tokens ≤ length p.tokens
    statements_short (g.no_statement e) = omega arith
    statements_short (g.statement d e r) = omega (arith, stmt_shorter d, parted_short _ _ e, statements_short r)

  pub block_left : {p q : Spot} {x : List StmtTree} → Block p x q → q.left ≡ p.left
  block_left (g.block o b c) = refl

  pub stmt_left : {p q : Spot} {x : StmtTree} → ReadsStmt p x q → q.left ≡ p.left
  stmt_left (g.variable f n a t e d) = seconded_left d ∙ valued_left (valued n a t e) ∙ read_left _ _ _ f
  stmt_left (g.conditional d) = refl
  stmt_left (g.while_loop w e b) = block_left b ∙ expressions.expression_left e ∙ keyword_left _ _ _ w
  stmt_left (g.for_loop w l e b) = block_left b ∙ expressions.expression_left e ∙ loops_left l ∙ keyword_left _ _ _ w
  stmt_left (g.switch w e o c d z) = refl
  stmt_left (g.break_loop w) = keyword_left _ _ _ w
  stmt_left (g.continue_loop w) = keyword_left _ _ _ w
  stmt_left (g.return_nothing w lacks) = keyword_left _ _ _ w
  stmt_left (g.return_value w holds_so e) = expressions.expression_left e ∙ keyword_left _ _ _ w
  stmt_left (g.emit w e) = expressions.expression_left e ∙ keyword_left _ _ _ w
  stmt_left (g.assignment b a t e) = expressions.expression_left e ∙ read_left _ _ _ t ∙ expressions.expression_left a
  stmt_left (g.swap b a t e) = expressions.expression_left e ∙ after_left _ _ _ t ∙ expressions.expression_left a
  stmt_left (g.expression b a lacks lacks_too) = expressions.expression_left a

  pub statements_left : {p q : Spot} {x : List StmtTree} → Statements p x q → q.left ≡ p.left
  statements_left (g.no_statement e) = refl
  statements_left (g.statement d e r) = statements_left r ∙ parted_left _ _ e ∙ stmt_left d

  pub cases_left : {p q : Spot} {x : List CaseTree} → ReadsCases p x q → q.left ≡ p.left
  cases_left (g.no_case lacks) = refl
  cases_left (g.case w e c b d) = cases_left d ∙ statements_left b ∙ after_left _ _ _ c ∙ expressions.expression_left e ∙ keyword_left _ _ _ w

  if_begins : {p q : Spot} {x : StmtTree} → ReadsIf p x q → Begins p
  if_begins (g.if_else w t b o) = begins_by k.If _ _ refl refl w

  pub stmt_begins : {p q : Spot} {x : StmtTree} → ReadsStmt p x q → Begins p
  stmt_begins (g.variable f n a t e d) = variable_begins _ _ f
  stmt_begins (g.conditional d) = if_begins d
  stmt_begins (g.while_loop w e b) = begins_by k.While _ _ refl refl w
  stmt_begins (g.for_loop w l e b) = begins_by k.For _ _ refl refl w
  stmt_begins (g.switch w e o c d z) = begins_by k.Switch _ _ refl refl w
  stmt_begins (g.break_loop w) = begins_by k.Break _ _ refl refl w
  stmt_begins (g.continue_loop w) = begins_by k.Continue _ _ refl refl w
  stmt_begins (g.return_nothing w lacks) = begins_by k.Return _ _ refl refl w
  stmt_begins (g.return_value w holds_so e) = begins_by k.Return _ _ refl refl w
  stmt_begins (g.emit w e) = begins_by k.Emit _ _ refl refl w
  stmt_begins (g.assignment b a t e) = plainly_begins _ b (expressions.expression_starts a)
  stmt_begins (g.swap b a t e) = plainly_begins _ b (expressions.expression_starts a)
  stmt_begins (g.expression b a lacks lacks_too) = plainly_begins _ b (expressions.expression_starts a)

  statements_weak : {p q : Spot} {x : List StmtTree} → Statements p x q → breaks_or_ends p ≡ true → token_strength p ≡ 0
  statements_weak (g.no_statement e) h = ends_weak _ e
  statements_weak (g.statement d e r) h = begins_weak _ (stmt_begins d) h

  weak_before : {q u : Spot} {x : List StmtTree} (p : Spot) → (after s.Semicolon p ≡ Some q) ⊎ ((breaks_or_ends p ≡ true) × (p ≡ q)) → Statements q x u → token_strength p ≡ 0
  weak_before p (inl e) d = sign_weak s.Semicolon p _ (λ b. refl) e
  weak_before {u = u} {x = x} p (inr w) d = statements_weak (subst (λ z. Statements z x u) (sym w.1) d) w.0

  -- nothing goes on behind a statement that further ones follow
  pub parted_weak : {q u : Spot} {x : List StmtTree} (p : Spot) → parted p ≡ Some q → Statements q x u → token_strength p ≡ 0
  parted_weak {q} p e d = weak_before p (parted_is p q e) d
