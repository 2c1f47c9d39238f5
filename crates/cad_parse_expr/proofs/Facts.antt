-- What holds of all expressions that are spelled.
use Rattle.std.proofs.Common.{◌≡◌, ◌<◌, ◌≤◌, List, length, Option, Some, None, refl, ap, ◌∙◌, arith}
use Rattle.cad_grammar.specs.declared.token.Sign.{Sign}
use Rattle.cad_grammar.specs.declared.token.Sign.TheVariants as s
use Rattle.cad_syntax.specs.declared.keyword.Keyword.TheVariants as k
use Rattle.cad_syntax.specs.declared.text.Name.{Name}
use Rattle.cad_grammar.specs.declared.level.Level.{Level}
use Rattle.cad_grammar.specs.declared.level.Level.TheVariants as level
use Rattle.cad_grammar.specs.Trees.{Annotation, ExprTree}
use Rattle.cad_grammar.specs.Spots.{Spot, then, after, name, opened}
use Rattle.cad_grammar.specs.Levels.{tighter}
use Rattle.cad_parse_type.specs.Code.Levels.{level_number, start}
use Rattle.cad_grammar.specs.ExpressionGrammar.{TypeArguments, Tail, Part, TreeOf, label, Reads, Tails, ReadsPart, Parts}
use Rattle.cad_grammar.specs.ExpressionGrammar as gr
use Rattle.cad_parse_type.proofs.Heads.{some_same, after_shorter, after_left, after_ends, joined_shorter, joined_left, joined_ends, keyword_shorter, keyword_left, keyword_ends, read_shorter, read_left, read_ends, name_shorter, name_left, name_ends, name_head, keyword_head, head_start, opened_is, opened_ends, opening_shorter, opening_ends, resumed_left, resumed_shorter, resumed_ends, Ends, ends_trans}
use Rattle.cad_parse_type.proofs.Whole.{type_laws as types}
use Rattle.cad_parse_expr.specs.Code.Reading.{strength}
use Rattle.cad_parse_expr.proofs.Strength.{HasOperators, IsChain, operator_is, operator_strength, arguments_strength, cast_is, dot_is, joined_is, after_start, opening_start, unary_start, literal_start}

-- ---- pieces

then_some : {A B : Type 0} (o : Option A) (f : A → Option B) (x : B) → then o f ≡ Some x → (a : A) × (o ≡ Some a) × (f a ≡ Some x)
then_some None f x e = cc
then_some (Some a) f x e = (a, refl, e)

opened_same : (p q : Spot) → opened p ≡ Some q → length q.tokens ≡ length p.tokens
opened_same p q e = ap length (opened_is p q e).1

-- a label is a name and a `:`
pub label_is : (p : Spot) (x : Name × Spot) → label p ≡ Some x → (n : Name × Spot) × (name p ≡ Some n) × (after s.Colon n.1 ≡ Some x.1)
unfolding label
label_is p x e =
    let v = then_some (name p) _ x e in
    let w = then_some (after s.Colon v.0.1) _ x v.2 in
    let same : (v.0.0, w.0) ≡ x = some_same (v.0.0, w.0) x w.2 in
    (v.0, v.1, w.1 ∙ ap (λ y. Some y.1) same)

pub label_shorter : (p : Spot) (x : Name × Spot) → label p ≡ Some x → length x.1.tokens < length p.tokens
label_shorter p x e = let w = label_is p x e in omega (arith, name_shorter p w.0 w.1, after_shorter s.Colon w.0.1 x.1 w.2)

pub label_left : (p : Spot) (x : Name × Spot) → label p ≡ Some x → x.1.left ≡ p.left
label_left p x e = let w = label_is p x e in after_left s.Colon w.0.1 x.1 w.2 ∙ name_left p w.0 w.1

label_ends : (p : Spot) (x : Name × Spot) → label p ≡ Some x → Ends p x.1
label_ends p x e = let w = label_is p x e in ends_trans p w.0.1 x.1 (name_ends p w.0 w.1) (after_ends s.Colon w.0.1 x.1 w.2)

arguments_shorter : {p q : Spot} {all : List Annotation} → TypeArguments p all q → length q.tokens < length p.tokens
arguments_shorter (gr.type_arguments {p} {q} b o d c) = omega (arith, opening_shorter s.Less p q o, types.arguments_shorter d)

pub typed_left : {p q : Spot} {all : List Annotation} → TypeArguments p all q → q.left ≡ p.left
typed_left (gr.type_arguments b o d c) = refl

arguments_ends : {p q : Spot} {all : List Annotation} → TypeArguments p all q → Ends p q
arguments_ends (gr.type_arguments {p} {q} {r} b o d c) = let w = ends_trans p q r (opening_ends s.Less p q o) (types.arguments_ends d) in (w.0, w.1)

-- ---- tokens

mutual
  -- at least one token is taken
  pub reads_shorter : {l : Level} {p q : Spot} {a : ExprTree} → Reads l p a q → length q.tokens < length p.tokens
  reads_shorter (gr.conditional {p} {q} {r} {u} {v} {w} {x} c e o a e2 b) =
      omega (arith, reads_shorter c, after_shorter s.Question q r e, opened_same r u o, reads_shorter a, after_shorter s.Colon v w e2, reads_shorter b)
  reads_shorter (gr.coalesce {p} {q} {r} {u} {v} a e o b) = omega (arith, reads_shorter a, after_shorter s.Coalesce q r e, opened_same r u o, reads_shorter b)
  reads_shorter (gr.prefixed {p} {q} {r} {u} {o} e o2 d) = omega (arith, read_shorter _ p (o, q) e, opened_same q r o2, reads_shorter d)
  reads_shorter (gr.borrowed {p} {q} {r} {u} {v} {w} {x} e o d e2 o2 t n n2) =
      omega (arith, after_shorter s.Ampersand p q e, opened_same q r o, reads_shorter d, keyword_shorter k.As u v e2, opened_same v w o2, types.type_shorter t)
  reads_shorter (gr.literal_token {p} {q} {e = a} e) = read_shorter _ p (a, q) e
  reads_shorter (gr.name_token {p} {q} {n} e) = name_shorter p (n, q) e
  reads_shorter (gr.path_tokens {p} {q} {r} {u} {v} {d} {n} e e2 e3 e4) =
      omega (arith, after_shorter s.Slash p q e, read_shorter _ q (d, r) e2, after_shorter s.Slash r u e3, name_shorter u (n, v) e4)
  reads_shorter (gr.created {p} {q} {r} {u} {v} e d o w) =
      omega (arith, keyword_shorter k.Create p q e, types.dotted_shorter d, opening_shorter s.OpenParenthesis r u o, parts_shorter w)
  reads_shorter (gr.grouped {p} {q} {r} {u} o d c) = omega (arith, opening_shorter s.OpenParenthesis p q o, reads_shorter d, resumed_shorter s.CloseParenthesis p r u c)
  reads_shorter (gr.listed {p} {q} o w) = omega (arith, opening_shorter s.OpenBracket p q o, parts_shorter w)
  reads_shorter (gr.paired {p} {q} o w) = omega (arith, opening_shorter s.OpenBrace p q o, parts_shorter w)
  reads_shorter (gr.longer d t) = omega (arith, reads_shorter d, tails_shorter t)
  reads_shorter (gr.alone d) = reads_shorter d

  pub tails_shorter : {l : Level} {p q : Spot} {t : Tail} → Tails l p t q → length q.tokens < length p.tokens
  tails_shorter (gr.operation {p = p} {q = q} {r = r} {o = o} e n o2 d) = omega (arith, read_shorter _ p (o, q) e, opened_same q r o2, reads_shorter d)
  tails_shorter (gr.cast {p} {q} {r} {u} {kind} e o t n n2) = omega (arith, read_shorter _ p (kind, q) e, opened_same q r o, types.annotation_shorter t)
  tails_shorter (gr.member_access {p} {q} {r} {u} {is_optional = b} {n} e o e2) = omega (arith, read_shorter _ p (b, q) e, opened_same q r o, name_shorter r (n, u) e2)
  tails_shorter (gr.index {p} {q} {r} {u} {v} e o d c) = omega (arith, joined_shorter s.OpenBracket p q e, opened_same q r o, reads_shorter d, resumed_shorter s.CloseBracket r u v c)
  tails_shorter (gr.call {p} {q} {r} e o w) = omega (arith, joined_shorter s.OpenParenthesis p q e, opened_same q r o, parts_shorter w)
  tails_shorter (gr.typed_call {p} {q} {r} {u} t e o w) = omega (arith, arguments_shorter t, joined_shorter s.OpenParenthesis q r e, opened_same r u o, parts_shorter w)
  tails_shorter (gr.force {p} {q} {r} e o) = omega (arith, joined_shorter s.Bang p q e, opened_same q r o)

  pub part_shorter : {part : Part} {p q : Spot} {a : TreeOf part} → ReadsPart part p a q → length q.tokens < length p.tokens
  part_shorter (gr.element d) = reads_shorter d
  part_shorter (gr.bare e d) = reads_shorter d
  part_shorter (gr.labelled {p} {q} {r} {n} e d) = omega (arith, label_shorter p (n, q) e, reads_shorter d)
  part_shorter (gr.entry {p} {q} {r} d c d2) = omega (arith, reads_shorter d, resumed_shorter s.Colon p q r c, reads_shorter d2)

  pub parts_shorter : {part : Part} {closing : Sign} {p q : Spot} {all : List (TreeOf part)} → Parts part closing p all q → length q.tokens < length p.tokens
  parts_shorter (gr.none {p = p} {q = q} e) = after_shorter _ p q e
  parts_shorter (gr.last {p = p} {q = q} {r = r} d e) = omega (arith, part_shorter d, resumed_shorter _ p q r e)
  parts_shorter (gr.more {p = p} {q = q} {r = r} d e w) = omega (arith, part_shorter d, resumed_shorter _ p q r e, parts_shorter w)

-- ---- nestings

-- a list gives back what it opened
pub parts_left : {part : Part} {closing : Sign} {p q : Spot} {all : List (TreeOf part)} → Parts part closing p all q → q.left ≡ p.left
parts_left (gr.none {p = p} {q = q} e) = after_left _ p q e
parts_left (gr.last {p = p} {q = q} {r = r} d e) = resumed_left _ p q r e
parts_left (gr.more {p = p} {q = q} {r = r} d e w) = parts_left w ∙ resumed_left _ p q r e

mutual
  -- no nesting is given back that was not taken
  pub reads_falls : {l : Level} {p q : Spot} {a : ExprTree} → Reads l p a q → q.left ≤ p.left
  reads_falls (gr.conditional {p} {q} {r} {u} {v} {w} {x} c e o a e2 b) =
      omega (arith, reads_falls c, after_left s.Question q r e, (opened_is r u o).0, reads_falls a, after_left s.Colon v w e2, reads_falls b)
  reads_falls (gr.coalesce {p} {q} {r} {u} {v} a e o b) = omega (arith, reads_falls a, after_left s.Coalesce q r e, (opened_is r u o).0, reads_falls b)
  reads_falls (gr.prefixed {p} {q} {r} {u} {o} e o2 d) = omega (arith, read_left _ p (o, q) e, (opened_is q r o2).0, reads_falls d)
  reads_falls (gr.borrowed {p} {q} {r} {u} {v} {w} {x} e o d e2 o2 t n n2) =
      omega (arith, after_left s.Ampersand p q e, (opened_is q r o).0, reads_falls d, keyword_left k.As u v e2, (opened_is v w o2).0, types.type_falls t)
  reads_falls (gr.literal_token {p} {q} {e = a} e) = omega (arith, read_left _ p (a, q) e)
  reads_falls (gr.name_token {p} {q} {n} e) = omega (arith, name_left p (n, q) e)
  reads_falls (gr.path_tokens {p} {q} {r} {u} {v} {d} {n} e e2 e3 e4) =
      omega (arith, after_left s.Slash p q e, read_left _ q (d, r) e2, after_left s.Slash r u e3, name_left u (n, v) e4)
  reads_falls (gr.created e d o w) = omega arith
  reads_falls (gr.grouped {p} {q} {r} {u} o d c) = omega (arith, resumed_left s.CloseParenthesis p r u c)
  reads_falls (gr.listed o w) = omega arith
  reads_falls (gr.paired o w) = omega arith
  reads_falls (gr.longer d t) = omega (arith, reads_falls d, tails_falls t)
  reads_falls (gr.alone d) = reads_falls d

  pub tails_falls : {l : Level} {p q : Spot} {t : Tail} → Tails l p t q → q.left ≤ p.left
  tails_falls (gr.operation {p = p} {q = q} {r = r} {o = o} e n o2 d) = omega (arith, read_left _ p (o, q) e, (opened_is q r o2).0, reads_falls d)
  tails_falls (gr.cast {p} {q} {r} {u} {kind} e o t n n2) = omega (arith, read_left _ p (kind, q) e, (opened_is q r o).0, types.annotation_falls t)
  tails_falls (gr.member_access {p} {q} {r} {u} {is_optional = b} {n} e o e2) = omega (arith, read_left _ p (b, q) e, (opened_is q r o).0, name_left r (n, u) e2)
  tails_falls (gr.index {p} {q} {r} {u} {v} e o d c) = omega (arith, joined_left s.OpenBracket p q e, (opened_is q r o).0, resumed_left s.CloseBracket r u v c)
  tails_falls (gr.call {p} {q} {r} e o w) = omega (arith, joined_left s.OpenParenthesis p q e, (opened_is q r o).0, parts_left w)
  tails_falls (gr.typed_call {p} {q} {r} {u} t e o w) = omega (arith, typed_left t, joined_left s.OpenParenthesis q r e, (opened_is r u o).0, parts_left w)
  tails_falls (gr.force {p} {q} {r} e o) = omega (arith, joined_left s.Bang p q e, (opened_is q r o).0)

-- ---- levels

pub looser : (l : Level) → level_number l ≤ level_number (tighter l)
looser level.Conditional = omega arith
looser level.Or = omega arith
looser level.And = omega arith
looser level.Comparison = omega arith
looser level.Coalesce = omega arith
looser level.BitOr = omega arith
looser level.BitXor = omega arith
looser level.BitAnd = omega arith
looser level.Sum = omega arith
looser level.Product = omega arith
looser level.Cast = omega arith
looser level.Prefix = omega arith
looser level.Postfix = omega arith
looser level.Primary = omega arith

pub chain_looser : (l : Level) → IsChain l → level_number l < level_number (tighter l)
chain_looser level.Or h = omega arith
chain_looser level.And h = omega arith
chain_looser level.Comparison h = omega arith
chain_looser level.BitOr h = omega arith
chain_looser level.BitXor h = omega arith
chain_looser level.BitAnd h = omega arith
chain_looser level.Sum h = omega arith
chain_looser level.Product h = omega arith
chain_looser level.Cast h = omega arith
chain_looser level.Postfix h = omega arith
chain_looser _ h = absurd h

chain_of_operators : (l : Level) → HasOperators l → IsChain l
chain_of_operators level.Or h = tt
chain_of_operators level.And h = tt
chain_of_operators level.Comparison h = tt
chain_of_operators level.BitOr h = tt
chain_of_operators level.BitXor h = tt
chain_of_operators level.BitAnd h = tt
chain_of_operators level.Sum h = tt
chain_of_operators level.Product h = tt
chain_of_operators _ h = absurd h

pub tails_chain : {l : Level} {p q : Spot} {t : Tail} → Tails l p t q → IsChain l
tails_chain (gr.operation {l = l} {p = p} {q = q} {o = o} e n o2 d) = chain_of_operators l (operator_is l p (o, q) e).0
tails_chain (gr.cast e o t n n2) = tt
tails_chain (gr.member_access e o e2) = tt
tails_chain (gr.index e o d c) = tt
tails_chain (gr.call e o w) = tt
tails_chain (gr.typed_call t e o w) = tt
tails_chain (gr.force e o) = tt

-- the first token may begin an expression of the level
pub reads_start : {l : Level} {p q : Spot} {a : ExprTree} → Reads l p a q → level_number l ≤ start p
reads_start (gr.conditional c e o a e2 b) = omega (arith, reads_start c)
reads_start (gr.coalesce a e o b) = omega (arith, reads_start a)
reads_start (gr.prefixed {p} {q} {o = o} e o2 d) = omega (arith, unary_start p (o, q) e)
reads_start (gr.borrowed {p} {q} e o d e2 o2 t n n2) = omega (arith, after_start s.Ampersand p q e)
reads_start (gr.literal_token {p} {q} {e = a} e) = omega (arith, literal_start p (a, q) e)
reads_start (gr.name_token {p} {q} {n} e) = omega (arith, head_start p _ (name_head p (n, q) e))
reads_start (gr.path_tokens {p} {q} e e2 e3 e4) = omega (arith, after_start s.Slash p q e)
reads_start (gr.created {p} {q} e d o w) = omega (arith, head_start p _ (keyword_head k.Create p q e))
reads_start (gr.grouped {p} {q} o d c) = omega (arith, opening_start s.OpenParenthesis p q o)
reads_start (gr.listed {p} {q} o w) = omega (arith, opening_start s.OpenBracket p q o)
reads_start (gr.paired {p} {q} o w) = omega (arith, opening_start s.OpenBrace p q o)
reads_start (gr.longer d t) = reads_start d
reads_start (gr.alone {l = l} d) = omega (arith, looser l, reads_start d)

-- the token that begins a tail is one of the level
pub tails_strength : {l : Level} {p q : Spot} {t : Tail} → Tails l p t q → strength p ≡ level_number l
tails_strength (gr.operation {l = l} {p = p} {q = q} {o = o} e n o2 d) = operator_strength l p (o, q) e n
tails_strength (gr.cast {p} {q} {kind = kind} e o t n n2) = cast_is p (kind, q) e
tails_strength (gr.member_access {p} {q} {is_optional = b} e o e2) = (dot_is p (b, q) e).0
tails_strength (gr.index {p} {q} e o d c) = joined_is s.OpenBracket p q (λ x. cc) e
tails_strength (gr.call {p} {q} e o w) = joined_is s.OpenParenthesis p q (λ x. cc) e
tails_strength (gr.typed_call t e o w) = arguments_strength t
tails_strength (gr.force {p} {q} e o) = joined_is s.Bang p q (λ x. cc) e

-- ---- what is left is an end of the tokens

mutual
  pub reads_ends : {l : Level} {p q : Spot} {a : ExprTree} → Reads l p a q → Ends p q
  reads_ends (gr.conditional {p} {q} {r} {u} {v} {w} {x} c e o a e2 b) =
      ends_trans p q x (reads_ends c) (ends_trans q r x (after_ends s.Question q r e) (ends_trans r u x (opened_ends r u o)
      (ends_trans u v x (reads_ends a) (ends_trans v w x (after_ends s.Colon v w e2) (reads_ends b)))))
  reads_ends (gr.coalesce {p} {q} {r} {u} {v} a e o b) =
      ends_trans p q v (reads_ends a) (ends_trans q r v (after_ends s.Coalesce q r e) (ends_trans r u v (opened_ends r u o) (reads_ends b)))
  reads_ends (gr.prefixed {p} {q} {r} {u} {o} e o2 d) = ends_trans p q u (read_ends _ p (o, q) e) (ends_trans q r u (opened_ends q r o2) (reads_ends d))
  reads_ends (gr.borrowed {p} {q} {r} {u} {v} {w} {x} e o d e2 o2 t n n2) =
      ends_trans p q x (after_ends s.Ampersand p q e) (ends_trans q r x (opened_ends q r o) (ends_trans r u x (reads_ends d)
      (ends_trans u v x (keyword_ends k.As u v e2) (ends_trans v w x (opened_ends v w o2) (types.type_ends t)))))
  reads_ends (gr.literal_token {p} {q} {e = a} e) = read_ends _ p (a, q) e
  reads_ends (gr.name_token {p} {q} {n} e) = let w = name_ends p (n, q) e in (w.0, w.1)
  reads_ends (gr.path_tokens {p} {q} {r} {u} {v} {d} {n} e e2 e3 e4) =
      ends_trans p q v (after_ends s.Slash p q e) (ends_trans q r v (read_ends _ q (d, r) e2) (ends_trans r u v (after_ends s.Slash r u e3) (name_ends u (n, v) e4)))
  reads_ends (gr.created {p} {q} {r} {u} {v} e d o w) =
      let x = ends_trans p q v (keyword_ends k.Create p q e) (ends_trans q r v (types.dotted_ends d) (ends_trans r u v (opening_ends s.OpenParenthesis r u o) (parts_ends w))) in (x.0, x.1)
  reads_ends (gr.grouped {p} {q} {r} {u} o d c) = ends_trans p q u (opening_ends s.OpenParenthesis p q o) (ends_trans q r u (reads_ends d) (resumed_ends s.CloseParenthesis p r u c))
  reads_ends (gr.listed {p} {q} {r} o w) = let x = ends_trans p q r (opening_ends s.OpenBracket p q o) (parts_ends w) in (x.0, x.1)
  reads_ends (gr.paired {p} {q} {r} o w) = let x = ends_trans p q r (opening_ends s.OpenBrace p q o) (parts_ends w) in (x.0, x.1)
  reads_ends (gr.longer {p = p} {q = q} {r = r} d t) = ends_trans p q r (reads_ends d) (tails_ends t)
  reads_ends (gr.alone d) = reads_ends d

  pub tails_ends : {l : Level} {p q : Spot} {t : Tail} → Tails l p t q → Ends p q
  tails_ends (gr.operation {p = p} {q = q} {r = r} {u = u} {o = o} e n o2 d) = ends_trans p q u (read_ends _ p (o, q) e) (ends_trans q r u (opened_ends q r o2) (reads_ends d))
  tails_ends (gr.cast {p} {q} {r} {u} {kind} e o t n n2) = ends_trans p q u (read_ends _ p (kind, q) e) (ends_trans q r u (opened_ends q r o) (types.annotation_ends t))
  tails_ends (gr.member_access {p} {q} {r} {u} {is_optional = b} {n} e o e2) =
      let w = ends_trans p q u (read_ends _ p (b, q) e) (ends_trans q r u (opened_ends q r o) (name_ends r (n, u) e2)) in (w.0, w.1)
  tails_ends (gr.index {p} {q} {r} {u} {v} e o d c) =
      ends_trans p q v (joined_ends s.OpenBracket p q e) (ends_trans q r v (opened_ends q r o) (ends_trans r u v (reads_ends d) (resumed_ends s.CloseBracket r u v c)))
  tails_ends (gr.call {p} {q} {r} {u} e o w) = ends_trans p q u (joined_ends s.OpenParenthesis p q e) (ends_trans q r u (opened_ends q r o) (parts_ends w))
  tails_ends (gr.typed_call {p} {q} {r} {u} {v} t e o w) =
      ends_trans p q v (arguments_ends t) (ends_trans q r v (joined_ends s.OpenParenthesis q r e) (ends_trans r u v (opened_ends r u o) (parts_ends w)))
  tails_ends (gr.force {p} {q} {r} e o) = ends_trans p q r (joined_ends s.Bang p q e) (opened_ends q r o)

  part_ends : {part : Part} {p q : Spot} {a : TreeOf part} → ReadsPart part p a q → Ends p q
  part_ends (gr.element d) = reads_ends d
  part_ends (gr.bare e d) = reads_ends d
  part_ends (gr.labelled {p} {q} {r} {n} e d) = ends_trans p q r (label_ends p (n, q) e) (reads_ends d)
  part_ends (gr.entry {p} {q} {r} {u} d c d2) = ends_trans p q u (reads_ends d) (ends_trans q r u (resumed_ends s.Colon p q r c) (reads_ends d2))

  parts_ends : {part : Part} {closing : Sign} {p q : Spot} {all : List (TreeOf part)} → Parts part closing p all q → Ends p q
  parts_ends (gr.none {p = p} {q = q} e) = after_ends _ p q e
  parts_ends (gr.last {p = p} {q = q} {r = r} d e) = ends_trans p q r (part_ends d) (resumed_ends _ p q r e)
  parts_ends (gr.more {p = p} {q = q} {r = r} {u = u} d e w) = ends_trans p q u (part_ends d) (ends_trans q r u (resumed_ends _ p q r e) (parts_ends w))
