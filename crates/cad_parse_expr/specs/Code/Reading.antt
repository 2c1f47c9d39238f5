-- Reading expressions as a function of the spot.
use Rattle.std.specs.Prelude.{ℕ, zero, suc, Bool, List, [], length, Option, Some, None}
use Rattle.cad_grammar.specs.declared.token.Sign.TheVariants as s
use Rattle.cad_syntax.specs.declared.keyword.Keyword.TheVariants as k
use Rattle.cad_grammar.specs.declared.level.Level.{Level}
use Rattle.cad_grammar.specs.declared.level.Level.TheVariants as level
use Rattle.cad_grammar.specs.declared.level.TypePosition.TheVariants as position
use Rattle.cad_grammar.specs.declared.expression.BinaryOperator.TheVariants as op
use Rattle.cad_grammar.specs.declared.expression.UnaryOperator.{UnaryOperator}
use Rattle.cad_grammar.specs.Trees.{TypeTree, Annotation, ExprTree, ArgumentTree, EntryTree, exprs_of, arguments_of, entries_of}
use Rattle.cad_grammar.specs.Trees as tree
use Rattle.cad_grammar.specs.Spots.{Spot, back, named, then, ◌>>=◌, either, only_if, after, joined, keyword, name, opened, opening, resumed}
use Rattle.cad_grammar.specs.Levels.{operator, cast_word, unary_word, dot, literal, domain_name, question, questions}
use Rattle.cad_parse_type.specs.Code.Levels.{token_strength}
use Rattle.cad_grammar.specs.ExpressionGrammar.{Tail, operated, cast_to, member, indexed_by, called_with, forced, extend, label}
use Rattle.cad_parse_type.specs.Code.Reading.{Found, Reader, climb, listed, dotted, type_at, annotation_at, arguments_at}

-- where nothing was found
abbrev pub unless : {A B : Type 0} → Option A → Option B → Option B
unless None d = d
unless (Some x) d = None

-- a type behind an `as`, which no `?` follows that belongs to it
abbrev pub over : {A : Type 0} → A × Spot → Found A
over x = unless (question position.BehindAs x.1) (unless (questions position.BehindAs x.1) (Some x))

-- type arguments behind a name, behind which a `(` comes next
unfoldable pub type_arguments : Reader (List Annotation)
type_arguments p = do
  q ← then (only_if p.after_name p) (opening s.Less)
  all ← arguments_at q
  r ← after s.OpenParenthesis all.1
  Some (all.0, back p all.1)

unfoldable pub cast_tail : Reader Tail
cast_tail p = do
  x ← cast_word p
  r ← opened x.1
  t ← annotation_at position.BehindAs r >>= over
  Some (cast_to x.0 t.0, t.1)

-- `as` and a type
unfoldable pub as_type : Reader TypeTree
as_type p = do
  q ← keyword k.As p
  r ← opened q
  type_at position.BehindAs r >>= over

-- behind `.` or `?.`
unfoldable pub member_tail : Bool → Reader Tail
member_tail is_optional p = do
  q ← opened p
  n ← name q
  Some (member is_optional n.0, named n.1)

-- behind `!`
unfoldable pub force_tail : Reader Tail
force_tail p = opened p >>= (λ q. Some (forced, q))

-- behind the first `/`
unfoldable pub path_tail : Reader ExprTree
path_tail p = do
  d ← domain_name p
  q ← after s.Slash d.1
  n ← name q
  Some (tree.path (record { domain = d.0; identifier = n.0 }), n.1)

unfoldable pub name_expr : Reader ExprTree
name_expr p = name p >>= (λ n. Some (tree.name n.0, named n.1))

-- what groups to the left
unfoldable pub chain : Reader ExprTree → Reader Tail → Reader ExprTree
chain base tail p = do
  a ← base p
  climb extend tail (length a.1.tokens) a.0 a.1

unfoldable pub operation : Level → Reader ExprTree → Reader Tail
operation l operand p = do
  o ← operator l p
  unless (type_arguments p) (do
    r ← opened o.1
    b ← operand r
    Some (operated o.0 b.0, b.1))

-- the productions, over the reader of what stands one nesting deeper
module _ (read : Level → Reader ExprTree) where
  -- ---- lists

  unfoldable pub argument : Reader ArgumentTree
  argument p = either (label p) (λ n. read level.Conditional n.1 >>= (λ a. Some (record { label = Some n.0; value = a.0 }, a.1)))
      (read level.Conditional p >>= (λ a. Some (record { label = None; value = a.0 }, a.1)))

  unfoldable pub entry : Reader EntryTree
  entry p = do
    a ← read level.Conditional p
    q ← resumed s.Colon p a.1
    b ← read level.Conditional q
    Some (record { key = a.0; value = b.0 }, b.1)

  unfoldable pub arguments : Reader (List ArgumentTree)
  arguments p = listed argument s.CloseParenthesis (length p.tokens) [] p

  unfoldable pub elements : Reader (List ExprTree)
  elements p = listed (read level.Conditional) s.CloseBracket (length p.tokens) [] p

  unfoldable pub entries : Reader (List EntryTree)
  entries p = listed entry s.CloseBrace (length p.tokens) [] p

  -- ---- primaries; these begin at p, and stand at q behind their first token

  unfoldable pub grouped : Spot → Reader ExprTree
  grouped p q = do
    r ← opened q
    a ← read level.Conditional r
    u ← resumed s.CloseParenthesis p a.1
    Some (a.0, u)

  unfoldable pub array : Spot → Reader ExprTree
  array p q = do
    r ← opened q
    all ← elements r
    Some (tree.list (exprs_of all.0), back p all.1)

  unfoldable pub pairs : Spot → Reader ExprTree
  pairs p q = do
    r ← opened q
    all ← entries r
    Some (tree.pairs (entries_of all.0), back p all.1)

  unfoldable pub created : Spot → Reader ExprTree
  created p q = do
    n ← dotted q
    r ← opening s.OpenParenthesis n.1
    all ← arguments r
    Some (tree.create n.0 (arguments_of all.0), back p all.1)

  unfoldable pub primary : Reader ExprTree
  primary p = either (after s.OpenParenthesis p) (grouped p)
      (either (after s.OpenBracket p) (array p)
      (either (after s.OpenBrace p) (pairs p)
      (either (after s.Slash p) path_tail
      (either (keyword k.Create p) (created p)
      (either (literal p) Some (name_expr p))))))

  -- ---- what follows a primary; all behind their first sign

  unfoldable pub index_tail : Reader Tail
  index_tail p = do
    r ← opened p
    i ← read level.Conditional r
    q ← resumed s.CloseBracket r i.1
    Some (indexed_by i.0, q)

  unfoldable pub call_tail : List Annotation → Reader Tail
  call_tail types p = do
    r ← opened p
    all ← arguments r
    Some (called_with types all.0, all.1)

  -- behind type arguments
  unfoldable pub typed_call : List Annotation × Spot → Found Tail
  typed_call types = joined s.OpenParenthesis types.1 >>= call_tail types.0

  unfoldable pub postfix_tail : Reader Tail
  postfix_tail p = either (dot p) (λ x. member_tail x.0 x.1)
      (either (type_arguments p) typed_call
      (either (joined s.OpenParenthesis p) (call_tail [])
      (either (joined s.OpenBracket p) index_tail
      (either (joined s.Bang p) force_tail None))))

  unfoldable pub tail : Level → Reader ExprTree → Reader Tail
  tail level.Postfix base p = postfix_tail p
  tail level.Cast base p = cast_tail p
  tail l base p = operation l base p

  -- ---- prefixes

  unfoldable pub unary : UnaryOperator → Reader ExprTree
  unary o p = do
    r ← opened p
    a ← read level.Prefix r
    Some (tree.unary o a.0, a.1)

  -- behind the `&`
  unfoldable pub borrowed : Reader ExprTree
  borrowed p = do
    r ← opened p
    a ← read level.Prefix r
    t ← as_type a.1
    Some (tree.borrow a.0 t.0, t.1)

  unfoldable pub prefix : Reader ExprTree → Reader ExprTree
  prefix base p = either (unary_word p) (λ x. unary x.0 x.1) (either (after s.Ampersand p) borrowed (base p))

  -- ---- what groups to the right

  -- `??` and the second operand
  unfoldable pub fallback : Reader ExprTree
  fallback p = do
    q ← after s.Coalesce p
    r ← opened q
    read level.Coalesce r

  unfoldable pub coalesce : Reader ExprTree → Reader ExprTree
  coalesce base p = do
    a ← base p
    either (fallback a.1) (λ b. Some (tree.binary op.Coalesce a.0 b.0, b.1)) (Some a)

  -- `?` and both branches
  unfoldable pub branches : Reader (ExprTree × ExprTree)
  branches p = do
    q ← after s.Question p
    r ← opened q
    a ← read level.Conditional r
    u ← after s.Colon a.1
    b ← read level.Conditional u
    Some ((a.0, b.0), b.1)

  unfoldable pub conditional : Reader ExprTree → Reader ExprTree
  conditional base p = do
    c ← base p
    either (branches c.1) (λ b. Some (tree.conditional c.0 b.0.0 b.0.1, b.1)) (Some c)

  -- ---- the levels

  abbrev pub chained : Level → Reader ExprTree → Reader ExprTree
  chained l base = chain base (tail l base)

  abbrev pub postfix : Reader ExprTree
  postfix = chained level.Postfix primary

  abbrev pub prefixed : Reader ExprTree
  prefixed = prefix postfix

  abbrev pub cast : Reader ExprTree
  cast = chained level.Cast prefixed

  abbrev pub product : Reader ExprTree
  product = chained level.Product cast

  abbrev pub sum : Reader ExprTree
  sum = chained level.Sum product

  abbrev pub bit_and : Reader ExprTree
  bit_and = chained level.BitAnd sum

  abbrev pub bit_xor : Reader ExprTree
  bit_xor = chained level.BitXor bit_and

  abbrev pub bit_or : Reader ExprTree
  bit_or = chained level.BitOr bit_xor

  abbrev pub coalesced : Reader ExprTree
  coalesced = coalesce bit_or

  abbrev pub comparison : Reader ExprTree
  comparison = chained level.Comparison coalesced

  abbrev pub conjunction : Reader ExprTree
  conjunction = chained level.And comparison

  abbrev pub disjunction : Reader ExprTree
  disjunction = chained level.Or conjunction

  unfoldable pub at : Level → Reader ExprTree
  at level.Conditional = conditional disjunction
  at level.Or = disjunction
  at level.And = conjunction
  at level.Comparison = comparison
  at level.Coalesce = coalesced
  at level.BitOr = bit_or
  at level.BitXor = bit_xor
  at level.BitAnd = bit_and
  at level.Sum = sum
  at level.Product = product
  at level.Cast = cast
  at level.Prefix = prefixed
  at level.Postfix = postfix
  at level.Primary = primary

-- an expression of a level; the number bounds how deep the reader calls itself
unfoldable pub read : ℕ → Level → Reader ExprTree
read zero l p = None
read (suc depth) l p = at (read depth) l p

-- the longest expression
unfoldable pub expression_at : Reader ExprTree
expression_at p = read (suc p.left) level.Conditional p

-- an expression that stands by itself
unfoldable pub expression : Reader ExprTree
expression p = expression_at p >>= (λ a. Some (a.0, back p a.1))

-- how loosely a level binds
abbrev pub looseness : Level → ℕ
looseness level.Conditional = 13
looseness level.Or = 12
looseness level.And = 11
looseness level.Comparison = 10
looseness level.Coalesce = 9
looseness level.BitOr = 8
looseness level.BitXor = 7
looseness level.BitAnd = 6
looseness level.Sum = 5
looseness level.Product = 4
looseness level.Cast = 3
looseness level.Prefix = 2
looseness level.Postfix = 1
looseness level.Primary = 0

-- The level at which the next tokens go on after an expression, or 0.
abbrev pub strength_by : Option (List Annotation × Spot) → Spot → ℕ
strength_by (Some x) p = 13
strength_by None p = token_strength p

unfoldable pub strength : Spot → ℕ
strength p = strength_by (type_arguments p) p
