-- The grammar of expressions, by levels, from the loosest on. Where a spot behind an expression can open fewer nestings than the one
-- before it, these are open up to the end of the largest expression with no bracket between.
use Rattle.std.specs.Prelude.{◌≡◌, ℕ, Bool, true, false, List, [], ◌∷◌, Option, Some, None}
use Rattle.cad_grammar.specs.declared.token.Sign.{Sign}
use Rattle.cad_grammar.specs.declared.token.Sign.TheVariants as s
use Rattle.cad_syntax.specs.declared.keyword.Keyword.TheVariants as k
use Rattle.cad_syntax.specs.declared.text.Name.{Name}
use Rattle.cad_syntax.specs.declared.address.Domain.{Domain}
use Rattle.cad_grammar.specs.declared.level.Level.{Level}
use Rattle.cad_grammar.specs.declared.level.Level.TheVariants as level
use Rattle.cad_grammar.specs.declared.level.TypePosition.TheVariants as position
use Rattle.cad_grammar.specs.declared.expression.BinaryOperator.{BinaryOperator}
use Rattle.cad_grammar.specs.declared.expression.BinaryOperator.TheVariants as op
use Rattle.cad_grammar.specs.declared.expression.UnaryOperator.{UnaryOperator}
use Rattle.cad_grammar.specs.declared.expression.CastKind.{CastKind}
use Rattle.cad_grammar.specs.Trees.{TypeTree, Annotation, Annotations, no_annotations, annotations_of, ExprTree, ArgumentTree, EntryTree, exprs_of, arguments_of, entries_of}
use Rattle.cad_grammar.specs.Trees as tree
use Rattle.cad_grammar.specs.Spots.{Spot, back, named, after, joined, keyword, name, opened, opening, resumed, then, ◌>>=◌}
use Rattle.cad_grammar.specs.Levels.{tighter, operator, cast_word, unary_word, dot, literal, domain_name, question, questions}
use Rattle.cad_grammar.specs.TypeGrammar.{Dotted, ReadsType, ReadsAnnotation, AnnotationList}

-- Behind a name, type arguments behind which a "(" comes next.
pub data TypeArguments : Spot → List Annotation → Spot → Type 0 where
  type_arguments : {p q r u : Spot} {a : Annotation} {all : List Annotation}
      → p.after_name ≡ true → opening s.Less p ≡ Some q → AnnotationList q (a ∷ all) r → after s.OpenParenthesis r ≡ Some u → TypeArguments p (a ∷ all) (back p r)

abbrev pub HasNoTypeArguments : Spot → Type 0
HasNoTypeArguments p = (all : List Annotation) (q : Spot) → TypeArguments p all q → ⊥

-- what makes a longer expression of the one before it
pub data Tail : Type 0 where
  operated : BinaryOperator → ExprTree → Tail
  cast_to : CastKind → Annotation → Tail
  member : Bool → Name → Tail
  indexed_by : ExprTree → Tail
  called_with : List Annotation → List ArgumentTree → Tail
  forced : Tail

abbrev pub extend : ExprTree → Tail → ExprTree
extend a (operated o b) = tree.binary o a b
extend a (cast_to kind to) = tree.cast kind a to
extend a (member false n) = tree.member a n
extend a (member true n) = tree.optional_member a n
extend a (indexed_by i) = tree.index a i
extend a (called_with types arguments) = tree.call a (annotations_of types) (arguments_of arguments)
extend a forced = tree.force a

-- what lists hold: expressions, arguments, or pairs of a dictionary
pub data Part : Type 0 where
  an_element : Part
  an_argument : Part
  an_entry : Part

abbrev pub TreeOf : Part → Type 0
TreeOf an_element = ExprTree
TreeOf an_argument = ArgumentTree
TreeOf an_entry = EntryTree

-- a name and ":"
unfoldable pub label : Spot → Option (Name × Spot)
label p = name p >>= (λ x. after s.Colon x.1 >>= (λ q. Some (x.0, q)))

mutual
  pub data Reads : Level → Spot → ExprTree → Spot → Type 0 where
    -- a ? b : c
    conditional : {p q r u v w x : Spot} {a b c : ExprTree}
        → Reads level.Or p a q → after s.Question q ≡ Some r → opened r ≡ Some u → Reads level.Conditional u b v
        → after s.Colon v ≡ Some w → Reads level.Conditional w c x → Reads level.Conditional p (tree.conditional a b c) x
    -- a ?? b
    coalesce : {p q r u v : Spot} {a b : ExprTree}
        → Reads level.BitOr p a q → after s.Coalesce q ≡ Some r → opened r ≡ Some u → Reads level.Coalesce u b v
        → Reads level.Coalesce p (tree.binary op.Coalesce a b) v
    -- -a, !a, *a, <-a, destroy a
    prefixed : {p q r u : Spot} {o : UnaryOperator} {a : ExprTree}
        → unary_word p ≡ Some (o, q) → opened q ≡ Some r → Reads level.Prefix r a u → Reads level.Prefix p (tree.unary o a) u
    -- &a as T
    borrowed : {p q r u v w x : Spot} {a : ExprTree} {t : TypeTree}
        → after s.Ampersand p ≡ Some q → opened q ≡ Some r → Reads level.Prefix r a u
        → keyword k.As u ≡ Some v → opened v ≡ Some w → ReadsType position.BehindAs w t x
        → question position.BehindAs x ≡ None → questions position.BehindAs x ≡ None
        → Reads level.Prefix p (tree.borrow a t) x
    literal_token : {p q : Spot} {e : ExprTree} → literal p ≡ Some (e, q) → Reads level.Primary p e q
    name_token : {p q : Spot} {n : Name} → name p ≡ Some (n, q) → Reads level.Primary p (tree.name n) (named q)
    -- /domain/name
    path_tokens : {p q r u v : Spot} {d : Domain} {n : Name}
        → after s.Slash p ≡ Some q → domain_name q ≡ Some (d, r) → after s.Slash r ≡ Some u → name u ≡ Some (n, v)
        → Reads level.Primary p (tree.path (record { domain = d; identifier = n })) v
    -- create T(arguments)
    created : {p q r u v : Spot} {n : List Name} {all : List ArgumentTree}
        → keyword k.Create p ≡ Some q → Dotted q n r → opening s.OpenParenthesis r ≡ Some u → Parts an_argument s.CloseParenthesis u all v
        → Reads level.Primary p (tree.create n (arguments_of all)) (back p v)
    -- (a)
    grouped : {p q r u : Spot} {a : ExprTree}
        → opening s.OpenParenthesis p ≡ Some q → Reads level.Conditional q a r → resumed s.CloseParenthesis p r ≡ Some u → Reads level.Primary p a u
    -- [a, b]
    listed : {p q r : Spot} {all : List ExprTree}
        → opening s.OpenBracket p ≡ Some q → Parts an_element s.CloseBracket q all r → Reads level.Primary p (tree.list (exprs_of all)) (back p r)
    -- {a: b, c: d}
    paired : {p q r : Spot} {all : List EntryTree}
        → opening s.OpenBrace p ≡ Some q → Parts an_entry s.CloseBrace q all r → Reads level.Primary p (tree.pairs (entries_of all)) (back p r)
    -- all others group to the left
    longer : {l : Level} {p q r : Spot} {a : ExprTree} {tail : Tail} → Reads l p a q → Tails l q tail r → Reads l p (extend a tail) r
    -- an expression of a tighter level
    alone : {l : Level} {p q : Spot} {a : ExprTree} → Reads (tighter l) p a q → Reads l p a q

  pub data Tails : Level → Spot → Tail → Spot → Type 0 where
    operation : {l : Level} {p q r u : Spot} {o : BinaryOperator} {b : ExprTree}
        → operator l p ≡ Some (o, q) → HasNoTypeArguments p → opened q ≡ Some r → Reads (tighter l) r b u → Tails l p (operated o b) u
    -- where a `?` follows that belongs to the type, the type isn't over
    cast : {p q r u : Spot} {kind : CastKind} {t : Annotation}
        → cast_word p ≡ Some (kind, q) → opened q ≡ Some r → ReadsAnnotation position.BehindAs r t u
        → question position.BehindAs u ≡ None → questions position.BehindAs u ≡ None
        → Tails level.Cast p (cast_to kind t) u
    -- a.n, a?.n
    member_access : {p q r u : Spot} {is_optional : Bool} {n : Name}
        → dot p ≡ Some (is_optional, q) → opened q ≡ Some r → name r ≡ Some (n, u) → Tails level.Postfix p (member is_optional n) (named u)
    -- a[e]
    index : {p q r u v : Spot} {i : ExprTree}
        → joined s.OpenBracket p ≡ Some q → opened q ≡ Some r → Reads level.Conditional r i u → resumed s.CloseBracket r u ≡ Some v
        → Tails level.Postfix p (indexed_by i) v
    -- a(arguments)
    call : {p q r u : Spot} {all : List ArgumentTree}
        → joined s.OpenParenthesis p ≡ Some q → opened q ≡ Some r → Parts an_argument s.CloseParenthesis r all u
        → Tails level.Postfix p (called_with [] all) u
    -- a<T>(arguments)
    typed_call : {p q r u v : Spot} {types : List Annotation} {all : List ArgumentTree}
        → TypeArguments p types q → joined s.OpenParenthesis q ≡ Some r → opened r ≡ Some u → Parts an_argument s.CloseParenthesis u all v
        → Tails level.Postfix p (called_with types all) v
    -- a!
    force : {p q r : Spot} → joined s.Bang p ≡ Some q → opened q ≡ Some r → Tails level.Postfix p forced r

  pub data ReadsPart : (part : Part) → Spot → TreeOf part → Spot → Type 0 where
    element : {p q : Spot} {a : ExprTree} → Reads level.Conditional p a q → ReadsPart an_element p a q
    bare : {p q : Spot} {a : ExprTree} → label p ≡ None → Reads level.Conditional p a q → ReadsPart an_argument p (record { label = None; value = a }) q
    labelled : {p q r : Spot} {n : Name} {a : ExprTree}
        → label p ≡ Some (n, q) → Reads level.Conditional q a r → ReadsPart an_argument p (record { label = Some n; value = a }) r
    entry : {p q r u : Spot} {a b : ExprTree}
        → Reads level.Conditional p a q → resumed s.Colon p q ≡ Some r → Reads level.Conditional r b u → ReadsPart an_entry p (record { key = a; value = b }) u

  -- parts with commas between them, up to the closing sign; one more comma may stand before it
  pub data Parts : (part : Part) → Sign → Spot → List (TreeOf part) → Spot → Type 0 where
    none : {part : Part} {closing : Sign} {p q : Spot} → after closing p ≡ Some q → Parts part closing p [] q
    last : {part : Part} {closing : Sign} {p q r : Spot} {a : TreeOf part}
        → ReadsPart part p a q → resumed closing p q ≡ Some r → Parts part closing p (a ∷ []) r
    more : {part : Part} {closing : Sign} {p q r u : Spot} {a : TreeOf part} {all : List (TreeOf part)}
        → ReadsPart part p a q → resumed s.Comma p q ≡ Some r → Parts part closing r all u → Parts part closing p (a ∷ all) u

-- a whole expression: what its signs opened is closed behind it
pub data Expression : Spot → ExprTree → Spot → Type 0 where
  whole : {p q : Spot} {a : ExprTree} → Reads level.Conditional p a q → Expression p a (back p q)
