-- Reading as a function of the spot: what is read and the spot behind it, the longest that can be read; None where nothing can.
use Rattle.std.specs.Prelude.{ℕ, zero, suc, Bool, true, false, List, [], ◌∷◌, ◌++◌, length, Option, Some, None}
use Rattle.cad_grammar.specs.declared.token.Sign.{Sign}
use Rattle.cad_grammar.specs.declared.token.Sign.TheVariants as s
use Rattle.cad_syntax.specs.declared.keyword.Keyword.TheVariants as k
use Rattle.cad_syntax.specs.declared.text.Name.{Name}
use Rattle.cad_grammar.specs.declared.level.TypePosition.{TypePosition}
use Rattle.cad_grammar.specs.declared.level.TypePosition.TheVariants as position
use Rattle.cad_grammar.specs.declared.type_expr.Entitlements.{Entitlements}
use Rattle.cad_grammar.specs.declared.type_expr.Entitlements.TheVariants as entitlements
use Rattle.cad_grammar.specs.Trees.{TypeTree, Annotation, annotations_of}
use Rattle.cad_grammar.specs.Trees as tree
use Rattle.cad_grammar.specs.Spots.{Spot, back, ◌>>=◌, either, after, keyword, name, opened, resumed}
use Rattle.cad_grammar.specs.Levels.{question, questions}
use Rattle.cad_grammar.specs.TypeGrammar.{dot_name}

abbrev pub Found : Type 0 → Type 0
Found A = Option (A × Spot)

abbrev pub Reader : Type 0 → Type 0
Reader A = Spot → Found A

-- ---- lists, options and chains

-- It grows while a tail can be read; the number bounds the turns.
unfoldable pub climb : {A T : Type 0} → (A → T → A) → Reader T → ℕ → A → Reader A
climb grow tail zero a p = Some (a, p)
climb grow tail (suc turns) a p = either (tail p) (λ t. climb grow tail turns (grow a t.0) t.1) (Some (a, p))

-- the items with commas between them, up to the closing sign, behind those that were found
unfoldable pub listed : {A : Type 0} → Reader A → Sign → ℕ → List A → Reader (List A)
listed item closing zero found p = None
listed item closing (suc turns) found p = either (after closing p) (λ q. Some (found, q)) (do
  x ← item p
  either (resumed s.Comma p x.1) (λ q. listed item closing turns (found ++ x.0 ∷ []) q) (do
    q ← resumed closing p x.1
    Some (found ++ x.0 ∷ [], q)))

-- a list that has an item
abbrev pub filled : {A : Type 0} → List A × Spot → Found (List A)
filled ([], q) = None
filled (a ∷ all, q) = Some (a ∷ all, q)

-- an item, where what stands before it comes next
unfoldable pub maybe : {A : Type 0} → (Spot → Option Spot) → Reader A → Reader (Option A)
maybe begins item p = either (begins p) (λ q. item q >>= (λ x. Some (Some x.0, x.1))) (Some (None, p))

-- ---- names

abbrev pub appended : {A : Type 0} → List A → A → List A
appended all a = all ++ a ∷ []

unfoldable pub dotted : Reader (List Name)
dotted p = do
  x ← name p
  climb appended dot_name (length x.1.tokens) (x.0 ∷ []) x.1

unfoldable pub dotted_list : Sign → Reader (List (List Name))
dotted_list closing p = listed dotted closing (length p.tokens) [] p >>= filled

-- ---- entitlements

-- behind a `|`
unfoldable pub alternatives : ℕ → List (List Name) → Reader (List (List Name))
alternatives zero found p = None
alternatives (suc turns) found p = do
  x ← dotted p
  either (after s.Bar x.1) (alternatives turns (found ++ x.0 ∷ [])) (do
    q ← after s.CloseParenthesis x.1
    Some (found ++ x.0 ∷ [], q))

unfoldable pub any_of : Reader Entitlements
any_of p = do
  x ← dotted p
  q ← after s.Bar x.1
  y ← alternatives (length q.tokens) (x.0 ∷ []) q
  Some (entitlements.Any y.0, y.1)

unfoldable pub entitled : Reader Entitlements
entitled p = either (any_of p) Some (do
  all ← dotted_list s.CloseParenthesis p
  Some (entitlements.All all.0, all.1))

unfoldable pub authorized : Reader Entitlements
authorized p = do
  q ← after s.OpenParenthesis p
  r ← opened q
  e ← entitled r
  Some (e.0, back p e.1)

-- ---- types

-- one `?`, or two
unfoldable pub type_tail : TypePosition → Reader Bool
type_tail at p = either (question at p) (λ q. do
  r ← opened q
  Some (false, r)) (do
    q ← questions at p
    r ← opened q
    u ← opened r
    Some (true, u))

abbrev pub marked : TypeTree → Bool → TypeTree
marked t false = tree.optional t
marked t true = tree.optional (tree.optional t)

-- a type, by the reader of what `?` may follow
unfoldable pub whole : Reader TypeTree → TypePosition → Reader TypeTree
whole core at p = do
  t ← core p
  climb marked (type_tail at) (length t.1.tokens) t.0 t.1

unfoldable pub annotated : Reader TypeTree → TypePosition → Reader Annotation
annotated core at p = either (after s.At p) (λ q. whole core at q >>= (λ t. Some (record { is_resource = true; written = t.0 }, t.1)))
    (whole core at p >>= (λ t. Some (record { is_resource = false; written = t.0 }, t.1)))

-- the productions, over the reader of what stands one nesting deeper
module _ (core : Reader TypeTree) where
  -- behind the `&`
  unfoldable pub referenced : Option Entitlements → Reader TypeTree
  referenced a p = do
    q ← opened p
    t ← core q
    Some (tree.reference a t.0, t.1)

  -- behind the `auth`
  unfoldable pub authorized_reference : Reader TypeTree
  authorized_reference p = do
    e ← authorized p
    q ← after s.Ampersand e.1
    referenced (Some e.0) q

  -- these stand at p, and behind their opening sign at q
  unfoldable pub grouped : Spot → Reader TypeTree
  grouped p q = do
    r ← opened q
    t ← whole core position.Anywhere r
    u ← resumed s.CloseParenthesis p t.1
    Some (t.0, u)

  unfoldable pub array : Spot → Reader TypeTree
  array p q = do
    r ← opened q
    t ← whole core position.Anywhere r
    u ← resumed s.CloseBracket p t.1
    Some (tree.array t.0, u)

  unfoldable pub dictionary : Spot → Reader TypeTree
  dictionary p r = do
    key ← whole core position.Anywhere r
    u ← resumed s.Colon r key.1
    value ← whole core position.Anywhere u
    v ← resumed s.CloseBrace p value.1
    Some (tree.dictionary key.0 value.0, v)

  unfoldable pub braced : Spot → Reader TypeTree
  braced p q = do
    r ← opened q
    either (dictionary p r) Some (do
      all ← dotted_list s.CloseBrace r
      Some (tree.intersection all.0, back p all.1))

  -- up to the `>`
  unfoldable pub annotation_list : Reader (List Annotation)
  annotation_list p = listed (annotated core position.Anywhere) s.Greater (length p.tokens) [] p >>= filled

  -- behind the name at p and the `<`
  unfoldable pub applied : List Name → Spot → Reader TypeTree
  applied n p q = do
    r ← opened q
    all ← annotation_list r
    Some (tree.named n (annotations_of all.0), back p all.1)

  unfoldable pub named_type : Reader TypeTree
  named_type p = do
    n ← dotted p
    either (after s.Less n.1) (applied n.0 n.1) (Some (tree.named n.0 tree.no_annotations, n.1))

  unfoldable pub core_of : Reader TypeTree
  core_of p = either (keyword k.Auth p) authorized_reference
      (either (after s.Ampersand p) (referenced None)
      (either (after s.OpenParenthesis p) (grouped p)
      (either (after s.OpenBracket p) (array p)
      (either (after s.OpenBrace p) (braced p)
      (named_type p)))))

-- a type without `?` behind it; the number bounds how deep the reader calls itself
unfoldable pub read_core : ℕ → Reader TypeTree
read_core zero p = None
read_core (suc depth) p = core_of (read_core depth) p

-- from here on with as many calls as nestings
unfoldable pub type_at : TypePosition → Reader TypeTree
type_at at p = whole (read_core (suc p.left)) at p

unfoldable pub annotation_at : TypePosition → Reader Annotation
annotation_at at p = annotated (read_core (suc p.left)) at p

-- type arguments behind a `<` that was passed, up to the `>`
unfoldable pub arguments_at : Reader (List Annotation)
arguments_at p = annotation_list (read_core (suc p.left)) p

-- a type annotation that stands by itself
unfoldable pub annotation : Reader Annotation
annotation p = annotation_at position.Anywhere p >>= (λ a. Some (a.0, back p a.1))
