-- Reading items one after another, access, parameters, conditions and blocks as a function of the spot.
use Rattle.std.specs.Prelude.{ℕ, zero, suc, if◌then◌else◌, List, [], ◌∷◌, ◌++◌, length, codes, Option, Some, None}
use Rattle.cad_grammar.specs.declared.token.Sign.{Sign}
use Rattle.cad_grammar.specs.declared.token.Sign.TheVariants as s
use Rattle.cad_syntax.specs.declared.keyword.Keyword.{Keyword}
use Rattle.cad_syntax.specs.declared.keyword.Keyword.TheVariants as k
use Rattle.cad_syntax.specs.declared.text.Name.{Name}
use Rattle.cad_grammar.specs.declared.declaration.Access.{Access}
use Rattle.cad_grammar.specs.declared.declaration.Access.TheVariants as access
use Rattle.cad_grammar.specs.Trees as tree
use Rattle.cad_grammar.specs.Trees.{ParameterTree, ConditionTree, StmtTree, FunctionBlockTree}
use Rattle.cad_grammar.specs.Spots.{back, read, then, ◌>>=◌, either, after, keyword, word, name, opening}
use Rattle.cad_grammar.specs.StatementGrammar.{begins_plainly, parted}
use Rattle.cad_grammar.specs.ProgramGrammar.{plain_access_of, is_plain_access}
use Rattle.cad_parse_type.specs.Code.Reading.{Reader, listed, maybe, dotted, entitled, annotation}
use Rattle.cad_parse_expr.specs.Code.Reading.{expression}
use Rattle.cad_parse_statement.specs.Code.Reading.{statements_in}

-- ---- items one after another, behind those that were found; the number bounds the turns

-- up to the closing sign
unfoldable pub repeated : {A : Type 0} → Reader A → Sign → ℕ → List A → Reader (List A)
repeated item closing zero found p = None
repeated item closing (suc turns) found p = either (after closing p) (λ q. Some (found, q)) (do
  x ← item p
  repeated item closing turns (found ++ x.0 ∷ []) x.1)

-- as long as one can be read
unfoldable pub chain : {A : Type 0} → Reader A → ℕ → List A → Reader (List A)
chain item zero found p = Some (found, p)
chain item (suc turns) found p = either (item p) (λ x. chain item turns (found ++ x.0 ∷ []) x.1) (Some (found, p))

-- ---- access

unfoldable pub plain_access : Reader Access
plain_access p = do
  a ← read plain_access_of p
  q ← after s.CloseParenthesis a.1
  Some (a.0, q)

unfoldable pub mapping_access : Reader Access
mapping_access p = do
  q ← word (codes "mapping") p
  n ← dotted q
  r ← after s.CloseParenthesis n.1
  Some (access.Mapping n.0, r)

unfoldable pub entitled_access : Reader Access
entitled_access p = do
  e ← entitled p
  if is_plain_access e.0 then None else Some (access.Entitled e.0, e.1)

unfoldable pub allows : Reader Access
allows p = either (plain_access p) Some (either (mapping_access p) Some (entitled_access p))

-- access "(" .. ")"
unfoldable pub accessed : Reader Access
accessed p = do
  q ← keyword k.Access p
  r ← opening s.OpenParenthesis q
  a ← allows r
  Some (a.0, back p a.1)

-- ---- parameters, conditions and blocks

-- a name and ":"
unfoldable pub labelled : Reader Name
labelled p = do
  n ← name p
  q ← after s.Colon n.1
  Some (n.0, q)

-- the name behind a label
unfoldable pub parameter_behind : Name → Reader ParameterTree
parameter_behind label p = do
  n ← labelled p
  a ← annotation n.1
  Some (record { label = Some label; name = n.0; annotation = a.0 }, a.1)

unfoldable pub parameter : Reader ParameterTree
parameter p = do
  n ← name p
  either (after s.Colon n.1) (λ q. do
    a ← annotation q
    Some (record { label = None; name = n.0; annotation = a.0 }, a.1)) (parameter_behind n.0 n.1)

-- up to the ")"
abbrev pub parameter_list : Reader (List ParameterTree)
parameter_list p = listed parameter s.CloseParenthesis (length p.tokens) [] p

unfoldable pub parameters : Reader (List ParameterTree)
parameters p = do
  q ← opening s.OpenParenthesis p
  all ← parameter_list q
  Some (all.0, back p all.1)

-- behind `emit`
unfoldable pub emitted : Reader ConditionTree
emitted p = expression p >>= (λ e. Some (tree.emitted e.0, e.1))

-- a condition that begins with an expression
unfoldable pub plain : Reader ConditionTree
plain p = if begins_plainly p then (do
  e ← expression p
  m ← maybe (after s.Colon) expression e.1
  Some (tree.test e.0 m.0, m.1)) else None

unfoldable pub condition : Reader ConditionTree
condition p = either (keyword k.Emit p) emitted (plain p)

-- a condition, and what parts it from the next
unfoldable pub parted_condition : Reader ConditionTree
parted_condition p = do
  c ← condition p
  q ← parted c.1
  Some (c.0, q)

-- up to the "}"
abbrev pub condition_list : Reader (List ConditionTree)
condition_list p = repeated parted_condition s.CloseBrace (length p.tokens) [] p

unfoldable pub conditions : Reader (List ConditionTree)
conditions p = do
  q ← opening s.OpenBrace p
  all ← condition_list q
  Some (all.0, back p all.1)

-- the conditions behind `pre` or `post`, or nothing
abbrev pub conditions_behind : Keyword → Reader (Option (List ConditionTree))
conditions_behind word = maybe (keyword word) conditions

-- up to a "}"
unfoldable pub closed_statements : Reader (List StmtTree)
closed_statements p = do
  body ← statements_in p
  r ← after s.CloseBrace body.1
  Some (body.0, r)

unfoldable pub function_block : Reader FunctionBlockTree
function_block p = do
  q ← opening s.OpenBrace p
  a ← conditions_behind k.Pre q
  b ← conditions_behind k.Post a.1
  body ← statements_in b.1
  r ← after s.CloseBrace body.1
  Some (record { pre = a.0; post = b.0; body = body.0 }, back p r)
