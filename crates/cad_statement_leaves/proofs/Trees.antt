-- The tree of a statement, as the code finds it.
use Rattle.std.proofs.Common.{◌≡◌, ℕ, ap, sym, ◌∙◌, map}
use Rattle.std.specs.Prelude.{Option, option_map}
use Rattle.std.specs.Global.{Vec}
use Rattle.cad_syntax.specs.Types.{pure_type}
use Rattle.cad_syntax.specs.declared.type_id.TypeId.{TypeId}
use Rattle.cad_syntax.specs.declared.types.CadType.{CadType}
use Rattle.cad_declarations.specs.Typed as e
use Rattle.cad_declarations.specs.Views.{place_of, term_of, argument_of, variable_of, return_of, statement_of, block_of, case_of, statement_step, block_step, case_step}
use Rattle.cad_declarations.specs.declared.statement.Variable.{Variable}
use Rattle.cad_declarations.specs.declared.statement.TypedBlock.{TypedBlock}
use Rattle.cad_declarations.specs.declared.statement.TypedStatement.TheFolds.{fold_out-TypedBlock, fold_out-TypedCase}
use Rattle.cad_declarations.specs.declared.statement.TypedCase.{TypedCase}
use Rattle.cad_declarations.specs.declared.statement.TypedStatement.{TypedStatement, TypedStatement-F, fold-roll-TypedStatement}
use Rattle.cad_declarations.specs.declared.statement.TypedStatement.TheVariants as form
use Rattle.cad_declarations.specs.declared.statement.TypedStatement.TheVariants.{rolls-Declare, rolls-Exchange, rolls-Assign, rolls-ForceAssign, rolls-Swap, rolls-Expression, rolls-If, rolls-IfLet, rolls-IfCast, rolls-While, rolls-For, rolls-Switch, rolls-Break, rolls-Continue, rolls-Return, rolls-Emit}
use Rattle.cad_declarations.specs.declared.term.Argument.{Argument}
use Rattle.cad_declarations.specs.declared.term.Place.{Place}
use Rattle.cad_declarations.specs.declared.term.Term.{Term}
use Rattle.std.specs.Prelude.{List}
use Rattle.cad_rows.specs.Views.{PlaceView, taken, pure_place, pure_tree, place_step, tree_step}
use Rattle.cad_rows.specs.declared.tree.Place as rows
use Rattle.cad_rows.specs.declared.tree.Place.{Place-F, fold-roll-Place}
use Rattle.cad_rows.specs.declared.tree.Place.TheVariants as variant
use Rattle.cad_rows.specs.declared.tree.Tree as held
use Rattle.cad_world.specs.Rows as world

pub declare_at : (statement : TypedStatement) (at : ℕ) (v : Variable) (x : Term) → statement ≡ form.Declare at v x → statement_of statement ≡ e.declare at (variable_of v) (term_of x)
declare_at statement at v x is = ap statement_of (is ∙ sym (rolls-Declare at v x)) ∙ fold-roll-TypedStatement e.StatementTree e.BlockTree e.TypedCaseTree statement_step block_step case_step (TypedStatement-F.Declare at v x)

pub exchange_at : (statement : TypedStatement) (at : ℕ) (v : Variable) (p : Place) (of : CadType) (x : Term) → statement ≡ form.Exchange at v p of x → statement_of statement ≡ e.exchange at (variable_of v) (place_of p) (pure_type of) (term_of x)
exchange_at statement at v p of x is = ap statement_of (is ∙ sym (rolls-Exchange at v p of x)) ∙ fold-roll-TypedStatement e.StatementTree e.BlockTree e.TypedCaseTree statement_step block_step case_step (TypedStatement-F.Exchange at v p of x)

pub assign_at : (statement : TypedStatement) (at : ℕ) (p : Place) (x : Argument) → statement ≡ form.Assign at p x → statement_of statement ≡ e.assign at (place_of p) (term_of x.value) (pure_type x.target)
assign_at statement at p x is = ap statement_of (is ∙ sym (rolls-Assign at p x)) ∙ fold-roll-TypedStatement e.StatementTree e.BlockTree e.TypedCaseTree statement_step block_step case_step (TypedStatement-F.Assign at p x)

pub force_assign_at : (statement : TypedStatement) (at : ℕ) (p : Place) (x : Argument) → statement ≡ form.ForceAssign at p x → statement_of statement ≡ e.force_assign at (place_of p) (term_of x.value) (pure_type x.target)
force_assign_at statement at p x is = ap statement_of (is ∙ sym (rolls-ForceAssign at p x)) ∙ fold-roll-TypedStatement e.StatementTree e.BlockTree e.TypedCaseTree statement_step block_step case_step (TypedStatement-F.ForceAssign at p x)

pub swap_at : (statement : TypedStatement) (at : ℕ) (p : Place) (t : CadType) (q : Place) (u : CadType) → statement ≡ form.Swap at p t q u → statement_of statement ≡ e.swap at (place_of p) (pure_type t) (place_of q) (pure_type u)
swap_at statement at p t q u is = ap statement_of (is ∙ sym (rolls-Swap at p t q u)) ∙ fold-roll-TypedStatement e.StatementTree e.BlockTree e.TypedCaseTree statement_step block_step case_step (TypedStatement-F.Swap at p t q u)

pub expression_at : (statement : TypedStatement) (at : ℕ) (x : Term) → statement ≡ form.Expression at x → statement_of statement ≡ e.expression at (term_of x)
expression_at statement at x is = ap statement_of (is ∙ sym (rolls-Expression at x)) ∙ fold-roll-TypedStatement e.StatementTree e.BlockTree e.TypedCaseTree statement_step block_step case_step (TypedStatement-F.Expression at x)

pub if_at : (statement : TypedStatement) (at : ℕ) (x : Term) (a : TypedBlock) (b : TypedBlock) → statement ≡ form.If at x a b → statement_of statement ≡ e.if_else at (term_of x) (block_of a) (block_of b)
if_at statement at x a b is = ap statement_of (is ∙ sym (rolls-If at x a b)) ∙ fold-roll-TypedStatement e.StatementTree e.BlockTree e.TypedCaseTree statement_step block_step case_step (TypedStatement-F.If at x a b)

pub if_let_at : (statement : TypedStatement) (at : ℕ) (v : Variable) (x : Argument) (a : TypedBlock) (b : TypedBlock) → statement ≡ form.IfLet at v x a b → statement_of statement ≡ e.if_let at (variable_of v) (term_of x.value) (pure_type x.target) (block_of a) (block_of b)
if_let_at statement at v x a b is = ap statement_of (is ∙ sym (rolls-IfLet at v x a b)) ∙ fold-roll-TypedStatement e.StatementTree e.BlockTree e.TypedCaseTree statement_step block_step case_step (TypedStatement-F.IfLet at v x a b)

pub if_cast_at : (statement : TypedStatement) (at : ℕ) (v : Variable) (p : Place) (t : CadType) (a : TypedBlock) (b : TypedBlock) → statement ≡ form.IfCast at v p t a b → statement_of statement ≡ e.if_cast at (variable_of v) (place_of p) (pure_type t) (block_of a) (block_of b)
if_cast_at statement at v p t a b is = ap statement_of (is ∙ sym (rolls-IfCast at v p t a b)) ∙ fold-roll-TypedStatement e.StatementTree e.BlockTree e.TypedCaseTree statement_step block_step case_step (TypedStatement-F.IfCast at v p t a b)

pub while_at : (statement : TypedStatement) (at : ℕ) (x : Term) (a : TypedBlock) → statement ≡ form.While at x a → statement_of statement ≡ e.while_loop at (term_of x) (block_of a)
while_at statement at x a is = ap statement_of (is ∙ sym (rolls-While at x a)) ∙ fold-roll-TypedStatement e.StatementTree e.BlockTree e.TypedCaseTree statement_step block_step case_step (TypedStatement-F.While at x a)

pub for_at : (statement : TypedStatement) (at : ℕ) (i : Option Variable) (v : Variable) (x : Argument) (a : TypedBlock) → statement ≡ form.For at i v x a → statement_of statement ≡ e.for_loop at (option_map variable_of i) (variable_of v) (term_of x.value) (pure_type x.target) (block_of a)
for_at statement at i v x a is = ap statement_of (is ∙ sym (rolls-For at i v x a)) ∙ fold-roll-TypedStatement e.StatementTree e.BlockTree e.TypedCaseTree statement_step block_step case_step (TypedStatement-F.For at i v x a)

pub switch_at : (statement : TypedStatement) (at : ℕ) (x : Term) (all : Vec TypedCase) (b : TypedBlock) → statement ≡ form.Switch at x all b → statement_of statement ≡ e.switch at (term_of x) (e.cases_of (map case_of all.items)) (block_of b)
switch_at statement at x all b is = ap statement_of (is ∙ sym (rolls-Switch at x all b)) ∙ fold-roll-TypedStatement e.StatementTree e.BlockTree e.TypedCaseTree statement_step block_step case_step (TypedStatement-F.Switch at x all b)

pub break_at : (statement : TypedStatement) (at : ℕ) → statement ≡ form.Break at → statement_of statement ≡ e.break_loop at
break_at statement at is = ap statement_of (is ∙ sym (rolls-Break at)) ∙ fold-roll-TypedStatement e.StatementTree e.BlockTree e.TypedCaseTree statement_step block_step case_step (TypedStatement-F.Break at)

pub continue_at : (statement : TypedStatement) (at : ℕ) → statement ≡ form.Continue at → statement_of statement ≡ e.continue_loop at
continue_at statement at is = ap statement_of (is ∙ sym (rolls-Continue at)) ∙ fold-roll-TypedStatement e.StatementTree e.BlockTree e.TypedCaseTree statement_step block_step case_step (TypedStatement-F.Continue at)

pub return_at : (statement : TypedStatement) (at : ℕ) (x : Option Argument) → statement ≡ form.Return at x → statement_of statement ≡ return_of at x
return_at statement at x is = ap statement_of (is ∙ sym (rolls-Return at x)) ∙ fold-roll-TypedStatement e.StatementTree e.BlockTree e.TypedCaseTree statement_step block_step case_step (TypedStatement-F.Return at x)

pub emit_at : (statement : TypedStatement) (at : ℕ) (id : TypeId) (all : Vec Argument) → statement ≡ form.Emit at id all → statement_of statement ≡ e.emit at id (e.arguments_of (map argument_of all.items))
emit_at statement at id all is = ap statement_of (is ∙ sym (rolls-Emit at id all)) ∙ fold-roll-TypedStatement e.StatementTree e.BlockTree e.TypedCaseTree statement_step block_step case_step (TypedStatement-F.Emit at id all)

pub block_at : (b : TypedBlock) → block_of b ≡ e.block b.in_scope (e.statements_of (map statement_of b.statements.items))
block_at b = fold_out-TypedBlock e.StatementTree e.BlockTree e.TypedCaseTree statement_step block_step case_step b

pub case_at : (c : TypedCase) → case_of c ≡ record { value = term_of c.value; body = block_of c.body }
case_at c = fold_out-TypedCase e.StatementTree e.BlockTree e.TypedCaseTree statement_step block_step case_step c

-- a place with a node
pub place_at : (p : rows.Place) (labels : List ℕ) (tree : held.Tree) → p ≡ variant.Full labels tree → pure_place p ≡ taken labels (pure_tree tree)
place_at p labels tree is = ap pure_place (is ∙ sym (variant.rolls-Full labels tree)) ∙ fold-roll-Place PlaceView world.Tree place_step tree_step (Place-F.Full labels tree)
