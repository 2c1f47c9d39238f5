-- Elaborated bodies: numbers of variables and of statements.
use Rattle.std.specs.Prelude.{◌≡◌, refl, ℕ, true, false, Option, Some, None, Result, Ok, Err, List, [], ◌∷◌, codes}
use Rattle.cad_syntax.specs.Types.{PureType, basic, optional, array, reference}
use Rattle.cad_syntax.specs.declared.kind.Kind.TheVariants as number
use Rattle.cad_syntax.specs.declared.text.Name.{Name}
use Rattle.cad_syntax.specs.declared.types.Authorization.TheVariants as rights
use Rattle.cad_syntax.specs.declared.types.Basic.TheVariants as basic_type
use Rattle.cad_grammar.specs.Trees as s
use Rattle.cad_grammar.specs.declared.expression.BinaryOperator.TheVariants as binary
use Rattle.cad_grammar.specs.declared.statement.Transfer.TheVariants as sign
use Rattle.cad_grammar.specs.declared.statement.VariableKind.TheVariants as v
use Rattle.cad_declarations.specs.Points.{word}
use Rattle.cad_declarations.specs.Tables.{ProgramTables}
use Rattle.cad_declarations.specs.Typed as e
use Rattle.cad_typing.specs.Functions.{type_routine, top_routine}
use Rattle.cad_typing.specs.Transactions.{transaction_body}
use Rattle.cad_typing.proofs.SampleParts.{a, b, f, type, of, use_of, called_with, of_self, let_is, set, returned, block, if_true, parameter, statements, conditions, function}

abbrev no_tables : ProgramTables
no_tables = record { place = None; contract = None; imports = []; types = []; entitlements = []; mappings = []; functions = [] }

abbrev truth : PureType
truth = basic basic_type.Bool

abbrev c : Name
c = word (codes "c")

abbrev variable : ℕ → Name → PureType → e.VariableEntry
variable n name t = record { number = n; name = name; type = t; is_resource = false }

abbrev value : ℕ → e.TermTree
value n = e.copy (e.variable n)

abbrev only : e.StatementTree → e.Statements
only x = e.statements x e.no_statements

-- ---- a function

-- fun f(_ a: Bool): Bool {
--     post { before(a) == result }
--     let b = a
--     if true { let b = true }
--     return b
-- }
abbrev with_condition : s.FunctionTree
with_condition = function f (parameter a (of (type (codes "Bool"))) ∷ []) (Some (of (type (codes "Bool"))))
    (conditions [] (s.test (s.binary binary.Equal (called_with (use_of (word (codes "before"))) (use_of a)) (use_of (word (codes "result")))) None ∷ [])
    (let_is b (use_of a) ∷ if_true (let_is b (s.bool true) ∷ []) ∷ returned (use_of b) ∷ []))

-- The condition is number 0, so the statements begin with 1. The result has the number behind the parameter's, and so has
-- the body's first variable.
conditioned : type_routine no_tables (top_routine with_condition) ≡ Ok (record {
  inside = f ∷ [];
  is_view = false;
  parameters = variable 0 a truth ∷ [];
  result = truth;
  result_variable = Some (variable 1 (word (codes "result")) truth);
  pre = [];
  before = record { at = 0; value = value 0 } ∷ [];
  post = e.test 0 (e.binary binary.Equal (e.before 0) (value 1)) None ∷ [];
  body = Some (e.block 1 (e.statements (e.declare 1 (variable 1 b truth) (value 0))
      (e.statements (e.if_else 2 (e.bool true) (e.block 2 (only (e.declare 3 (variable 2 b truth) (e.bool true)))) (e.block 2 e.no_statements))
      (only (e.return_value 4 (value 1) truth)))));
  statements = 5;
})
conditioned = refl

-- fun f(_ a: Bool?) {
--     if let b = a { let c = b }
--     for b, c in [true] {}
-- }
abbrev with_blocks : s.FunctionTree
with_blocks = function f (parameter a (of (s.optional (type (codes "Bool")))) ∷ []) None
    (statements (s.if_else (s.binding v.Let b None sign.Copy (use_of a)) (block (let_is c (use_of b) ∷ [])) s.nothing
    ∷ s.for_loop (Some b) c (s.list (s.exprs (s.bool true) s.no_exprs)) (block []) ∷ []))

-- the variables of `if let` and of `for` are in scope where the block begins, the index before the element
blocks : type_routine no_tables (top_routine with_blocks) ≡ Ok (record {
  inside = f ∷ [];
  is_view = false;
  parameters = variable 0 a (optional truth) ∷ [];
  result = basic basic_type.Void;
  result_variable = None;
  pre = [];
  before = [];
  post = [];
  body = Some (e.block 1 (e.statements
      (e.if_let 0 (variable 1 b truth) (value 0) (optional truth) (e.block 2 (only (e.declare 1 (variable 2 c truth) (value 1)))) (e.block 1 e.no_statements))
      (only (e.for_loop 2 (Some (variable 1 b (basic (basic_type.Number number.Int)))) (variable 2 c truth)
      (e.array truth (e.terms (e.bool true) e.no_terms)) (array truth) (e.block 3 e.no_statements)))));
  statements = 3;
})
blocks = refl

-- ---- a transaction

-- transaction(_ a: Bool) {
--     let b: Bool
--     prepare(_ c: &Account) { self.b = a }
--     execute { let c = self.b }
-- }
abbrev with_field : s.TransactionTree
with_field = record {
  parameters = Some (parameter a (of (type (codes "Bool"))) ∷ []);
  fields = record { kind = v.Let; name = b; annotation = of (type (codes "Bool")) } ∷ [];
  prepare = Some (record { parameters = parameter c (of (s.reference None (type (codes "Account")))) ∷ []; body = set (of_self b) (use_of a) ∷ [] });
  pre = None;
  execute = Some (let_is c (of_self b) ∷ []);
  post = None;
}

-- its fields are the first variables, then come its parameters, and then those of `prepare`; each part counts from 0
transaction : transaction_body no_tables with_field ≡ record {
  fields = variable 0 b truth ∷ [];
  parameters = variable 1 a truth ∷ [];
  signers = variable 2 c (reference rights.Unauthorized (basic basic_type.Account)) ∷ [];
  prepare = Some (e.block 3 (only (e.assign 0 (e.variable 0) (value 1) truth)));
  pre = [];
  before = [];
  execute = Some (e.block 2 (only (e.declare 0 (variable 2 c truth) (value 0))));
  post = [];
  prepare_statements = 1;
  pre_statements = 0;
  execute_statements = 1;
  post_statements = 0;
}
transaction = refl
