-- In an elaborated transaction no variable is declared in the scope of one with its number.
use Rattle.std.proofs.Common.{refl, subst, ℕ, ◌+◌, ◌≤◌, suc, arith, Bool, true, false, List, [], ◌∷◌, length, if◌then◌else◌}
use Rattle.std.specs.Prelude.{Option, Some, None, Result, Ok, Err, option_and_then}
use Rattle.std.specs.Result.{result_ok}
use Rattle.cad_grammar.specs.Trees as s
use Rattle.cad_declarations.specs.Entries.{type_entry}
use Rattle.cad_declarations.specs.Kinds.{scope_of}
use Rattle.cad_declarations.specs.Scopes.{Scope}
use Rattle.cad_declarations.specs.Tables.{ProgramTables}
use Rattle.cad_declarations.specs.Typed as e
use Rattle.cad_paths.specs.declared.letter.BodyPart.{BodyPart}
use Rattle.cad_paths.specs.declared.letter.BodyPart.TheVariants.{Prepare, Pre, Execute, Post}
use Rattle.cad_paths.specs.declared.letter.Position.{Position}
use Rattle.cad_paths.specs.Paths.{PathBody, seq}
use Rattle.cad_paths.specs.Letters.{resources}
use Rattle.cad_paths.specs.Bodies.{conditions_letters, before_letters, part_letters, from_start, fields_end, transaction_letters}
use Rattle.cad_typing.specs.Environments.{Environment, precondition, execute_body}
use Rattle.cad_typing.specs.Functions.{type_body}
use Rattle.cad_typing.specs.Locals.{entry_of, entries_of, is_var_word}
use Rattle.cad_typing.specs.Statements.{Surroundings, in_block, type_statements}
use Rattle.cad_typing.specs.Transactions.{field_locals, part_in, prepare_environment, without_result, are_signers, type_prepare, type_execute, transaction_body}
use Rattle.cad_mark_laws.specs.Laws.{TransactionsHaveMarks}
use Rattle.cad_mark_laws.proofs.Linear.{linear_marked}
use Rattle.cad_mark_laws.proofs.Plain.{plain_anew, conditions_plain, before_plain, AreBelow, none_below}
use Rattle.cad_mark_laws.proofs.Numbered.{Every, Anew, BlockFine, below_more, scope_anew, seq_anew, block_fine, begins_at, statements_fine, suc_in}

fields_start : (env : Environment) (at : Position) (scope : Scope) (n : ℕ) (fs : List s.TransactionFieldTree) (us : List ℕ) (a : PathBody) → AreBelow us n → ((vs : List ℕ) → AreBelow vs (n + length fs) → Anew vs a)
    → Anew us (from_start (entries_of env (field_locals scope n fs)) at a)
fields_start env at scope n [] us a f g = g us (below_more us n (n + length {A = s.TransactionFieldTree} []) (omega arith) f)
fields_start env at scope n (x ∷ fs) us a f g =
    scope_anew (entry_of env (record { number = n; name = x.name; type = type_entry scope x.annotation.written; is_var = is_var_word x.kind })) at n (suc n) us
    (from_start (entries_of env (field_locals scope (suc n) fs)) at a) refl (omega arith) f
    (λ vs h. fields_start env at scope (suc n) fs vs a h (λ ks i. g ks (subst (λ z. AreBelow ks z) (suc_in n (length fs)) i)))

-- the statements of a part, where they are rightly typed
typed_anew : (part : BodyPart) (m : ℕ) (us : List ℕ) (r : Result e.BlockTree ℕ) → AreBelow us m → Every (BlockFine part m) r → Anew us (part_letters resources part (result_ok r))
typed_anew part m us (Err n) f h = refl
typed_anew part m us (Ok a) f h = h us f

body_fine : (part : BodyPart) (w : Surroundings) (n : ℕ) (all : List s.StmtTree) → Every (BlockFine part (begins_at [] w)) (type_body w n all)
body_fine part w n all = block_fine part [] w (λ v. type_statements v n (s.stmts_of all)) (statements_fine part (in_block [] w) n (s.stmts_of all))

either_way : (P : e.BlockTree → Type 0) (c : Bool) (r : Result e.BlockTree ℕ) → Every P r → Every P (if c then r else Err 0)
either_way P true r h = h
either_way P false r h = tt

prepare_anew : (tables : ProgramTables) (x : s.TransactionTree) (o : Option s.PrepareTree) (us : List ℕ) → AreBelow us (begins_at [] (without_result (prepare_environment tables x)))
    → Anew us (part_letters resources Prepare (option_and_then (λ p. result_ok (type_prepare tables x p)) o))
prepare_anew tables x None us f = refl
prepare_anew tables x (Some p) us f =
    typed_anew Prepare (begins_at [] (without_result (prepare_environment tables x))) us (type_prepare tables x p) f
    (either_way (BlockFine Prepare (begins_at [] (without_result (prepare_environment tables x)))) (are_signers tables p.parameters) (type_body (without_result (prepare_environment tables x)) 0 p.body)
    (body_fine Prepare (without_result (prepare_environment tables x)) 0 p.body))

execute_anew : (tables : ProgramTables) (x : s.TransactionTree) (o : Option (List s.StmtTree)) (us : List ℕ) → AreBelow us (begins_at [] (without_result (part_in tables x execute_body)))
    → Anew us (part_letters resources Execute (option_and_then (λ all. result_ok (type_execute tables x all)) o))
execute_anew tables x None us f = refl
execute_anew tables x (Some all) us f =
    typed_anew Execute (begins_at [] (without_result (part_in tables x execute_body))) us (type_execute tables x all) f (body_fine Execute (without_result (part_in tables x execute_body)) 0 all)

parts_anew : (t : e.TransactionBody) (us : List ℕ) → Anew us (part_letters resources Prepare t.prepare) → Anew us (part_letters resources Execute t.execute)
    → Anew us (seq (part_letters resources Prepare t.prepare) (seq (conditions_letters resources Pre t.pre) (seq (before_letters resources Post t.before) (seq (part_letters resources Execute t.execute) (conditions_letters resources Post t.post)))))
parts_anew t us h i =
    seq_anew us (part_letters resources Prepare t.prepare) (seq (conditions_letters resources Pre t.pre) (seq (before_letters resources Post t.before) (seq (part_letters resources Execute t.execute) (conditions_letters resources Post t.post)))) h
    (seq_anew us (conditions_letters resources Pre t.pre) (seq (before_letters resources Post t.before) (seq (part_letters resources Execute t.execute) (conditions_letters resources Post t.post)))
    (plain_anew resources us (conditions_letters resources Pre t.pre) (conditions_plain resources Pre t.pre))
    (seq_anew us (before_letters resources Post t.before) (seq (part_letters resources Execute t.execute) (conditions_letters resources Post t.post))
    (plain_anew resources us (before_letters resources Post t.before) (before_plain resources Post t.before))
    (seq_anew us (part_letters resources Execute t.execute) (conditions_letters resources Post t.post) i (plain_anew resources us (conditions_letters resources Post t.post) (conditions_plain resources Post t.post)))))

-- the fields have the first numbers, and the parts begin behind them
in_prepare : (tables : ProgramTables) (x : s.TransactionTree) → 0 + length x.fields ≤ begins_at [] (without_result (prepare_environment tables x))
in_prepare tables x = omega arith

in_execute : (tables : ProgramTables) (x : s.TransactionTree) → 0 + length x.fields ≤ begins_at [] (without_result (part_in tables x execute_body))
in_execute tables x = omega arith

transaction_anew : (tables : ProgramTables) (x : s.TransactionTree) → Anew [] (transaction_letters (transaction_body tables x))
transaction_anew tables x =
    fields_start (part_in tables x precondition) (fields_end (transaction_body tables x)) (scope_of tables) 0 x.fields []
    (seq (part_letters resources Prepare (transaction_body tables x).prepare) (seq (conditions_letters resources Pre (transaction_body tables x).pre) (seq (before_letters resources Post (transaction_body tables x).before)
    (seq (part_letters resources Execute (transaction_body tables x).execute) (conditions_letters resources Post (transaction_body tables x).post))))) (none_below 0)
    (λ us f. parts_anew (transaction_body tables x) us
    (prepare_anew tables x x.prepare us (below_more us (0 + length x.fields) (begins_at [] (without_result (prepare_environment tables x))) (in_prepare tables x) f))
    (execute_anew tables x x.execute us (below_more us (0 + length x.fields) (begins_at [] (without_result (part_in tables x execute_body))) (in_execute tables x) f)))

pub transactions_marked : TransactionsHaveMarks
transactions_marked tables x l h = linear_marked (transaction_letters (transaction_body tables x)) (transaction_anew tables x) l h
