-- Turns over the statements of a block and over cases.
use Rattle.std.proofs.Common.{◌≡◌, ◌∙◌, ℕ, suc, ◌+◌, ◌<◌, ◌≤◌, List, [], ◌∷◌, ◌++◌, length, drop, get_or, map, refl, ap, sym, append_assoc, add-zero}
use Rattle.std.specs.Prelude.{Option, Some, None, Result, Ok, Err}
use Rattle.std.proofs.lemmas.List.{append-nil, drop_all}
use Rattle.cad_grammar.specs.Trees as t
use Rattle.cad_grammar.specs.Views.{case_of, stmt_of}
use Rattle.cad_grammar.specs.declared.statement.Case.{Case}
use Rattle.cad_grammar.specs.declared.statement.Stmt.{Stmt}
use Rattle.cad_declarations.specs.Typed as e
use Rattle.cad_typing.specs.Environments.{Local}
use Rattle.cad_typing.specs.StatementForms.{StatementTyping}
use Rattle.cad_typing.specs.Statements.{◌>>=◌, Surroundings, behind_statement, in_block, block_in, block, count, count_all, count_cases, type_statement, type_statements, type_otherwise, type_cases}
use Rattle.cad_statement_parts.specs.Blocks.{around, in_use_behind, inner, locals_behind, numbered}
use Rattle.cad_statement_parts.proofs.Sums.{cases_at, statements_at, sum_ends, sum_ends_cases, sum_turn, sum_turn_cases}
use Rattle.cad_statements.specs.Rows.{before, row_before, statements_before}
use Rattle.cad_statements.proofs.Numbers.{last_inside, number_at, numbered_stops, numbered_typed, stops_at, typed_at}

-- the statements from an index on
abbrev pub from : List Stmt → ℕ → t.Stmts
from ss i = t.stmts_of (map stmt_of (drop i ss))

abbrev pub cases_from : List Case → ℕ → t.Cases
cases_from cs i = t.cases_of (map case_of (drop i cs))

-- ---- statements

one_more : (done : List e.StatementTree) (x : e.StatementTree) (ys : e.Statements) → statements_before done (e.statements x ys) ≡ statements_before (done ++ x ∷ []) ys
one_more [] x ys = refl
one_more (d ∷ done) x ys = ap (e.statements d) (one_more done x ys)

all_of : (done : List e.StatementTree) → statements_before done e.no_statements ≡ e.statements_of done
all_of [] = refl
all_of (d ∷ done) = ap (e.statements d) (all_of done)

goes_on : (done : List e.StatementTree) (x : e.StatementTree) (more : Result e.Statements ℕ) → before done (more >>= (λ ys. Ok (e.statements x ys))) ≡ before (done ++ x ∷ []) more
goes_on done x (Err n) = refl
goes_on done x (Ok ys) = ap Ok (one_more done x ys)

behind_declared : (tree : e.StatementTree) (d : Option Local) (w : Surroundings) (ls : List Local) (u : ℕ)
    → behind_statement (record { tree = tree; declares = d }) (inner w ls u) ≡ inner w (locals_behind d ls) (in_use_behind d u)
behind_declared tree None w ls u = refl
behind_declared tree (Some v) w ls u = refl

statement_turn : (w : Surroundings) (ls : List Local) (u n : ℕ) (s : t.StmtTree) (rest all : t.Stmts) (x : StatementTyping) (done : List e.StatementTree) (whole : Result e.Statements ℕ)
    (more : List e.StatementTree) (declared : List Local) (used next : ℕ)
    → all ≡ t.stmts s rest → Ok x ≡ type_statement (inner w ls u) n s
    → more ≡ done ++ x.tree ∷ [] → declared ≡ locals_behind x.declares ls → used ≡ in_use_behind x.declares u → next ≡ n + count s
    → before done (type_statements (inner w ls u) n all) ≡ whole
    → before more (type_statements (inner w declared used) next rest) ≡ whole
statement_turn w ls u n s rest all x done whole more declared used next split is d l i m so_far =
    ap (λ z. before z (type_statements (inner w declared used) next rest)) d
    ∙ ap (λ z. before (done ++ x.tree ∷ []) (type_statements (inner w z used) next rest)) l
    ∙ ap (λ z. before (done ++ x.tree ∷ []) (type_statements (inner w (locals_behind x.declares ls) z) next rest)) i
    ∙ ap (λ z. before (done ++ x.tree ∷ []) (type_statements (inner w (locals_behind x.declares ls) (in_use_behind x.declares u)) z rest)) m
    ∙ sym (goes_on done x.tree (type_statements (inner w (locals_behind x.declares ls) (in_use_behind x.declares u)) (n + count s) rest))
    ∙ ap (λ v. before done (type_statements v (n + count s) rest >>= (λ ys. Ok (e.statements x.tree ys)))) (sym (behind_declared x.tree x.declares w ls u))
    ∙ ap (λ r. before done (r >>= (λ y. type_statements (behind_statement y (inner w ls u)) (n + count s) rest >>= (λ ys. Ok (e.statements y.tree ys))))) is
    ∙ ap (λ z. before done (type_statements (inner w ls u) n z)) (sym split)
    ∙ so_far

statement_stops : (w : Surroundings) (ls : List Local) (u n k : ℕ) (s : t.StmtTree) (rest all : t.Stmts) (done : List e.StatementTree) (whole : Result e.Statements ℕ)
    → all ≡ t.stmts s rest → Err k ≡ type_statement (inner w ls u) n s
    → before done (type_statements (inner w ls u) n all) ≡ whole → Err k ≡ whole
statement_stops w ls u n k s rest all done whole split is so_far =
    ap (λ r. before done (r >>= (λ y. type_statements (behind_statement y (inner w ls u)) (n + count s) rest >>= (λ ys. Ok (e.statements y.tree ys))))) is
    ∙ ap (λ z. before done (type_statements (inner w ls u) n z)) (sym split)
    ∙ so_far

-- ---- blocks

opened_block : (ls : List Local) (w : Surroundings) → inner (around ls w) [] (around ls w).env.in_use ≡ in_block ls w
opened_block ls w = ap (inner (around ls w) []) (sym (add-zero (around ls w).env.in_use))

-- a block, by what stands in it
block_ends : (ls : List Local) (w o : Surroundings) (f : Surroundings → Result e.Statements ℕ) (r : Result e.Statements ℕ)
    → o ≡ around ls w → r ≡ f (inner o [] o.env.in_use) → (r >>= (λ xs. Ok (e.block o.env.in_use xs))) ≡ block_in ls w f
block_ends ls w o f r is inside =
    ap (λ z. z >>= (λ xs. Ok (e.block o.env.in_use xs))) inside
    ∙ ap (λ (z : Surroundings). f (inner z [] z.env.in_use) >>= (λ xs. Ok (block (inner z [] z.env.in_use) xs))) is
    ∙ ap (λ v. f v >>= (λ xs. Ok (block v xs))) (opened_block ls w)

pub block_begins : (o : Surroundings) (ls : List Local) (u v n : ℕ) (done : List e.StatementTree) (all : t.Stmts)
    → done ≡ [] → ls ≡ [] → u ≡ v → before done (type_statements (inner o ls u) n all) ≡ type_statements (inner o [] v) n all
block_begins o ls u v n done all d l i =
    ap (λ z. before z (type_statements (inner o ls u) n all)) d
    ∙ none_before (type_statements (inner o ls u) n all)
    ∙ ap (λ z. type_statements (inner o z u) n all) l
    ∙ ap (λ z. type_statements (inner o [] z) n all) i
  where
    none_before : (r : Result e.Statements ℕ) → before [] r ≡ r
    none_before (Ok xs) = refl
    none_before (Err k) = refl

pub block_turn : (o here : Surroundings) (ls : List Local) (u n : ℕ) (ss : List Stmt) (i : ℕ) (s : Stmt) → i < length ss → s ≡ get_or ss i s
    → (x : StatementTyping) (m : ℕ) (done more : List e.StatementTree) (declared : List Local) (used : ℕ) (whole : Result e.Statements ℕ)
    → here ≡ inner o ls u → Ok (x, m) ≡ numbered (n + count (stmt_of s)) (type_statement here n (stmt_of s))
    → more ≡ done ++ x.tree ∷ [] → declared ≡ locals_behind x.declares ls → used ≡ in_use_behind x.declares u
    → before done (type_statements (inner o ls u) n (from ss i)) ≡ whole
    → before more (type_statements (inner o declared used) m (from ss (i + 1))) ≡ whole
block_turn o here ls u n ss i s h at x m done more declared used whole stands is d l v so_far =
    statement_turn o ls u n (stmt_of s) (from ss (i + 1)) (from ss i) x done whole more declared used m (statements_at ss i s h at)
    (typed_at x m (n + count (stmt_of s)) (type_statement here n (stmt_of s)) is ∙ ap (λ z. type_statement z n (stmt_of s)) stands) d l v
    (number_at x m (n + count (stmt_of s)) (type_statement here n (stmt_of s)) is) so_far

pub block_counts : (here : Surroundings) (n : ℕ) (ss : List Stmt) (i : ℕ) (s : Stmt) → i < length ss → s ≡ get_or ss i s
    → (x : StatementTyping) (m whole : ℕ) → Ok (x, m) ≡ numbered (n + count (stmt_of s)) (type_statement here n (stmt_of s))
    → n + count_all (from ss i) ≡ whole → m + count_all (from ss (i + 1)) ≡ whole
block_counts here n ss i s h at x m whole is so_far = sum_turn ss i s h at n m whole (number_at x m (n + count (stmt_of s)) (type_statement here n (stmt_of s)) is) so_far

-- a statement at which a block stops
pub block_stops : (o here : Surroundings) (own : List Local) (u n : ℕ) (ss : List Stmt) (i : ℕ) (s : Stmt) → i < length ss → s ≡ get_or ss i s
    → (k total : ℕ) (done : List e.StatementTree) (whole : Result e.Statements ℕ)
    → here ≡ inner o own u → Err k ≡ numbered (n + count (stmt_of s)) (type_statement here n (stmt_of s))
    → before done (type_statements (inner o own u) n (from ss i)) ≡ whole
    → Err k ≡ numbered total whole
block_stops o here own u n ss i s h at k total done whole stands is so_far =
    numbered_stops k total whole
    (statement_stops o own u n k (stmt_of s) (from ss (i + 1)) (from ss i) done whole (statements_at ss i s h at)
    (stops_at k (n + count (stmt_of s)) (type_statement here n (stmt_of s)) is ∙ ap (λ z. type_statement z n (stmt_of s)) stands) so_far)

-- statements that are all typed
pub block_typed : (o : Surroundings) (own : List Local) (u n : ℕ) (ss : List Stmt) (i total : ℕ) (done : List e.StatementTree) (whole : Result e.Statements ℕ)
    → length ss ≤ i → before done (type_statements (inner o own u) n (from ss i)) ≡ whole → n + count_all (from ss i) ≡ total
    → Ok (e.statements_of done, n) ≡ numbered total whole
block_typed o own u n ss i total done whole h so_far counted =
    numbered_typed (e.statements_of done) n total whole
    (ap Ok (sym (all_of done)) ∙ ap (λ z. before done (type_statements (inner o own u) n (t.stmts_of (map stmt_of z)))) (sym (drop_all i ss h)) ∙ so_far)
    (sum_ends ss i n total h counted)

-- a block, by what was taken into it
pub block_law : (ls own : List Local) (w o : Surroundings) (u at total : ℕ) (all : t.Stmts) (done : List e.StatementTree) (taken : Result (e.Statements × ℕ) ℕ) (r : Result (e.BlockTree × ℕ) ℕ)
    → o ≡ around ls w → done ≡ [] → own ≡ [] → u ≡ o.env.in_use
    → taken ≡ numbered total (before done (type_statements (inner o own u) at all))
    → r ≡ (taken >>= (λ y. Ok (e.block o.env.in_use y.0, y.1)))
    → r ≡ numbered total (block_in ls w (λ v. type_statements v at all))
block_law ls own w o u at total all done taken r opens none_done none_own none_used is made =
    made
    ∙ ap (λ z. z >>= (λ y. Ok (e.block o.env.in_use y.0, y.1))) (is ∙ ap (numbered total) (block_begins o own u o.env.in_use at done all none_done none_own none_used))
    ∙ last_inside (e.block o.env.in_use) (type_statements (inner o [] o.env.in_use) at all) total
    ∙ ap (numbered total) (block_ends ls w o (λ v. type_statements v at all) (type_statements (inner o [] o.env.in_use) at all) opens refl)

-- the one statement of a block
pub lone_form : (w o here : Surroundings) (n : ℕ) (s : t.StmtTree) (x : Result (StatementTyping × ℕ) ℕ) (r : Result (e.BlockTree × ℕ) ℕ)
    → o ≡ around [] w → here ≡ inner o [] o.env.in_use → x ≡ numbered (n + count s) (type_statement here n s)
    → r ≡ (x >>= (λ y. Ok (e.block o.env.in_use (e.statements y.0.tree e.no_statements), y.1)))
    → r ≡ numbered (n + count s) (type_otherwise w n (t.else_if s))
lone_form w o here n s x r opens stands is made =
    made
    ∙ ap (λ z. z >>= (λ y. Ok (e.block o.env.in_use (e.statements y.0.tree e.no_statements), y.1))) (is ∙ ap (λ z. numbered (n + count s) (type_statement z n s)) stands)
    ∙ by_cases (type_statement (inner o [] o.env.in_use) n s)
    ∙ ap (numbered (n + count s)) (block_ends [] w o (λ v. type_statement v n s >>= (λ y. Ok (e.statements y.tree e.no_statements)))
    (type_statement (inner o [] o.env.in_use) n s >>= (λ y. Ok (e.statements y.tree e.no_statements))) opens refl)
  where
    by_cases : (z : Result StatementTyping ℕ)
        → (numbered (n + count s) z >>= (λ y. Ok (e.block o.env.in_use (e.statements y.0.tree e.no_statements), y.1)))
        ≡ numbered (n + count s) ((z >>= (λ y. Ok (e.statements y.tree e.no_statements))) >>= (λ xs. Ok (e.block o.env.in_use xs)))
    by_cases (Ok y) = refl
    by_cases (Err k) = refl

-- ---- rows of trees

pub no_row_before : {A : Type 0} (done : List A) (r : Result (List A) ℕ) → done ≡ [] → row_before done r ≡ r
no_row_before done (Ok xs) none = ap (λ z. Ok (z ++ xs)) none
no_row_before done (Err n) none = refl

whole_row : {A : Type 0} (done : List A) → row_before done (Ok []) ≡ Ok done
whole_row done = ap Ok (append-nil done)

pub row_goes_on : {A : Type 0} (done : List A) (x : A) (more : Result (List A) ℕ) → row_before done (more >>= (λ ys. Ok (x ∷ ys))) ≡ row_before (done ++ x ∷ []) more
row_goes_on done x (Err n) = refl
row_goes_on done x (Ok ys) = ap Ok (sym (append_assoc done (x ∷ []) ys))

-- ---- cases

case_turn : (w : Surroundings) (n : ℕ) (a : t.ExprTree) (body : t.Stmts) (rest all : t.Cases) (x : e.BlockTree) (done more : List e.BlockTree) (next : ℕ) (whole : Result (List e.BlockTree) ℕ)
    → all ≡ t.cases a body rest → Ok x ≡ block_in [] w (λ v. type_statements v n body) → more ≡ done ++ x ∷ [] → next ≡ n + count_all body
    → row_before done (type_cases w n all) ≡ whole → row_before more (type_cases w next rest) ≡ whole
case_turn w n a body rest all x done more next whole split is d m so_far =
    ap (λ z. row_before z (type_cases w next rest)) d
    ∙ ap (λ z. row_before (done ++ x ∷ []) (type_cases w z rest)) m
    ∙ sym (row_goes_on done x (type_cases w (n + count_all body) rest))
    ∙ ap (λ r. row_before done (r >>= (λ b. type_cases w (n + count_all body) rest >>= (λ bs. Ok (b ∷ bs))))) is
    ∙ ap (λ z. row_before done (type_cases w n z)) (sym split)
    ∙ so_far

case_stops : (w : Surroundings) (n k : ℕ) (a : t.ExprTree) (body : t.Stmts) (rest all : t.Cases) (done : List e.BlockTree) (whole : Result (List e.BlockTree) ℕ)
    → all ≡ t.cases a body rest → Err k ≡ block_in [] w (λ v. type_statements v n body) → row_before done (type_cases w n all) ≡ whole → Err k ≡ whole
case_stops w n k a body rest all done whole split is so_far =
    ap (λ r. row_before done (r >>= (λ b. type_cases w (n + count_all body) rest >>= (λ bs. Ok (b ∷ bs))))) is
    ∙ ap (λ z. row_before done (type_cases w n z)) (sym split)
    ∙ so_far

-- the rest of the cases behind one of them
pub cases_turn : (w : Surroundings) (n : ℕ) (cs : List Case) (i : ℕ) (c : Case) → i < length cs → c ≡ get_or cs i c
    → (x : e.BlockTree) (m : ℕ) (done more : List e.BlockTree) (whole : Result (List e.BlockTree) ℕ)
    → Ok (x, m) ≡ numbered (n + count_all (t.stmts_of (case_of c).body)) (block_in [] w (λ v. type_statements v n (t.stmts_of (case_of c).body)))
    → more ≡ done ++ x ∷ []
    → row_before done (type_cases w n (cases_from cs i)) ≡ whole → row_before more (type_cases w m (cases_from cs (i + 1))) ≡ whole
cases_turn w n cs i c h at x m done more whole is d so_far =
    case_turn w n (case_of c).value (t.stmts_of (case_of c).body) (cases_from cs (i + 1)) (cases_from cs i) x done more m whole (cases_at cs i c h at)
    (typed_at x m (n + count_all (t.stmts_of (case_of c).body)) (block_in [] w (λ v. type_statements v n (t.stmts_of (case_of c).body))) is) d
    (number_at x m (n + count_all (t.stmts_of (case_of c).body)) (block_in [] w (λ v. type_statements v n (t.stmts_of (case_of c).body))) is) so_far

pub cases_count : (w : Surroundings) (n : ℕ) (cs : List Case) (i : ℕ) (c : Case) → i < length cs → c ≡ get_or cs i c
    → (x : e.BlockTree) (m whole : ℕ)
    → Ok (x, m) ≡ numbered (n + count_all (t.stmts_of (case_of c).body)) (block_in [] w (λ v. type_statements v n (t.stmts_of (case_of c).body)))
    → n + count_cases (cases_from cs i) ≡ whole → m + count_cases (cases_from cs (i + 1)) ≡ whole
cases_count w n cs i c h at x m whole is so_far =
    sum_turn_cases cs i c h at n m whole (number_at x m (n + count_all (t.stmts_of (case_of c).body)) (block_in [] w (λ v. type_statements v n (t.stmts_of (case_of c).body))) is) so_far

pub cases_stop : (w : Surroundings) (n : ℕ) (cs : List Case) (i : ℕ) (c : Case) → i < length cs → c ≡ get_or cs i c
    → (k total : ℕ) (done : List e.BlockTree) (whole : Result (List e.BlockTree) ℕ)
    → Err k ≡ numbered (n + count_all (t.stmts_of (case_of c).body)) (block_in [] w (λ v. type_statements v n (t.stmts_of (case_of c).body)))
    → row_before done (type_cases w n (cases_from cs i)) ≡ whole → Err k ≡ numbered total whole
cases_stop w n cs i c h at k total done whole is so_far =
    numbered_stops k total whole
    (case_stops w n k (case_of c).value (t.stmts_of (case_of c).body) (cases_from cs (i + 1)) (cases_from cs i) done whole (cases_at cs i c h at)
    (stops_at k (n + count_all (t.stmts_of (case_of c).body)) (block_in [] w (λ v. type_statements v n (t.stmts_of (case_of c).body))) is) so_far)

pub cases_typed : (w : Surroundings) (n : ℕ) (cs : List Case) (i total : ℕ) (done : List e.BlockTree) (whole : Result (List e.BlockTree) ℕ)
    → length cs ≤ i → row_before done (type_cases w n (cases_from cs i)) ≡ whole → n + count_cases (cases_from cs i) ≡ total
    → Ok (done, n) ≡ numbered total whole
cases_typed w n cs i total done whole h so_far counted =
    numbered_typed done n total whole
    (sym (whole_row done) ∙ ap (λ z. row_before done (type_cases w n (t.cases_of (map case_of z)))) (sym (drop_all i cs h)) ∙ so_far)
    (sum_ends_cases cs i n total h counted)

-- the blocks of the cases, by what was added to none
pub cases_law : (total : ℕ) (done : List e.BlockTree) (whole : Result (List e.BlockTree) ℕ) (taken r : Result (List e.BlockTree × ℕ) ℕ)
    → done ≡ [] → taken ≡ numbered total (row_before done whole) → r ≡ taken → r ≡ numbered total whole
cases_law total done whole taken r none is made = made ∙ is ∙ ap (numbered total) (no_row_before done whole none)
