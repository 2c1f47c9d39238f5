-- What is gathered from a program's pieces are its bodies, where no piece is ill-typed.
use Rattle.std.proofs.Common.{◌≡◌, refl, subst, sym, ◌∙◌, ap, ℕ, Bool, true, false, List, [], ◌∷◌, ◌++◌, append_assoc, append-nil, codes, map, if◌then◌else◌}
use Rattle.std.specs.Prelude.{Option, Some, None, Result, Ok, Err, IfOk, option_map, option_to_list, ok_or, flat_map, filter_map}
use Rattle.std.specs.List.{cons_option}
use Rattle.std.specs.declared.alloc.AllocError.{AllocError}
use Rattle.std.specs.Option.{option_or}
use Rattle.std.specs.Result.{result_ok}
use Rattle.cad_syntax.specs.declared.address.Address.{Address}
use Rattle.cad_syntax.specs.declared.text.Name.{Name}
use Rattle.cad_syntax.specs.declared.type_id.TypeId.{TypeId}
use Rattle.cad_grammar.specs.Trees as s
use Rattle.cad_declarations.specs.Build.{stop_at}
use Rattle.cad_declarations.specs.Meets.{Each}
use Rattle.cad_declarations.specs.Members.{first_some}
use Rattle.cad_declarations.specs.Points.{transaction_name}
use Rattle.cad_declarations.specs.Scopes.{inside}
use Rattle.cad_declarations.specs.Tables.{ProgramTables, TypeEntry, MappingEntry, MemberEntry}
use Rattle.cad_declarations.specs.Typed as e
use Rattle.cad_typing.specs.Functions.{type_routine, type_top_function, initializer_routine}
use Rattle.cad_typing.specs.Heads.{composite_is_right, interface_is_right, destroyed_event}
use Rattle.cad_typing.specs.Pieces as p
use Rattle.cad_typing.specs.Pieces.{Piece, PieceBody, composite_member_pieces, composite_pieces, interface_member_pieces, interface_pieces, contract_member_pieces, contract_pieces, declaration_pieces, program_pieces, method}
use Rattle.cad_typing.specs.Programs as g
use Rattle.cad_typing.specs.Programs.{IsRight, IllTyped, member_body, program_bodies}
use Rattle.cad_typing.specs.Statements.{◌>>=◌}
use Rattle.cad_typing.specs.Transactions.{declaration_is_right, transaction_rules, transaction_body, type_prepare, type_pre, type_execute, type_post}
use Rattle.cad_pieces.specs.Code.Walk.{function_in, destroyed_in, transaction_in, first_transaction, others, others_if, Walk, walk, composite_members, interface_members, composite, interface, ContractWalk, contract_walk, add_nested, contract_members, contract, ProgramWalk, program_walk, add_contract, declaration, declarations, gathered, parts_left}

-- ---- single pieces

function_law : (r : Result e.FunctionBody ℕ) → function_in (p.function r) ≡ result_ok r
function_law (Ok f) = refl
function_law (Err n) = refl

initializer_law : (id : TypeId) (r : Result e.FunctionBody ℕ) → function_in (p.initializer id r) ≡ result_ok r
initializer_law id (Ok f) = refl
initializer_law id (Err n) = refl

destroyed_law : (o : Option e.DestroyedBody) → destroyed_in (ok_or o 0 >>= (λ d. Ok (p.destroyed_piece d))) ≡ o
destroyed_law None = refl
destroyed_law (Some d) = refl

or_assoc : {X : Type 0} (a b c : Option X) → option_or (option_or a b) c ≡ option_or a (option_or b c)
or_assoc None b c = refl
or_assoc (Some x) b c = refl

collects : {X : Type 0} (done : List X) (o : Option X) (more : List X) → (done ++ option_to_list o) ++ more ≡ done ++ cons_option o more
collects done None more = ap (λ z. z ++ more) (append-nil done)
collects done (Some x) more = append_assoc done (x ∷ []) more

-- one more that was found, or not
found_more : {X Y : Type 0} (f : X → Y) (done : List Y) (o r : Option X) (more : List Y) → o ≡ r → (done ++ option_to_list (option_map f o)) ++ more ≡ done ++ cons_option (option_map f r) more
found_more f done o r more h = ap (λ z. (done ++ option_to_list (option_map f z)) ++ more) h ∙ collects done (option_map f r) more

or_more : {X : Type 0} (a o r c : Option X) → o ≡ r → option_or (option_or a o) c ≡ option_or a (option_or r c)
or_more a o r c h = ap (λ z. option_or (option_or a z) c) h ∙ or_assoc a r c

-- ---- types

abbrev made : TypeId → Option e.FunctionBody → List e.MemberBody → Option e.DestroyedBody → e.TypeBody
made id i fs d = record { id = id; initializer = i; functions = fs; destroyed = d }

composite_law : (tables : ProgramTables) (id : TypeId) (ms : List s.CompositeMemberTree) (own : TypeId) (i : Option e.FunctionBody) (fs : List e.MemberBody) (d : Option e.DestroyedBody) (rest : List Piece)
    → composite_members ms (walk (made own i fs d) (flat_map (composite_member_pieces tables id) ms ++ rest))
    ≡ walk (made own (option_or i (first_some (g.composite_initializer tables id) ms)) (fs ++ filter_map (g.composite_method tables id) ms) (option_or d (first_some (g.composite_event tables id) ms))) rest
composite_law tables id [] own i fs d rest = nothing i d fs
  where
    nothing : (i : Option e.FunctionBody) (d : Option e.DestroyedBody) (fs : List e.MemberBody) → walk (made own i fs d) rest ≡ walk (made own (option_or i None) (fs ++ []) (option_or d None)) rest
    nothing None None fs = ap (λ z. walk (made own None z None) rest) (sym (append-nil fs))
    nothing None (Some d) fs = ap (λ z. walk (made own None z (Some d)) rest) (sym (append-nil fs))
    nothing (Some i) None fs = ap (λ z. walk (made own (Some i) z None) rest) (sym (append-nil fs))
    nothing (Some i) (Some d) fs = ap (λ z. walk (made own (Some i) z (Some d)) rest) (sym (append-nil fs))
composite_law tables id (s.field x ∷ ms) own i fs d rest = composite_law tables id ms own i fs d rest
composite_law tables id (s.function x ∷ ms) own i fs d rest =
    composite_law tables id ms own i (fs ++ option_to_list (option_map (member_body x.name) (function_in (p.function (type_routine tables (method id false x)))))) d rest
    ∙ ap (λ z. walk (made own (option_or i (first_some (g.composite_initializer tables id) ms)) z (option_or d (first_some (g.composite_event tables id) ms))) rest)
    (found_more (member_body x.name) fs (function_in (p.function (type_routine tables (method id false x)))) (result_ok (type_routine tables (method id false x)))
    (filter_map (g.composite_method tables id) ms) (function_law (type_routine tables (method id false x))))
composite_law tables id (s.init x ∷ ms) own i fs d rest =
    composite_law tables id ms own (option_or i (function_in (p.initializer id (type_routine tables (initializer_routine id x))))) fs d rest
    ∙ ap (λ z. walk (made own z (fs ++ filter_map (g.composite_method tables id) ms) (option_or d (first_some (g.composite_event tables id) ms))) rest)
    (or_more i (function_in (p.initializer id (type_routine tables (initializer_routine id x)))) (result_ok (type_routine tables (initializer_routine id x)))
    (first_some (g.composite_initializer tables id) ms) (initializer_law id (type_routine tables (initializer_routine id x))))
composite_law tables id (s.event x ∷ ms) own i fs d rest =
    composite_law tables id ms own i fs (option_or d (destroyed_in (ok_or (destroyed_event tables id x) 0 >>= (λ d. Ok (p.destroyed_piece d))))) rest
    ∙ ap (λ z. walk (made own (option_or i (first_some (g.composite_initializer tables id) ms)) (fs ++ filter_map (g.composite_method tables id) ms) z) rest)
    (or_more d (destroyed_in (ok_or (destroyed_event tables id x) 0 >>= (λ d. Ok (p.destroyed_piece d)))) (destroyed_event tables id x)
    (first_some (g.composite_event tables id) ms) (destroyed_law (destroyed_event tables id x)))

interface_law : (tables : ProgramTables) (id : TypeId) (ms : List s.InterfaceMemberTree) (own : TypeId) (fs : List e.MemberBody) (rest : List Piece)
    → interface_members ms (walk (made own None fs None) (flat_map (interface_member_pieces tables id) ms ++ rest)) ≡ walk (made own None (fs ++ filter_map (g.interface_method tables id) ms) None) rest
interface_law tables id [] own fs rest = ap (λ z. walk (made own None z None) rest) (sym (append-nil fs))
interface_law tables id (s.interface_field x ∷ ms) own fs rest = interface_law tables id ms own fs rest
interface_law tables id (s.interface_function x ∷ ms) own fs rest =
    interface_law tables id ms own (fs ++ option_to_list (option_map (member_body x.name) (function_in (p.function (type_routine tables (method id true x)))))) rest
    ∙ ap (λ z. walk (made own None z None) rest)
    (found_more (member_body x.name) fs (function_in (p.function (type_routine tables (method id true x)))) (result_ok (type_routine tables (method id true x)))
    (filter_map (g.interface_method tables id) ms) (function_law (type_routine tables (method id true x))))

-- ---- the contract

-- what a nested type leaves
composite_left : (tables : ProgramTables) (id : TypeId) (x : s.CompositeTree) (more rest : List Piece)
    → composite id x ((composite_pieces tables id x ++ more) ++ rest) ≡ walk (g.composite_body tables id x) (more ++ rest)
composite_left tables id x more rest =
    ap (λ z. composite_members x.members (walk (made id None [] None) z)) (append_assoc (flat_map (composite_member_pieces tables id) x.members) more rest) ∙ composite_law tables id x.members id None [] None (more ++ rest)

interface_left : (tables : ProgramTables) (id : TypeId) (x : s.InterfaceTree) (more rest : List Piece)
    → interface id x ((interface_pieces tables id x ++ more) ++ rest) ≡ walk (g.interface_body tables id x) (more ++ rest)
interface_left tables id x more rest =
    ap (λ z. interface_members x.members (walk (made id None [] None) z)) (append_assoc (flat_map (interface_member_pieces tables id) x.members) more rest) ∙ interface_law tables id x.members id [] (more ++ rest)

contract_law : (tables : ProgramTables) (id : TypeId) (ms : List s.ContractMemberTree) (own : TypeId) (i : Option e.FunctionBody) (fs : List e.MemberBody) (nested : List e.TypeBody) (rest : List Piece)
    → contract_members id ms (contract_walk (walk (made own i fs None) (flat_map (contract_member_pieces tables id) ms ++ rest)) nested)
    ≡ contract_walk (walk (made own (option_or i (first_some (g.contract_initializer tables id) ms)) (fs ++ filter_map (g.contract_method tables id) ms) None) rest) (nested ++ filter_map (g.nested_body tables id) ms)
contract_law tables id [] own i fs nested rest = nothing i
  where
    nothing : (i : Option e.FunctionBody) → contract_walk (walk (made own i fs None) rest) nested ≡ contract_walk (walk (made own (option_or i None) (fs ++ []) None) rest) (nested ++ [])
    nothing None = ap (λ z. contract_walk (walk (made own None z None) rest) nested) (sym (append-nil fs)) ∙ ap (λ z. contract_walk (walk (made own None (fs ++ []) None) rest) z) (sym (append-nil nested))
    nothing (Some i) = ap (λ z. contract_walk (walk (made own (Some i) z None) rest) nested) (sym (append-nil fs)) ∙ ap (λ z. contract_walk (walk (made own (Some i) (fs ++ []) None) rest) z) (sym (append-nil nested))
contract_law tables id (s.contract_field x ∷ ms) own i fs nested rest = contract_law tables id ms own i fs nested rest
contract_law tables id (s.contract_function x ∷ ms) own i fs nested rest =
    contract_law tables id ms own i (fs ++ option_to_list (option_map (member_body x.name) (function_in (p.function (type_routine tables (method id false x)))))) nested rest
    ∙ ap (λ z. contract_walk (walk (made own (option_or i (first_some (g.contract_initializer tables id) ms)) z None) rest) (nested ++ filter_map (g.nested_body tables id) ms))
    (found_more (member_body x.name) fs (function_in (p.function (type_routine tables (method id false x)))) (result_ok (type_routine tables (method id false x)))
    (filter_map (g.contract_method tables id) ms) (function_law (type_routine tables (method id false x))))
contract_law tables id (s.contract_init x ∷ ms) own i fs nested rest =
    contract_law tables id ms own (option_or i (function_in (p.initializer id (type_routine tables (initializer_routine id x))))) fs nested rest
    ∙ ap (λ z. contract_walk (walk (made own z (fs ++ filter_map (g.contract_method tables id) ms) None) rest) (nested ++ filter_map (g.nested_body tables id) ms))
    (or_more i (function_in (p.initializer id (type_routine tables (initializer_routine id x)))) (result_ok (type_routine tables (initializer_routine id x)))
    (first_some (g.contract_initializer tables id) ms) (initializer_law id (type_routine tables (initializer_routine id x))))
contract_law tables id (s.composite x ∷ ms) own i fs nested rest =
    ap (λ z. contract_members id ms (add_nested (contract_walk (walk (made own i fs None) rest) nested) z)) (composite_left tables (inside id x.name) x (flat_map (contract_member_pieces tables id) ms) rest)
    ∙ contract_law tables id ms own i fs (nested ++ g.composite_body tables (inside id x.name) x ∷ []) rest
    ∙ ap (λ z. contract_walk (walk (made own (option_or i (first_some (g.contract_initializer tables id) ms)) (fs ++ filter_map (g.contract_method tables id) ms) None) rest) z)
    (append_assoc nested (g.composite_body tables (inside id x.name) x ∷ []) (filter_map (g.nested_body tables id) ms))
contract_law tables id (s.interface x ∷ ms) own i fs nested rest =
    ap (λ z. contract_members id ms (add_nested (contract_walk (walk (made own i fs None) rest) nested) z)) (interface_left tables (inside id x.name) x (flat_map (contract_member_pieces tables id) ms) rest)
    ∙ contract_law tables id ms own i fs (nested ++ g.interface_body tables (inside id x.name) x ∷ []) rest
    ∙ ap (λ z. contract_walk (walk (made own (option_or i (first_some (g.contract_initializer tables id) ms)) (fs ++ filter_map (g.contract_method tables id) ms) None) rest) z)
    (append_assoc nested (g.interface_body tables (inside id x.name) x ∷ []) (filter_map (g.nested_body tables id) ms))
contract_law tables id (s.contract_event x ∷ ms) own i fs nested rest = contract_law tables id ms own i fs nested rest
contract_law tables id (s.enumeration x ∷ ms) own i fs nested rest = contract_law tables id ms own i fs nested rest
contract_law tables id (s.entitlement x ∷ ms) own i fs nested rest = contract_law tables id ms own i fs nested rest
contract_law tables id (s.mapping x ∷ ms) own i fs nested rest = contract_law tables id ms own i fs nested rest

contract_left : (tables : ProgramTables) (id : TypeId) (x : s.ContractTree) (rest : List Piece)
    → contract id x (contract_pieces tables x id ++ rest) ≡ contract_walk (walk (made id (first_some (g.contract_initializer tables id) x.members) (filter_map (g.contract_method tables id) x.members) None) rest)
    (filter_map (g.nested_body tables id) x.members)
contract_left tables id x rest = contract_law tables id x.members id None [] [] rest

-- ---- transactions

right_is : (names : List Name) (is_right : Bool) (body : PieceBody) → IsRight IllTyped (p.declaration names is_right body) → is_right ≡ true
right_is names true body h = refl
right_is names false body h = absurd (h (stop_at names 0) refl)

found_transaction : (names : List Name) (is_right : Bool) (body : PieceBody) → is_right ≡ true → transaction_in (p.declaration names is_right body).typing ≡ transaction_in (Ok body)
found_transaction names true body h = refl
found_transaction names false body h = cc

parts_law : {A B : Type 0} (first : Option A) (f : A → Piece) (a : Piece) (second : Option B) (g : B → Piece) (b : Piece) (more rest : List Piece)
    → others (others_if second (others (others_if first (((map f (option_to_list first) ++ a ∷ map g (option_to_list second) ++ b ∷ []) ++ more) ++ rest)))) ≡ more ++ rest
parts_law None f a None g b more rest = refl
parts_law None f a (Some y) g b more rest = refl
parts_law (Some x) f a None g b more rest = refl
parts_law (Some x) f a (Some y) g b more rest = refl

-- ---- programs

abbrev bodies : List e.TypeBody → List e.MemberBody → Option e.TransactionBody → e.ProgramBodies
bodies ts fs t = record { types = ts; functions = fs; transaction = t }

abbrev at_contract : ProgramTables → Option TypeId → ProgramTables
at_contract tables c = record tables { contract = c }

contract_case : (tables : ProgramTables) (c : Option TypeId) (x : s.ContractTree) (ts : List e.TypeBody) (fs : List e.MemberBody) (t : Option e.TransactionBody) (more rest : List Piece)
    → declaration c (s.contract x) (program_walk (bodies ts fs t) ((declaration_pieces (at_contract tables c) (s.contract x) ++ more) ++ rest))
    ≡ program_walk (bodies (ts ++ g.type_bodies (at_contract tables c) (s.contract x)) fs t) (more ++ rest)
contract_case tables None x ts fs t more rest = ap (λ z. program_walk (bodies z fs t) (more ++ rest)) (sym (append-nil ts))
contract_case tables (Some id) x ts fs t more rest =
    ap (λ z. declaration (Some id) (s.contract x) (program_walk (bodies ts fs t) z))
    (ap (λ z. (z ++ more) ++ rest) (append-nil (contract_pieces (at_contract tables (Some id)) x id)) ∙ append_assoc (contract_pieces (at_contract tables (Some id)) x id) more rest)
    ∙ ap (λ z. program_walk (add_contract z (bodies ts fs t)) z.own.left) (contract_left (at_contract tables (Some id)) id x (more ++ rest))

each_behind : (P : Piece → Type 0) (xs ys : List Piece) → Each P (xs ++ ys) → Each P ys
each_behind P [] ys h = h
each_behind P (x ∷ xs) ys h = each_behind P xs ys h.1

ended : (ts : List e.TypeBody) (fs : List e.MemberBody) (t : Option e.TransactionBody) (rest : List Piece) → program_walk (bodies ts fs t) rest ≡ program_walk (bodies (ts ++ []) (fs ++ []) (option_or t None)) rest
ended ts fs None rest = ap (λ z. program_walk (bodies z fs None) rest) (sym (append-nil ts)) ∙ ap (λ z. program_walk (bodies (ts ++ []) z None) rest) (sym (append-nil fs))
ended ts fs (Some t) rest = ap (λ z. program_walk (bodies z fs (Some t)) rest) (sym (append-nil ts)) ∙ ap (λ z. program_walk (bodies (ts ++ []) z (Some t)) rest) (sym (append-nil fs))

abbrev all_types : ProgramTables → List s.DeclTree → List e.TypeBody
all_types tables ds = flat_map (g.type_bodies tables) ds

abbrev all_functions : ProgramTables → List s.DeclTree → List e.MemberBody
all_functions tables ds = filter_map (g.top_body tables) ds

abbrev all_transactions : ProgramTables → List s.DeclTree → Option e.TransactionBody
all_transactions tables ds = first_some (g.transaction_in tables) ds

declarations_law : (tables : ProgramTables) (ds : List s.DeclTree) (ts : List e.TypeBody) (fs : List e.MemberBody) (t : Option e.TransactionBody) (rest : List Piece)
    → Each (IsRight IllTyped) (flat_map (declaration_pieces tables) ds)
    → declarations tables.contract ds (program_walk (bodies ts fs t) (flat_map (declaration_pieces tables) ds ++ rest))
    ≡ program_walk (bodies (ts ++ all_types tables ds) (fs ++ all_functions tables ds) (option_or t (all_transactions tables ds))) rest
declarations_law tables [] ts fs t rest h = ended ts fs t rest
declarations_law tables (s.contract x ∷ ds) ts fs t rest h =
    ap (declarations tables.contract ds) (contract_case tables tables.contract x ts fs t (flat_map (declaration_pieces tables) ds) rest)
    ∙ declarations_law tables ds (ts ++ g.type_bodies tables (s.contract x)) fs t rest (each_behind (IsRight IllTyped) (declaration_pieces tables (s.contract x)) (flat_map (declaration_pieces tables) ds) h)
    ∙ ap (λ z. program_walk (bodies z (fs ++ all_functions tables ds) (option_or t (all_transactions tables ds))) rest) (append_assoc ts (g.type_bodies tables (s.contract x)) (all_types tables ds))
declarations_law tables (s.top_function x ∷ ds) ts fs t rest h =
    declarations_law tables ds ts (fs ++ option_to_list (option_map (member_body x.name) (function_in (p.function (type_top_function tables x))))) t rest h.1
    ∙ ap (λ z. program_walk (bodies (ts ++ all_types tables ds) z (option_or t (all_transactions tables ds))) rest)
    (found_more (member_body x.name) fs (function_in (p.function (type_top_function tables x))) (result_ok (type_top_function tables x)) (all_functions tables ds) (function_law (type_top_function tables x)))
declarations_law tables (s.transaction x ∷ ds) ts fs t rest h =
    let body : PieceBody = p.transaction_piece (transaction_rules tables x) (transaction_body tables x) in
    let right : declaration_is_right tables x ≡ true = right_is (transaction_name ∷ []) (declaration_is_right tables x) body h.0 in
    let found : Option e.TransactionBody = transaction_in (p.declaration (transaction_name ∷ []) (declaration_is_right tables x) body).typing in
    ap (λ z. declarations tables.contract ds (program_walk (bodies ts fs (option_or t found)) z))
    (parts_law x.prepare (λ q. p.part (codes "prepare") (type_prepare tables x q)) (p.part (codes "pre") (type_pre tables x))
    x.execute (λ q. p.part (codes "execute") (type_execute tables x q)) (p.part (codes "post") (type_post tables x)) (flat_map (declaration_pieces tables) ds) rest)
    ∙ declarations_law tables ds ts fs (option_or t found) rest (each_behind (IsRight IllTyped) (p.transaction_pieces tables x) (flat_map (declaration_pieces tables) ds) h)
    ∙ ap (λ z. program_walk (bodies (ts ++ all_types tables ds) (fs ++ all_functions tables ds) z) rest)
    (or_more t found (Some (transaction_body tables x)) (all_transactions tables ds) (found_transaction (transaction_name ∷ []) (declaration_is_right tables x) body right))

pub gathers : (tables : ProgramTables) (program : s.ProgramTree) → Each (IsRight IllTyped) (program_pieces tables program)
    → gathered tables.contract program (program_pieces tables program) ≡ program_bodies tables program
gathers tables program h =
    ap (λ z. (declarations tables.contract program.declarations (program_walk (bodies [] [] None) z)).bodies) (sym (append-nil (program_pieces tables program)))
    ∙ ap (λ z. z.bodies) (declarations_law tables program.declarations [] [] None [] h)

pub gathers_so : (tables : ProgramTables) (program : s.ProgramTree) (pieces : List Piece) (b : e.ProgramBodies) → b ≡ gathered tables.contract program pieces
    → pieces ≡ program_pieces tables program → Each (IsRight IllTyped) pieces → b ≡ program_bodies tables program
gathers_so tables program pieces b h is right =
    h ∙ ap (gathered tables.contract program) is ∙ gathers tables program (subst (Each (IsRight IllTyped)) is right)

pub gathered_so : (tables : ProgramTables) (program : s.ProgramTree) (pieces : List Piece) (contract : Option TypeId) {B : Type 0} (view : B → e.ProgramBodies) (r : Result B AllocError)
    → contract ≡ tables.contract → IfOk r (λ b. view b ≡ gathered contract program pieces)
    → IfOk r (λ b. pieces ≡ program_pieces tables program → Each (IsRight IllTyped) pieces → view b ≡ program_bodies tables program)
gathered_so tables program pieces contract view (Ok b) same h = λ is right. gathers_so tables program pieces (view b) (h ∙ ap (λ z. gathered z program pieces) same) is right
gathered_so tables program pieces contract view (Err x) same h = h
