-- What lies in accounts, capabilities, contracts that are added, and heights.
use Rattle.std.specs.Prelude.{ℕ, Bool, true, false, [], ◌∷◌, Some, None, ◌≡◌, refl, codes}
use Rattle.cad_syntax.specs.Types.{PureType, basic, optional, array, reference, capability_of}
use Rattle.cad_syntax.specs.declared.kind.Kind.TheVariants as k
use Rattle.cad_syntax.specs.declared.types.Authorization.TheVariants.{Unauthorized}
use Rattle.cad_syntax.specs.declared.types.Basic.TheVariants as b
use Rattle.cad_grammar.specs.declared.expression.UnaryOperator.TheVariants as u
use Rattle.cad_grammar.specs.declared.expression.CastKind.TheVariants as c
use Rattle.cad_types.specs.declared.builtin.Builtin.TheVariants as m
use Rattle.cad_num.specs.Numbers as n
use Rattle.cad_declarations.specs.Typed as e
use Rattle.cad_values.specs.Values as v
use Rattle.cad_evaluation.proofs.SampleParts.{num, int, literal, int_type, named, variable, Seen, seen, gave, failed_with}
use Rattle.cad_evaluation.proofs.SampleForms.{bool_type, text_type, any_type, of_kind, ints, link, r_type, text, copy, list, new_r}
use Rattle.std.specs.Prelude.{zero, suc}
use Rattle.cad_syntax.specs.Types.{capability}
use Rattle.cad_syntax.specs.declared.address.Domain.TheVariants as d
use Rattle.cad_world.specs.Begin.{new_account}
use Rattle.cad_world.specs.Rows.{Row, node, stop, Tree, composite}
use Rattle.cad_world.specs.Rows as rows
use Rattle.cad_world.specs.State.{State, Contract, Outcome, ok, failed, limit, ill, bind}
use Rattle.cad_world.specs.Transfers.{transferred}
use Rattle.cad_world.specs.Trees.{tree_of, whole}
use Rattle.cad_evaluation.specs.Adding.{fitted, standing}
use Rattle.cad_evaluation.specs.Builtins.{home}
use Rattle.cad_evaluation.specs.Ending.{destroyed}
use Rattle.cad_evaluation.specs.Operators.{compared}
use Rattle.cad_evaluation.proofs.SampleParts.{script, state}
use Rattle.cad_evaluation.proofs.SampleContract.{right, r_id, kid_name, contract, unset_contract}
use Rattle.cad_evaluation.proofs.SampleAccount.{first_address, signer, call, given, to_public, save, load, stored, capabilities, int_reference, int_capability, issue, publish, controller, read, do_it, gives, run_in, with_account}
use Rattle.cad_evaluation.proofs.SamplesPlaces.{mutate}

-- a resource in another is saved and borrowed, the inner one is referred to, and then it is loaded and saved again
abbrev outer_and_inner : PureType → e.TermTree → Seen
outer_and_inner type t = seen (run_in new_account type
    (do_it (save (new_r 1 (new_r 2 e.nil)) r_type)
    ∷ e.declare 0 (variable 1 (link r_type)) (e.force (stored m.StorageBorrow (link r_type ∷ [])))
    ∷ e.declare 0 (variable 2 (optional (link r_type))) (e.on (e.target (copy 1)) (e.get kid_name Unauthorized))
    ∷ do_it (save (e.force (load r_type)) r_type)
    ∷ gives t type ∷ []) 90)

-- let r = borrow<&AnyStruct>; let s = r as! &Int; then a text is stored there
abbrev retold : PureType → e.TermTree → Seen
retold type t = with_account type
    (do_it (save (literal 7) int_type)
    ∷ e.declare 0 (variable 1 (link any_type)) (e.force (stored m.StorageBorrow (link any_type ∷ [])))
    ∷ e.declare 0 (variable 2 (link int_type)) (e.cast c.Forced (copy 1) (link int_type))
    ∷ do_it (load int_type) ∷ do_it (save (text (codes "t")) text_type) ∷ gives t type ∷ [])

-- what is got of a published capability with a right that it hasn't
abbrev asked : PureType → e.UseTree → Seen
asked type what = with_account type
    (do_it (save (literal 7) int_type) ∷ e.declare 0 (variable 1 int_capability) issue ∷ do_it (publish 1)
    ∷ gives (e.hold 2 (capability_of (reference right int_type)) (call capabilities m.CapabilitiesGet (reference right int_type ∷ []) (to_public ∷ [])) (e.on (e.variable 2) what)) type ∷ [])

abbrev other_path : e.TermTree
other_path = e.path (record { domain = d.Storage; identifier = named (codes "y") })

abbrev one_place : Tree → Row
one_place t = rows.alone t

abbrev nowhere_state : State
nowhere_state = state [] [] (script []) 9999

-- the contract with a resource in its value, which has the label 5
abbrev holding : Bool → Contract
holding runs = record contract { value = node [] 0 (composite r_id 0 (kid_name ∷ [])) (node (5 ∷ []) 0 (composite r_id 1 []) stop stop) stop; is_running = runs }

-- arrays in arrays, n of them round a number
abbrev nested : ℕ → Tree
nested zero = tree_of (int 7)
nested (suc n) = whole (rows.array int_type) (one_place (nested n))

abbrev nested_type : ℕ → PureType
nested_type zero = int_type
nested_type (suc n) = array (nested_type n)

-- the number of an error
abbrev number_of : {A : Type 0} → Outcome A → ℕ
number_of (ok a s) = 0
number_of (failed n) = n
number_of limit = 1
number_of ill = 2

-- ---- storage

-- check of what is stored
is_checked : with_account bool_type (do_it (save (literal 7) int_type) ∷ gives (stored m.StorageCheck (int_type ∷ [])) bool_type ∷ []) ≡ gave (v.bool true) 26
unfolding n.outcome
is_checked = refl

-- where nothing is stored: copy, borrow, type
copied_nothing : with_account (optional int_type) (gives (stored m.StorageCopy (int_type ∷ [])) (optional int_type) ∷ []) ≡ gave (v.nil) 28
unfolding n.outcome
copied_nothing = refl

borrowed_nothing : with_account (optional (link int_type)) (gives (stored m.StorageBorrow (link int_type ∷ [])) (optional (link int_type)) ∷ []) ≡ gave (v.nil) 28
unfolding n.outcome
borrowed_nothing = refl

type_of_nothing : with_account (optional (basic b.Meta)) (gives (stored m.StorageType []) (optional (basic b.Meta)) ∷ []) ≡ gave (v.nil) 28
unfolding n.outcome
type_of_nothing = refl

-- a reference to what lies in a stored resource is gone once that was loaded, also where it was saved again
inner_is_gone : outer_and_inner (basic (b.Number k.UInt64)) (read (e.force (copy 2)) m.ResourceUuid) ≡ failed_with 113
unfolding n.outcome
inner_is_gone = refl

-- and one to storage serves what is stored now
outer_is_served : outer_and_inner (basic (b.Number k.UInt64)) (read (copy 1) m.ResourceUuid) ≡ gave (v.number (num k.UInt64 2)) 51
unfolding n.outcome
outer_is_served = refl

-- a reference to storage that is cast borrows as the type of the cast from then on: 114 of that, and not of the other
cast_to_int : retold int_type (e.unary u.Dereference (copy 2)) ≡ failed_with 114
unfolding n.outcome
cast_to_int = refl

stays_of_any : retold bool_type (call (copy 1) m.IsInstance [] (given (e.meta text_type) (basic b.Meta) ∷ [])) ≡ gave (v.bool true) 16
unfolding n.outcome
stays_of_any = refl

-- a cast of it looks at what is stored: 114
cast_looks : with_account (link int_type) (do_it (save (literal 7) int_type) ∷ e.declare 0 (variable 1 (link any_type)) (e.force (stored m.StorageBorrow (link any_type ∷ []))) ∷ do_it (load int_type) ∷ gives (e.cast c.Forced (copy 1) (link int_type)) (link int_type) ∷ []) ≡ failed_with 114
unfolding n.outcome
cast_looks = refl

-- a container that it comes to doesn't
kept_without_look : with_account (basic b.Void) (do_it (save (literal 7) int_type) ∷ e.declare 0 (variable 1 (link int_type)) (e.force (stored m.StorageBorrow (link int_type ∷ []))) ∷ do_it (load int_type) ∷ e.declare 0 (variable 2 (array (link int_type))) (e.array (link int_type) e.no_terms) ∷ gives (e.on (e.variable 2) (e.builtin_call m.ArrayAppend [] (e.arguments_of (given (copy 1) (link int_type) ∷ [])))) (basic b.Void) ∷ []) ≡ gave (v.void) 21
unfolding n.outcome
kept_without_look = refl

-- r[0] = e where e loads what r names and saves it again: the node that was found first is gone, 113
replaced_below : with_account (basic b.Void) (do_it (save (list (literal 1 ∷ [])) ints) ∷ e.declare 0 (variable 1 (reference mutate ints)) (e.force (stored m.StorageBorrow (reference mutate ints ∷ []))) ∷ e.assign 0 (e.element (e.target (copy 1)) ints (literal 0)) (e.hold 2 ints (e.force (load ints)) (e.hold 3 (basic b.Void) (save (copy 2) ints) (literal 5))) int_type ∷ []) ≡ failed_with 113
unfolding n.outcome
replaced_below = refl

-- the owner of a stored resource
owned : seen (run_in new_account bool_type (do_it (save (new_r 1 e.nil) r_type) ∷ e.declare 0 (variable 1 (optional (link (basic b.Account)))) (read (e.force (stored m.StorageBorrow (link r_type ∷ []))) m.ResourceOwner) ∷ gives (e.is_nil (e.variable 1) true) bool_type ∷ []) 30) ≡ gave (v.bool true) 18
unfolding n.outcome
owned = refl

-- ---- capabilities and controllers

-- a capability has the address of its account
address_of_capability : with_account (of_kind k.Address) (gives (e.hold 1 int_capability issue (e.on (e.variable 1) (e.builtin_field m.CapabilityAddress))) (of_kind k.Address) ∷ []) ≡ gave (v.address first_address) 28
unfolding n.outcome
address_of_capability = refl

-- with more rights than were published: number 0, and nothing is lent
number_of_none : asked (of_kind k.UInt64) (e.builtin_field m.CapabilityId) ≡ gave (v.number (num k.UInt64 0)) 22
unfolding n.outcome
number_of_none = refl

lends_nothing : asked (optional (reference right int_type)) (e.builtin_call m.CapabilityBorrow [] e.no_arguments) ≡ gave (v.nil) 21
unfolding n.outcome
lends_nothing = refl

-- what is published is there
published : with_account bool_type (e.declare 0 (variable 1 int_capability) issue ∷ do_it (publish 1) ∷ gives (call capabilities m.CapabilitiesExists [] (to_public ∷ [])) bool_type ∷ []) ≡ gave (v.bool true) 24
unfolding n.outcome
published = refl

-- and where nothing is, nothing is taken back
none_unpublished : with_account (optional capability) (gives (call capabilities m.CapabilitiesUnpublish [] (to_public ∷ [])) (optional capability) ∷ []) ≡ gave (v.nil) 28
unfolding n.outcome
none_unpublished = refl

-- a controller tells its number
controller_number : with_account (of_kind k.UInt64) (do_it issue ∷ gives (read controller m.ControllerCapabilityId) (of_kind k.UInt64) ∷ []) ≡ gave (v.number (num k.UInt64 1)) 26
unfolding n.outcome
controller_number = refl

-- after its controller leads to a value of another type a capability lends nothing
lent_elsewhere : with_account bool_type (do_it (save (literal 7) int_type) ∷ e.declare 0 (variable 1 int_capability) issue ∷ do_it (call (read signer m.AccountStorage) m.StorageSave (text_type ∷ []) (given (text (codes "t")) text_type ∷ given other_path (basic b.StoragePath) ∷ [])) ∷ do_it (call controller m.ControllerRetarget [] (given other_path (basic b.StoragePath) ∷ [])) ∷ e.declare 0 (variable 2 (optional int_reference)) (e.on (e.variable 1) (e.builtin_call m.CapabilityBorrow [] e.no_arguments)) ∷ gives (e.is_nil (e.variable 2) false) bool_type ∷ []) ≡ gave (v.bool true) 16
unfolding n.outcome
lent_elsewhere = refl

-- ---- accounts as values

-- a reference to an account keeps what it is, whatever it was cast to
account_back : with_account (of_kind k.Address) (gives (read (e.cast c.Forced (e.cast c.Static (e.builtin m.GetAccount [] (e.arguments_of (given (e.address first_address) (of_kind k.Address) ∷ []))) (link any_type)) (link (basic b.Account))) m.AccountAddress) (of_kind k.Address) ∷ []) ≡ gave (v.address first_address) 28
unfolding n.outcome
account_back = refl

-- ---- contracts that are added

-- an Int fits a parameter Int?, and is wrapped
fitted_wrapped : fitted [] (optional int_type ∷ []) (one_place (tree_of (int 5))) nowhere_state ≡ ok (one_place (tree_of (v.some (int 5)))) nowhere_state
fitted_wrapped = refl

-- a contract whose initializer runs isn't among those beside which a code is judged
standing_alone : standing (unset_contract ∷ contract ∷ []) ≡ contract ∷ []
standing_alone = refl

-- nor does a resource in its value have an owner yet
not_yet_owned : home (state [] (holding true ∷ []) (script []) 0) 5 ≡ None
not_yet_owned = refl

owned_by_contract : home (state [] (holding false ∷ []) (script []) 0) 5 ≡ Some first_address
owned_by_contract = refl

-- ---- heights

-- a value of height 256 is handed over, and one of 257 isn't: 123
handed_over : number_of (transferred (nested_type 255) (nested 255) nowhere_state) ≡ 0
handed_over = refl

too_high : number_of (transferred (nested_type 256) (nested 256) nowhere_state) ≡ 123
too_high = refl

-- the height counts before the value is wrapped, and then with the next transfer
wrapped_high : number_of (transferred (optional (nested_type 255)) (nested 255) nowhere_state) ≡ 0
wrapped_high = refl

handed_twice : number_of (bind (transferred (optional (nested_type 255)) (nested 255) nowhere_state) (transferred (optional (nested_type 255)))) ≡ 123
handed_twice = refl

-- it is compared by no operator
compared_high : number_of (compared (nested 256) (nested 0) nowhere_state) ≡ 123
compared_high = refl

-- and 123 of what ends comes before its units
ended_high : number_of (destroyed (λ callee r s. limit) (nested 256) nowhere_state) ≡ 123
ended_high = refl
