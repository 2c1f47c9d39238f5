-- Storage, capabilities, controllers and contracts that are added: the value and the units left of 30, or an error.
use Rattle.std.specs.Prelude.{ℕ, ◌-◌, ◌^◌, true, false, [], ◌∷◌, ◌≡◌, refl, codes}
use Rattle.cad_syntax.specs.Types.{basic, optional, array, reference, capability, capability_of}
use Rattle.cad_syntax.specs.declared.address.Domain.TheVariants as d
use Rattle.cad_syntax.specs.declared.kind.Kind.TheVariants as k
use Rattle.cad_syntax.specs.declared.types.Authorization.TheVariants.{Unauthorized}
use Rattle.cad_syntax.specs.declared.types.Basic.TheVariants as b
use Rattle.cad_types.specs.declared.builtin.Builtin.TheVariants as m
use Rattle.cad_grammar.specs.declared.expression.UnaryOperator.TheVariants as u
use Rattle.cad_num.specs.Numbers as n
use Rattle.cad_declarations.specs.Typed as e
use Rattle.cad_values.specs.Values as v
use Rattle.cad_world.specs.Begin.{new_account}
use Rattle.cad_evaluation.proofs.SampleParts.{num, int, literal, int_type, named, variable, Seen, seen, gave, failed_with, ill_typed}
use Rattle.cad_evaluation.proofs.SampleContract.{right}
use Rattle.cad_evaluation.proofs.SampleAccount.{first_address, d_id, d_n, place, signer, call, given, storage_path, to_storage, to_public, save, load, stored, capabilities, controllers, int_reference, int_capability, issue, publish, controller, read, add, do_it, gives, run_in, with_account}

-- ---- storage

-- save, and load: it has gone then
loaded : with_account (optional int_type) (do_it (save (literal 7) int_type) ∷ gives (load int_type) (optional int_type) ∷ []) ≡ gave (v.some (int 7)) 26
unfolding n.outcome
loaded = refl

gone : with_account (optional int_type) (do_it (save (literal 7) int_type) ∷ do_it (load int_type) ∷ gives (load int_type) (optional int_type) ∷ []) ≡ gave v.nil 24
unfolding n.outcome
gone = refl

-- the argument's transfer, the call, and the parts of what is saved
saved_array : with_account (basic b.Void) (do_it (save (e.array int_type (e.terms (literal 1) (e.terms (literal 2) (e.terms (literal 3) e.no_terms)))) (array int_type)) ∷ []) ≡ gave v.void 22
unfolding n.outcome
saved_array = refl

-- a path that is taken: 111
occupied : with_account (basic b.Void) (do_it (save (literal 7) int_type) ∷ do_it (save (literal 8) int_type) ∷ []) ≡ failed_with 111
unfolding n.outcome
occupied = refl

-- a value of another type: 112
of_another_type : with_account (optional (basic b.String)) (do_it (save (literal 7) int_type) ∷ gives (load (basic b.String)) (optional (basic b.String)) ∷ []) ≡ failed_with 112
unfolding n.outcome
of_another_type = refl

-- an Int isn't an Int?
not_wrapped : with_account (optional (optional int_type)) (do_it (save (literal 7) int_type) ∷ gives (load (optional int_type)) (optional (optional int_type)) ∷ []) ≡ failed_with 112
unfolding n.outcome
not_wrapped = refl

copied : with_account (optional int_type) (do_it (save (literal 7) int_type) ∷ do_it (stored m.StorageCopy (int_type ∷ [])) ∷ gives (stored m.StorageCopy (int_type ∷ [])) (optional int_type) ∷ []) ≡ gave (v.some (int 7)) 24
unfolding n.outcome
copied = refl

checked : with_account (basic b.Bool) (do_it (save (literal 7) int_type) ∷ gives (stored m.StorageCheck (basic b.String ∷ [])) (basic b.Bool) ∷ []) ≡ gave (v.bool false) 26
unfolding n.outcome
checked = refl

type_told : with_account (optional (basic b.Meta)) (do_it (save (literal 7) int_type) ∷ gives (stored m.StorageType []) (optional (basic b.Meta)) ∷ []) ≡ gave (v.some (v.meta int_type)) 26
unfolding n.outcome
type_told = refl

-- a reference to storage serves what is stored when it is used
borrowed : with_account int_type (do_it (save (literal 7) int_type) ∷ e.declare 0 (variable 1 int_reference) (e.force (stored m.StorageBorrow (int_reference ∷ []))) ∷ do_it (load int_type) ∷ do_it (save (literal 8) int_type) ∷ gives (e.unary u.Dereference (e.copy (e.variable 1))) int_type ∷ []) ≡ gave (int 8) 21
unfolding n.outcome
borrowed = refl

-- and is 114 where nothing is
nothing_there : with_account int_type (do_it (save (literal 7) int_type) ∷ e.declare 0 (variable 1 int_reference) (e.force (stored m.StorageBorrow (int_reference ∷ []))) ∷ do_it (load int_type) ∷ gives (e.unary u.Dereference (e.copy (e.variable 1))) int_type ∷ []) ≡ failed_with 114
unfolding n.outcome
nothing_there = refl

-- borrow of another type: 112
borrowed_as_another : with_account (optional (reference Unauthorized (basic b.String))) (do_it (save (literal 7) int_type) ∷ gives (stored m.StorageBorrow (reference Unauthorized (basic b.String) ∷ [])) (optional (reference Unauthorized (basic b.String))) ∷ []) ≡ failed_with 112
unfolding n.outcome
borrowed_as_another = refl

-- ---- capabilities

-- numbers count up
numbers : with_account (basic (b.Number k.UInt64)) (do_it issue ∷ gives (e.hold 1 int_capability issue (e.on (e.variable 1) (e.builtin_field m.CapabilityId))) (basic (b.Number k.UInt64)) ∷ []) ≡ gave (v.number (num k.UInt64 2)) 26
unfolding n.outcome
numbers = refl

-- no number is left: 135
spent : seen (run_in (record new_account { next_controller = 2 ^ 64 - 1 }) (basic b.Void) (do_it issue ∷ []) 9) ≡ failed_with 135
unfolding n.outcome
spent = refl

-- a second one under a path: 116
published_twice : with_account (basic b.Void) (e.declare 0 (variable 1 int_capability) issue ∷ do_it (publish 1) ∷ do_it (publish 1) ∷ []) ≡ failed_with 116
unfolding n.outcome
published_twice = refl

-- number 0: 117
published_none : with_account (basic b.Void) (e.declare 0 (variable 1 int_capability) (call capabilities m.CapabilitiesGet (int_reference ∷ []) (to_public ∷ [])) ∷ do_it (publish 1) ∷ []) ≡ failed_with 117
unfolding n.outcome
published_none = refl

-- what is published lends what is stored
lent : with_account int_type (do_it (save (literal 7) int_type) ∷ e.declare 0 (variable 1 int_capability) issue ∷ do_it (publish 1) ∷ gives (e.unary u.Dereference (e.force (call capabilities m.CapabilitiesBorrow (int_reference ∷ []) (to_public ∷ [])))) int_type ∷ []) ≡ gave (int 7) 22
unfolding n.outcome
lent = refl

-- more rights than were published: number 0
not_granted : with_account (basic b.Bool) (do_it (save (literal 7) int_type) ∷ e.declare 0 (variable 1 int_capability) issue ∷ do_it (publish 1) ∷ gives (e.hold 2 (capability_of (reference right int_type)) (call capabilities m.CapabilitiesGet (reference right int_type ∷ []) (to_public ∷ [])) (e.on (e.variable 2) (e.builtin_call m.CapabilityCheck [] e.no_arguments))) (basic b.Bool) ∷ []) ≡ gave (v.bool false) 21
unfolding n.outcome
not_granted = refl

unpublished : with_account (basic b.Bool) (e.declare 0 (variable 1 int_capability) issue ∷ do_it (publish 1) ∷ do_it (call capabilities m.CapabilitiesUnpublish [] (to_public ∷ [])) ∷ gives (call capabilities m.CapabilitiesExists [] (to_public ∷ [])) (basic b.Bool) ∷ []) ≡ gave (v.bool false) 22
unfolding n.outcome
unpublished = refl

-- ---- controllers

-- a deleted controller lends nothing
deleted : with_account (basic b.Bool) (do_it (save (literal 7) int_type) ∷ e.declare 0 (variable 1 int_capability) issue ∷ do_it (call controller m.ControllerDelete [] []) ∷ gives (e.on (e.variable 1) (e.builtin_call m.CapabilityCheck [] e.no_arguments)) (basic b.Bool) ∷ []) ≡ gave (v.bool false) 21
unfolding n.outcome
deleted = refl

-- and its use is 113
used_after : with_account (basic (b.Number k.UInt64)) (do_it issue ∷ e.declare 0 (variable 1 (reference Unauthorized (basic b.StorageCapabilityController))) controller ∷ do_it (call (e.copy (e.variable 1)) m.ControllerDelete [] []) ∷ gives (read (e.copy (e.variable 1)) m.ControllerCapabilityId) (basic (b.Number k.UInt64)) ∷ []) ≡ failed_with 113
unfolding n.outcome
used_after = refl

tagged : with_account (basic b.String) (do_it issue ∷ do_it (call controller m.ControllerSetTag [] (given (e.string (codes "t")) (basic b.String) ∷ [])) ∷ gives (read controller m.ControllerTag) (basic b.String) ∷ []) ≡ gave (v.string (codes "t")) 21
unfolding n.outcome
tagged = refl

-- a retargeted controller leads elsewhere
retargeted : with_account (basic b.StoragePath) (do_it issue ∷ do_it (call controller m.ControllerRetarget [] (given (e.path (record { domain = d.Storage; identifier = named (codes "y") })) (basic b.StoragePath) ∷ [])) ∷ gives (call controller m.ControllerTarget [] []) (basic b.StoragePath) ∷ []) ≡ gave (v.path (record { domain = d.Storage; identifier = named (codes "y") })) 22
unfolding n.outcome
retargeted = refl

-- what may be borrowed, and a number that no controller has
borrow_type : with_account (basic b.Meta) (do_it issue ∷ gives (read controller m.ControllerBorrowType) (basic b.Meta) ∷ []) ≡ gave (v.meta int_reference) 26
unfolding n.outcome
borrow_type = refl

no_controller : with_account (optional (reference Unauthorized (basic b.StorageCapabilityController))) (gives (call controllers m.StorageCapabilitiesGetController [] (given (e.number (num k.UInt64 5)) (basic (b.Number k.UInt64)) ∷ [])) (optional (reference Unauthorized (basic b.StorageCapabilityController))) ∷ []) ≡ gave v.nil 28
unfolding n.outcome
no_controller = refl

-- ---- accounts

address_told : with_account (basic (b.Number k.Address)) (gives (read signer m.AccountAddress) (basic (b.Number k.Address)) ∷ []) ≡ gave (v.address first_address) 29
unfolding n.outcome
address_told = refl

-- an account that isn't there looks empty
empty_account : with_account (basic b.Bool) (gives (call (read (e.builtin m.GetAccount [] (e.arguments_of (given (e.address (record { 0 = 9 })) (basic (b.Number k.Address)) ∷ []))) m.AccountStorage) m.StorageCheck (int_type ∷ []) (to_storage ∷ [])) (basic b.Bool) ∷ []) ≡ gave (v.bool false) 27
unfolding n.outcome
empty_account = refl

-- without the right that a call needs
without_right : with_account (basic b.Void) (do_it (call (read (e.builtin m.GetAccount [] (e.arguments_of (given (e.address first_address) (basic (b.Number k.Address)) ∷ []))) m.AccountStorage) m.StorageLoad (int_type ∷ []) (to_storage ∷ [])) ∷ []) ≡ ill_typed
unfolding n.outcome
without_right = refl

-- ---- contracts that are added

added : with_account int_type (do_it (add (codes "D") 1 (given (literal 5) int_type ∷ [])) ∷ gives d_n int_type ∷ []) ≡ gave (int 5) 24
unfolding n.outcome
added = refl

-- the name is taken: 118, before the code is looked at
taken : with_account (basic b.Void) (do_it (add (codes "C") 9 []) ∷ []) ≡ failed_with 118
unfolding n.outcome
taken = refl

-- the code isn't accepted: 119, before its name is
not_accepted : with_account (basic b.Void) (do_it (add (codes "E") 9 []) ∷ []) ≡ failed_with 119
unfolding n.outcome
not_accepted = refl

-- of another name: 120, before the arguments
of_another_name : with_account (basic b.Void) (do_it (add (codes "E") 1 []) ∷ []) ≡ failed_with 120
unfolding n.outcome
of_another_name = refl

-- no argument, and one of another type: 125
without_argument : with_account (basic b.Void) (do_it (add (codes "D") 1 []) ∷ []) ≡ failed_with 125
unfolding n.outcome
without_argument = refl

unfit_argument : with_account (basic b.Void) (do_it (add (codes "D") 1 (given (e.bool true) (basic b.Bool) ∷ [])) ∷ []) ≡ failed_with 125
unfolding n.outcome
unfit_argument = refl

-- the name of a contract whose initializer runs: 118
taken_by_itself : with_account (basic b.Void) (do_it (add (codes "D") 2 (given (literal 5) int_type ∷ [])) ∷ []) ≡ failed_with 118
unfolding n.outcome
taken_by_itself = refl

-- a field that isn't set: 132
unset : with_account (basic b.Void) (do_it (add (codes "D") 3 (given (literal 5) int_type ∷ [])) ∷ []) ≡ failed_with 132
unfolding n.outcome
unset = refl
