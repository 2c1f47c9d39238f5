-- Commands and their replies, each list of commands from the World without accounts.
use Rattle.std.specs.Prelude.{ℕ, true, false, [], ◌∷◌, ◌≡◌, refl, codes}
use Rattle.cad_syntax.specs.declared.address.Address.{Address}
use Rattle.cad_num.specs.Numbers as n
use Rattle.cad_values.specs.Values.{PureValue}
use Rattle.cad_values.specs.Values as v
use Rattle.cad_syntax.specs.Types.{basic}
use Rattle.cad_syntax.specs.declared.kind.Kind.TheVariants as k
use Rattle.cad_syntax.specs.declared.types.Basic.TheVariants as b
use Rattle.cad_evaluation.proofs.SampleParts.{int, num, int_type}
use Rattle.cad_evaluation.proofs.SampleContract.{r_id, gone_id, contract, event}
use Rattle.cad_runs.specs.Commands.{Command, account, deploy, transaction, script, refused, Reply, account_made, result, ran, rejected, failed, limit, bad}
use Rattle.cad_runs.specs.Batch.{one_more}
use Rattle.cad_runs.proofs.SampleCommands.{refusal, replies, replies_beside, surroundings, script_program}
use Rattle.cad_world.specs.Begin.{begun, empty_world, new_account}
use Rattle.cad_world.specs.Fits.{have_identities}
use Rattle.cad_world.specs.Registers.{size}
use Rattle.cad_world.specs.Shapes.{shapes}
use Rattle.cad_runs.specs.Run.{told}
use Rattle.cad_world.specs.Rows.{Tree, alone}
use Rattle.cad_world.specs.State as run
use Rattle.cad_world.specs.State.{State}
use Rattle.cad_world.specs.Storable.{values_last}
use Rattle.cad_world.specs.Trees.{tree_of}

abbrev one : Address
one = record { 0 = 1 }

abbrev two : Address
two = record { 0 = 2 }

-- a transaction signed by the first account
abbrev save : ℕ → ℕ → Command PureValue
save code value = transaction (code ∷ []) (int value ∷ []) (one ∷ []) 9

abbrev nothing : Reply PureValue
nothing = ran [] [] []

abbrev stored : Tree → State
stored t = begun (script_program [] int_type []) 9 (record empty_world { accounts = record new_account { identifiers = record { 0 = codes "x" } ∷ []; stored = alone t } ∷ [] })

-- accounts have the addresses from 1
accounts : replies (account ∷ account ∷ []) ≡ account_made 1 ∷ account_made 2 ∷ []
accounts = refl

-- what a transaction saves stays, and the path is taken
saved : replies (account ∷ save 1 7 ∷ save 1 8 ∷ []) ≡ account_made 1 ∷ nothing ∷ failed 111 ∷ []
unfolding n.outcome
saved = refl

-- a transaction that fails leaves the World: the path is free
failed_leaves : replies (account ∷ save 2 7 ∷ save 1 8 ∷ []) ≡ account_made 1 ∷ failed 109 ∷ nothing ∷ []
unfolding n.outcome
failed_leaves = refl

-- a reference in an account at the end: 133
not_storable : replies (account ∷ save 3 7 ∷ save 1 8 ∷ []) ≡ account_made 1 ∷ failed 133 ∷ nothing ∷ []
unfolding n.outcome
not_storable = refl

-- before the run: rejected, 26 by the kind of program, by a signer and by their number, 25, 24
refusals : replies (account ∷ transaction (9 ∷ []) [] [] 9 ∷ transaction (4 ∷ []) [] [] 9 ∷ transaction (1 ∷ []) (int 7 ∷ []) (two ∷ []) 9
    ∷ transaction (1 ∷ []) [] [] 9 ∷ transaction (1 ∷ []) [] (one ∷ []) 9 ∷ transaction (1 ∷ []) (v.bool true ∷ []) (one ∷ []) 9 ∷ refused 21 ∷ [])
    ≡ account_made 1 ∷ rejected refusal ∷ bad 26 ∷ bad 26 ∷ bad 26 ∷ bad 25 ∷ bad 24 ∷ bad 21 ∷ []
unfolding n.outcome
refusals = refl

-- scripts: the result, 25, 24, 26, and 134 of a result without a form
scripts : replies (script (4 ∷ []) (int 7 ∷ []) 9 ∷ script (4 ∷ []) [] 9 ∷ script (4 ∷ []) (v.bool true ∷ []) 9 ∷ script (1 ∷ []) [] 9 ∷ script (5 ∷ []) [] 9 ∷ [])
    ≡ result (int 7) ∷ bad 25 ∷ bad 24 ∷ bad 26 ∷ failed 134 ∷ []
unfolding n.outcome
scripts = refl

-- a loop without an end
limited : replies (script (6 ∷ []) [] 5 ∷ []) ≡ limit ∷ []
unfolding n.outcome
limited = refl

-- deployments: 26 without the account, 118 before rejected, rejected, 120, 125
deploys : replies (account ∷ deploy two (codes "D") (1 ∷ []) (int 5 ∷ []) 9 ∷ deploy one (codes "D") (1 ∷ []) (int 5 ∷ []) 9 ∷ deploy one (codes "D") (9 ∷ []) [] 9
    ∷ deploy one (codes "E") (9 ∷ []) [] 9 ∷ deploy one (codes "E") (1 ∷ []) [] 9 ∷ [])
    ≡ account_made 1 ∷ bad 26 ∷ nothing ∷ failed 118 ∷ rejected refusal ∷ failed 120 ∷ []
unfolding n.outcome
deploys = refl

arguments : replies (account ∷ deploy one (codes "D") (1 ∷ []) [] 9 ∷ deploy one (codes "D") (1 ∷ []) (v.bool true ∷ []) 9 ∷ []) ≡ account_made 1 ∷ failed 125 ∷ failed 125 ∷ []
unfolding n.outcome
arguments = refl

-- a contract whose initializer adds one of its own name: 118; one that reads what isn't set: 132
initializers : replies (account ∷ deploy one (codes "D") (2 ∷ []) (int 5 ∷ []) 9 ∷ deploy one (codes "D") (3 ∷ []) (int 5 ∷ []) 9 ∷ []) ≡ account_made 1 ∷ failed 118 ∷ failed 132 ∷ []
unfolding n.outcome
initializers = refl

-- a field, a precondition, a value of `before` and a postcondition; an entry, a statement and two conditions take 4 units
conditions : replies (account ∷ save 7 7 ∷ save 7 0 ∷ save 7 8 ∷ transaction (7 ∷ []) (int 7 ∷ []) (one ∷ []) 4 ∷ transaction (7 ∷ []) (int 7 ∷ []) (one ∷ []) 3 ∷ [])
    ≡ account_made 1 ∷ nothing ∷ failed 108 ∷ failed 108 ∷ nothing ∷ limit ∷ []
unfolding n.outcome
conditions = refl

-- an entry of a deployment takes a unit, and the statement of its initializer
deploy_units : replies (account ∷ deploy one (codes "D") (1 ∷ []) (int 5 ∷ []) 1 ∷ deploy one (codes "D") (1 ∷ []) (int 5 ∷ []) 2 ∷ []) ≡ account_made 1 ∷ limit ∷ nothing ∷ []
unfolding n.outcome
deploy_units = refl

-- what comes with a request takes no units
argument_units : replies (script (13 ∷ []) (v.array int_type (v.values_of (int 1 ∷ int 2 ∷ [])) ∷ []) 2 ∷ []) ≡ result (int 1) ∷ []
unfolding n.outcome
argument_units = refl

-- a command that fails takes no identity
identities : replies_beside (transaction (11 ∷ []) (int 0 ∷ []) (one ∷ []) 30 ∷ transaction (10 ∷ []) (int 0 ∷ []) (one ∷ []) 30 ∷ transaction (10 ∷ []) (int 0 ∷ []) (one ∷ []) 30
    ∷ transaction (12 ∷ []) (int 0 ∷ []) (one ∷ []) 30 ∷ [])
    ≡ failed 109 ∷ ran (1 ∷ []) [] [] ∷ failed 111 ∷ ran (2 ∷ []) (2 ∷ []) (event gone_id (v.number (num k.UInt64 2)) ∷ []) ∷ []
unfolding n.outcome
identities = refl

-- a result has a form where Void lies in a container, and none where a type does
void_told : told (tree_of (v.array (basic b.Void) (v.values_of (v.void ∷ [])))) (stored (tree_of v.nil)) ≡ run.ok (v.array (basic b.Void) (v.values_of (v.void ∷ []))) (stored (tree_of v.nil))
void_told = refl

type_untold : told (tree_of (v.array (basic b.Meta) (v.values_of (v.meta int_type ∷ [])))) (stored (tree_of v.nil)) ≡ run.failed 134
type_untold = refl

-- a resource in a World has an identity
without_identity : have_identities (shapes (contract ∷ [])) (alone (tree_of (v.composite r_id 0 v.no_fields))) ≡ false
without_identity = refl

with_identity : have_identities (shapes (contract ∷ [])) (alone (tree_of (v.composite r_id 1 v.no_fields))) ≡ true
with_identity = refl

-- one account: 67 bytes
one_account : size surroundings.coding (one_more surroundings empty_world) ≡ 67
one_account = refl

-- ---- the end of a command

-- a value of height 257: 123
too_high : values_last (stored (record (tree_of (int 7)) { optionals = 256 })) ≡ run.failed 123
too_high = refl

-- 133 comes before
void_first : values_last (stored (record (tree_of v.void) { optionals = 256 })) ≡ run.failed 133
void_first = refl

high_enough : values_last (stored (record (tree_of (int 7)) { optionals = 255 })) ≡ run.ok tt (stored (record (tree_of (int 7)) { optionals = 255 }))
high_enough = refl
