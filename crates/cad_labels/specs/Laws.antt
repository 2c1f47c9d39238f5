-- A label that was given is never given again, and stands on one node: of the actions that name nodes, take values out of places and
-- bring values to places.
use Rattle.std.specs.Prelude.{◌≡◌, ℕ, suc, ◌≤◌, Bool, List, Option, Some, None}
use Rattle.cad_syntax.specs.Types.{PureType}
use Rattle.cad_syntax.specs.declared.address.Address.{Address}
use Rattle.cad_syntax.specs.declared.text.Name.{Name}
use Rattle.cad_syntax.specs.declared.type_id.TypeId.{TypeId}
use Rattle.cad_world.specs.Locations.{Location, name}
use Rattle.cad_world.specs.Marks.{marks, labels, AreGivenOnce}
use Rattle.cad_world.specs.Receivers.{Receiver, look_at}
use Rattle.cad_values.specs.Values.{PureValue}
use Rattle.cad_world.specs.Labels.{at, with_account}
use Rattle.cad_world.specs.Rows.{Row, Tree, Found}
use Rattle.cad_world.specs.State.{Contract, Program, World, State, Outcome, ok, failed, limit, ill, Action}
use Rattle.cad_world.specs.Begin.{begun, IsKept}
use Rattle.cad_evaluation.specs.Adding.{install}
use Rattle.cad_evaluation.specs.Bodies.{entered, left, result_aside, result_taken, linked_result}
use Rattle.cad_evaluation.specs.Callees.{Callee, Calls}
use Rattle.cad_evaluation.specs.Containers.{array_concat, array_slice, array_reverse, array_append, array_append_all, array_insert, array_remove, array_remove_first, array_remove_last, dictionary_keys, dictionary_insert, dictionary_remove}
use Rattle.cad_evaluation.specs.Storage.{storing, save, load, copy}
use Rattle.cad_evaluation.specs.Changing.{take, fill, assigned, force_assigned, exchanged, swapped}
use Rattle.cad_evaluation.specs.Ending.{ended, destroyed}
use Rattle.cad_evaluation.specs.Making.{begin, finish}

-- a value in hand: no part of it has a label
abbrev pub HasNone : Tree → Type 0
HasNone t = (p : ℕ) → marks p t.parts ≡ 0

-- The state v comes behind s: no label stands twice in it, and one that had been given by then stands no more often than it did.
-- So one that was gone stands nowhere again.
abbrev pub Follows : State → State → Type 0
Follows s v = AreGivenOnce v × (s.next_label ≤ v.next_label) × ((p : ℕ) → suc p ≤ s.next_label → labels p v ≤ labels p s)

-- a label that had been given and was gone leads nowhere
abbrev pub GoneStaysGone : Type 0
GoneStaysGone = (s v : State) (p : ℕ) → Follows s v → suc p ≤ s.next_label → at p s ≡ None → at p v ≡ None

-- what is found was named by a label that had been given
abbrev pub FoundWasGiven : Type 0
FoundWasGiven = (s : State) (p : ℕ) (f : Found) → AreGivenOnce s → at p s ≡ Some f → suc p ≤ s.next_label

-- So a reference that led to a node, and leads nowhere since, never leads anywhere again.
abbrev pub ReferencesEndOnce : Type 0
ReferencesEndOnce = (s v w : State) (p : ℕ) (f : Found) → AreGivenOnce s → at p s ≡ Some f → Follows s v → at p v ≡ None → Follows v w → at p w ≡ None

-- where a value is given, the state comes behind s, and the value is so
abbrev pub Gives : {A : Type 0} → (A → Type 0) → State → Outcome A → Type 0
Gives P s (ok a v) = P a × Follows s v
Gives P s (failed e) = Unit {0}
Gives P s limit = Unit {0}
Gives P s ill = Unit {0}

abbrev pub Keeps : {A : Type 0} → (A → Type 0) → Action A → Type 0
Keeps P f = (s : State) → AreGivenOnce s → Gives P s (f s)

abbrev pub AnyOne : {A : Type 0} → A → Type 0
AnyOne a = Unit {0}

-- a run begins without labels
abbrev pub BeginsWithout : Type 0
BeginsWithout = (program : Program) (units : ℕ) (w : World) → IsKept w → AreGivenOnce (begun program units w)

-- a node is named: by a label that stands nowhere yet, where it isn't one that is known by its label
abbrev pub NamingKeeps : Type 0
NamingKeeps = (x : Location) → Keeps AnyOne (name x)

abbrev pub LooksKeep : Type 0
LooksKeep = (r : Receiver) → Keeps AnyOne (look_at r)

-- a value leaves its place, without labels
abbrev pub TakingKeeps : Type 0
TakingKeeps = (x : Location) → Keeps HasNone (take x)

-- a value comes to a place
abbrev pub FillingKeeps : Type 0
FillingKeeps = (x : Location) (t : Tree) → HasNone t → Keeps AnyOne (fill x t)

abbrev pub AssigningKeeps : Type 0
AssigningKeeps = (x : Location) (t : Tree) → HasNone t → Keeps AnyOne (assigned x t) × Keeps AnyOne (force_assigned x t)

abbrev pub ExchangingKeeps : Type 0
ExchangingKeeps = (x : Location) (type : PureType) (t : Tree) → HasNone t → Keeps HasNone (exchanged x type t)

abbrev pub SwappingKeeps : Type 0
SwappingKeeps = (x : Location) (xtype : PureType) (y : Location) (ytype : PureType) → Keeps AnyOne (swapped x xtype y ytype)

-- variables end
abbrev pub EndingKeeps : Type 0
EndingKeeps = (n : ℕ) → Keeps AnyOne (ended n)

-- what is made has a label of its own, and none once it is there
abbrev pub MakingKeeps : Type 0
MakingKeeps = ((id : TypeId) (i : ℕ) (names : List Name) → Keeps AnyOne (begin id i names)) × Keeps HasNone finish

abbrev pub HasNoneInRow : Row → Type 0
HasNoneInRow r = (p : ℕ) → marks p r ≡ 0

-- a call begins, over arguments without labels, and ends
abbrev pub CallsKeep : Type 0
CallsKeep = ((within : Option TypeId) (self : Option ℕ) (initializes : Bool) (r : Row) → HasNoneInRow r → Keeps AnyOne (entered within self initializes r)) × Keeps AnyOne left

-- a result is put aside, comes back without labels, and is referred to
abbrev pub ResultsKeep : Type 0
ResultsKeep = ((t : Tree) → HasNone t → Keeps AnyOne (result_aside t)) × Keeps HasNone result_taken × ((t : Tree) → Keeps HasNone (linked_result t))

-- a value comes to an account
abbrev pub StoringKeeps : Type 0
StoringKeeps = (a : ℕ) (identifier : Name) (t : Tree) → HasNone t → (s : State) → AreGivenOnce s → Follows s (with_account a (storing identifier t) s)

-- ---- members of containers: of the node with the label l, as it stands in the state

-- what an array gives is a copy
abbrev pub ArraysGiveCopies : Type 0
ArraysGiveCopies = (type : PureType) (r : Row)
    → ((t : Tree) → Keeps HasNone (array_concat type r t)) × ((from up_to : Tree) → Keeps HasNone (array_slice type r from up_to)) × Keeps HasNone (array_reverse type r)

-- values without labels come to an array, and what leaves it has none
abbrev pub ArraysKeep : Type 0
ArraysKeep = (l : ℕ) (f : Found) (type : PureType) (s : State) → at l s ≡ Some f → AreGivenOnce s
    → ((t : Tree) → HasNone t → Gives HasNone s (array_append l type f.tree.parts t s))
    × ((t : Tree) → HasNone t → Gives HasNone s (array_append_all l type f.tree.parts t s))
    × ((i t : Tree) → HasNone t → Gives HasNone s (array_insert l type f.tree.parts i t s))
    × ((i : Tree) → Gives HasNone s (array_remove l type f.tree.parts i s))
    × Gives HasNone s (array_remove_first l type f.tree.parts s)
    × Gives HasNone s (array_remove_last l type f.tree.parts s)

abbrev pub KeysHaveNone : Type 0
KeysHaveNone = (key : PureType) (ks : List PureValue) → Keeps HasNone (dictionary_keys key ks)

-- and the same of a dictionary
abbrev pub DictionariesKeep : Type 0
DictionariesKeep = (l : ℕ) (f : Found) (key value : PureType) (ks : List PureValue) (s : State) → at l s ≡ Some f → AreGivenOnce s
    → ((k t : Tree) → HasNone t → Gives HasNone s (dictionary_insert l key value ks f.tree.parts k t s))
    × ((k : Tree) → Gives HasNone s (dictionary_remove l key value ks f.tree.parts k s))

-- ---- what calls

-- what is called keeps labels apart, over arguments without labels, and its result has none
abbrev pub CalleesKeep : Calls → Type 0
CalleesKeep calls = (callee : Callee) (r : Row) → HasNoneInRow r → Keeps HasNone (calls callee r)

-- a resource ends: its nodes are named by labels that stand nowhere, while its events are made
abbrev pub DestroyingKeeps : Type 0
DestroyingKeeps = (calls : Calls) (t : Tree) → CalleesKeep calls → HasNone t → Keeps AnyOne (destroyed calls t)

-- a contract is installed: its value has a label of its own
abbrev pub InstallingKeeps : Type 0
InstallingKeeps = (calls : Calls) (c : Contract) (r : Row) → CalleesKeep calls → HasNoneInRow r → Keeps HasNone (install calls c r)

-- ---- accounts

-- what is saved comes without labels, and what is loaded or copied has none
abbrev pub LoadingKeeps : Type 0
LoadingKeeps = (r : Row) (a : Address) → (HasNoneInRow r → Keeps HasNone (save r a)) × ((type : PureType) → Keeps HasNone (load type r a)) × ((type : PureType) → Keeps HasNone (copy type r a))
