-- Members of arrays and dictionaries.
use Rattle.std.specs.Prelude.{ℕ, Bool, true, false, [], ◌∷◌, ◌≡◌, refl}
use Rattle.cad_syntax.specs.Types.{optional, array}
use Rattle.cad_types.specs.declared.builtin.Builtin.TheVariants as m
use Rattle.cad_num.specs.Numbers as n
use Rattle.cad_declarations.specs.Typed as e
use Rattle.cad_values.specs.Values as v
use Rattle.cad_evaluation.proofs.SampleParts.{int, literal, int_type, gave, failed_with}
use Rattle.cad_evaluation.proofs.SampleForms.{bool_type, any_type, ints, table, giving, list, pairs, pair, calls, reads, declares, does, gives, array_of}
use Rattle.std.specs.Prelude.{nat_le}
use Rattle.cad_values.specs.Fits.{most_elements}

abbrev fits_in : ℕ → Bool
fits_in n = nat_le n most_elements

-- [1, 2, 3].contains(2): its elements are paid for
contained : gives bool_type (declares 0 ints (list (literal 1 ∷ literal 2 ∷ literal 3 ∷ [])) ∷ []) (calls (e.variable 0) m.ArrayContains (giving (literal 2) int_type ∷ [])) ≡ gave (v.bool true) 21
unfolding n.outcome
contained = refl

-- firstIndex(of: 2)
first_index : gives (optional int_type) (declares 0 ints (list (literal 1 ∷ literal 2 ∷ literal 3 ∷ [])) ∷ []) (calls (e.variable 0) m.ArrayFirstIndex (giving (literal 2) int_type ∷ [])) ≡ gave (v.some (int 1)) 21
unfolding n.outcome
first_index = refl

-- concat([4]): the argument, the call, the result, and its transfer
joined : gives ints (declares 0 ints (list (literal 1 ∷ [])) ∷ []) (calls (e.variable 0) m.ArrayConcat (giving (list (literal 4 ∷ [])) ints ∷ [])) ≡ gave (array_of int_type (int 1 ∷ int 4 ∷ [])) 21
unfolding n.outcome
joined = refl

-- slice(from: 1, upTo: 2), and past the end: 105
sliced : gives ints (declares 0 ints (list (literal 1 ∷ literal 2 ∷ [])) ∷ []) (calls (e.variable 0) m.ArraySlice (giving (literal 1) int_type ∷ giving (literal 2) int_type ∷ [])) ≡ gave (array_of int_type (int 2 ∷ [])) 23
unfolding n.outcome
sliced = refl

sliced_past : gives ints (declares 0 ints (list (literal 1 ∷ literal 2 ∷ [])) ∷ []) (calls (e.variable 0) m.ArraySlice (giving (literal 1) int_type ∷ giving (literal 3) int_type ∷ [])) ≡ failed_with 105
unfolding n.outcome
sliced_past = refl

-- reverse()
reversed : gives ints (declares 0 ints (list (literal 1 ∷ literal 2 ∷ [])) ∷ []) (calls (e.variable 0) m.ArrayReverse []) ≡ gave (array_of int_type (int 2 ∷ int 1 ∷ [])) 21
unfolding n.outcome
reversed = refl

-- a.appendAll([4]); a.length
all_appended : gives int_type (declares 0 ints (list (literal 1 ∷ [])) ∷ does (calls (e.variable 0) m.ArrayAppendAll (giving (list (literal 4 ∷ [])) ints ∷ [])) ∷ []) (reads (e.variable 0) m.ArrayLength) ≡ gave (int 2) 24
unfolding n.outcome
all_appended = refl

-- a.insert(at: 0, 9); a[0]
inserted : gives int_type (declares 0 ints (list (literal 1 ∷ [])) ∷ does (calls (e.variable 0) m.ArrayInsert (giving (literal 0) int_type ∷ giving (literal 9) int_type ∷ [])) ∷ []) (e.index (e.variable 0) ints (literal 0)) ≡ gave (int 9) 25
unfolding n.outcome
inserted = refl

-- of a place past the end and of another type: 104 comes before 129
inserted_past : gives int_type (declares 0 (array any_type) (list (literal 1 ∷ [])) ∷ does (calls (e.variable 0) m.ArrayInsert (giving (literal 9) int_type ∷ giving (e.bool true) any_type ∷ [])) ∷ []) (literal 0) ≡ failed_with 104
unfolding n.outcome
inserted_past = refl

-- removeFirst(), removeLast(), and of an empty array: 104
first_removed : gives int_type (declares 0 ints (list (literal 1 ∷ literal 2 ∷ [])) ∷ []) (calls (e.variable 0) m.ArrayRemoveFirst []) ≡ gave (int 1) 25
unfolding n.outcome
first_removed = refl

last_removed : gives int_type (declares 0 ints (list (literal 1 ∷ literal 2 ∷ [])) ∷ []) (calls (e.variable 0) m.ArrayRemoveLast []) ≡ gave (int 2) 25
unfolding n.outcome
last_removed = refl

none_removed : gives int_type (declares 0 ints (list []) ∷ []) (calls (e.variable 0) m.ArrayRemoveLast []) ≡ failed_with 104
unfolding n.outcome
none_removed = refl

-- an [AnyStruct] in which an array of Ints stands, joined with one of Bools: 129
joined_with_others : gives (array any_type) (declares 0 (array any_type) (list (literal 1 ∷ [])) ∷ []) (calls (e.variable 0) m.ArrayConcat (giving (e.array bool_type (e.terms_of (e.bool true ∷ []))) (array any_type) ∷ [])) ≡ failed_with 129
unfolding n.outcome
joined_with_others = refl

-- ---- dictionaries

-- insert(key: 1, 20) gives what stood there
replaced_value : gives (optional int_type) (declares 0 table (pairs (pair 1 10 ∷ [])) ∷ []) (calls (e.variable 0) m.DictionaryInsert (giving (literal 1) int_type ∷ giving (literal 20) int_type ∷ [])) ≡ gave (v.some (int 10)) 25
unfolding n.outcome
replaced_value = refl

-- and nil of a new key
new_key : gives (optional int_type) (declares 0 table (pairs (pair 1 10 ∷ [])) ∷ []) (calls (e.variable 0) m.DictionaryInsert (giving (literal 2) int_type ∷ giving (literal 20) int_type ∷ [])) ≡ gave (v.nil) 25
unfolding n.outcome
new_key = refl

-- remove(key: 1)
taken_out : gives (optional int_type) (declares 0 table (pairs (pair 1 10 ∷ [])) ∷ []) (calls (e.variable 0) m.DictionaryRemove (giving (literal 1) int_type ∷ [])) ≡ gave (v.some (int 10)) 25
unfolding n.outcome
taken_out = refl

-- containsKey(1)
has_key : gives bool_type (declares 0 table (pairs (pair 1 10 ∷ [])) ∷ []) (calls (e.variable 0) m.DictionaryContainsKey (giving (literal 1) int_type ∷ [])) ≡ gave (v.bool true) 25
unfolding n.outcome
has_key = refl

-- values: no call, but its parts
all_values : gives ints (declares 0 table (pairs (pair 1 10 ∷ [])) ∷ []) (reads (e.variable 0) m.DictionaryValues) ≡ gave (array_of int_type (int 10 ∷ [])) 24
unfolding n.outcome
all_values = refl

-- a key that stays keeps its place
key_stays : gives ints (declares 0 table (pairs (pair 1 10 ∷ pair 2 20 ∷ [])) ∷ e.assign 0 (e.element (e.variable 0) table (literal 1)) (literal 11) (optional int_type) ∷ []) (reads (e.variable 0) m.DictionaryKeys) ≡ gave (array_of int_type (int 1 ∷ int 2 ∷ [])) 19
unfolding n.outcome
key_stays = refl

-- insert of a key of another type: 129
other_key : gives (optional int_type) (declares 0 table (pairs (pair 1 10 ∷ [])) ∷ []) (calls (e.variable 0) m.DictionaryInsert (giving (e.bool true) bool_type ∷ giving (literal 20) int_type ∷ [])) ≡ failed_with 129
unfolding n.outcome
other_key = refl

-- d[true] = nil where keys are Ints, and d[true]: nothing is inserted, and there is nothing
no_key : gives (optional int_type) (declares 0 table (pairs (pair 1 10 ∷ [])) ∷ e.assign 0 (e.element (e.variable 0) table (e.bool true)) e.nil (optional int_type) ∷ []) (e.index (e.variable 0) table (e.bool true)) ≡ gave (v.nil) 25
unfolding n.outcome
no_key = refl

-- ---- sizes

-- 65,536 elements go, and one more is 123
room_for : fits_in 65536 ≡ true
room_for = refl

no_room : fits_in 65537 ≡ false
no_room = refl
