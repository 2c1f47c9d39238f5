-- Marks: in which states a variable, or a field that is being set, may be at each place of a body. What soundness goes by.
use Rattle.std.specs.Prelude.{◌≡◌, ℕ, ◌&&◌, ◌||◌, not, List, [], ◌∷◌, Option, Some, None, nat_eq, zero, suc, if◌then◌else◌, Bool, true, false}
use Rattle.cad_paths.specs.declared.letter.Letter.{Letter}
use Rattle.cad_paths.specs.declared.letter.Letter.TheVariants.{Use, Fill, Spend, Empty, Need, Fresh, Set}
use Rattle.cad_paths.specs.declared.letter.Way.{Way}
use Rattle.cad_paths.specs.declared.letter.Way.TheVariants.{Next, Broken, Continued, Returned, Never}
use Rattle.cad_paths.specs.declared.letter.Position.{Position}
use Rattle.cad_paths.specs.Paths.{PathBody, leave, spell, seq, either, loop, catch, scope}
use Rattle.cad_paths.specs.Linear.{Linear}
use Rattle.cad_paths.specs.Initialisation.{Misset}

-- on some path it has a value; it is nil; its value has left it; it is a field that wasn't set
pub record Mark : Type 0 where
  pub value : Bool
  pub nil : Bool
  pub gone : Bool
  pub unset : Bool

abbrev pub no_state : Mark
no_state = record { value = false; nil = false; gone = false; unset = false }

abbrev pub is_value : Mark
is_value = record { value = true; nil = false; gone = false; unset = false }

abbrev pub is_nil : Mark
is_nil = record { value = false; nil = true; gone = false; unset = false }

abbrev pub is_gone : Mark
is_gone = record { value = false; nil = false; gone = true; unset = false }

abbrev pub is_unset : Mark
is_unset = record { value = false; nil = false; gone = false; unset = true }

abbrev pub joined : Mark → Mark → Mark
joined a b = record { value = a.value || b.value; nil = a.nil || b.nil; gone = a.gone || b.gone; unset = a.unset || b.unset }

-- on each path it has a value or is nil
abbrev pub is_there : Mark → Bool
is_there m = not m.gone && not m.unset

abbrev pub if_allowed : Bool → Mark → Option Mark
if_allowed true m = Some m
if_allowed false m = None

-- the mark after a letter, where each path allows it
abbrev pub after_letter : Letter → Mark → Option Mark
after_letter Use m = if_allowed (is_there m) m
after_letter Fill m = if_allowed (is_there m) is_value
after_letter Spend m = if_allowed (is_there m) is_gone
after_letter Empty m = if_allowed (is_there m) is_nil
after_letter Need m = if_allowed (not m.unset) m
after_letter Fresh m = if_allowed (not m.value && (not m.nil && not m.gone)) m
after_letter Set m = Some is_value

-- ---- the variables in scope, the newest first

pub record MarkEntry : Type 0 where
  pub variable : ℕ
  pub mark : Mark

abbrev pub on_entry : ℕ → Option Mark → List MarkEntry → Option (List MarkEntry)
on_entry v None rest = None
on_entry v (Some m) rest = Some (record { variable = v; mark = m } ∷ rest)

abbrev pub on_rest : MarkEntry → Option (List MarkEntry) → Option (List MarkEntry)
on_rest x None = None
on_rest x (Some rest) = Some (x ∷ rest)

-- a variable that isn't there has no mark, and its letters count for nothing
abbrev pub after_spelling : ℕ → Letter → List MarkEntry → Option (List MarkEntry)
after_spelling v l [] = Some []
after_spelling v l (x ∷ all) = if nat_eq x.variable v then on_entry v (after_letter l x.mark) all else on_rest x (after_spelling v l all)

-- marks of two paths that meet
abbrev pub meet : List MarkEntry → List MarkEntry → List MarkEntry
meet [] ys = []
meet (x ∷ xs) [] = []
meet (x ∷ xs) (y ∷ ys) = record { variable = x.variable; mark = joined x.mark y.mark } ∷ meet xs ys

abbrev pub join : Option (List MarkEntry) → Option (List MarkEntry) → Option (List MarkEntry)
join None b = b
join (Some a) None = Some a
join (Some a) (Some b) = Some (meet a b)

-- the first says no more than the second
abbrev pub says_less : Mark → Mark → Bool
says_less a b = (not a.value || b.value) && ((not a.nil || b.nil) && ((not a.gone || b.gone) && (not a.unset || b.unset)))

abbrev pub all_say_less : List MarkEntry → List MarkEntry → Bool
all_say_less [] ys = true
all_say_less (x ∷ xs) [] = false
all_say_less (x ∷ xs) (y ∷ ys) = says_less x.mark y.mark && all_say_less xs ys

-- ---- bodies

-- the marks with which paths leave a body, by each way; None where no path leaves so
pub record Leaves : Type 0 where
  pub next : Option (List MarkEntry)
  pub broken : Option (List MarkEntry)
  pub continued : Option (List MarkEntry)
  pub returned : Option (List MarkEntry)

abbrev pub nowhere : Leaves
nowhere = record { next = None; broken = None; continued = None; returned = None }

abbrev pub only : Way → List MarkEntry → Leaves
only Next a = record { next = Some a; broken = None; continued = None; returned = None }
only Broken a = record { next = None; broken = Some a; continued = None; returned = None }
only Continued a = record { next = None; broken = None; continued = Some a; returned = None }
only Returned a = record { next = None; broken = None; continued = None; returned = Some a }
only Never a = nowhere

abbrev pub together : Leaves → Leaves → Leaves
together a b = record { next = join a.next b.next; broken = join a.broken b.broken; continued = join a.continued b.continued; returned = join a.returned b.returned }

-- what leaves other than at the end
abbrev pub cut_off : Leaves → Leaves
cut_off a = record { next = None; broken = a.broken; continued = a.continued; returned = a.returned }

abbrev pub catching : Way → Leaves → Leaves
catching Broken a = record { next = join a.next a.broken; broken = None; continued = a.continued; returned = a.returned }
catching Continued a = record { next = join a.next a.continued; broken = a.broken; continued = None; returned = a.returned }
catching Returned a = record { next = join a.next a.returned; broken = a.broken; continued = a.continued; returned = None }
catching Next a = a
catching Never a = a

infixl 10 ◌>=>◌
abbrev pub ◌>=>◌ : {A B : Type 0} → Option A → (A → Option B) → Option B
None >=> f = None
Some a >=> f = f a

-- what stands behind is entered with the marks at the end
abbrev pub entered : Option (List MarkEntry) → (List MarkEntry → Option Leaves) → Option Leaves
entered None f = Some nowhere
entered (Some m) f = f m

abbrev pub followed : Leaves → (List MarkEntry → Option Leaves) → Option Leaves
followed a f = entered a.next f >=> (λ b. Some (together (cut_off a) b))

-- a loop whose turns begin with these marks, and leave so
abbrev pub turned : List MarkEntry → Leaves → Leaves
turned m a = record { next = Some m; broken = a.broken; continued = a.continued; returned = a.returned }

abbrev pub turned_by : (List MarkEntry → Option Leaves) → List MarkEntry → Leaves → Option (List MarkEntry) → Option Leaves
turned_by again m a None = Some (turned m a)
turned_by again m a (Some n) = if all_say_less n m then Some (turned m a) else again (meet m n)

-- a turn that adds no state is the last that is looked at; else the next turn begins with what was added
abbrev pub turns : ℕ → (List MarkEntry → Option Leaves) → List MarkEntry → Option Leaves
turns zero f m = None
turns (suc n) f m = f m >=> (λ a. turned_by (turns n f) m a a.next)

-- whether variables are fields that are to be set: they begin unset and end set; others begin with a value and end without
abbrev pub begin_mark : Bool → Mark
begin_mark false = is_value
begin_mark true = is_unset

abbrev pub ends_well : Bool → Mark → Bool
ends_well false m = not m.value
ends_well true m = not m.unset

-- the newest variable's scope is left
abbrev pub left_scope : Bool → Option (List MarkEntry) → Option (Option (List MarkEntry))
left_scope fields None = Some None
left_scope fields (Some []) = None
left_scope fields (Some (x ∷ all)) = if ends_well fields x.mark then Some (Some all) else None

abbrev pub scope_left : Bool → Leaves → Option Leaves
scope_left fields a = left_scope fields a.next >=> (λ n. left_scope fields a.broken >=> (λ b. left_scope fields a.continued >=> (λ c. left_scope fields a.returned >=> (λ r.
    Some (record { next = n; broken = b; continued = c; returned = r })))))

-- The marks with which paths leave a body that they enter with these, or None where some path isn't allowed. A mark has four
-- states, and each turn of a loop that isn't the last adds one, so four turns are enough.
abbrev pub marks : Bool → PathBody → List MarkEntry → Option Leaves
marks fields (leave x) m = Some (only x m)
marks fields (spell v l s) m = after_spelling v l m >=> (λ n. Some (only Next n))
marks fields (seq a b) m = marks fields a m >=> (λ x. followed x (marks fields b))
marks fields (either a b) m = marks fields a m >=> (λ x. marks fields b m >=> (λ y. Some (together x y)))
marks fields (loop a) m = turns 4 (marks fields a) m
marks fields (catch c a) m = marks fields a m >=> (λ x. Some (catching c x))
marks fields (scope v s b) m = marks fields b (record { variable = v.number; mark = begin_mark fields } ∷ m) >=> scope_left fields

-- ---- the laws

abbrev pub among : List ℕ → ℕ → Bool
among [] v = false
among (u ∷ us) v = nat_eq u v || among us v

-- no variable is declared in the scope of one with its number
abbrev pub declares_anew : List ℕ → PathBody → Bool
declares_anew us (leave x) = true
declares_anew us (spell v l s) = true
declares_anew us (seq a b) = declares_anew us a && declares_anew us b
declares_anew us (either a b) = declares_anew us a && declares_anew us b
declares_anew us (loop a) = declares_anew us a
declares_anew us (catch c a) = declares_anew us a
declares_anew us (scope v s b) = not (among us v.number) && declares_anew (v.number ∷ us) b

-- a body whose lives are linear has marks
abbrev pub LinearHasMarks : Type 0
LinearHasMarks = (b : PathBody) → declares_anew [] b ≡ true → Linear b → marks false b [] ≡ None → ⊥

-- a body that sets its fields has marks
abbrev pub SettingHasMarks : Type 0
SettingHasMarks = (b : PathBody) → declares_anew [] b ≡ true → ((s : Position) → Misset b s → ⊥) → marks true b [] ≡ None → ⊥
