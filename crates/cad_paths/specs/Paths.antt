-- The paths of a body, and the letters that they spell for one variable.
use Rattle.std.specs.Prelude.{◌≡◌, ℕ, List, [], ◌∷◌, ◌++◌, Option, Some, None, nat_eq, if◌then◌else◌, Bool, true, false}
use Rattle.cad_syntax.specs.declared.text.Name.{Name}
use Rattle.cad_paths.specs.declared.letter.Letter.{Letter}
use Rattle.cad_paths.specs.declared.letter.Way.{Way}
use Rattle.cad_paths.specs.declared.letter.Way.TheVariants.{Next, Broken, Continued, Returned, Never}
use Rattle.cad_paths.specs.declared.letter.Position.{Position}

-- a variable, by the number of variables that were in scope when it was declared
pub record PathVariable : Type 0 where
  pub number : ℕ
  pub name : Name

-- What the paths of a body are.
pub data PathBody : Type 0 where
  -- they leave it so; `leave Next` is the empty body
  leave : Way → PathBody
  -- a letter of the variable with this number, at a statement
  spell : ℕ → Letter → Position → PathBody
  seq : PathBody → PathBody → PathBody
  either : PathBody → PathBody → PathBody
  -- any number of turns
  loop : PathBody → PathBody
  -- paths that leave by this way go on behind it
  catch : Way → PathBody → PathBody
  -- the variable is declared at this statement, and this is its scope
  scope : PathVariable → Position → PathBody → PathBody

abbrev pub skip : PathBody
skip = leave Next

-- a letter at a statement
pub data LetterAt : Type 0 where
  letter_at : Letter → Position → LetterAt

-- whose letters are spelled: those of the variable with this number, or nobody's
abbrev pub is_spelled : Option ℕ → ℕ → Bool
is_spelled None v = false
is_spelled (Some u) v = nat_eq u v

abbrev pub spelled : Option ℕ → ℕ → Letter → Position → List LetterAt
spelled who v l s = if is_spelled who v then letter_at l s ∷ [] else []

-- a path that leaves a body by this way goes on with what stands behind it
abbrev pub goes_on : Way → Bool
goes_on Next = true
goes_on Broken = false
goes_on Continued = false
goes_on Returned = false
goes_on Never = false

-- how a path goes on that leaves a body by the second way, where the first is caught: only `break`, `continue` and `return` are
abbrev pub caught : Way → Way → Way
caught Broken Broken = Next
caught Broken Next = Next
caught Broken Continued = Continued
caught Broken Returned = Returned
caught Broken Never = Never
caught Continued Continued = Next
caught Continued Next = Next
caught Continued Broken = Broken
caught Continued Returned = Returned
caught Continued Never = Never
caught Returned Returned = Next
caught Returned Next = Next
caught Returned Broken = Broken
caught Returned Continued = Continued
caught Returned Never = Never
caught Next x = x
caught Never x = x

-- Some path spells this word for a variable, and leaves the body by this way: each branch is taken either way, and each loop
-- turns any number of times.
pub data Words (who : Option ℕ) : PathBody → List LetterAt → Way → Type 0 where
  by_leaving : {x : Way} → Words who (leave x) [] x
  by_letter : {v : ℕ} {l : Letter} {s : Position} → Words who (spell v l s) (spelled who v l s) Next
  by_both : {a b : PathBody} {u w : List LetterAt} {x : Way} → Words who a u Next → Words who b w x → Words who (seq a b) (u ++ w) x
  by_first_alone : {a b : PathBody} {u : List LetterAt} {x : Way} → goes_on x ≡ false → Words who a u x → Words who (seq a b) u x
  by_left : {a b : PathBody} {u : List LetterAt} {x : Way} → Words who a u x → Words who (either a b) u x
  by_right : {a b : PathBody} {u : List LetterAt} {x : Way} → Words who b u x → Words who (either a b) u x
  by_no_turn : {a : PathBody} → Words who (loop a) [] Next
  by_turn : {a : PathBody} {u w : List LetterAt} {y : Way} → Words who a u Next → Words who (loop a) w y → Words who (loop a) (u ++ w) y
  by_last_turn : {a : PathBody} {u : List LetterAt} {x : Way} → goes_on x ≡ false → Words who a u x → Words who (loop a) u x
  by_catching : {c : Way} {a : PathBody} {u : List LetterAt} {x : Way} → Words who a u x → Words who (catch c a) u (caught c x)
  by_scope : {v : PathVariable} {s : Position} {b : PathBody} {u : List LetterAt} {x : Way} → Words who b u x → Words who (scope v s b) u x

-- A life of variable v, declared at s: some path comes to the declaration, spells from there this word of v, and leaves v's
-- scope by this way.
pub data Life : PathBody → PathVariable → Position → List LetterAt → Way → Type 0 where
  in_scope : {v : PathVariable} {s : Position} {b : PathBody} {w : List LetterAt} {x : Way} → Words (Some v.number) b w x → Life (scope v s b) v s w x
  in_inner : {v u : PathVariable} {s t : Position} {b : PathBody} {w : List LetterAt} {x : Way} → Life b v s w x → Life (scope u t b) v s w x
  in_first : {v : PathVariable} {s : Position} {a b : PathBody} {w : List LetterAt} {x : Way} → Life a v s w x → Life (seq a b) v s w x
  in_second : {v : PathVariable} {s : Position} {a b : PathBody} {u w : List LetterAt} {x : Way} → Words None a u Next → Life b v s w x → Life (seq a b) v s w x
  in_left : {v : PathVariable} {s : Position} {a b : PathBody} {w : List LetterAt} {x : Way} → Life a v s w x → Life (either a b) v s w x
  in_right : {v : PathVariable} {s : Position} {a b : PathBody} {w : List LetterAt} {x : Way} → Life b v s w x → Life (either a b) v s w x
  in_turn : {v : PathVariable} {s : Position} {a : PathBody} {w : List LetterAt} {x : Way} → Life a v s w x → Life (loop a) v s w x
  in_catch : {c : Way} {v : PathVariable} {s : Position} {a : PathBody} {w : List LetterAt} {x : Way} → Life a v s w x → Life (catch c a) v s w x

-- some path comes to the body's end
abbrev pub ComesToEnd : PathBody → Type 0
ComesToEnd b = (w : List LetterAt) × Words None b w Next
