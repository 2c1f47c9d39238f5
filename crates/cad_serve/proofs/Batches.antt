-- Answers to commands, one after another.
use Rattle.std.proofs.Common.{◌≡◌, ℕ, suc, ◌+◌, List, [], ◌∷◌, ◌++◌, length, take, min, refl, sym, ◌∙◌, ap, subst, arith, append_assoc, length-append}
use Rattle.std.proofs.lemmas.List.{append-nil, take-append-le, take_min}
use Rattle.std.proofs.Math.Seq.{take-append-add, take-length}
use Rattle.cad_world.specs.State.{World}
use Rattle.serde_json.specs.Data.{Data}
use Rattle.cad_runs.specs.Commands.{Reply}
use Rattle.cad_answers.specs.Answer.{answer_line}
use Rattle.cad_serve.specs.Served.{AnswersAll, answer_lines, Served, ServedSome, Broken, Begun}

pub all_append : (w u v : World) (xs ys : List (List ℕ)) (answers others : List (Reply Data)) → AnswersAll w xs answers u → AnswersAll u ys others v → AnswersAll w (xs ++ ys) (answers ++ others) v
all_append w u v [] ys [] others h k = subst (λ x. AnswersAll x ys others v) h k
all_append w u v [] ys (a ∷ answers) others h k = elim h [ ]
all_append w u v (x ∷ xs) ys [] others h k = elim h [ ]
all_append w u v (x ∷ xs) ys (a ∷ answers) others h k = (h.0, h.1, all_append h.0 u v xs ys answers others h.2 k)

-- as many answers as commands
pub all_length : (w v : World) (xs : List (List ℕ)) (answers : List (Reply Data)) → AnswersAll w xs answers v → length answers ≡ length xs
all_length w v [] [] h = refl
all_length w v [] (a ∷ answers) h = elim h [ ]
all_length w v (x ∷ xs) [] h = elim h [ ]
all_length w v (x ∷ xs) (a ∷ answers) h = ap suc (all_length h.0 v xs answers h.2)

pub lines_append : (answers others : List (Reply Data)) → answer_lines (answers ++ others) ≡ answer_lines answers ++ answer_lines others
lines_append [] others = refl
lines_append (a ∷ answers) others = ap (λ l. answer_line a ++ l) (lines_append answers others) ∙ sym (append_assoc (answer_line a) (answer_lines answers) (answer_lines others))

pub served_none : (w : World) (o : List ℕ) → Served w [] o o w
served_none w o = record { answers = []; are = refl; output = sym (append-nil o) }

-- what was said before, and what is said then
joined : (o p q a b : List ℕ) → p ≡ o ++ a → q ≡ p ++ b → q ≡ o ++ (a ++ b)
joined o p q a b h k = k ∙ ap (λ l. l ++ b) h ∙ append_assoc o a b

pub served_then : (w u v : World) (xs ys : List (List ℕ)) (o p q : List ℕ) → Served w xs o p u → Served u ys p q v → Served w (xs ++ ys) o q v
served_then w u v xs ys o p q h k = record {
  answers = h.answers ++ k.answers;
  are = all_append w u v xs ys h.answers k.answers h.are k.are;
  output = joined o p q (answer_lines h.answers) (answer_lines k.answers) h.output k.output ∙ ap (λ l. o ++ l) (sym (lines_append h.answers k.answers));
}

pub front_of : (xs ys : List (List ℕ)) → take (length xs) (xs ++ ys) ≡ xs
front_of xs ys = take-append-le (length xs) xs ys (omega arith) ∙ take-length xs

pub some_then : (w u v : World) (xs ys : List (List ℕ)) (o p q : List ℕ) → Served w xs o p u → ServedSome u ys p q v → ServedSome w (xs ++ ys) o q v
some_then w u v xs ys o p q h k = record {
  count = length xs + k.count;
  within = omega (arith, length-append xs ys, k.within);
  served = subst (λ l. Served w l o q v) (sym (take-append-add xs ys k.count)) (served_then w u v xs (take k.count ys) o p q h k.served);
}

-- whatever commands follow
pub some_more : (w v : World) (xs ys : List (List ℕ)) (o p : List ℕ) → ServedSome w xs o p v → ServedSome w (xs ++ ys) o p v
some_more w v xs ys o p h = record {
  count = h.count;
  within = omega (arith, length-append xs ys, h.within);
  served = subst (λ l. Served w l o p v) (sym (take-append-le h.count xs ys h.within)) h.served;
}

pub broken_more : (w v : World) (xs ys : List (List ℕ)) (o p : List ℕ) → Broken w xs o p v → Broken w (xs ++ ys) o p v
broken_more w v xs ys o p h = record {
  count = h.count;
  within = omega (arith, length-append xs ys, h.within);
  answers = h.answers;
  next = h.next;
  bytes = h.bytes;
  are = subst (λ l. AnswersAll w l (h.answers ++ h.next ∷ []) v) (sym (take-append-le (suc h.count) xs ys h.within)) h.are;
  output = h.output;
}

pub broken_then : (w u v : World) (xs ys : List (List ℕ)) (o p q : List ℕ) → Served w xs o p u → Broken u ys p q v → Broken w (xs ++ ys) o q v
broken_then w u v xs ys o p q h k = record {
  count = length xs + k.count;
  within = omega (arith, length-append xs ys, k.within);
  answers = h.answers ++ k.answers;
  next = k.next;
  bytes = k.bytes;
  are = subst (λ l. AnswersAll w l ((h.answers ++ k.answers) ++ k.next ∷ []) v)
      (sym (take-append-add xs ys (suc k.count)) ∙ ap (λ n. take n (xs ++ ys)) (let same : length xs + suc k.count ≡ suc (length xs + k.count) = omega arith in same))
      (subst (λ l. AnswersAll w (xs ++ take (suc k.count) ys) l v) (sym (append_assoc h.answers k.answers (k.next ∷ [])))
      (all_append w u v xs (take (suc k.count) ys) h.answers (k.answers ++ k.next ∷ []) h.are k.are));
  output = joined o p q (answer_lines h.answers) (answer_lines k.answers ++ take k.bytes (answer_line k.next)) h.output k.output
      ∙ ap (λ l. o ++ l) (sym (append_assoc (answer_lines h.answers) (answer_lines k.answers) (take k.bytes (answer_line k.next))) ∙ ap (λ l. l ++ take k.bytes (answer_line k.next)) (sym (lines_append h.answers k.answers)));
}

-- under every status a prefix of the bytes of the answers' lines was put
pub begun_none : (w : World) (xs : List (List ℕ)) (o : List ℕ) → Begun w xs o o
begun_none w xs o = record { count = 0; answers = []; world = w; bytes = 0; are = refl; output = sym (append-nil o) }

pub begun_all : (w v : World) (xs : List (List ℕ)) (o p : List ℕ) → Served w xs o p v → Begun w xs o p
begun_all w v xs o p h = record {
  count = length xs;
  answers = h.answers;
  world = v;
  bytes = length (answer_lines h.answers);
  are = subst (λ l. AnswersAll w l h.answers v) (sym (take-length xs)) h.are;
  output = h.output ∙ ap (λ l. o ++ l) (sym (take-length (answer_lines h.answers)));
}

pub begun_some : (w v : World) (xs : List (List ℕ)) (o p : List ℕ) → ServedSome w xs o p v → Begun w xs o p
begun_some w v xs o p h = record {
  count = h.count;
  answers = h.served.answers;
  world = v;
  bytes = length (answer_lines h.served.answers);
  are = h.served.are;
  output = h.served.output ∙ ap (λ l. o ++ l) (sym (take-length (answer_lines h.served.answers)));
}

pub begun_broken : (w v : World) (xs : List (List ℕ)) (o p : List ℕ) → Broken w xs o p v → Begun w xs o p
begun_broken w v xs o p h = record {
  count = suc h.count;
  answers = h.answers ++ h.next ∷ [];
  world = v;
  bytes = length (answer_lines h.answers) + h.bytes;
  are = h.are;
  output = h.output ∙ ap (λ l. o ++ l) (ap (λ l. answer_lines h.answers ++ take h.bytes l) (sym (append-nil (answer_line h.next)))
      ∙ sym (take-append-add (answer_lines h.answers) (answer_lines (h.next ∷ [])) h.bytes) ∙ ap (take (length (answer_lines h.answers) + h.bytes)) (sym (lines_append h.answers (h.next ∷ []))));
}

-- whatever commands follow
pub begun_more : (w : World) (xs ys : List (List ℕ)) (o p : List ℕ) → Begun w xs o p → Begun w (xs ++ ys) o p
begun_more w xs ys o p h = record {
  count = min h.count (length xs);
  answers = h.answers;
  world = h.world;
  bytes = h.bytes;
  are = subst (λ l. AnswersAll w l h.answers h.world) (sym (take-append-le (min h.count (length xs)) xs ys (omega arith) ∙ take_min h.count xs)) h.are;
  output = h.output;
}
