-- The line of an answer has one line feed, its last byte.
use Rattle.std.proofs.Common.{◌≡◌, ◌⊎◌, inl, inr, ℕ, zero, suc, ◌+◌, ◌/◌, ◌%◌, ◌==◌, ◌||◌, Bool, true, false, if◌then◌else◌, ℤ, pos, negsuc, List, [], ◌∷◌, ◌++◌, codes, nat_lt, refl, ◌∙◌, ap, subst, arith}
use Rattle.std.specs.Fmt.{decimal, signed_decimal, digits, digits_onto, digit_glyph}
use Rattle.std.specs.Char.{digit_char}
use Rattle.std.specs.Prelude.{None, cond}
use Rattle.json.specs.Print.{escape_letter, escape_byte, escape, quoted}
use Rattle.cad_declarations.specs.declared.stop.Rejected.{Rejected}
use Rattle.std.proofs.lemmas.Bool.Decides.{eqb_tells}
use Rattle.serde_json.specs.Data.{Num, unsigned, negative, float, Data, null, boolean, number, string, array, object, Items, no_items, item, Members, no_members, member}
use Rattle.serde_json.specs.Written.{number_text, comma_if, compact_text, items_text, members_text}
use Rattle.cad_syntax.specs.Addresses.{hex_digits, address_text}
use Rattle.cad_runs.specs.Commands.{Reply, account_made, result, ran, failed, limit, bad, rejected, ill}
use Rattle.cad_answers.specs.Answer.{answer_line, number_items, ill_typed}
use Rattle.cad_answers.specs.Passed.{event_items}
use Rattle.cad_rejections.specs.Texts.{phase_name, joined, rejected_text}
use Rattle.cad_grammar.specs.declared.phase.Phase.{Phase}
use Rattle.cad_grammar.specs.declared.phase.Phase.TheVariants.{Lex, Parse, Resolve, Types, Conformance, Moves, Purity, Initialisation}
use Rattle.cad_serve.specs.Replied.{line_feeds}
use Rattle.cad_serve.proofs.Feeds.{feeds_append}

abbrev more : Bool → ℕ → ℕ
more c n = if c then suc n else n

apart : (a b : ℕ) → (a ≡ b → ⊥) → (a == b) ≡ false
apart a b other = by (eqb_tells a b)
  where
    by : ((a == b) ≡ true) × (a ≡ b) ⊎ ((a == b) ≡ false) × (a ≡ b → ⊥) → (a == b) ≡ false
    by (inl same) = absurd (other same.1)
    by (inr differs) = differs.0

glyph_by : (c : Bool) (d : ℕ) → ((if c then 48 + d else 87 + d) == 10) ≡ false
glyph_by true d = apart (48 + d) 10 (λ e. omega (arith, e))
glyph_by false d = apart (87 + d) 10 (λ e. omega (arith, e))

either : (c : Bool) (x y : List ℕ) → line_feeds x ≡ 0 → line_feeds y ≡ 0 → line_feeds (if c then x else y) ≡ 0
either true x y h k = h
either false x y h k = k

onto_none : (k n : ℕ) (acc : List ℕ) → line_feeds acc ≡ 0 → line_feeds (digits_onto k 10 false n acc) ≡ 0
onto_none zero n acc h = h
onto_none (suc k) n acc h =
    let longer : line_feeds (digit_glyph false (n % 10) ∷ acc) ≡ 0 = ap (λ c. more c (line_feeds acc)) (glyph_by (nat_lt (n % 10) 10) (n % 10)) ∙ h in
    either (n / 10 == 0) (digit_glyph false (n % 10) ∷ acc) (digits_onto k 10 false (n / 10) (digit_glyph false (n % 10) ∷ acc)) longer (onto_none k (n / 10) (digit_glyph false (n % 10) ∷ acc) longer)

decimal_none : (n : ℕ) → line_feeds (decimal n) ≡ 0
unfolding digits
decimal_none n = onto_none 64 n [] refl

both_none : (xs ys : List ℕ) → line_feeds xs ≡ 0 → line_feeds ys ≡ 0 → line_feeds (xs ++ ys) ≡ 0
both_none xs ys h k = feeds_append xs ys ∙ omega (arith, h, k)

hex_char : (d : ℕ) → (digit_char d == 10) ≡ false
hex_char d = glyph_by (nat_lt d 10) d

hex_none : (k n : ℕ) → line_feeds (hex_digits k n) ≡ 0
unfolding hex_digits
hex_none zero n = refl
hex_none (suc k) n = both_none (hex_digits k (n / 16)) (digit_char (n % 16) ∷ []) (hex_none k (n / 16)) (ap (λ c. more c 0) (hex_char (n % 16)))

-- texts without line feeds, and one at their end
wrapped : (head middle tail : List ℕ) → line_feeds head ≡ 0 → line_feeds middle ≡ 0 → line_feeds tail ≡ 0 → line_feeds (head ++ middle ++ tail ++ 10 ∷ []) ≡ 1
wrapped head middle tail h m t =
    feeds_append (head ++ middle ++ tail) (10 ∷ []) ∙ omega (arith, feeds_append (head ++ middle) tail, feeds_append head middle, h, m, t)

alone : (text : List ℕ) → line_feeds text ≡ 0 → line_feeds (text ++ 10 ∷ []) ≡ 1
alone text h = feeds_append text (10 ∷ []) ∙ omega (arith, h)

phase_none : (phase : Phase) → line_feeds (phase_name phase) ≡ 0
phase_none Lex = refl
phase_none Parse = refl
phase_none Resolve = refl
phase_none Types = refl
phase_none Conformance = refl
phase_none Moves = refl
phase_none Purity = refl
phase_none Initialisation = refl

-- what JSON writes for a byte is no line feed
plain_by : (x : ℕ) (c : Bool) → nat_lt x 32 ≡ c
    → line_feeds (cond c (92 ∷ 117 ∷ 48 ∷ 48 ∷ digit_char (x / 16) ∷ digit_char (x % 16) ∷ []) (x ∷ [])) ≡ 0
plain_by x true small = ap (λ c. more c (more (digit_char (x % 16) == 10) 0)) (hex_char (x / 16)) ∙ ap (λ c. more c 0) (hex_char (x % 16))
plain_by x false large = ap (λ c. more c 0) (apart x 10 (λ e. let wrong : nat_lt 10 32 ≡ false = subst (λ (n : ℕ). nat_lt n 32 ≡ false) e large in cc wrong))

letter_by : (a b c d e f : Bool) (x : ℕ) → (a ≡ true → (x == 10) ≡ false)
    → (cond a x (cond b 98 (cond c 102 (cond d 110 (cond e 114 (cond f 116 0))))) == 10) ≡ false
letter_by true b c d e f x h = h refl
letter_by false true c d e f x h = refl
letter_by false false true d e f x h = refl
letter_by false false false true e f x h = refl
letter_by false false false false true f x h = refl
letter_by false false false false false true x h = refl
letter_by false false false false false false x h = refl

-- neither is the letter of an escape
letter_none : (x : ℕ) → (escape_letter x == 10) ≡ false
letter_none x =
    letter_by ((x == 34) || (x == 92)) (x == 8) (x == 12) (x == 10) (x == 13) (x == 9) x
    (λ t. apart x 10 (λ e. let wrong : ((10 == 34) || (10 == 92)) ≡ true = subst (λ (n : ℕ). ((n == 34) || (n == 92)) ≡ true) e t in cc wrong))

first_by : (c : Bool) (letter : ℕ) (other : List ℕ) → (letter == 10) ≡ false → line_feeds other ≡ 0 → line_feeds (cond c (92 ∷ letter ∷ []) other) ≡ 0
first_by true letter other h k = ap (λ c. more c 0) h
first_by false letter other h k = k

byte_none : (x : ℕ) → line_feeds (escape_byte x) ≡ 0
unfolding escape_byte
byte_none x =
    first_by (nat_lt 0 (escape_letter x)) (escape_letter x) (cond (nat_lt x 32) (92 ∷ 117 ∷ 48 ∷ 48 ∷ digit_char (x / 16) ∷ digit_char (x % 16) ∷ []) (x ∷ []))
    (letter_none x) (plain_by x (nat_lt x 32) refl)

escape_none : (bytes : List ℕ) → line_feeds (escape bytes) ≡ 0
escape_none [] = refl
escape_none (x ∷ bytes) = both_none (escape_byte x) (escape bytes) (byte_none x) (escape_none bytes)

quoted_none : (bytes : List ℕ) → line_feeds (quoted bytes) ≡ 0
quoted_none bytes = both_none (escape bytes) (34 ∷ []) (escape_none bytes) refl

-- texts in a row
row_none : (a b c d e f g h i : List ℕ) → line_feeds a ≡ 0 → line_feeds b ≡ 0 → line_feeds c ≡ 0 → line_feeds d ≡ 0 → line_feeds e ≡ 0
    → line_feeds f ≡ 0 → line_feeds g ≡ 0 → line_feeds h ≡ 0 → line_feeds i ≡ 0 → line_feeds (a ++ b ++ c ++ d ++ e ++ f ++ g ++ h ++ i) ≡ 0
row_none a b c d e f g h i na nb nc nd ne nf ng nh ni =
    both_none (a ++ b ++ c ++ d ++ e ++ f ++ g ++ h) i
    (both_none (a ++ b ++ c ++ d ++ e ++ f ++ g) h
    (both_none (a ++ b ++ c ++ d ++ e ++ f) g
    (both_none (a ++ b ++ c ++ d ++ e) f
    (both_none (a ++ b ++ c ++ d) e
    (both_none (a ++ b ++ c) d
    (both_none (a ++ b) c
    (both_none a b na nb) nc) nd) ne) nf) ng) nh) ni

rejected_none : (r : Rejected) → line_feeds (rejected_text None r) ≡ 0
rejected_none r =
    row_none (codes "{\"at\":\"") (decimal r.at) (codes "\"") [] (codes ",\"in\":") (quoted (joined r.inside)) (codes ",\"phase\":\"")
    (phase_name r.phase) (codes "\",\"reply\":\"rejected\"}")
    refl (decimal_none r.at) refl refl refl (quoted_none (joined r.inside)) refl (phase_none r.phase) refl

-- ---- JSON

signed_none : (z : ℤ) → line_feeds (signed_decimal z) ≡ 0
signed_none (pos n) = decimal_none n
signed_none (negsuc n) = decimal_none (suc n)

comma_none : (later : Bool) → line_feeds (comma_if later) ≡ 0
comma_none true = refl
comma_none false = refl

number_none : (n : Num) → line_feeds (number_text n) ≡ 0
number_none (unsigned n) = decimal_none n
number_none (negative z) = signed_none z
number_none (float x) = refl

word_none : (b : Bool) → line_feeds (compact_text (boolean b)) ≡ 0
word_none true = refl
word_none false = refl

-- nor has JSON without spaces
mutual
  json_none : (d : Data) → line_feeds (compact_text d) ≡ 0
  json_none null = refl
  json_none (boolean b) = word_none b
  json_none (number n) = number_none n
  json_none (string s) = quoted_none s
  json_none (array ds) = items_none false ds
  json_none (object ms) = members_none false ms

  items_none : (later : Bool) (ds : Items) → line_feeds (items_text later ds) ≡ 0
  items_none later no_items = refl
  items_none later (item d ds) =
      both_none (comma_if later) (compact_text d ++ items_text true ds) (comma_none later)
      (both_none (compact_text d) (items_text true ds) (json_none d) (items_none true ds))

  members_none : (later : Bool) (ms : Members) → line_feeds (members_text later ms) ≡ 0
  members_none later no_members = refl
  members_none later (member k d ms) =
      both_none (comma_if later) (quoted k ++ 58 ∷ (compact_text d ++ members_text true ms)) (comma_none later)
      (both_none (quoted k) (58 ∷ (compact_text d ++ members_text true ms)) (quoted_none k)
      (both_none (compact_text d) (members_text true ms) (json_none d) (members_none true ms)))

-- three texts of a receipt
effects_none : (x y z : List ℕ) → line_feeds x ≡ 0 → line_feeds y ≡ 0 → line_feeds z ≡ 0
    → line_feeds (codes "{\"destroyed\":" ++ x ++ codes ",\"events\":" ++ y ++ codes ",\"made\":" ++ z ++ codes ",\"reply\":\"ok\"}") ≡ 0
effects_none x y z nx ny nz =
    let d = codes "{\"destroyed\":" in
    let e = codes ",\"events\":" in
    let m = codes ",\"made\":" in
    both_none (d ++ x ++ e ++ y ++ m ++ z) (codes ",\"reply\":\"ok\"}")
    (both_none (d ++ x ++ e ++ y ++ m) z
    (both_none (d ++ x ++ e ++ y) m
    (both_none (d ++ x ++ e) y
    (both_none (d ++ x) e
    (both_none d x refl nx) refl) ny) refl) nz) refl

pub one_feed : (a : Reply Data) → line_feeds (answer_line a) ≡ 1
one_feed (account_made n) = wrapped (codes "{\"address\":\"") (address_text n) (codes "\",\"reply\":\"ok\"}") refl (both_none (codes "0x") (hex_digits 16 n) refl (hex_none 16 n)) refl
one_feed (result json) = wrapped (codes "{\"reply\":\"ok\",\"result\":") (compact_text json) (codes "}") refl (json_none json) refl
one_feed (ran made destroyed events) =
    alone (codes "{\"destroyed\":" ++ compact_text (array (number_items destroyed)) ++ codes ",\"events\":" ++ compact_text (array (event_items events)) ++ codes ",\"made\":" ++ compact_text (array (number_items made)) ++ codes ",\"reply\":\"ok\"}")
    (effects_none (compact_text (array (number_items destroyed))) (compact_text (array (event_items events))) (compact_text (array (number_items made)))
    (json_none (array (number_items destroyed))) (json_none (array (event_items events))) (json_none (array (number_items made))))
one_feed (rejected r) = alone (rejected_text None r) (rejected_none r)
one_feed (failed n) = wrapped (codes "{\"error\":\"") (decimal n) (codes "\",\"reply\":\"failed\"}") refl (decimal_none n) refl
one_feed limit = alone (codes "{\"reply\":\"limit\"}") refl
one_feed (bad n) = wrapped (codes "{\"error\":\"") (decimal n) (codes "\",\"reply\":\"bad\"}") refl (decimal_none n) refl
one_feed ill = wrapped (codes "{\"error\":\"") (decimal ill_typed) (codes "\",\"reply\":\"failed\"}") refl (decimal_none ill_typed) refl
