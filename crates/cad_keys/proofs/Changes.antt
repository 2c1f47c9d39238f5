-- An index of one more hash, and of one less.
use Rattle.std.proofs.Common.{◌≡◌, ◌≢◌, ◌<◌, ◌≤◌, ◌+◌, ◌-◌, ◌%◌, ℕ, suc, List, [], ◌∷◌, ◌++◌, length, get_or, set, replicate, refl, ap, sym, subst, ◌∙◌, ◌⊎◌, inl, inr, arith, length-append}
use Rattle.std.proofs.lemmas.Bool.{cases_order, cases_lt, cases_eq}
use Rattle.std.proofs.lemmas.List.{get_or_append_left, get_or_push, get_or-set_same, get_or-set_other, length-set, get_or-replicate, length-replicate}
use Rattle.std.proofs.lemmas.List.Edits.{length-remove, get_or-remove_below, get_or-remove_above}
use Rattle.std.specs.List.{remove}
use Rattle.cad_keys.specs.Code.Indices.{IsIndex, IsLast, IsShifted, AreShifted, AreShiftedTo}

-- ---- no hashes

pub none : (n : ℕ) → 0 < n → IsIndex (replicate n 0) [] []
none n some =
    let many : length (replicate {A = ℕ} n 0) ≡ n = length-replicate {A = ℕ} n 0 in
    record {
      buckets = omega arith;
      as_many = refl;
      of_heads = λ b below. rw (get_or-replicate {A = ℕ} n b 0 0 (omega arith)) (record { within = omega arith; none_after = λ j from to. absurd (omega arith); there = λ more. absurd (omega arith) });
      of_links = λ i below. absurd (omega arith);
    }

-- ---- one more

-- what is told of fewer hashes stays
kept : (m : ℕ) (hs : List ℕ) (h b n c : ℕ) → n ≤ length hs → IsLast m hs b n c → IsLast m (hs ++ h ∷ []) b n c
kept m hs h b n c all last =
    let within = last.within in
    record {
      within = last.within;
      none_after = λ j from to same. last.none_after j from to (rw (get_or_append_left hs (h ∷ []) 0 j (omega arith)) at same);
      there = λ some. rw (get_or_append_left hs (h ∷ []) 0 (c - 1) (omega arith)) (last.there some);
    }

-- another bucket's last place stays
other_bucket : (m : ℕ) (hs : List ℕ) (h b c : ℕ) → h % m ≢ b → IsLast m hs b (length hs) c → IsLast m (hs ++ h ∷ []) b (suc (length hs)) c
other_bucket m hs h b c other last =
    let same = kept m hs h b (length hs) c (omega arith) last in
    let within = last.within in
    record {
      within = omega arith;
      none_after = λ j from to. by j (cases_lt j (length hs)) from to same;
      there = same.there;
    }
  where
    by : (j : ℕ) → (j < length hs) ⊎ (length hs ≤ j) → c ≤ j → j < suc (length hs) → IsLast m (hs ++ h ∷ []) b (length hs) c → get_or (hs ++ h ∷ []) j 0 % m ≢ b
    by j (inl less) from to same = same.none_after j from less
    by j (inr more) from to same = λ e.
        let last_one : length hs ≡ j = omega arith in
        other (ap (λ (x : ℕ). x % m) (sym (get_or_push hs h 0 j last_one)) ∙ e)

own_bucket : (m : ℕ) (hs : List ℕ) (h : ℕ) → IsLast m (hs ++ h ∷ []) (h % m) (suc (length hs)) (suc (length hs))
own_bucket m hs h =
    let back : suc (length hs) - 1 ≡ length hs = omega arith in
    record {
      within = omega arith;
      none_after = λ j from to. absurd (omega arith);
      there = λ some. rw back (ap (λ (x : ℕ). x % m) (get_or_push hs h 0 (length hs) refl));
    }

pub pushed : (heads links hs : List ℕ) (h : ℕ) → IsIndex heads links hs
    → IsIndex (set heads (h % length heads) (suc (length links))) (links ++ get_or heads (h % length heads) 0 ∷ []) (hs ++ h ∷ [])
pushed heads links hs h index =
    let some = index.buckets in
    let many = index.as_many in
    let wide : length (set heads (h % length heads) (suc (length links))) ≡ length heads = length-set heads (h % length heads) (suc (length links)) in
    let grown = length-append hs (h ∷ []) in
    let long : length (hs ++ h ∷ []) ≡ suc (length hs) = omega arith in
    let longer = length-append links (get_or heads (h % length heads) 0 ∷ []) in
    record {
      buckets = omega arith;
      as_many = omega arith;
      of_heads = λ b below. rw (wide, long) (head_by b (omega arith) (cases_eq b (h % length heads)));
      of_links = λ i below. rw wide (link_by i (omega arith) (cases_lt i (length hs)));
    }
  where
    head_by : (b : ℕ) → b < length heads → (b ≡ h % length heads) ⊎ (b ≡ h % length heads → ⊥)
        → IsLast (length heads) (hs ++ h ∷ []) b (suc (length hs)) (get_or (set heads (h % length heads) (suc (length links))) b 0)
    head_by b below (inl e) = rw (e, get_or-set_same heads (h % length heads) (suc (length links)) 0 (rw e at below), index.as_many) (own_bucket (length heads) hs h)
    head_by b below (inr other) =
        rw (get_or-set_other heads (h % length heads) b (suc (length links)) 0 other) (other_bucket (length heads) hs h b (get_or heads b 0) (λ e. other (sym e)) (index.of_heads b below))

    link_by : (i : ℕ) → i < suc (length hs) → (i < length hs) ⊎ (length hs ≤ i)
        → IsLast (length heads) (hs ++ h ∷ []) (get_or (hs ++ h ∷ []) i 0 % length heads) i (get_or (links ++ get_or heads (h % length heads) 0 ∷ []) i 0)
    link_by i below (inl less) =
        let many = index.as_many in
        rw (get_or_append_left hs (h ∷ []) 0 i less, get_or_append_left links (get_or heads (h % length heads) 0 ∷ []) 0 i (omega arith))
        (kept (length heads) hs h (get_or hs i 0 % length heads) i (get_or links i 0) (omega arith) (index.of_links i less))
    link_by i below (inr more) =
        let some = index.buckets in
        let here : length hs ≡ i = omega arith in
        let there : length links ≡ i = index.as_many ∙ here in
        rw (get_or_push hs h 0 i here, get_or_push links (get_or heads (h % length heads) 0) 0 i there)
        (subst (λ (n : ℕ). IsLast (length heads) (hs ++ h ∷ []) (h % length heads) n (get_or heads (h % length heads) 0)) here
        (kept (length heads) hs h (h % length heads) (length hs) (get_or heads (h % length heads) 0) (omega arith) (index.of_heads (h % length heads) (omega arith))))

-- ---- one less

module _ (m : ℕ) (hs : List ℕ) (p link : ℕ) (inside : p < length hs) (before : IsLast m hs (get_or hs p 0 % m) p link) where
  below : (j : ℕ) → j < p → get_or (remove hs p) j 0 ≡ get_or hs j 0
  below j less = get_or-remove_below hs p 0 j less inside

  above : (j : ℕ) → p ≤ j → get_or (remove hs p) j 0 ≡ get_or hs (j + 1) 0
  above j more = get_or-remove_above hs p 0 j more inside

  -- of places up to the one that goes, what is told stays
  stays : (b n c : ℕ) → n ≤ p → IsLast m hs b n c → IsLast m (remove hs p) b n c
  stays b n c all last =
      let within = last.within in
      record {
        within = last.within;
        none_after = λ j from to same. last.none_after j from to (rw (below j (omega arith)) at same);
        there = λ some. rw (below (c - 1) (omega arith)) (last.there some);
      }

  -- what is behind it moves down
  in_front : (b n c : ℕ) → p < n → c ≤ p → IsLast m hs b n c → IsLast m (remove hs p) b (n - 1) c
  in_front b n c more less last =
      record {
        within = omega arith;
        none_after = λ j from to e. at_each j from to e (cases_lt j p);
        there = λ some. rw (below (c - 1) (omega arith)) (last.there some);
      }
    where
      at_each : (j : ℕ) → c ≤ j → j < n - 1 → get_or (remove hs p) j 0 % m ≡ b → (j < p) ⊎ (p ≤ j) → ⊥
      at_each j from to e (inl less) = last.none_after j from (omega arith) (rw (below j less) at e)
      at_each j from to e (inr more) = last.none_after (j + 1) (omega arith) (omega arith) (rw (above j more) at e)

  at_it : (b n c : ℕ) → p < n → c ≡ suc p → IsLast m hs b n c → IsLast m (remove hs p) b (n - 1) link
  at_it b n c more equal last =
      let within = before.within in
      record {
        within = omega arith;
        none_after = λ j from to e. at_each j from to e (cases_lt j p);
        there = λ some. rw (below (link - 1) (omega arith)) (before.there some ∙ bucket);
      }
    where
      bucket : get_or hs p 0 % m ≡ b
      bucket =
          let here : c - 1 ≡ p = omega arith in
          rw here at (last.there (omega arith))

      at_each : (j : ℕ) → link ≤ j → j < n - 1 → get_or (remove hs p) j 0 % m ≡ b → (j < p) ⊎ (p ≤ j) → ⊥
      at_each j from to e (inl less) = before.none_after j from less ((rw (below j less) at e) ∙ sym bucket)
      at_each j from to e (inr more) = last.none_after (j + 1) (omega arith) (omega arith) (rw (above j more) at e)

  behind : (b n c : ℕ) → p < n → suc p < c → IsLast m hs b n c → IsLast m (remove hs p) b (n - 1) (c - 1)
  behind b n c more greater last =
      let within = last.within in
      let back : c - 1 - 1 + 1 ≡ c - 1 = omega arith in
      record {
        within = omega arith;
        none_after = λ j from to e. last.none_after (j + 1) (omega arith) (omega arith) (rw (above j (omega arith)) at e);
        there = λ some. rw (above (c - 1 - 1) (omega arith), back) (last.there (omega arith));
      }

  moved : (b n c y : ℕ) → p < n → IsLast m hs b n c → IsShifted p link c y → IsLast m (remove hs p) b (n - 1) y
  moved b n c y more last shifted = by (cases_order c (suc p))
    where
      by : (c ≡ suc p) ⊎ ((c < suc p) ⊎ (suc p < c)) → IsLast m (remove hs p) b (n - 1) y
      by (inl equal) = rw (shifted.here equal) (at_it b n c more equal last)
      by (inr (inl less)) = rw (shifted.below (omega (arith, less))) (in_front b n c more (omega (arith, less)) last)
      by (inr (inr greater)) = rw (shifted.above greater) (behind b n c more greater last)

pub removed : (heads links hs new_heads new_links : List ℕ) (p : ℕ) → p < length hs → IsIndex heads links hs → AreShifted p (get_or links p 0) heads new_heads → AreShifted p (get_or links p 0) (remove links p) new_links
    → IsIndex new_heads new_links (remove hs p)
removed heads links hs new_heads new_links p inside index shifted_heads shifted_links =
    let some = index.buckets in
    let many = index.as_many in
    let wide = shifted_heads.as_many in
    let long = shifted_links.as_many in
    let fewer = length-remove hs p inside in
    let fewer_links = length-remove links p (omega arith) in
    let last : length (remove hs p) ≡ length hs - 1 = omega arith in
    record {
      buckets = omega arith;
      as_many = omega arith;
      of_heads = λ b below_all.
          rw (wide, last) (moved (length heads) hs p (get_or links p 0) inside (index.of_links p inside) b (length hs) (get_or heads b 0) (get_or new_heads b 0) inside
          (index.of_heads b (omega arith)) (shifted_heads.each b (omega arith)));
      of_links = λ i below_all. rw wide (link_by i (omega arith) (shifted_links.each i (omega arith)) (cases_lt i p));
    }
  where
    link_by : (i : ℕ) → i < length hs - 1 → IsShifted p (get_or links p 0) (get_or (remove links p) i 0) (get_or new_links i 0) → (i < p) ⊎ (p ≤ i)
        → IsLast (length heads) (remove hs p) (get_or (remove hs p) i 0 % length heads) i (get_or new_links i 0)
    link_by i below_all shifted (inl less) =
        let many = index.as_many in
        let was : get_or (remove links p) i 0 ≡ get_or links i 0 = get_or-remove_below links p 0 i less (omega arith) in
        let told = index.of_links i (omega arith) in
        let within = told.within in
        let same : get_or new_links i 0 ≡ get_or links i 0 = shifted.below (rw was (omega arith)) ∙ was in
        rw (same, get_or-remove_below hs p 0 i less inside) (stays (length heads) hs p (get_or links p 0) inside (index.of_links p inside) (get_or hs i 0 % length heads) i (get_or links i 0) (omega arith) told)
    link_by i below_all shifted (inr more) =
        let many = index.as_many in
        let was : get_or (remove links p) i 0 ≡ get_or links (i + 1) 0 = get_or-remove_above links p 0 i more (omega arith) in
        let back : i + 1 - 1 ≡ i = omega arith in
        rw (get_or-remove_above hs p 0 i more inside)
        (subst (λ (n : ℕ). IsLast (length heads) (remove hs p) (get_or hs (i + 1) 0 % length heads) n (get_or new_links i 0)) back
        (moved (length heads) hs p (get_or links p 0) inside (index.of_links p inside) (get_or hs (i + 1) 0 % length heads) (i + 1) (get_or links (i + 1) 0) (get_or new_links i 0) (omega arith)
        (index.of_links (i + 1) (omega arith)) (subst (λ (x : ℕ). IsShifted p (get_or links p 0) x (get_or new_links i 0)) was shifted)))

-- ---- the numbers, one by one

pub shift_begins : (place link : ℕ) (old : List ℕ) → AreShiftedTo place link 0 old old
shift_begins place link old = record {
  as_many = refl;
  done = λ k below_it. absurd (omega arith);
  left = λ k from. refl;
}

pub shift_turns : (place link i y : ℕ) (old new : List ℕ) → i < length new → AreShiftedTo place link i old new → IsShifted place link (get_or new i 0) y → AreShiftedTo place link (i + 1) old (set new i y)
shift_turns place link i y old new inside so_far one =
    record {
      as_many = length-set new i y ∙ so_far.as_many;
      done = λ k below_it. by k below_it (cases_eq k i);
      left = λ k from. get_or-set_other new i k y 0 (λ e. absurd (omega (arith, e))) ∙ so_far.left k (omega arith);
    }
  where
    by : (k : ℕ) → k < i + 1 → (k ≡ i) ⊎ (k ≡ i → ⊥) → IsShifted place link (get_or old k 0) (get_or (set new i y) k 0)
    by k below_it (inl e) =
        rw (e, get_or-set_same new i y 0 inside) (subst (λ (x : ℕ). IsShifted place link x y) (so_far.left i (omega arith)) one)
    by k below_it (inr other) =
        rw (get_or-set_other new i k y 0 other) (so_far.done k (omega (arith, other)))

pub shift_ends : (place link i : ℕ) (old new : List ℕ) → length new ≤ i → AreShiftedTo place link i old new → AreShifted place link old new
shift_ends place link i old new outside so_far =
    let many = so_far.as_many in
    record {
      as_many = so_far.as_many;
      each = λ k below_all. so_far.done k (omega arith);
    }
