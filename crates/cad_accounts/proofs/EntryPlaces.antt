-- Entries in byte order of their keys: what is applied at a place, and what one more changes.
use Rattle.std.proofs.Common.{◌≡◌, ℕ, suc, Bool, true, cond, List, [], ◌∷◌, ◌++◌, take, drop, get_or, set, Option, refl, sym, ap, subst, ◌∙◌}
use Rattle.std.specs.Prelude.{◌&&◌}
use Rattle.std.specs.List.{insert}
use Rattle.std.proofs.lemmas.List.{take-append-drop, set_split}
use Rattle.cad_wire.specs.declared.entry.Entry.{Entry}
use Rattle.cad_wire.specs.Body.{are_ascending}
use Rattle.cad_accounts.specs.Registers.{Map, changed, applied}
use Rattle.cad_accounts.specs.Code.Places.{entry_key, AllBehind, StandsAt, BelongsAt}
use Rattle.cad_accounts.specs.KeyOrder.{before, rise}
use Rattle.cad_accounts.proofs.Keys.{before_differs}
use Rattle.cad_accounts.proofs.Maps.{changed_twice, Free, applied_after}
use Rattle.cad_accounts.proofs.OneByOne.{applied_append}
use Rattle.cad_accounts.proofs.Order.{parted, behind_it, insert_rises, set_rises}

-- ---- order

same_order : (es : List Entry) → are_ascending es ≡ rise entry_key es
same_order [] = refl
same_order (e ∷ []) = refl
same_order (e ∷ f ∷ es) = ap (λ b. before e.key.0 f.key.0 && b) (same_order (f ∷ es))

pub rising : (es : List Entry) → are_ascending es ≡ true → rise entry_key es ≡ true
rising es a = sym (same_order es) ∙ a

pub ascending : (es : List Entry) → rise entry_key es ≡ true → are_ascending es ≡ true
ascending es r = same_order es ∙ r

pub free_behind : (key : List ℕ) (es : List Entry) → AllBehind entry_key key es → Free key es
free_behind key [] h = tt
free_behind key (e ∷ es) h = (before_differs key e.key.0 h.0, free_behind key es h.1)

-- ---- one entry, and those around it

pub applied_with : (front : List Entry) (e : Entry) (back : List Entry) (m : Map) → AllBehind entry_key e.key.0 back → applied (front ++ e ∷ back) m ≡ changed e.key.0 e.value (applied (front ++ back) m)
applied_with front e back m h =
    applied_append front (e ∷ back) m
    ∙ applied_after e.key.0 e.value back (applied front m) (free_behind e.key.0 back h)
    ∙ ap (changed e.key.0 e.value) (sym (applied_append front back m))

-- ---- what one more change makes of entries

pub record Put (es : List Entry) (key : List ℕ) (v : Option (List ℕ)) (new : List Entry) : Type 0 where
  pub ascends : are_ascending new ≡ true
  pub is : (m : Map) → applied new m ≡ changed key v (applied es m)

-- of two entries of one key the last stands
replaced : (front : List Entry) (x e : Entry) (back : List Entry) (m : Map) → x.key.0 ≡ e.key.0 → AllBehind entry_key e.key.0 back → applied (front ++ e ∷ back) m ≡ changed e.key.0 e.value (applied (front ++ x ∷ back) m)
replaced front x e back m same h =
    let before_it : applied (front ++ x ∷ back) m ≡ changed x.key.0 x.value (applied (front ++ back) m) = applied_with front x back m (subst (λ (k : List ℕ). AllBehind entry_key k back) (sym same) h) in
    applied_with front e back m h
    ∙ sym (changed_twice e.key.0 e.value x.value (applied (front ++ back) m))
    ∙ ap (λ (k : List ℕ). changed e.key.0 e.value (changed k x.value (applied (front ++ back) m))) (sym same)
    ∙ ap (changed e.key.0 e.value) (sym before_it)

put_at : (es : List Entry) (e : Entry) (i : ℕ) → are_ascending es ≡ true → StandsAt entry_key e.key.0 es i → Put es e.key.0 e.value (set es i e)
put_at es e i a has = record {
  ascends = ascending (set es i e) (set_rises entry_key es i e (rising es a) has);
  is = λ m.
      ap (λ (l : List Entry). applied l m) (set_split es i e has.within)
      ∙ replaced (take i es) (get_or es i e) e (drop (suc i) es) m (has.key_is e) (behind_it entry_key e.key.0 es i e (rising es a) has)
      ∙ ap (λ (l : List Entry). changed e.key.0 e.value (applied l m)) (sym (parted entry_key es i e has.within));
}

pub put_there : (es : List Entry) (key : List ℕ) (v : Option (List ℕ)) (i : ℕ) (x : Entry) → are_ascending es ≡ true → StandsAt entry_key key es i → x ≡ get_or es i x → Put es key v (set es i (record { key = x.key; value = v }))
put_there es key v i x a has is =
    let e : Entry = record { key = x.key; value = v } in
    let same : x.key.0 ≡ key = ap (λ (y : Entry). y.key.0) is ∙ has.key_is x in
    subst (λ (k : List ℕ). Put es k v (set es i e)) same (put_at es e i a (subst (λ (k : List ℕ). StandsAt entry_key k es i) (sym same) has))

pub put_more : (es : List Entry) (e : Entry) (i : ℕ) (new : List Entry) (b : Bool) → are_ascending es ≡ true → BelongsAt entry_key e.key.0 es i → b ≡ true → new ≡ cond b (insert es i e) es → Put es e.key.0 e.value new
put_more es e i new b a belongs succeeded is =
    let there : insert es i e ≡ new = ap (λ (t : Bool). cond t (insert es i e) es) (sym succeeded) ∙ sym is in
    subst (Put es e.key.0 e.value) there (record {
      ascends = ascending (insert es i e) (insert_rises entry_key es i e (rising es a) belongs);
      is = λ m.
          applied_with (take i es) e (drop i es) m belongs.behind
          ∙ ap (λ (l : List Entry). changed e.key.0 e.value (applied l m)) (take-append-drop i es);
    })
