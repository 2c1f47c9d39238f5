-- What a reply adds to the counts.
use Rattle.std.proofs.Common.{◌≡◌, ℕ, ◌+◌, List, [], ◌∷◌, ◌++◌, length, filter, refl, sym, ◌∙◌, ap, length-append}
use Rattle.std.specs.List.{flat_map}
use Rattle.std.proofs.lemmas.Grind.{flat_map-append}
use Rattle.std.proofs.lemmas.List.{append-nil}
use Rattle.std.proofs.lemmas.List.Elements.{filter-append}
use Rattle.serde_json.specs.Data.{Data}
use Rattle.cad_runs.specs.Commands.{Reply, account_made, result, ran, rejected, failed, limit, bad, ill, is_ok}
use Rattle.cad_serve.specs.Code.Counted.{made_in, destroyed_in, ok_in, failed_in, IsCounted}
use Rattle.cad_answers.specs.Code.Views.{Tells}
use Rattle.cad_serve.specs.Generated.{made_by, destroyed_by, is_failed}
use Rattle.cad_serve.specs.declared.counting.Counts.{Counts}
use Rattle.cad_answers.specs.declared.reply.Reply as own
use Rattle.cad_answers.specs.declared.reply.Reply.TheVariants as reply

-- a count of one reply, by what the reply is
is_of : (F : Reply Data → ℕ) (n : ℕ) (a b : Reply Data) → a ≡ b → n ≡ F b → n ≡ F a
is_of F n a b same is = is ∙ ap F (sym same)

abbrev made_of : Reply Data → ℕ
made_of a = length (flat_map made_by (a ∷ []))

made_is : (r : own.Reply) (a : Reply Data) → Tells r a → made_in r ≡ made_of a
made_is (reply.Result text) a t = is_of made_of 0 a (result t.0) t.1 refl
made_is (reply.Account n) a t = is_of made_of 0 a (account_made n.0) t refl
made_is (reply.Ran receipt) a t = is_of made_of (length receipt.made) a (ran receipt.made receipt.destroyed t.0) t.1 (ap length (sym (append-nil receipt.made)))
made_is (reply.Failed n) a t = is_of made_of 0 a (failed n) t refl
made_is reply.Limit a t = is_of made_of 0 a limit t refl
made_is (reply.Bad n) a t = is_of made_of 0 a (bad n) t refl
made_is (reply.Rejected r) a t = is_of made_of 0 a (rejected r) t refl
made_is reply.IllTyped a t = is_of made_of 0 a ill t refl

abbrev destroyed_of : Reply Data → ℕ
destroyed_of a = length (flat_map destroyed_by (a ∷ []))

destroyed_is : (r : own.Reply) (a : Reply Data) → Tells r a → destroyed_in r ≡ destroyed_of a
destroyed_is (reply.Result text) a t = is_of destroyed_of 0 a (result t.0) t.1 refl
destroyed_is (reply.Account n) a t = is_of destroyed_of 0 a (account_made n.0) t refl
destroyed_is (reply.Ran receipt) a t = is_of destroyed_of (length receipt.destroyed) a (ran receipt.made receipt.destroyed t.0) t.1 (ap length (sym (append-nil receipt.destroyed)))
destroyed_is (reply.Failed n) a t = is_of destroyed_of 0 a (failed n) t refl
destroyed_is reply.Limit a t = is_of destroyed_of 0 a limit t refl
destroyed_is (reply.Bad n) a t = is_of destroyed_of 0 a (bad n) t refl
destroyed_is (reply.Rejected r) a t = is_of destroyed_of 0 a (rejected r) t refl
destroyed_is reply.IllTyped a t = is_of destroyed_of 0 a ill t refl

abbrev ok_of : Reply Data → ℕ
ok_of a = length (filter is_ok (a ∷ []))

ok_is : (r : own.Reply) (a : Reply Data) → Tells r a → ok_in r ≡ ok_of a
ok_is (reply.Result text) a t = is_of ok_of 1 a (result t.0) t.1 refl
ok_is (reply.Account n) a t = is_of ok_of 1 a (account_made n.0) t refl
ok_is (reply.Ran receipt) a t = is_of ok_of 1 a (ran receipt.made receipt.destroyed t.0) t.1 refl
ok_is (reply.Failed n) a t = is_of ok_of 0 a (failed n) t refl
ok_is reply.Limit a t = is_of ok_of 0 a limit t refl
ok_is (reply.Bad n) a t = is_of ok_of 0 a (bad n) t refl
ok_is (reply.Rejected r) a t = is_of ok_of 0 a (rejected r) t refl
ok_is reply.IllTyped a t = is_of ok_of 0 a ill t refl

abbrev failed_of : Reply Data → ℕ
failed_of a = length (filter is_failed (a ∷ []))

failed_is : (r : own.Reply) (a : Reply Data) → Tells r a → failed_in r ≡ failed_of a
failed_is (reply.Result text) a t = is_of failed_of 0 a (result t.0) t.1 refl
failed_is (reply.Account n) a t = is_of failed_of 0 a (account_made n.0) t refl
failed_is (reply.Ran receipt) a t = is_of failed_of 0 a (ran receipt.made receipt.destroyed t.0) t.1 refl
failed_is (reply.Failed n) a t = is_of failed_of 1 a (failed n) t refl
failed_is reply.Limit a t = is_of failed_of 0 a limit t refl
failed_is (reply.Bad n) a t = is_of failed_of 0 a (bad n) t refl
failed_is (reply.Rejected r) a t = is_of failed_of 0 a (rejected r) t refl
failed_is reply.IllTyped a t = is_of failed_of 1 a ill t refl

-- one more reply
pub counted_more : (old new : Counts) (answers : List (Reply Data)) (r : own.Reply) (a : Reply Data) → Tells r a → IsCounted old answers
    → new.lines ≡ old.lines + 1 → new.ok ≡ old.ok + ok_in r → new.failed ≡ old.failed + failed_in r → new.made ≡ old.made + made_in r → new.destroyed ≡ old.destroyed + destroyed_in r
    → IsCounted new (answers ++ a ∷ [])
counted_more old new answers r a tells h e_lines e_ok e_failed e_made e_destroyed = record {
  lines = e_lines ∙ (λ i. h.lines i + 1) ∙ sym (length-append answers (a ∷ []));
  ok = e_ok ∙ (λ i. h.ok i + ok_is r a tells i) ∙ sym (ap length (filter-append is_ok answers (a ∷ [])) ∙ length-append (filter is_ok answers) (filter is_ok (a ∷ [])));
  failed = e_failed ∙ (λ i. h.failed i + failed_is r a tells i) ∙ sym (ap length (filter-append is_failed answers (a ∷ [])) ∙ length-append (filter is_failed answers) (filter is_failed (a ∷ [])));
  made = e_made ∙ (λ i. h.made i + made_is r a tells i) ∙ sym (ap length (flat_map-append made_by answers (a ∷ [])) ∙ length-append (flat_map made_by answers) (flat_map made_by (a ∷ [])));
  destroyed = e_destroyed ∙ (λ i. h.destroyed i + destroyed_is r a tells i) ∙ sym (ap length (flat_map-append destroyed_by answers (a ∷ [])) ∙ length-append (flat_map destroyed_by answers) (flat_map destroyed_by (a ∷ [])));
}
