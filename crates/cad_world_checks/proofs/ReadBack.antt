-- What is read again from its bytes has bytes of its own.
use Rattle.std.proofs.Common.{◌≡◌, ◌↔◌, IsTrue, Bool, true, false, List, [], ◌∷◌, length, get_or, Some, None, refl, sym, subst, ◌∙◌, arith}
use Rattle.std.specs.Prelude.{◌&&◌}
use Rattle.std.specs.List.{AllByRecursion}
use Rattle.std.specs.Str.{IsUtf8}
use Rattle.std.proofs.lemmas.Bool.{false≢true}
use Rattle.cad_accounts.proofs.Order.{both}
use Rattle.cad_codec.specs.Forms.{HasBytes, IsForm, AreForms, EntriesAreForms, FieldsAreForms}
use Rattle.cad_rows.specs.Views.{PlaceView, vacant, taken, before}
use Rattle.cad_syntax.specs.declared.text.Name.{Name}
use Rattle.cad_values.specs.Forms.{has_no_reference, is_plain_lasting, all_values, all_entries, all_fields}
use Rattle.cad_values.specs.Values.{PureValue, Values, no_values, values, Entries, no_entries, entries, Fields, no_fields, fields}
use Rattle.cad_values.specs.Values as v
use Rattle.cad_wire.proofs.FieldLaws.{some_is}
use Rattle.cad_world.specs.Registers.{row_values}
use Rattle.cad_world.specs.Rows.{Row}
use Rattle.cad_world.specs.State as s
use Rattle.cad_world_checks.specs.Checks.{PlaceHasBytes, LentHasBytes, BorrowedHasBytes}
use Rattle.cad_worlds.specs.Standing.{AccountHasBytes, AreOneText, ContractHasBytes}

-- ---- no reference is in what has bytes

three : (a b c : Bool) → a ≡ true → b ≡ true → c ≡ true → (a && b && c) ≡ true
three a b c p q r = λ i. p i && q i && r i

mutual
  form_bare : (x : PureValue) → IsForm x → has_no_reference x ≡ true
  form_bare (v.some x) f = form_bare x f
  form_bare (v.array t vs) f = forms_bare vs f.1
  form_bare (v.dictionary k t es) f = entries_bare es f.2
  form_bare (v.composite id n fs) f = fields_bare fs f.0
  form_bare (v.reference a t to) f = absurd f
  form_bare _ f = refl

  forms_bare : (vs : Values) → AreForms vs → all_values is_plain_lasting vs ≡ true
  forms_bare no_values f = refl
  forms_bare (values x vs) f = both (has_no_reference x) (all_values is_plain_lasting vs) (form_bare x f.0) (forms_bare vs f.1)

  entries_bare : (es : Entries) → EntriesAreForms es → all_entries is_plain_lasting es ≡ true
  entries_bare no_entries f = refl
  entries_bare (entries k x es) f = three (has_no_reference k) (has_no_reference x) (all_entries is_plain_lasting es) (form_bare k f.0.0) (form_bare x f.0.1) (entries_bare es f.1)

  fields_bare : (fs : Fields) → FieldsAreForms fs → all_fields is_plain_lasting fs ≡ true
  fields_bare no_fields f = refl
  fields_bare (fields n x fs) f = both (has_no_reference x) (all_fields is_plain_lasting fs) (form_bare x f.0) (fields_bare fs f.1)

pub no_bytes : (x : PureValue) → has_no_reference x ≡ false → IsTrue false ↔ HasBytes x
no_bytes x e = ((λ h. absurd (false≢true h)), (λ h. let wrong : true ≡ false = sym (form_bare x h.1.0) ∙ e in absurd cc))

-- ---- what is read again

pub again : {A : Type 0} (P : A → Type 0) (x y : A) (b : Bool) → P y → (P x → Some x ≡ Some y) → (IsTrue b ↔ (y ≡ x)) → IsTrue b ↔ P x
again P x y b has only tells = ((λ h. subst P (tells.0 h) has), (λ h. tells.1 (sym (some_is x y (only h)))))

pub damaged : {A : Type 0} (P : A → Type 0) (x : A) → (P x → Some x ≡ None) → IsTrue false ↔ P x
damaged P x only = ((λ h. absurd (false≢true h)), (λ h. let wrong : Some x ≡ None = only h in absurd cc))

-- ---- what an account has

pub place_opens : (p : PlaceView) (r : Row) → AllByRecursion HasBytes (row_values (before p r)) ↔ (PlaceHasBytes p × AllByRecursion HasBytes (row_values r))
place_opens vacant r = ((λ h. (tt, h)), (λ h. h.1))
place_opens (taken l t) r = ((λ h. h), (λ h. h))

pub account_so : (b : Bool) (a : s.Account) → AllByRecursion HasBytes (row_values a.stored) → AllByRecursion LentHasBytes a.published → (IsTrue b ↔ AllByRecursion BorrowedHasBytes a.controllers) → IsTrue b ↔ AccountHasBytes a
account_so b a stored lent tells = ((λ h. record { stored = stored; lent = lent; borrowed = tells.0 h }), (λ has. tells.1 has.borrowed))

pub not_stored : (a : s.Account) → (AllByRecursion HasBytes (row_values a.stored) → ⊥) → IsTrue false ↔ AccountHasBytes a
not_stored a refuses = ((λ h. absurd (false≢true h)), (λ has. absurd (refuses has.stored)))

pub not_lent : (a : s.Account) → (AllByRecursion LentHasBytes a.published → ⊥) → IsTrue false ↔ AccountHasBytes a
not_lent a refuses = ((λ h. absurd (false≢true h)), (λ has. absurd (refuses has.lent)))

pub contract_has : (b : Bool) (c : s.Contract) → AreOneText c.id.names → (IsTrue b ↔ AllByRecursion HasBytes (row_values c.value)) → IsTrue b ↔ ContractHasBytes c
contract_has b c name tells = ((λ h. record { name = name; value = tells.0 h }), (λ has. tells.1 has.value))

pub one_text : (ns : List Name) → AreOneText ns → length ns ≡ 1
one_text [] t = absurd t
one_text (n ∷ []) t = refl
one_text (n ∷ m ∷ ns) t = absurd t

pub text_so : (ns : List Name) (n : Name) → length ns ≡ 1 → n ≡ get_or ns 0 n → IsUtf8 n.0 → IsTrue true ↔ AreOneText ns
text_so [] n one is text = absurd (omega (arith, one))
text_so (m ∷ k ∷ ns) n one is text = absurd (omega (arith, one))
text_so (m ∷ []) n one is text = ((λ h. subst (λ (x : Name). IsUtf8 x.0) is text), (λ t. refl))
