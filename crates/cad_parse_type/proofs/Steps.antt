-- The readers of types, a step at a time, over any reader of what stands one nesting deeper.
use Rattle.std.proofs.Common.{◌≡◌, true, false, List, length, Option, Some, None, ◌∙◌}
use Rattle.cad_grammar.specs.declared.token.Sign.{Sign}
use Rattle.cad_grammar.specs.declared.token.Sign.TheVariants as s
use Rattle.cad_syntax.specs.declared.keyword.Keyword.TheVariants as k
use Rattle.cad_syntax.specs.declared.text.Name.{Name}
use Rattle.cad_grammar.specs.declared.level.TypePosition.{TypePosition}
use Rattle.cad_grammar.specs.declared.level.TypePosition.TheVariants as position
use Rattle.cad_grammar.specs.declared.type_expr.Entitlements.{Entitlements}
use Rattle.cad_grammar.specs.Trees.{TypeTree, Annotation, annotations_of}
use Rattle.cad_grammar.specs.Trees as tree
use Rattle.cad_grammar.specs.Spots.{Spot, back, then, either, after, keyword, opened, opening, resumed}
use Rattle.cad_grammar.specs.Levels.{question, questions}
use Rattle.cad_grammar.specs.TypeGrammar.{dot_name, Dotted, Authorized}
use Rattle.cad_parse_type.specs.Code.Reading.{Reader, climb, marked, dotted, dotted_list}
use Rattle.cad_parse_type.specs.Code.Reading as r
use Rattle.cad_parse_type.proofs.Heads.{after_head, opening_is, opening_head, other, sign_no_keyword, name_no_keyword, name_no_sign}
use Rattle.cad_parse_type.proofs.Climbs.{then_is, then_not, either_is, either_not, climb_stops}
use Rattle.cad_parse_type.proofs.NameLaws.{dotted_exact, dotted_whole, dotted_head, authorized_exact}
use Rattle.cad_parse_type.proofs.TypeLaws.{TypeOver}

-- ---- the `?` behind a type

pub tail_stops : (at : TypePosition) (q : Spot) → TypeOver at q → r.type_tail at q ≡ None
unfolding r.type_tail
tail_stops at q over = either_not (question at q) _ _ over.no_question ∙ then_not (questions at q) _ over.no_questions

pub tail_once : (at : TypePosition) (q v u : Spot) → question at q ≡ Some v → opened v ≡ Some u → r.type_tail at q ≡ Some (false, u)
unfolding r.type_tail
tail_once at q v u e o = either_is (question at q) _ _ v e ∙ then_is (opened v) _ u o

pub tail_twice : (at : TypePosition) (q v u w : Spot) → question at q ≡ None → questions at q ≡ Some v → opened v ≡ Some u → opened u ≡ Some w → r.type_tail at q ≡ Some (true, w)
unfolding r.type_tail
tail_twice at q v u w none e o o2 = either_not (question at q) _ _ none ∙ then_is (questions at q) _ v e ∙ then_is (opened v) _ u o ∙ then_is (opened u) _ w o2

module _ (core : Reader TypeTree) where
  -- a type is a chain behind its core
  pub whole_climb : (at : TypePosition) (p q : Spot) (t : TypeTree) → core p ≡ Some (t, q) → r.whole core at p ≡ climb marked (r.type_tail at) (length q.tokens) t q
  unfolding r.whole
  whole_climb at p q t e = then_is (core p) _ (t, q) e

  pub whole_core : (at : TypePosition) (p q : Spot) (t : TypeTree) → core p ≡ Some (t, q) → TypeOver at q → r.whole core at p ≡ Some (t, q)
  whole_core at p q t e over = whole_climb at p q t e ∙ climb_stops marked (r.type_tail at) (length q.tokens) t q (tail_stops at q over)

  pub plain_is : (at : TypePosition) (p q : Spot) (t : TypeTree) → after s.At p ≡ None → r.whole core at p ≡ Some (t, q)
      → r.annotated core at p ≡ Some (record { is_resource = false; written = t }, q)
  unfolding r.annotated
  plain_is at p q t none e = either_not (after s.At p) _ _ none ∙ then_is (r.whole core at p) _ (t, q) e

  pub resource_is : (at : TypePosition) (p u q : Spot) (t : TypeTree) → after s.At p ≡ Some u → r.whole core at u ≡ Some (t, q)
      → r.annotated core at p ≡ Some (record { is_resource = true; written = t }, q)
  unfolding r.annotated
  resource_is at p u q t e f = either_is (after s.At p) _ _ u e ∙ then_is (r.whole core at u) _ (t, q) f

  referenced_is : (a : Option Entitlements) (v u w : Spot) (t : TypeTree) → opened v ≡ Some u → core u ≡ Some (t, w) → r.referenced core a v ≡ Some (tree.reference a t, w)
  unfolding r.referenced
  referenced_is a v u w t o e = then_is (opened v) _ u o ∙ then_is (core u) _ (t, w) e

  pub reference_is : (p v u w : Spot) (t : TypeTree) → keyword k.Auth p ≡ None → after s.Ampersand p ≡ Some v → opened v ≡ Some u → core u ≡ Some (t, w)
      → r.core_of core p ≡ Some (tree.reference None t, w)
  unfolding r.core_of
  reference_is p v u w t none e o f = either_not (keyword k.Auth p) _ _ none ∙ either_is (after s.Ampersand p) _ _ v e ∙ referenced_is None v u w t o f

  pub authorized_is : (p q x v u w : Spot) (a : Entitlements) (t : TypeTree) → keyword k.Auth p ≡ Some q → Authorized q a x → after s.Ampersand x ≡ Some v → opened v ≡ Some u
      → core u ≡ Some (t, w) → r.core_of core p ≡ Some (tree.reference (Some a) t, w)
  unfolding r.core_of r.authorized_reference
  authorized_is p q x v u w a t e d f o g =
      either_is (keyword k.Auth p) _ _ q e ∙ then_is (r.authorized q) _ (a, x) (authorized_exact d) ∙ then_is (after s.Ampersand x) _ v f ∙ referenced_is (Some a) v u w t o g

  -- behind a sign there is no `auth`
  no_auth : (sign : Sign) (p q : Spot) → opening sign p ≡ Some q → keyword k.Auth p ≡ None
  no_auth sign p q o = sign_no_keyword k.Auth sign p (opening_head sign p q o)

  pub grouped_is : (p q v w : Spot) (t : TypeTree) → opening s.OpenParenthesis p ≡ Some q → r.whole core position.Anywhere q ≡ Some (t, v) → resumed s.CloseParenthesis p v ≡ Some w
      → r.core_of core p ≡ Some (t, w)
  unfolding r.core_of r.grouped
  grouped_is p q v w t o e c =
      let i = opening_is s.OpenParenthesis p q o in
      either_not (keyword k.Auth p) _ _ (no_auth s.OpenParenthesis p q o) ∙ either_not (after s.Ampersand p) _ _ (other s.OpenParenthesis s.Ampersand p i.0 (λ x. cc) i.1)
      ∙ either_is (after s.OpenParenthesis p) _ _ i.0 i.1 ∙ then_is (opened i.0) _ q i.2 ∙ then_is (r.whole core position.Anywhere q) _ (t, v) e ∙ then_is (resumed s.CloseParenthesis p v) _ w c

  pub array_is : (p q v w : Spot) (t : TypeTree) → opening s.OpenBracket p ≡ Some q → r.whole core position.Anywhere q ≡ Some (t, v) → resumed s.CloseBracket p v ≡ Some w
      → r.core_of core p ≡ Some (tree.array t, w)
  unfolding r.core_of r.array
  array_is p q v w t o e c =
      let i = opening_is s.OpenBracket p q o in
      either_not (keyword k.Auth p) _ _ (no_auth s.OpenBracket p q o) ∙ either_not (after s.Ampersand p) _ _ (other s.OpenBracket s.Ampersand p i.0 (λ x. cc) i.1)
      ∙ either_not (after s.OpenParenthesis p) _ _ (other s.OpenBracket s.OpenParenthesis p i.0 (λ x. cc) i.1)
      ∙ either_is (after s.OpenBracket p) _ _ i.0 i.1 ∙ then_is (opened i.0) _ q i.2 ∙ then_is (r.whole core position.Anywhere q) _ (t, v) e ∙ then_is (resumed s.CloseBracket p v) _ w c

  -- what stands in braces
  braced_is : (p q u : Spot) → after s.OpenBrace p ≡ Some q → opened q ≡ Some u
      → r.core_of core p ≡ either (r.dictionary core p u) Some (then (dotted_list s.CloseBrace u) (λ all. Some (tree.intersection all.0, back p all.1)))
  unfolding r.core_of r.braced
  braced_is p q u e o =
      either_not (keyword k.Auth p) _ _ (sign_no_keyword k.Auth s.OpenBrace p (after_head s.OpenBrace p q e)) ∙ either_not (after s.Ampersand p) _ _ (other s.OpenBrace s.Ampersand p q (λ x. cc) e)
      ∙ either_not (after s.OpenParenthesis p) _ _ (other s.OpenBrace s.OpenParenthesis p q (λ x. cc) e) ∙ either_not (after s.OpenBracket p) _ _ (other s.OpenBrace s.OpenBracket p q (λ x. cc) e)
      ∙ either_is (after s.OpenBrace p) _ _ q e ∙ then_is (opened q) _ u o

  pub dictionary_is : (p q v u x w : Spot) (key value : TypeTree) → opening s.OpenBrace p ≡ Some q → r.whole core position.Anywhere q ≡ Some (key, v) → resumed s.Colon q v ≡ Some u
      → r.whole core position.Anywhere u ≡ Some (value, x) → resumed s.CloseBrace p x ≡ Some w → r.core_of core p ≡ Some (tree.dictionary key value, w)
  unfolding r.dictionary
  dictionary_is p q v u x w key value o e c f c2 =
      let i = opening_is s.OpenBrace p q o in
      braced_is p i.0 q i.1 i.2 ∙ either_is (r.dictionary core p q) _ _ (tree.dictionary key value, w)
      (then_is (r.whole core position.Anywhere q) _ (key, v) e ∙ then_is (resumed s.Colon q v) _ u c ∙ then_is (r.whole core position.Anywhere u) _ (value, x) f ∙ then_is (resumed s.CloseBrace p x) _ w c2)

  -- no dictionary begins with a type behind which no `:` comes next
  pub no_dictionary : (p q v : Spot) (t : TypeTree) → r.whole core position.Anywhere q ≡ Some (t, v) → resumed s.Colon q v ≡ None → r.dictionary core p q ≡ None
  unfolding r.dictionary
  no_dictionary p q v t e none = then_is (r.whole core position.Anywhere q) _ (t, v) e ∙ then_not (resumed s.Colon q v) _ none

  pub intersection_is : (p q v : Spot) (all : List (List Name)) → opening s.OpenBrace p ≡ Some q → r.dictionary core p q ≡ None → dotted_list s.CloseBrace q ≡ Some (all, v)
      → r.core_of core p ≡ Some (tree.intersection all, back p v)
  intersection_is p q v all o none e =
      let i = opening_is s.OpenBrace p q o in
      braced_is p i.0 q i.1 i.2 ∙ either_not (r.dictionary core p q) _ _ none ∙ then_is (dotted_list s.CloseBrace q) _ (all, v) e

  -- a name begins none of the others
  name_begins : (p q : Spot) (n : List Name) → Dotted p n q → r.core_of core p ≡ r.named_type core p
  unfolding r.core_of
  name_begins p q n d =
      let h = dotted_head d in
      either_not (keyword k.Auth p) _ _ (name_no_keyword k.Auth h.0 p h.1) ∙ either_not (after s.Ampersand p) _ _ (name_no_sign s.Ampersand h.0 p h.1)
      ∙ either_not (after s.OpenParenthesis p) _ _ (name_no_sign s.OpenParenthesis h.0 p h.1) ∙ either_not (after s.OpenBracket p) _ _ (name_no_sign s.OpenBracket h.0 p h.1)
      ∙ either_not (after s.OpenBrace p) _ _ (name_no_sign s.OpenBrace h.0 p h.1)

  pub named_is : (p q : Spot) (n : List Name) → Dotted p n q → dot_name q ≡ None → after s.Less q ≡ None → r.core_of core p ≡ Some (tree.named n tree.no_annotations, q)
  unfolding r.named_type
  named_is p q n d over less = name_begins p q n d ∙ then_is (dotted p) _ (n, q) (dotted_whole d over) ∙ either_not (after s.Less q) _ _ less

  pub applied_is : (p q u v : Spot) (n : List Name) (all : List Annotation) → Dotted p n q → opening s.Less q ≡ Some u → r.annotation_list core u ≡ Some (all, v)
      → r.core_of core p ≡ Some (tree.named n (annotations_of all), back q v)
  unfolding r.named_type r.applied
  applied_is p q u v n all d o e =
      let i = opening_is s.Less q u o in
      name_begins p q n d ∙ then_is (dotted p) _ (n, q) (dotted_exact d (other s.Less s.Dot q i.0 (λ x. cc) i.1)) ∙ either_is (after s.Less q) _ _ i.0 i.1
      ∙ then_is (opened i.0) _ u i.2 ∙ then_is (r.annotation_list core u) _ (all, v) e
