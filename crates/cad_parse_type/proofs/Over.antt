-- The `?` behind a type, and where a type is over.
use Rattle.std.proofs.Common.{◌≡◌, Bool, true, false, if◌then◌else◌, Option, Some, None, sym, ap, ◌∙◌, arith}
use Rattle.cad_grammar.specs.declared.token.Sign.{Sign}
use Rattle.cad_grammar.specs.declared.token.Sign.TheVariants as s
use Rattle.cad_grammar.specs.declared.token.TokenKind.TheVariants as kind
use Rattle.cad_grammar.specs.declared.level.TypePosition.{TypePosition}
use Rattle.cad_grammar.specs.Spots.{Spot, after}
use Rattle.cad_grammar.specs.Levels.{belongs_of, if_belongs, question, questions}
use Rattle.cad_parse_type.specs.Code.Levels.{token_strength}
use Rattle.cad_parse_type.proofs.Heads.{none_of, some_same, head, not_after, weak_after}
use Rattle.cad_parse_type.proofs.TypeLaws.{TypeOver}

chosen : {A : Type 0} (b : Bool) (q r : A) → ◌≡◌ {A = Option A} (if b then Some q else None) (Some r) → q ≡ r
chosen true q r e = some_same q r e
chosen false q r e = cc

if_belongs_some : (at : TypePosition) (o : Option Spot) (r : Spot) → if_belongs at o ≡ Some r → o ≡ Some r
if_belongs_some at None r e = cc
if_belongs_some at (Some q) r e = ap Some (chosen (belongs_of at q.tokens) q r e)

pub question_after : (at : TypePosition) (p q : Spot) → question at p ≡ Some q → after s.Question p ≡ Some q
unfolding question
question_after at p q e = if_belongs_some at (after s.Question p) q e

pub questions_after : (at : TypePosition) (p q : Spot) → questions at p ≡ Some q → after s.Coalesce p ≡ Some q
unfolding questions
questions_after at p q e = if_belongs_some at (after s.Coalesce p) q e

pub no_question : (at : TypePosition) (p : Spot) → after s.Question p ≡ None → question at p ≡ None
no_question at p h = none_of (question at p) (λ q e. let c = sym h ∙ question_after at p q e in cc)

pub no_questions : (at : TypePosition) (p : Spot) → after s.Coalesce p ≡ None → questions at p ≡ None
no_questions at p h = none_of (questions at p) (λ q e. let c = sym h ∙ questions_after at p q e in cc)

-- a type is over before another sign
pub over_sign : (at : TypePosition) (sign : Sign) (q : Spot) → (sign ≡ s.Question → ⊥) → (sign ≡ s.Coalesce → ⊥)
    → head q ≡ Some (kind.Sign sign) → TypeOver at q
over_sign at sign q question questions e = record {
  no_question = no_question at q (not_after sign s.Question q question e);
  no_questions = no_questions at q (not_after sign s.Coalesce q questions e);
}

-- and before what goes on nothing
pub over_weak : (at : TypePosition) (q : Spot) → token_strength q ≡ 0 → TypeOver at q
over_weak at q e = record {
  no_question = no_question at q (weak_after s.Question q 1 (λ b. omega arith) (omega (arith, e)));
  no_questions = no_questions at q (weak_after s.Coalesce q 5 (λ b. omega arith) (omega (arith, e)));
}
