-- A contract begins.
use Rattle.std.proofs.Common.{◌≡◌, ℕ, suc, ◌+◌, refl, arith}
use Rattle.std.specs.Prelude.{List, [], ◌∷◌, ◌++◌, length}
use Rattle.cad_evaluation.specs.Adding.{own_entry, entry_members, with_empty_value, begin_contract}
use Rattle.cad_evaluation.specs.Making.{field_names}
use Rattle.cad_labels.specs.Laws.{AnyOne, Keeps}
use Rattle.cad_labels.proofs.Keeping.{next_stands}
use Rattle.cad_labels.proofs.Marks.{mark, mark_empty}
use Rattle.cad_labels.proofs.States.{contract_rows, total}
use Rattle.cad_world.specs.State.{Contract}

one_more : (p : ℕ) (c : Contract) (all : List Contract) → total p (contract_rows (all ++ c ∷ [])) ≡ total p (contract_rows all) + mark p c.value
one_more p c [] = omega arith
one_more p c (x ∷ all) = omega (arith, one_more p c all)

-- the label of its value stands once
pub begin_keeps : (c : Contract) → Keeps AnyOne (begin_contract c)
begin_keeps c = λ s once. (
  tt,
  next_stands s (record s { contracts = s.contracts ++ with_empty_value s.next_label c ∷ []; next_label = suc s.next_label }) refl
      (λ p. omega (
        arith,
        one_more p (with_empty_value s.next_label c) s.contracts,
        mark_empty p (length (field_names (entry_members (own_entry c.id c.program)))),
      )) once,
)
