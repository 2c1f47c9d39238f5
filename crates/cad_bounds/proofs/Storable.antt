-- Storable: the same while the units last.
use Rattle.cad_world.specs.Storable.{is_storable, is_low, all_in_accounts, values_last}
use Rattle.cad_bounds.proofs.Same.{Runs, Same, same_done, same_require}

pub same_values_last : (R : Runs) → Same R (values_last) (values_last)
same_values_last R = λ s low. (same_require R 133 (all_in_accounts is_storable s.accounts s.contracts) _ _ (same_require R 123 (all_in_accounts is_low s.accounts s.contracts) _ _ (same_done R))) s low
