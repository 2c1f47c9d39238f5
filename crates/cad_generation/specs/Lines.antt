-- The lines of a generated session: four accounts, a token, a vault for each account, an amount for each, and transfers.
use Rattle.std.specs.Prelude.{ℕ, zero, suc, ◌+◌, ◌/◌, ◌%◌, ◌^◌, List, [], ◌∷◌, ◌++◌, map}
use Rattle.serde_json.specs.Written.{compact_text}
use Rattle.cad_generation.specs.Numbers.{number}
use Rattle.cad_generation.specs.Programs.{setup, publish, lines_text}
use Rattle.cad_generation.specs.Requests.{account_request, deploy_request, signed_request, transfer_request}

abbrev pub account_line : List ℕ
account_line = compact_text account_request

abbrev pub deploy_line : List ℕ
deploy_line = compact_text deploy_request

abbrev pub signed_line : List ℕ → ℕ → List ℕ
signed_line code signer = compact_text (signed_request code signer)

abbrev pub transfer_line : ℕ → ℕ → ℕ → List ℕ
transfer_line from to amount = compact_text (transfer_request from to amount)

-- the accounts, the deployment, and what each account needs for transfers
abbrev pub first_lines : List (List ℕ)
first_lines =
    (account_line ∷ account_line ∷ account_line ∷ account_line ∷ deploy_line ∷ [])
    ++ map (signed_line setup) (2 ∷ 3 ∷ 4 ∷ [])
    ++ map (signed_line publish) (1 ∷ 2 ∷ 3 ∷ 4 ∷ [])
    ++ map (λ to. transfer_line 1 to 100) (2 ∷ 3 ∷ 4 ∷ [])

-- the transfer of a number: an amount from 1 to 200, between two of the four accounts
abbrev pub transfer_of : ℕ → List ℕ
transfer_of x = transfer_line (1 + x / 2 ^ 33 % 4) (1 + x / 2 ^ 43 % 4) (1 + x / 2 ^ 53 % 200)

-- the first transfers, by the numbers behind n
abbrev pub transfers : ℕ → ℕ → List (List ℕ)
transfers n zero = []
transfers n (suc i) = transfers n i ++ transfer_of (number n (suc i)) ∷ []

-- n transfers, behind what they need
abbrev pub generated : ℕ → List (List ℕ)
generated n = first_lines ++ transfers n n

-- as one text
abbrev pub generated_text : ℕ → List ℕ
generated_text n = lines_text (generated n)
