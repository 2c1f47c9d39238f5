-- The requests of a generated session, as JSON whose keys are in byte order.
use Rattle.std.specs.Prelude.{ℕ, List, ◌++◌, codes, decimal}
use Rattle.serde_json.specs.Data.{Data, string, array, object, item, no_items, member, no_members}
use Rattle.cad_syntax.specs.Addresses.{address_text}
use Rattle.cad_generation.specs.Programs.{token, transfer}

abbrev pub account_request : Data
account_request = object (member (codes "kind") (string (codes "account")) no_members)

-- the contract Token, in the account 0x1
abbrev pub deploy_request : Data
deploy_request =
    object (member (codes "address") (string (address_text 1)) (member (codes "code") (string token)
    (member (codes "kind") (string (codes "deploy")) (member (codes "name") (string (codes "Token")) no_members))))

-- a transaction without arguments, which one account signs
abbrev pub signed_request : List ℕ → ℕ → Data
signed_request code signer =
    object (member (codes "code") (string code) (member (codes "kind") (string (codes "transaction"))
    (member (codes "signers") (array (item (string (address_text signer)) no_items)) no_members)))

-- a value that is written as text
abbrev pub argument : List ℕ → List ℕ → Data
argument type value = object (member (codes "type") (string type) (member (codes "value") (string value) no_members))

-- a whole amount, with 8 decimals
abbrev pub amount_text : ℕ → List ℕ
amount_text amount = decimal amount ++ codes ".00000000"

-- the amount, and the account to which it goes
abbrev pub transfer_arguments : ℕ → ℕ → Data
transfer_arguments to amount = array (item (argument (codes "UFix64") (amount_text amount)) (item (argument (codes "Address") (address_text to)) no_items))

-- a transaction with arguments, which one account signs
abbrev pub called_request : List ℕ → Data → List ℕ → Data
called_request code arguments signer =
    object (member (codes "arguments") arguments (member (codes "code") (string code) (member (codes "kind") (string (codes "transaction"))
    (member (codes "signers") (array (item (string signer) no_items)) no_members))))

-- an amount that goes from one account, which signs, to another
abbrev pub transfer_request : ℕ → ℕ → ℕ → Data
transfer_request from to amount = called_request transfer (transfer_arguments to amount) (address_text from)
