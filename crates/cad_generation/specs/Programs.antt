-- The programs of a generated session.
use Rattle.std.specs.Prelude.{ℕ, List, [], ◌∷◌, ◌++◌, codes}
use Rattle.std.specs.List.{flat_map}

-- lines, each with a line feed behind it
abbrev pub lines_text : List (List ℕ) → List ℕ
lines_text = flat_map (λ line. line ++ 10 ∷ [])

-- a token, all of which the contract puts into the account where it is deployed
unfoldable pub token : List ℕ
token = lines_text
    (codes "access(all) contract Token {"
    ∷ codes "  access(all) entitlement Withdraw"
    ∷ codes "  access(all) event Moved(id: UInt64, amount: UFix64)"
    ∷ codes "  access(all) var supply: UFix64"
    ∷ codes "  access(all) resource interface Receiver {"
    ∷ codes "    access(all) fun deposit(from: @Vault)"
    ∷ codes "  }"
    ∷ codes "  access(all) resource Vault: Receiver {"
    ∷ codes "    access(all) var balance: UFix64"
    ∷ codes "    init(balance: UFix64) { self.balance = balance }"
    ∷ codes "    access(Withdraw) fun withdraw(amount: UFix64): @Vault {"
    ∷ codes "      pre { self.balance >= amount: \"too little\" }"
    ∷ codes "      self.balance = self.balance - amount"
    ∷ codes "      return <-create Vault(balance: amount)"
    ∷ codes "    }"
    ∷ codes "    access(all) fun deposit(from: @Vault) {"
    ∷ codes "      self.balance = self.balance + from.balance"
    ∷ codes "      emit Moved(id: self.uuid, amount: from.balance)"
    ∷ codes "      destroy from"
    ∷ codes "    }"
    ∷ codes "  }"
    ∷ codes "  access(all) fun empty(): @Vault { return <-create Vault(balance: 0.0) }"
    ∷ codes "  init() {"
    ∷ codes "    self.supply = 1000.0"
    ∷ codes "    self.account.storage.save(<-create Vault(balance: 1000.0), to: /storage/token)"
    ∷ codes "  }"
    ∷ codes "}"
    ∷ [])

-- an empty vault in the account of the signer
unfoldable pub setup : List ℕ
setup = lines_text
    (codes "import Token from 0x1"
    ∷ codes "transaction { prepare(a: auth(SaveValue) &Account) {"
    ∷ codes "  a.storage.save(<-Token.empty(), to: /storage/token) } }"
    ∷ [])

-- a capability of the signer's vault for everybody
unfoldable pub publish : List ℕ
publish = lines_text
    (codes "import Token from 0x1"
    ∷ codes "transaction { prepare(a: auth(IssueStorageCapabilityController, PublishCapability) &Account) {"
    ∷ codes "  let c = a.capabilities.storage.issue<&Token.Vault>(/storage/token)"
    ∷ codes "  a.capabilities.publish(c, at: /public/token) } }"
    ∷ [])

-- an amount from the vault of the signer into that of another account
unfoldable pub transfer : List ℕ
transfer = lines_text
    (codes "import Token from 0x1"
    ∷ codes "transaction(amount: UFix64, to: Address) {"
    ∷ codes "  let vault: @Token.Vault"
    ∷ codes "  prepare(a: auth(BorrowValue) &Account) {"
    ∷ codes "    let own = a.storage.borrow<auth(Token.Withdraw) &Token.Vault>(from: /storage/token) ?? panic(\"none\")"
    ∷ codes "    self.vault <- own.withdraw(amount: amount)"
    ∷ codes "  }"
    ∷ codes "  execute {"
    ∷ codes "    let into = getAccount(to).capabilities.borrow<&Token.Vault>(/public/token) ?? panic(\"none\")"
    ∷ codes "    into.deposit(from: <-self.vault)"
    ∷ codes "  }"
    ∷ codes "}"
    ∷ [])
