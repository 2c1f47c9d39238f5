-- Declarations: what is read is spelled, and what is spelled is read.
use Rattle.std.proofs.Common.{◌≡◌, ◌<◌, length, Some, None, ◌∙◌}
use Rattle.cad_syntax.specs.declared.keyword.Keyword.{Keyword}
use Rattle.cad_syntax.specs.declared.keyword.Keyword.TheVariants as k
use Rattle.cad_grammar.specs.declared.declaration.Access.{Access}
use Rattle.cad_grammar.specs.declared.declaration.Import.{Import}
use Rattle.cad_grammar.specs.Trees as tree
use Rattle.cad_grammar.specs.Trees.{FunctionTree, ContractTree, TransactionTree, DeclTree}
use Rattle.cad_grammar.specs.Spots.{Spot, keyword}
use Rattle.cad_grammar.specs.ProgramGrammar.{ReadsAccess, ReadsContract, ReadsTransaction, ReadsDecl, ReadsImport}
use Rattle.cad_grammar.specs.ProgramGrammar as g
use Rattle.cad_parse_type.proofs.TypeLaws.{TypeLaws}
use Rattle.cad_parse_type.proofs.Heads.{keyword_head}
use Rattle.cad_parse_type.proofs.Climbs.{Shrinks, then_is, then_not, either_is, either_not, IfFound, then_found, either_found, found_is}
use Rattle.cad_parse_statement.proofs.StatementLaws.{StatementLaws}
use Rattle.cad_parse.specs.Code.Parts as parts
use Rattle.cad_parse.specs.Code.Reading as r
use Rattle.cad_parse.proofs.MemberLaws.{MemberLaws, FunctionRead}
use Rattle.cad_parse.proofs.Firsts.{not_keyword, viewed_is, view_no_keyword}
use Rattle.cad_parse.proofs.Programs.{DeclarationLaws}
use Rattle.cad_parse.proofs.RepeatedLaws.{As}
use Rattle.cad_parse.proofs.ContractLaws.{contract_found, contract_shorter, contract_begins, ContractRead, contract_exact}
use Rattle.cad_parse.proofs.TransactionLaws.{transaction_found, transaction_shorter, transaction_word, TransactionRead, transaction_exact}

module _ (types : TypeLaws) (statements : StatementLaws) (members : MemberLaws) where
  accessed_found : (p q : Spot) (c : Access) → ReadsAccess p c q → IfFound (As ReadsDecl p) (r.accessed_declaration p c q)
  unfolding r.accessed_declaration
  accessed_found p q c d =
      let P = As ReadsDecl p in
      either_found P (keyword k.Contract q) _ _
      (λ u e. then_found P (r.contract p c u) _ (λ y f. g.contract_decl (found_is (As ReadsContract p) _ y (contract_found types members p q u c d e) f)))
      (λ _. then_found P (r.function c q) _ (λ y f. g.function_decl (members.function_sound p q c y d f)))

  declaration_found : (p : Spot) → IfFound (As ReadsDecl p) (r.declaration p)
  unfolding r.declaration
  declaration_found p =
      let P = As ReadsDecl p in
      either_found P (keyword k.Transaction p) _ _
      (λ q e. then_found P (r.transaction p q) _ (λ y f. g.transaction_decl (found_is (As ReadsTransaction p) _ y (transaction_found types statements members p q e) f)))
      (λ _. then_found P (parts.accessed p) _ (λ c e. accessed_found p c.1 c.0 (members.access_sound p c e)))

  pub declaration_sound : (p : Spot) (x : DeclTree × Spot) → r.declaration p ≡ Some x → ReadsDecl p x.0 x.1
  declaration_sound p x e = found_is (As ReadsDecl p) _ x (declaration_found p) e

  spelled_shorter : {p q : Spot} {d : DeclTree} → ReadsDecl p d q → length q.tokens < length p.tokens
  spelled_shorter (g.contract_decl d) = contract_shorter types members d
  spelled_shorter (g.function_decl d) = members.function_shorter d
  spelled_shorter (g.transaction_decl d) = transaction_shorter types statements members d

  pub declaration_shorter : Shrinks r.declaration
  declaration_shorter p x e = spelled_shorter (declaration_sound p x e)

  -- an access begins with its word alone
  access_lacks : (asked : Keyword) (p q : Spot) (c : Access) → (asked ≡ k.Access → ⊥) → ReadsAccess p c q → keyword asked p ≡ None
  access_lacks asked p q c ne d = let w = members.access_word d in not_keyword asked k.Access p ne (keyword_head k.Access p w.0 w.1)

  contract_is : (p q : Spot) (x : ContractTree) → ContractRead types members p x q → r.declaration p ≡ Some (tree.contract x, q)
  unfolding r.declaration r.accessed_declaration
  contract_is p q x w =
      either_not (keyword k.Transaction p) _ _ (access_lacks k.Transaction p w.place w.access (λ x. cc) w.accesses)
      ∙ then_is (parts.accessed p) _ (w.access, w.place) (members.access_exact w.accesses)
      ∙ either_is (keyword k.Contract w.place) _ _ w.behind w.words ∙ then_is (r.contract p w.access w.behind) _ (x, q) w.reads

  function_is : (p q : Spot) (x : FunctionTree) → FunctionRead p x q → r.declaration p ≡ Some (tree.top_function x, q)
  unfolding r.declaration r.accessed_declaration
  function_is p q x w =
      let v = viewed_is k.Fun w.word (w.is_view, w.behind) w.views in
      either_not (keyword k.Transaction p) _ _ (access_lacks k.Transaction p w.word w.access (λ x. cc) w.accesses)
      ∙ then_is (parts.accessed p) _ (w.access, w.word) (members.access_exact w.accesses)
      ∙ either_not (keyword k.Contract w.word) _ _ (view_no_keyword k.Contract k.Fun w.word (λ x. cc) v) ∙ then_is (r.function w.access w.word) _ (x, q) w.reads

  transaction_is : (p q : Spot) (x : TransactionTree) → TransactionRead types statements members p x q → r.declaration p ≡ Some (tree.transaction x, q)
  unfolding r.declaration
  transaction_is p q x w = either_is (keyword k.Transaction p) _ _ w.behind w.words ∙ then_is (r.transaction p w.behind) _ (x, q) w.reads

  spelled_exact : {p q : Spot} {d : DeclTree} → ReadsDecl p d q → r.declaration p ≡ Some (d, q)
  spelled_exact (g.contract_decl {p} {q} {x} d) = contract_is p q x (contract_exact types members d)
  spelled_exact (g.function_decl {p} {q} {x} d) = function_is p q x (members.function_exact d)
  spelled_exact (g.transaction_decl {p} {q} {x} d) = transaction_is p q x (transaction_exact types statements members d)

  pub declaration_exact : (p : Spot) (d : DeclTree) (q : Spot) → ReadsDecl p d q → r.declaration p ≡ Some (d, q)
  declaration_exact p d q w = spelled_exact w

  import_lacks : (p : Spot) → keyword k.Import p ≡ None → r.import p ≡ None
  unfolding r.import
  import_lacks p e = then_not (keyword k.Import p) _ e

  not_imported : {p q : Spot} {d : DeclTree} → ReadsDecl p d q → keyword k.Import p ≡ None
  not_imported (g.contract_decl {p} d) = let w = contract_begins types members d in access_lacks k.Import p w.1 w.0 (λ x. cc) w.2
  not_imported (g.function_decl {p} d) = let w = members.function_exact d in access_lacks k.Import p w.word w.access (λ x. cc) w.accesses
  not_imported (g.transaction_decl {p} d) =
      let w = transaction_word types statements members d in not_keyword k.Import k.Transaction p (λ x. cc) (keyword_head k.Transaction p w.0 w.1)

  -- no import begins where a declaration does
  pub no_import : (p : Spot) (d : DeclTree) (q : Spot) → ReadsDecl p d q → r.import p ≡ None
  no_import p d q w = import_lacks p (not_imported w)

  -- with the laws of imports, all that programs need
  pub declaration_laws : ((p : Spot) (x : Import × Spot) → r.import p ≡ Some x → ReadsImport p x.0 x.1) → ((p : Spot) (i : Import) (q : Spot) → ReadsImport p i q → r.import p ≡ Some (i, q))
      → Shrinks r.import → DeclarationLaws
  declaration_laws sound exact shorter = record {
    import_sound = sound;
    import_exact = exact;
    import_shorter = shorter;
    declaration_sound = declaration_sound;
    declaration_exact = declaration_exact;
    declaration_shorter = declaration_shorter;
    no_import = no_import;
  }
