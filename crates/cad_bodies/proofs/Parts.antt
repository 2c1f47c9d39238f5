-- Transactions are those of what is in scope in them.
use Rattle.std.proofs.Common.{◌≡◌, refl, ◌∙◌, ap, ℕ, ◌+◌, List, [], ◌∷◌, ◌++◌, map, codes, Bool}
use Rattle.std.specs.Prelude.{Option, Some, None, Result, option_map, option_and_then, option_to_list, length}
use Rattle.std.specs.Result.{result_ok, result_unwrap_or}
use Rattle.cad_syntax.specs.declared.text.Name.{Name}
use Rattle.cad_grammar.specs.Trees as s
use Rattle.cad_declarations.specs.Points.{transaction_name}
use Rattle.cad_declarations.specs.Tables.{ProgramTables}
use Rattle.cad_declarations.specs.Typed as e
use Rattle.cad_paths.specs.declared.letter.FieldRule.{FieldRule}
use Rattle.cad_typing.specs.Conditions.{values_at_entry, written_conditions}
use Rattle.cad_typing.specs.Environments.{precondition, postcondition}
use Rattle.cad_typing.specs.Functions.{count_body}
use Rattle.cad_typing.specs.Locals.{entries_of}
use Rattle.cad_typing.specs.Pieces as p
use Rattle.cad_typing.specs.Pieces.{Piece}
use Rattle.cad_typing.specs.Transactions.{declaration_is_right, own_fields, own_parameters, own_count, signers, part_in, transaction_rules, transaction_body, type_prepare, type_pre, type_execute, type_post, prepare_statements}
use Rattle.cad_bodies.specs.Code.Parts.{part_pieces, signed_count, typing_in, whole_in, whole_with}
use Rattle.cad_transactions.specs.Code.Parts.{TransactionLocals, TransactionTyping, well_typed, locals_in, typing_with, body_with}

part_law : {X A : Type 0} (text : List ℕ) (f : X → Result A ℕ) (o : Option X) → map (p.part text) (option_to_list (option_map f o)) ≡ map (λ x. p.part text (f x)) (option_to_list o)
part_law text f None = refl
part_law text f (Some x) = refl

typed_law : {X A : Type 0} (f : X → Result A ℕ) (o : Option X) → well_typed (option_map f o) ≡ option_and_then (λ x. result_ok (f x)) o
typed_law f None = refl
typed_law f (Some x) = refl

abbrev made : ProgramTables → s.TransactionTree → Option e.BlockTree → Option e.BlockTree → e.TransactionBody
made tables x prepare execute = record {
  fields = entries_of (part_in tables x precondition) (own_fields tables x);
  parameters = entries_of (part_in tables x precondition) (own_parameters tables x);
  signers = entries_of (part_in tables x precondition) (signers tables x);
  prepare = prepare;
  pre = result_unwrap_or (type_pre tables x) [];
  before = values_at_entry (part_in tables x (postcondition None)) 0 (written_conditions x.post);
  execute = execute;
  post = result_unwrap_or (type_post tables x) [];
  prepare_statements = prepare_statements x.prepare;
  pre_statements = length (written_conditions x.pre);
  execute_statements = count_body x.execute;
  post_statements = length (written_conditions x.post);
}

-- what is typed with the variables of the transaction
abbrev typing_of : ProgramTables → s.TransactionTree → TransactionTyping
typing_of tables x = record {
  prepare = option_map (type_prepare tables x) x.prepare;
  pre = type_pre tables x;
  execute = option_map (type_execute tables x) x.execute;
  post = type_post tables x;
}

typing_law : (tables : ProgramTables) (x : s.TransactionTree) → typing_in tables x (locals_in tables x) ≡ typing_of tables x
typing_law tables x = refl

body_law : (tables : ProgramTables) (x : s.TransactionTree) → body_with tables x (locals_in tables x) (own_parameters tables x ∷ []) (typing_of tables x) (own_count x) ≡ transaction_body tables x
body_law tables x =
    ap (λ z. made tables x z (well_typed (option_map (type_execute tables x) x.execute))) (typed_law (type_prepare tables x) x.prepare)
    ∙ ap (λ z. made tables x (option_and_then (λ q. result_ok (type_prepare tables x q)) x.prepare) z) (typed_law (type_execute tables x) x.execute)

parts_law : (tables : ProgramTables) (x : s.TransactionTree) (first : Piece)
    → first ∷ part_pieces (typing_of tables x)
    ≡ first ∷ map (λ q. p.part (codes "prepare") (type_prepare tables x q)) (option_to_list x.prepare)
    ++ p.part (codes "pre") (type_pre tables x)
    ∷ map (λ q. p.part (codes "execute") (type_execute tables x q)) (option_to_list x.execute)
    ++ p.part (codes "post") (type_post tables x) ∷ []
parts_law tables x first =
    ap (λ z. first ∷ z ++ p.part (codes "pre") (type_pre tables x) ∷ map (p.part (codes "execute")) (option_to_list (option_map (type_execute tables x) x.execute)) ++ p.part (codes "post") (type_post tables x) ∷ [])
    (part_law (codes "prepare") (type_prepare tables x) x.prepare)
    ∙ ap (λ z. first ∷ map (λ q. p.part (codes "prepare") (type_prepare tables x q)) (option_to_list x.prepare) ++ p.part (codes "pre") (type_pre tables x) ∷ z ++ p.part (codes "post") (type_post tables x) ∷ [])
    (part_law (codes "execute") (type_execute tables x) x.execute)

abbrev declared : ProgramTables → s.TransactionTree → e.TransactionBody → Piece
declared tables x body = p.declaration (transaction_name ∷ []) (declaration_is_right tables x) (p.transaction_piece (transaction_rules tables x) body)

-- a transaction with its variables
pub own_law : (tables : ProgramTables) (x : s.TransactionTree) → whole_in tables x (locals_in tables x) ≡ p.transaction_pieces tables x
own_law tables x =
    ap (λ z. whole_with tables x (locals_in tables x) (own_parameters tables x ∷ []) z (own_count x)) (typing_law tables x)
    ∙ ap (λ z. declared tables x z ∷ part_pieces (typing_of tables x)) (body_law tables x)
    ∙ parts_law tables x (declared tables x (transaction_body tables x))

-- the piece of a transaction and those of its parts, by what they are made of
pub transaction_told : (tables : ProgramTables) (x : s.TransactionTree) (l : TransactionLocals) (t : TransactionTyping) (count signed : ℕ)
    (names : List Name) (right : Bool) (rules : List FieldRule) (body : e.TransactionBody) (first : Piece) (parts : List Piece)
    → first ≡ p.declaration names right (p.transaction_piece rules body) → parts ≡ part_pieces t
    → names ≡ transaction_name ∷ [] → right ≡ declaration_is_right tables x → rules ≡ transaction_rules tables x
    → body ≡ body_with tables x l (l.parameters ∷ []) t count
    → count ≡ own_count x → signed ≡ signed_count x
    → t ≡ typing_with tables x l.fields (l.parameters ∷ []) (l.signers ∷ l.parameters ∷ []) count signed
    → first ∷ parts ≡ whole_in tables x l
transaction_told tables x l t count signed names right rules body first parts is parts_are names_are right_is rules_are body_is count_is signed_is typing_is =
    ap (λ z. z ∷ parts) is
    ∙ ap (λ z. p.declaration names right (p.transaction_piece rules body) ∷ z) parts_are
    ∙ ap (λ z. p.declaration z right (p.transaction_piece rules body) ∷ part_pieces t) names_are
    ∙ ap (λ z. p.declaration (transaction_name ∷ []) z (p.transaction_piece rules body) ∷ part_pieces t) right_is
    ∙ ap (λ z. p.declaration (transaction_name ∷ []) (declaration_is_right tables x) (p.transaction_piece z body) ∷ part_pieces t) rules_are
    ∙ ap (λ z. declared tables x z ∷ part_pieces t) body_is
    ∙ ap (λ z. whole_with tables x l (l.parameters ∷ []) z count) typing_is
    ∙ ap (λ z. whole_with tables x l (l.parameters ∷ []) (typing_with tables x l.fields (l.parameters ∷ []) (l.signers ∷ l.parameters ∷ []) z signed) z) count_is
    ∙ ap (λ z. whole_with tables x l (l.parameters ∷ []) (typing_with tables x l.fields (l.parameters ∷ []) (l.signers ∷ l.parameters ∷ []) (own_count x) z) (own_count x)) signed_is
