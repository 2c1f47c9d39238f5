-- What is read of members is spelled, and what is spelled of them is read.
use Rattle.std.proofs.Common.{◌≡◌, ◌⊎◌, ℕ, ◌<◌, ◌≤◌, Bool, List, length, Option, Some}
use Rattle.cad_syntax.specs.declared.keyword.Keyword.TheVariants as k
use Rattle.cad_grammar.specs.declared.statement.VariableKind.{VariableKind}
use Rattle.cad_grammar.specs.declared.declaration.Access.{Access}
use Rattle.cad_grammar.specs.Trees.{ParameterTree, ConditionTree, FunctionTree, InitTree, FieldTree, EventTree, InterfaceMemberTree}
use Rattle.cad_grammar.specs.Spots.{Spot, keyword}
use Rattle.cad_parse_type.specs.Code.Levels.{token_strength}
use Rattle.cad_grammar.specs.StatementGrammar.{variable_word}
use Rattle.cad_grammar.specs.ProgramGrammar.{viewed, ReadsAccess, Parameters, Pre, Post, ReadsFunction, ReadsInit, ReadsField, ReadsEvent, ReadsInterfaceMember}
use Rattle.cad_parse.specs.Code.Parts.{accessed, parameters, conditions_behind}
use Rattle.cad_parse.specs.Code.Reading.{function, initializer, field, event, destruction, interface_member}

-- how a field, a function and an event are read behind an access
pub record FieldRead (p : Spot) (f : FieldTree) (q : Spot) : Type 0 where
  pub access : Access
  pub word : Spot
  pub kind : VariableKind
  pub behind : Spot
  pub accesses : ReadsAccess p access word
  pub kinds : variable_word word ≡ Some (kind, behind)
  pub reads : field access kind behind ≡ Some (f, q)

pub record FunctionRead (p : Spot) (f : FunctionTree) (q : Spot) : Type 0 where
  pub access : Access
  pub word : Spot
  pub is_view : Bool
  pub behind : Spot
  pub accesses : ReadsAccess p access word
  pub views : viewed k.Fun word ≡ Some (is_view, behind)
  pub reads : function access word ≡ Some (f, q)

pub record OpenEventRead (p : Spot) (e : EventTree) (q : Spot) : Type 0 where
  pub access : Access
  pub word : Spot
  pub behind : Spot
  pub accesses : ReadsAccess p access word
  pub words : keyword k.Event word ≡ Some behind
  pub reads : event word access behind ≡ Some (e, q)

pub record DestructionRead (p : Spot) (e : EventTree) (q : Spot) : Type 0 where
  pub behind : Spot
  pub words : keyword k.Event p ≡ Some behind
  pub reads : destruction p behind ≡ Some (e, q)

pub record InitRead (p : Spot) (i : InitTree) (q : Spot) : Type 0 where
  pub is_view : Bool
  pub behind : Spot
  pub views : viewed k.Init p ≡ Some (is_view, behind)
  pub reads : initializer is_view behind ≡ Some (i, q)

-- what stands between the readers of members and the grammar
pub record MemberLaws : Type 0 where
  pub access_sound : (p : Spot) (x : Access × Spot) → accessed p ≡ Some x → ReadsAccess p x.0 x.1
  pub access_exact : {p q : Spot} {c : Access} → ReadsAccess p c q → accessed p ≡ Some (c, q)
  pub access_shorter : {p q : Spot} {c : Access} → ReadsAccess p c q → length q.tokens < length p.tokens
  pub access_word : {p q : Spot} {c : Access} → ReadsAccess p c q → (u : Spot) × (keyword k.Access p ≡ Some u)
  pub parameters_sound : (p : Spot) (x : List ParameterTree × Spot) → parameters p ≡ Some x → Parameters p x.0 x.1
  pub parameters_exact : {p q : Spot} {all : List ParameterTree} → Parameters p all q → parameters p ≡ Some (all, q)
  pub parameters_shorter : {p q : Spot} {all : List ParameterTree} → Parameters p all q → length q.tokens < length p.tokens
  pub pre_sound : (p : Spot) (x : Option (List ConditionTree) × Spot) → conditions_behind k.Pre p ≡ Some x → Pre p x.0 x.1
  pub pre_exact : {p q : Spot} {c : Option (List ConditionTree)} → Pre p c q → conditions_behind k.Pre p ≡ Some (c, q)
  pub pre_shorter : {p q : Spot} {c : Option (List ConditionTree)} → Pre p c q → length q.tokens ≤ length p.tokens
  pub post_sound : (p : Spot) (x : Option (List ConditionTree) × Spot) → conditions_behind k.Post p ≡ Some x → Post p x.0 x.1
  pub post_exact : {p q : Spot} {c : Option (List ConditionTree)} → Post p c q → conditions_behind k.Post p ≡ Some (c, q)
  pub post_shorter : {p q : Spot} {c : Option (List ConditionTree)} → Post p c q → length q.tokens ≤ length p.tokens
  -- fields, functions and events behind their access
  pub field_sound : (p q r : Spot) (c : Access) (kind : VariableKind) (x : FieldTree × Spot)
      → ReadsAccess p c q → variable_word q ≡ Some (kind, r) → field c kind r ≡ Some x → ReadsField p x.0 x.1
  pub field_exact : {p q : Spot} {f : FieldTree} → ReadsField p f q → token_strength q ≡ 0 → FieldRead p f q
  pub field_shorter : {p q : Spot} {f : FieldTree} → ReadsField p f q → length q.tokens < length p.tokens
  pub function_sound : (p q : Spot) (c : Access) (x : FunctionTree × Spot) → ReadsAccess p c q → function c q ≡ Some x → ReadsFunction p x.0 x.1
  pub function_exact : {p q : Spot} {f : FunctionTree} → ReadsFunction p f q → FunctionRead p f q
  pub function_shorter : {p q : Spot} {f : FunctionTree} → ReadsFunction p f q → length q.tokens < length p.tokens
  pub open_event_sound : (p q r : Spot) (c : Access) (x : EventTree × Spot) → ReadsAccess p c q → keyword k.Event q ≡ Some r → event q c r ≡ Some x → ReadsEvent p x.0 x.1
  pub destruction_sound : (p r : Spot) (x : EventTree × Spot) → keyword k.Event p ≡ Some r → destruction p r ≡ Some x → ReadsEvent p x.0 x.1
  pub event_exact : {p q : Spot} {e : EventTree} → ReadsEvent p e q → OpenEventRead p e q ⊎ DestructionRead p e q
  pub event_shorter : {p q : Spot} {e : EventTree} → ReadsEvent p e q → length q.tokens < length p.tokens
  pub init_sound : (p q : Spot) (is_view : Bool) (x : InitTree × Spot) → viewed k.Init p ≡ Some (is_view, q) → initializer is_view q ≡ Some x → ReadsInit p x.0 x.1
  pub init_exact : {p q : Spot} {i : InitTree} → ReadsInit p i q → InitRead p i q
  pub init_shorter : {p q : Spot} {i : InitTree} → ReadsInit p i q → length q.tokens < length p.tokens
  -- members of interfaces
  pub interface_member_sound : (p : Spot) (x : InterfaceMemberTree × Spot) → interface_member p ≡ Some x → ReadsInterfaceMember p x.0 x.1
  pub interface_member_exact : {p q : Spot} {m : InterfaceMemberTree} → ReadsInterfaceMember p m q → token_strength q ≡ 0 → interface_member p ≡ Some (m, q)
  pub interface_member_shorter : {p q : Spot} {m : InterfaceMemberTree} → ReadsInterfaceMember p m q → length q.tokens < length p.tokens
