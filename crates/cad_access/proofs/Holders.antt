-- Tests of the types whose member it is.
use Rattle.std.proofs.Common.{◌≡◌, Bool, true, false, ◌&&◌, ◌||◌, Option, Some, None, List, [], ◌∷◌, cond, refl, sym, ap, ◌∙◌}
use Rattle.std.specs.List.{filter, list_any}
use Rattle.cad_syntax.specs.declared.text.Name.{Name}
use Rattle.cad_syntax.specs.declared.type_id.TypeId.{TypeId}
use Rattle.cad_declarations.specs.Tables.{MemberEntry}
use Rattle.cad_world.specs.State.{State}
use Rattle.cad_access.proofs.Kept.{any_kept, same_tests}
use Rattle.cad_evaluation.specs.Access.{own_member, interfaces_of, is_there, form_is_variable, holders, writers}

-- some holder passes: the type itself, or an interface that declares the name
pub any_holder : (s : State) (name : Name) (id : TypeId) (f : TypeId → Bool)
    → list_any f (holders s name id) ≡ (f id || list_any (λ i. is_there (own_member s name i) && f i) (interfaces_of s id))
any_holder s name id f = ap (λ (b : Bool). f id || b) (any_kept f (λ i. is_there (own_member s name i)) (interfaces_of s id))

-- what declares a field as `var` declares the name
is_declared : (o : Option MemberEntry) (b : Bool) → (is_there o && (form_is_variable o && b)) ≡ (form_is_variable o && b)
is_declared None b = refl
is_declared (Some m) b = refl

-- some type that declares the field as `var` passes
pub any_writer : (s : State) (name : Name) (id : TypeId) (f : TypeId → Bool)
    → list_any f (writers s name id) ≡ (form_is_variable (own_member s name id) && f id || list_any (λ i. form_is_variable (own_member s name i) && f i) (interfaces_of s id))
any_writer s name id f =
    any_kept f (λ i. form_is_variable (own_member s name i)) (id ∷ filter (λ i. is_there (own_member s name i)) (interfaces_of s id))
    ∙ ap (λ (b : Bool). form_is_variable (own_member s name id) && f id || b)
    (any_kept (λ i. form_is_variable (own_member s name i) && f i) (λ i. is_there (own_member s name i)) (interfaces_of s id)
    ∙ same_tests _ _ (λ i. is_declared (own_member s name i) (f i)) (interfaces_of s id))

-- where the type itself doesn't pass
pub else_holder : (s : State) (name : Name) (id : TypeId) (f : TypeId → Bool) (ids : List TypeId) (r : Bool) → f id ≡ false → ids ≡ interfaces_of s id
    → r ≡ list_any (λ i. is_there (own_member s name i) && f i) ids → r ≡ list_any f (holders s name id)
else_holder s name id f ids r without same rest =
    rest
    ∙ ap (λ (all : List TypeId). list_any (λ i. is_there (own_member s name i) && f i) all) same
    ∙ ap (λ (b : Bool). b || list_any (λ i. is_there (own_member s name i) && f i) (interfaces_of s id)) (sym without)
    ∙ sym (any_holder s name id f)

pub else_writer : (s : State) (name : Name) (id : TypeId) (f : TypeId → Bool) (ids : List TypeId) (r : Bool) → (form_is_variable (own_member s name id) && f id) ≡ false → ids ≡ interfaces_of s id
    → r ≡ list_any (λ i. form_is_variable (own_member s name i) && f i) ids → r ≡ list_any f (writers s name id)
else_writer s name id f ids r without same rest =
    rest
    ∙ ap (λ (all : List TypeId). list_any (λ i. form_is_variable (own_member s name i) && f i) all) same
    ∙ ap (λ (b : Bool). b || list_any (λ i. form_is_variable (own_member s name i) && f i) (interfaces_of s id)) (sym without)
    ∙ sym (any_writer s name id f)
