-- A map of names agrees with the list of bindings, also where one is added or left.
use Rattle.std.proofs.Common.{◌≡◌, ℕ, Bool, true, false, cond, List, [], ◌∷◌, ◌++◌, map, Option, Some, None, option_and_then, refl, sym, ap, ◌∙◌, append_assoc}
use Rattle.std.proofs.lemmas.List.{append-nil}
use Rattle.std.proofs.lemmas.Slice.Eq.{bytes_eq-Decides}
use Rattle.std.specs.Map.{lookup}
use Rattle.std.specs.Str.{bytes_eq}
use Rattle.indexmap.specs.IndexMap.{insert_entry}
use denote.Ref.{Bor}
use Rattle.dfg_terms.specs.declared.scope.Shadow.{Shadow}
use Rattle.dfg_terms.specs.Scopes.{Binding, bound_from, bound}
use Rattle.dfg_terms.specs.ScopeViews.{number_in, IsRebound, shown, AreHiding, IsScope}

abbrev Key : Type 0
Key = Bor (List ℕ)

abbrev is_name_of : List ℕ → Key → Bool
is_name_of name k = bytes_eq name k.now

-- ---- the map

-- another value under one name
looked_up : (es : List (Key × Option ℕ)) (k : Key) (v : Option ℕ) (name : List ℕ) → lookup (is_name_of name) (insert_entry (λ a b. bytes_eq a.now b.now) es k v) ≡ cond (bytes_eq name k.now) (Some v) (lookup (is_name_of name) es)
looked_up [] k v name = refl
looked_up (e ∷ es) k v name = by_test (bytes_eq k.now e.0.now) refl (bytes_eq name e.0.now) refl (bytes_eq name k.now) refl (looked_up es k v name)
  where
    more : List (Key × Option ℕ)
    more = insert_entry (λ a b. bytes_eq a.now b.now) es k v

    same_test : bytes_eq k.now e.0.now ≡ true → bytes_eq name e.0.now ≡ bytes_eq name k.now
    same_test t = ap (bytes_eq name) (sym ((bytes_eq-Decides k.now e.0.now).0 t))

    by_test : (b : Bool) → bytes_eq k.now e.0.now ≡ b → (c : Bool) → bytes_eq name e.0.now ≡ c → (d : Bool) → bytes_eq name k.now ≡ d
        → lookup (is_name_of name) more ≡ cond (bytes_eq name k.now) (Some v) (lookup (is_name_of name) es)
        → lookup (is_name_of name) (cond b ((e.0, v) ∷ es) (e ∷ more)) ≡ cond d (Some v) (cond c (Some e.1) (lookup (is_name_of name) es))
    by_test true t true i true j below = ap (λ q. cond q (Some v) (lookup (is_name_of name) es)) i
    by_test true t false i false j below = ap (λ q. cond q (Some v) (lookup (is_name_of name) es)) i
    by_test true t true i false j below = let k : true ≡ false = sym i ∙ same_test t ∙ j in absurd cc
    by_test true t false i true j below = let k : false ≡ true = sym i ∙ same_test t ∙ j in absurd cc
    by_test false t true i true j below =
        let same : k.now ≡ e.0.now = sym ((bytes_eq-Decides name k.now).0 j) ∙ (bytes_eq-Decides name e.0.now).0 i in
        let k : true ≡ false = sym ((bytes_eq-Decides k.now e.0.now).1 same) ∙ t in absurd cc
    by_test false t true i false j below = ap (λ q. cond q (Some e.1) (lookup (is_name_of name) more)) i
    by_test false t false i d j below = ap (λ q. cond q (Some e.1) (lookup (is_name_of name) more)) i ∙ below ∙ ap (λ q. cond q (Some v) (lookup (is_name_of name) es)) j

flat_cond : (b : Bool) (v : Option ℕ) (o : Option (Option ℕ)) → option_and_then (λ n. n) (cond b (Some v) o) ≡ cond b v (option_and_then (λ n. n) o)
flat_cond true v o = refl
flat_cond false v o = refl

pub rebound : (old new : List (Key × Option ℕ)) (k : Key) (v : Option ℕ) → new ≡ insert_entry (λ a b. bytes_eq a.now b.now) old k v → IsRebound old new k.now v
rebound old new k v is name = ap (λ es. number_in es name) is ∙ ap (option_and_then (λ n. n)) (looked_up old k v name) ∙ flat_cond (bytes_eq name k.now) v (lookup (is_name_of name) old)

-- ---- the bindings

last_from : (known : Option ℕ) (name : List ℕ) (bs : List Binding) (b : Binding) → bound_from known name (bs ++ b ∷ []) ≡ cond (bytes_eq name b.name) (Some b.number) (bound_from known name bs)
last_from known name [] b = refl
last_from known name (c ∷ bs) b = last_from (cond (bytes_eq name c.name) (Some c.number) known) name bs b

pub last_bound : (name : List ℕ) (bs : List Binding) (b : Binding) → bound name (bs ++ b ∷ []) ≡ cond (bytes_eq name b.name) (Some b.number) (bound name bs)
unfolding bound
last_bound name bs b = last_from None name bs b

pub shown_push : (ss : List Shadow) (s : Shadow) → map shown (ss ++ s ∷ []) ≡ map shown ss ++ shown s ∷ []
shown_push [] s = refl
shown_push (t ∷ ss) s = ap (λ bs. shown t ∷ bs) (shown_push ss s)

hiding_push : (before : List Binding) (ss : List Shadow) (s : Shadow) → AreHiding before ss → s.hidden ≡ bound s.name.now (before ++ map shown ss) → AreHiding before (ss ++ s ∷ [])
hiding_push before [] s all e = (e ∙ ap (bound s.name.now) (append-nil before), tt)
hiding_push before (t ∷ ss) s all e = (all.0, hiding_push (before ++ shown t ∷ []) ss s all.1 (e ∙ ap (bound s.name.now) (sym (append_assoc before (shown t ∷ []) (map shown ss)))))

hiding_pop : (before : List Binding) (ss : List Shadow) (s : Shadow) → AreHiding before (ss ++ s ∷ []) → AreHiding before ss × (s.hidden ≡ bound s.name.now (before ++ map shown ss))
hiding_pop before [] s all = (tt, all.0 ∙ ap (bound s.name.now) (sym (append-nil before)))
hiding_pop before (t ∷ ss) s all =
    let more = hiding_pop (before ++ shown t ∷ []) ss s all.1 in
    ((all.0, more.0), more.1 ∙ ap (bound s.name.now) (append_assoc before (shown t ∷ []) (map shown ss)))

-- ---- both

none_bound : IsScope [] []
unfolding bound
none_bound = (λ name. refl, tt)

pub empty_scope : (es : List (Key × Option ℕ)) (ss : List Shadow) → es ≡ [] → ss ≡ [] → IsScope es ss
empty_scope es ss e f = rw (e, f) none_bound

pub bound_one : (es fs : List (Key × Option ℕ)) (ss : List Shadow) (s : Shadow) → IsScope es ss → s.hidden ≡ bound s.name.now (map shown ss) → IsRebound es fs s.name.now (Some s.number) → IsScope fs (ss ++ s ∷ [])
bound_one es fs ss s scope hides again = (
  λ name. again name ∙ ap (cond (bytes_eq name s.name.now) (Some s.number)) (scope.0 name) ∙ sym (last_bound name (map shown ss) (shown s)) ∙ ap (bound name) (sym (shown_push ss s)),
  hiding_push [] ss s scope.1 hides,
)

pub left_one : (es fs : List (Key × Option ℕ)) (ss : List Shadow) (s : Shadow) → IsScope es (ss ++ s ∷ []) → IsRebound es fs s.name.now s.hidden → IsScope fs ss
left_one es fs ss s scope again = (λ name. again name ∙ by_test name (bytes_eq name s.name.now) refl, hides.0)
  where
    hides : AreHiding [] ss × (s.hidden ≡ bound s.name.now (map shown ss))
    hides = hiding_pop [] ss s scope.1

    before : (name : List ℕ) → number_in es name ≡ cond (bytes_eq name s.name.now) (Some s.number) (bound name (map shown ss))
    before name = scope.0 name ∙ ap (bound name) (shown_push ss s) ∙ last_bound name (map shown ss) (shown s)

    by_test : (name : List ℕ) (b : Bool) → bytes_eq name s.name.now ≡ b → cond b s.hidden (number_in es name) ≡ bound name (map shown ss)
    by_test name true e = hides.1 ∙ ap (λ n. bound n (map shown ss)) (sym ((bytes_eq-Decides name s.name.now).0 e))
    by_test name false e = before name ∙ ap (λ q. cond q (Some s.number) (bound name (map shown ss))) e

-- the last name is bound
pub last_number : (es : List (Key × Option ℕ)) (ss : List Shadow) (s : Shadow) → IsScope es (ss ++ s ∷ []) → number_in es s.name.now ≡ Some s.number
last_number es ss s scope =
    scope.0 s.name.now ∙ ap (bound s.name.now) (shown_push ss s) ∙ last_bound s.name.now (map shown ss) (shown s)
    ∙ ap (λ q. cond q (Some s.number) (bound s.name.now (map shown ss))) ((bytes_eq-Decides s.name.now s.name.now).1 refl)
