-- Paths in a tree of number lists.
use Rattle.std.proofs.Common.{◌≡◌, ◌⊎◌, inl, inr, ℕ, zero, suc, ◌+◌, ◌-◌, ◌<◌, ◌≤◌, Bool, true, false, ◌==◌, eq-eqb, List, [], ◌∷◌, ◌++◌, length, take, drop, Option, Some, None, get_or, set, length-set, length-append, get_or-set_same, get_or-set_other, refl, sym, ap, subst, ◌∙◌, arith}
use Rattle.std.specs.Prelude.{IsSomeAnd, slice_get, nat_lt, Contains}
use Rattle.std.proofs.lemmas.Bool.{eqb-true, ltb-true, ltb-false, false≢true}
use Rattle.std.proofs.lemmas.Option.{slice_get_within, slice_get_past, unwrap_or-slice_get}
use Rattle.std.proofs.lemmas.List.{take_more}
use Rattle.std.proofs.lemmas.List.Elements.{Contains-push}
use Rattle.spl_terms.specs.ListLaws.{get-left}
use Rattle.subsume.specs.declared.trie.Node.{Node}
use Rattle.subsume.specs.Tries.{IsChildFor, Down, Grows, AreAtMost, HasReached, sibling_or, sibling_in, first_in, IsInChain, here, on, ChildrenAreInChain, AreLinked, IsChildOrNone}

-- ---- what follows

-- nothing follows 0
pub nothing_follows : (next : ℕ → ℕ) → next 0 ≡ 0 → (a k : ℕ) → IsInChain next a k → a ≡ 0 → 0 < k → ⊥
nothing_follows next ends a k (here n) is more = omega (arith, is, more)
nothing_follows next ends a k (on b n rest) is more = nothing_follows next ends (next b) n rest (ap next is ∙ ends) more

pub this_or_later : (next : ℕ → ℕ) (a k : ℕ) → IsInChain next a k → (a ≡ k) ⊎ IsInChain next (next a) k
this_or_later next a k (here n) = inl refl
this_or_later next a k (on b n rest) = inr rest

-- with one more number, that nothing was behind
still_follows : (next next' : ℕ → ℕ) (new : ℕ) → next 0 ≡ 0 → next new ≡ 0 → ((a : ℕ) → (a ≡ new → ⊥) → next' a ≡ next a) → (a k : ℕ) → IsInChain next a k → 0 < k → IsInChain next' a k
still_follows next next' new ends last same a k (here n) more = here n
still_follows next next' new ends last same a k (on b n rest) more = by_test (b == new) refl (still_follows next next' new ends last same (next b) n rest more)
  where
    by_test : (t : Bool) → (b == new) ≡ t → IsInChain next' (next b) n → IsInChain next' b n
    by_test true e h = absurd (nothing_follows next ends (next b) n rest (ap next (eqb-true b new e) ∙ last) more)
    by_test false e h = on b n (subst (λ c. IsInChain next' c n) (sym (same b (λ s. false≢true (sym e ∙ eq-eqb b new s)))) h)

-- ---- the child for a count

child_there : (nodes : List Node) (n count m : ℕ) (x : Node) → slice_get nodes m ≡ Some x → IsChildFor nodes n count m → (x.parent ≡ n) × (x.count ≡ count)
child_there nodes n count m x e h = subst (λ o. IsSomeAnd o (λ y. (y.parent ≡ n) × (y.count ≡ count))) e h.1

child_here : (nodes : List Node) (n count m : ℕ) (x : Node) → 0 < m → slice_get nodes m ≡ Some x → (x.parent ≡ n) × (x.count ≡ count) → IsChildFor nodes n count m
child_here nodes n count m x more e h = (more, subst (λ o. IsSomeAnd o (λ y. (y.parent ≡ n) × (y.count ≡ count))) (sym e) h)

-- the child, if there is one, is still to come
abbrev pub IsToCome : List Node → ℕ → ℕ → ℕ → Type 0
IsToCome nodes n count m = (k : ℕ) → IsChildFor nodes n count k → IsInChain (sibling_in nodes) m k

pub found_child : (nodes : List Node) (n count m : ℕ) (x : Node) → (m ≡ 0 → ⊥) → Some x ≡ slice_get nodes m → (x.parent ≡ n) × (x.count ≡ count) → IsChildOrNone nodes n count m
found_child nodes n count m x more e h = record {
  some = λ _. child_here nodes n count m x (by_zero m more) (sym e) h;
  none = λ z. absurd (more z);
}
  where
    by_zero : (m : ℕ) → (m ≡ 0 → ⊥) → 0 < m
    by_zero zero h = absurd (h refl)
    by_zero (suc m) h = omega arith

pub no_child : (nodes : List Node) (n count m r : ℕ) → sibling_in nodes 0 ≡ 0 → r ≡ 0 → m ≡ 0 → IsToCome nodes n count m → IsChildOrNone nodes n count r
no_child nodes n count m r ends zero_is last come = record {
  some = λ more. absurd (omega (arith, more, zero_is));
  none = λ _ k h. nothing_follows (sibling_in nodes) ends m k (come k h) last h.0;
}

pub no_node : (nodes : List Node) (n count m : ℕ) → sibling_in nodes 0 ≡ 0 → None ≡ slice_get nodes m → IsToCome nodes n count m → IsChildOrNone nodes n count 0
no_node nodes n count m ends e come = record {
  some = λ more. absurd (omega (arith, more));
  none = λ _ k h. elim (this_or_later (sibling_in nodes) m k (come k h)) [
    | inl same ↦ not_there k same h
    | inr later ↦ nothing_follows (sibling_in nodes) ends (sibling_in nodes m) k later (ap sibling_or (sym e)) h.0
  ];
}
  where
    not_there : (k : ℕ) → m ≡ k → IsChildFor nodes n count k → ⊥
    not_there k same h = subst (λ o. IsSomeAnd o (λ y. (y.parent ≡ n) × (y.count ≡ count))) (ap (slice_get nodes) (sym same) ∙ sym e) h.1

pub later_child : (nodes : List Node) (n count m : ℕ) (x : Node) (test : Bool) → Some x ≡ slice_get nodes m → test ≡ false → ((x.parent ≡ n) × (x.count ≡ count) → test ≡ true) → IsToCome nodes n count m → IsToCome nodes n count x.sibling
later_child nodes n count m x test e other is come k h = elim (this_or_later (sibling_in nodes) m k (come k h)) [
  | inl same ↦ absurd (false≢true (sym other ∙ is (child_there nodes n count k x (ap (slice_get nodes) (sym same) ∙ sym e) h)))
  | inr later ↦ subst (λ a. IsInChain (sibling_in nodes) a k) (ap sibling_or (sym e)) later
]

pub falls_from : (nodes : List Node) (m : ℕ) (x : Node) → ((n : ℕ) → 0 < n → sibling_in nodes n < n) → Some x ≡ slice_get nodes m → (m ≡ 0 → ⊥) → x.sibling < m
falls_from nodes zero x falls e more = absurd (more refl)
falls_from nodes (suc m) x falls e more = (let low = falls (suc m) (omega arith) in omega (arith, low, ap sibling_or e))

-- ---- one node more

get_end : {X : Type 0} (xs : List X) (x : X) → slice_get (xs ++ x ∷ []) (length xs) ≡ Some x
get_end [] x = refl
get_end (y ∷ xs) x = get_end xs x

get_past : {X : Type 0} (xs : List X) (x : X) (k : ℕ) → length xs < k → slice_get (xs ++ x ∷ []) k ≡ None
get_past [] x zero h = absurd (omega (arith, h))
get_past [] x (suc k) h = refl
get_past (y ∷ xs) x zero h = absurd (omega (arith, h))
get_past (y ∷ xs) x (suc k) h = get_past xs x k (omega (arith, h))

zero_more : (xs : List ℕ) (k : ℕ) → get_or (xs ++ 0 ∷ []) k 0 ≡ get_or xs k 0
zero_more [] zero = refl
zero_more [] (suc k) = refl
zero_more (x ∷ xs) zero = refl
zero_more (x ∷ xs) (suc k) = zero_more xs k

by_place : (P : Type 0) (k n : ℕ) → (k < n → P) → (k ≡ n → P) → (n < k → P) → P
by_place P k n f g h = first (nat_lt k n) refl
  where
    second : (t : Bool) → nat_lt n k ≡ t → n ≤ k → P
    second true e le = h (ltb-true n k e)
    second false e le = (let no_more = ltb-false n k e in g (omega (arith, le, no_more)))

    first : (t : Bool) → nat_lt k n ≡ t → P
    first true e = f (ltb-true k n e)
    first false e = second (nat_lt n k) refl (ltb-false k n e)

module _ (nodes : List Node) (firsts : List ℕ) (n count : ℕ) (old : AreLinked nodes firsts) (low : n < length nodes) (none : (m : ℕ) → IsChildFor nodes n count m → ⊥) where
  abbrev new : Node
  new = record { parent = n; count = count; sibling = first_in firsts n }

  abbrev nodes' : List Node
  nodes' = nodes ++ new ∷ []

  abbrev firsts' : List ℕ
  firsts' = set (firsts ++ 0 ∷ []) n (length nodes)

  -- what a child of the longer list is
  child_cases : (P : Type 0) (k c m : ℕ) → IsChildFor nodes' k c m → (m < length nodes → IsChildFor nodes k c m → P) → (m ≡ length nodes → n ≡ k → count ≡ c → P) → P
  child_cases P k c m h f g = by_place P m (length nodes)
      (λ less. f less (h.0, subst (λ o. IsSomeAnd o (λ y. (y.parent ≡ k) × (y.count ≡ c))) (get-left nodes (new ∷ []) m less) h.1))
      (λ same. (let p : IsSomeAnd (Some new) (λ y. (y.parent ≡ k) × (y.count ≡ c)) = subst (λ o. IsSomeAnd o (λ y. (y.parent ≡ k) × (y.count ≡ c))) (ap (slice_get nodes') same ∙ get_end nodes new) h.1 in g same p.0 p.1))
      (λ more. absurd (subst (λ o. IsSomeAnd o (λ y. (y.parent ≡ k) × (y.count ≡ c))) (get_past nodes new m more) h.1))

  siblings_left : (a : ℕ) → a < length nodes → sibling_in nodes' a ≡ sibling_in nodes a
  siblings_left a h = ap sibling_or (get-left nodes (new ∷ []) a h)

  siblings_same : (a : ℕ) → (a ≡ length nodes → ⊥) → sibling_in nodes' a ≡ sibling_in nodes a
  siblings_same a other = by_place (sibling_in nodes' a ≡ sibling_in nodes a) a (length nodes) (siblings_left a) (λ same. absurd (other same))
      (λ more. ap sibling_or (get_past nodes new a more) ∙ sym (ap sibling_or (slice_get_past nodes a (omega (arith, more)))))

  siblings_new : sibling_in nodes' (length nodes) ≡ first_in firsts n
  siblings_new = ap sibling_or (get_end nodes new)

  long_enough : n < length (firsts ++ 0 ∷ [])
  long_enough = omega (arith, low, old.as_many, length-append firsts (0 ∷ []))

  first_new : first_in firsts' n ≡ length nodes
  first_new = unwrap_or-slice_get firsts' n 0 ∙ get_or-set_same (firsts ++ 0 ∷ []) n (length nodes) 0 long_enough

  first_same : (p : ℕ) → (p ≡ n → ⊥) → first_in firsts' p ≡ first_in firsts p
  first_same p other = unwrap_or-slice_get firsts' p 0 ∙ get_or-set_other (firsts ++ 0 ∷ []) n p (length nodes) 0 other ∙ zero_more firsts p ∙ sym (unwrap_or-slice_get firsts p 0)

  as_long : length nodes' ≡ length nodes + 1
  as_long = length-append nodes (new ∷ [])

  by_equal : (P : Type 0) (k m : ℕ) → (k ≡ m → P) → ((k ≡ m → ⊥) → P) → P
  by_equal P k m f g = by_place P k m (λ less. g (λ e. omega (arith, e, less))) f (λ more. g (λ e. omega (arith, e, more)))

  linked_now : (p : ℕ) → ChildrenAreInChain nodes' p (first_in firsts' p)
  linked_now p c m h = child_cases (IsInChain (sibling_in nodes') (first_in firsts' p) m) p c m h
      (λ less is.
      let before : IsInChain (sibling_in nodes') (first_in firsts p) m = still_follows (sibling_in nodes) (sibling_in nodes') (length nodes) old.ends (ap sibling_or (slice_get_past nodes (length nodes) (omega arith))) siblings_same (first_in firsts p) m (old.linked p c m is) is.0 in
      by_equal (IsInChain (sibling_in nodes') (first_in firsts' p) m) p n
      (λ same. subst (λ a. IsInChain (sibling_in nodes') a m) (sym (ap (first_in firsts') same ∙ first_new)) (on (length nodes) m (subst (λ a. IsInChain (sibling_in nodes') a m) (ap (first_in firsts) same ∙ sym siblings_new) before)))
      (λ other. subst (λ a. IsInChain (sibling_in nodes') a m) (sym (first_same p other)) before))
      (λ same parent _. subst (λ a. IsInChain (sibling_in nodes') a m) (same ∙ sym first_new ∙ ap (first_in firsts') parent) (here m))

  pub added_linked : AreLinked nodes' firsts'
  added_linked = record {
    as_many = length-set (firsts ++ 0 ∷ []) n (length nodes) ∙ length-append firsts (0 ∷ []) ∙ ap (λ k. k + 1) old.as_many ∙ sym as_long;
    ends = siblings_left 0 (omega (arith, low)) ∙ old.ends;
    falls = λ m more. by_equal (sibling_in nodes' m < m) m (length nodes)
        (λ same. by_equal (sibling_in nodes' m < m) (first_in firsts n) 0
        (λ z. omega (arith, ap (sibling_in nodes') same, siblings_new, z, more))
        (λ some. (let w = old.within n (omega (arith, some)) in omega (arith, ap (sibling_in nodes') same, siblings_new, w, same))))
        (λ other. (let f = old.falls m more in omega (arith, siblings_same m other, f)));
    within = λ p more. by_equal (first_in firsts' p < length nodes') p n
        (λ same. omega (arith, ap (first_in firsts') same, first_new, as_long))
        (λ other. (let w = old.within p (omega (arith, more, first_same p other)) in omega (arith, first_same p other, w, as_long)));
    linked = linked_now;
    apart = λ k c l m hl hm. child_cases (l ≡ m) k c l hl
        (λ less is. child_cases (l ≡ m) k c m hm
        (λ less' is'. old.apart k c l m is is')
        (λ same parent counts. absurd (none l (subst (λ p. IsChildFor nodes p count l) (sym parent) (subst (λ d. IsChildFor nodes k d l) (sym counts) is)))))
        (λ same parent counts. child_cases (l ≡ m) k c m hm
        (λ less' is'. absurd (none m (subst (λ p. IsChildFor nodes p count m) (sym parent) (subst (λ d. IsChildFor nodes k d m) (sym counts) is'))))
        (λ same' parent' counts'. same ∙ sym same'));
  }

  pub added_child : IsChildFor nodes' n count (length nodes) × (length nodes < length nodes')
  added_child = ((omega (arith, low), subst (λ o. IsSomeAnd o (λ y. (y.parent ≡ n) × (y.count ≡ count))) (sym (get_end nodes new)) (refl, refl)), omega (arith, as_long))

pub grows_end : (nodes : List Node) (x : Node) → Grows nodes (nodes ++ x ∷ [])
grows_end nodes x k y e = get-left nodes (x ∷ []) k (slice_get_within nodes k y e) ∙ e

-- ---- paths

pub grown_child : (old later : List Node) (n count m : ℕ) → Grows old later → IsChildFor old n count m → IsChildFor later n count m
grown_child old later n count m g h = (h.0, at (slice_get old m) refl h.1)
  where
    at : (o : Option Node) → slice_get old m ≡ o → IsSomeAnd o (λ y. (y.parent ≡ n) × (y.count ≡ count)) → IsSomeAnd (slice_get later m) (λ y. (y.parent ≡ n) × (y.count ≡ count))
    at None e h = absurd h
    at (Some x) e h = subst (λ o. IsSomeAnd o (λ y. (y.parent ≡ n) × (y.count ≡ count))) (sym (g m x e)) h

pub grown_down : (old later : List Node) (fs : List ℕ) (n l : ℕ) → Grows old later → Down old fs n l → Down later fs n l
grown_down old later [] n l g h = h
grown_down old later (f ∷ fs) n l g h = (h.0, grown_child old later n f h.0 g h.1, grown_down old later fs h.0 l g h.2)

pub down_last : (nodes : List Node) (fs : List ℕ) (n l f m : ℕ) → Down nodes fs n l → IsChildFor nodes l f m → Down nodes (fs ++ f ∷ []) n m
down_last nodes [] n l f m h c = (m, subst (λ k. IsChildFor nodes k f m) (sym h) c, refl)
down_last nodes (g ∷ fs) n l f m h c = (h.0, h.1, down_last nodes fs h.0 l f m h.2 c)

module _ (nodes nodes2 : List Node) (firsts : List ℕ) (n count place sibling : ℕ) (old : AreLinked nodes firsts) (low : n < length nodes) (none : (m : ℕ) → IsChildFor nodes n count m → ⊥) (at : place ≡ length nodes) (is : sibling ≡ get_or firsts n 0) (pushed : nodes2 ≡ nodes ++ record { parent = n; count = count; sibling = sibling } ∷ []) where
  made_as : nodes ++ record { parent = n; count = count; sibling = first_in firsts n } ∷ [] ≡ nodes2
  made_as = ap (λ (s : ℕ). nodes ++ record { parent = n; count = count; sibling = s } ∷ []) (unwrap_or-slice_get firsts n 0 ∙ sym is) ∙ sym pushed

  pub node_added : (firsts2 : List ℕ) → firsts2 ≡ firsts ++ 0 ∷ [] → AreLinked nodes2 (set firsts2 n place)
  node_added firsts2 more =
      subst (λ (l : List ℕ). AreLinked nodes2 (set l n place)) (sym more)
      (subst (λ (p : ℕ). AreLinked nodes2 (set (firsts ++ 0 ∷ []) n p)) (sym at)
      (subst (λ (l : List Node). AreLinked l (set (firsts ++ 0 ∷ []) n (length nodes))) made_as (added_linked nodes firsts n count old low none)))

  pub node_is_child : IsChildFor nodes2 n count place × (place < length nodes2)
  node_is_child =
      subst (λ (p : ℕ). IsChildFor nodes2 n count p × (p < length nodes2)) (sym at)
      (subst (λ (l : List Node). IsChildFor l n count (length nodes) × (length nodes < length l)) made_as (added_child nodes firsts n count old low none))

  pub nodes_grow : Grows nodes nodes2
  nodes_grow = subst (Grows nodes) (sym pushed) (grows_end nodes (record { parent = n; count = count; sibling = sibling }))

pub read_at : (xs : List ℕ) (k x : ℕ) → k < length xs → x ≡ get_or xs k x → x ≡ get_or xs k 0
read_at [] k x h e = absurd (omega (arith, h))
read_at (y ∷ xs) zero x h e = e
read_at (y ∷ xs) (suc k) x h e = read_at xs k x (omega (arith, h)) e

-- what is reached by a child is among these, or the child is still to come
abbrev pub AreToCome : List Node → ℕ → ℕ → List ℕ → List ℕ → ℕ → Type 0
AreToCome nodes n limit rest out place = (f : ℕ) (fs : List ℕ) (k l : ℕ) → f ≤ limit → AreAtMost fs rest → IsChildFor nodes n f k → Down nodes fs k l → Contains out l ⊎ IsInChain (sibling_in nodes) place k

-- ---- a path made, count by count

pub down_more : (nodes : List Node) (counts : List ℕ) (i n m : ℕ) → i < length counts → Down nodes (take i counts) 0 n → IsChildFor nodes n (get_or counts i 0) m → Down nodes (take (i + 1) counts) 0 m
down_more nodes counts i n m low h c = subst (λ fs. Down nodes fs 0 m) (sym (take_more counts i 0 low)) (down_last nodes (take i counts) 0 n (get_or counts i 0) m h c)

-- ---- all that is reached

list_parts : (xs : List ℕ) → 1 ≤ length xs → xs ≡ get_or xs 0 0 ∷ take (length xs - 1) (drop 1 xs)
list_parts [] h = absurd (omega (arith, h))
list_parts (x ∷ xs) h = ap (λ l. x ∷ l) (sym (taken xs (suc (length xs) - 1) (omega arith)))
  where
    taken : (xs : List ℕ) (n : ℕ) → n ≡ length xs → take n xs ≡ xs
    taken [] zero e = refl
    taken [] (suc n) e = refl
    taken (x ∷ xs) zero e = absurd (omega (arith, e))
    taken (x ∷ xs) (suc n) e = ap (λ l. x ∷ l) (taken xs n (omega (arith, e)))

module _ (nodes : List Node) (n limit : ℕ) (rest out : List ℕ) (place : ℕ) (come : AreToCome nodes n limit rest out place) where
  reached_when : ((k f : ℕ) → IsChildFor nodes n f k → IsInChain (sibling_in nodes) place k → ⊥) → HasReached nodes n (limit ∷ rest) out
  reached_when never [] l most down = absurd most
  reached_when never (f ∷ fs) l most down = elim (come f fs down.0 l most.0 most.1 down.1 down.2) [
    | inl before ↦ before
    | inr later ↦ absurd (never down.0 f down.1 later)
  ]

  pub reached_at_end : sibling_in nodes 0 ≡ 0 → place ≡ 0 → HasReached nodes n (limit ∷ rest) out
  reached_at_end ends last = reached_when (λ k f h later. nothing_follows (sibling_in nodes) ends place k later last h.0)

  pub reached_at_none : sibling_in nodes 0 ≡ 0 → None ≡ slice_get nodes place → HasReached nodes n (limit ∷ rest) out
  reached_at_none ends e = reached_when (λ k f h later. elim (this_or_later (sibling_in nodes) place k later) [
    | inl same ↦ subst (λ o. IsSomeAnd o (λ y. (y.parent ≡ n) × (y.count ≡ f))) (ap (slice_get nodes) (sym same) ∙ sym e) h.1
    | inr more ↦ nothing_follows (sibling_in nodes) ends (sibling_in nodes place) k more (ap sibling_or (sym e)) h.0
  ])

  pub reached_more : (out' : List ℕ) (x : Node) → ((v : ℕ) → Contains out v → Contains out' v) → Some x ≡ slice_get nodes place → ((f : ℕ) → f ≤ limit → IsChildFor nodes n f place → HasReached nodes place rest out') → AreToCome nodes n limit rest out' x.sibling
  reached_more out' x kept e below f fs k l low most child down = elim (come f fs k l low most child down) [
    | inl before ↦ inl (kept l before)
    | inr later ↦ elim (this_or_later (sibling_in nodes) place k later) [
      | inl same ↦ inl (below f low (subst (IsChildFor nodes n f) (sym same) child) fs l most (subst (λ p. Down nodes fs p l) (sym same) down))
      | inr more ↦ inr (subst (λ a. IsInChain (sibling_in nodes) a k) (ap sibling_or (sym e)) more)
    ]
  ]

pub with_limits : (nodes : List Node) (n : ℕ) (limits out : List ℕ) → 1 ≤ length limits → HasReached nodes n (get_or limits 0 0 ∷ take (length limits - 1) (drop 1 limits)) out → HasReached nodes n limits out
with_limits nodes n limits out h r = subst (λ ls. HasReached nodes n ls out) (sym (list_parts limits h)) r

pub reached_itself : (nodes : List Node) (n : ℕ) (limits out out' : List ℕ) → length limits < 1 → out' ≡ out ++ n ∷ [] → HasReached nodes n limits out'
reached_itself nodes n [] out out' h e [] l most down = subst (λ o. Contains o l) (sym e) (subst (Contains (out ++ n ∷ [])) down (Contains-push out n))
reached_itself nodes n [] out out' h e (f ∷ fs) l most down = absurd most
reached_itself nodes n (m ∷ limits) out out' h e fs l most down = absurd (omega (arith, h))
