-- Lists of numbers, kept as paths in a tree whose nodes name their parents: the tree of Schulz 2013, "Simple and efficient
-- clause subsumption with feature vector indexing".
use Rattle.std.specs.Prelude.{◌≡◌, ℕ, ◌<◌, ◌≤◌, List, [], ◌∷◌, length, Option, Some, None, IsSomeAnd, slice_get, unwrap_or, Contains}
use Rattle.subsume.specs.declared.trie.Node.{Node}

-- ---- nodes, by their places in the list; the first one is the root

-- the node m is below n, for this count
abbrev pub IsChildFor : List Node → ℕ → ℕ → ℕ → Type 0
IsChildFor nodes n count m = (0 < m) × IsSomeAnd (slice_get nodes m) (λ x. (x.parent ≡ n) × (x.count ≡ count))

-- the counts lead from the node n down to the node l
abbrev pub Down : List Node → List ℕ → ℕ → ℕ → Type 0
Down nodes [] n l = n ≡ l
Down nodes (f ∷ fs) n l = (m : ℕ) × IsChildFor nodes n f m × Down nodes fs m l

-- each node stays
abbrev pub Grows : List Node → List Node → Type 0
Grows old new = (k : ℕ) (x : Node) → slice_get old k ≡ Some x → slice_get new k ≡ Some x

-- as many counts, each at most the one at its place
abbrev pub AreAtMost : List ℕ → List ℕ → Type 0
AreAtMost [] [] = Unit {0}
AreAtMost [] (l ∷ ls) = ⊥
AreAtMost (f ∷ fs) [] = ⊥
AreAtMost (f ∷ fs) (l ∷ ls) = (f ≤ l) × AreAtMost fs ls

-- ---- how the children of a node are found

abbrev pub sibling_or : Option Node → ℕ
sibling_or None = 0
sibling_or (Some x) = x.sibling

-- the next child of the same parent; 0 where there is none
abbrev pub sibling_in : List Node → ℕ → ℕ
sibling_in nodes n = sibling_or (slice_get nodes n)

abbrev pub first_in : List ℕ → ℕ → ℕ
first_in firsts n = unwrap_or (slice_get firsts n) 0

-- from the first number on, one leads to the next, and to the last
pub data IsInChain (next : ℕ → ℕ) : ℕ → ℕ → Type 0 where
  here : (n : ℕ) → IsInChain next n n
  on : (a n : ℕ) → IsInChain next (next a) n → IsInChain next a n

-- the children of a node follow its first one
abbrev pub ChildrenAreInChain : List Node → ℕ → ℕ → Type 0
ChildrenAreInChain nodes n first = (count m : ℕ) → IsChildFor nodes n count m → IsInChain (sibling_in nodes) first m

-- each node is found from its parent, by numbers that fall, and no other node has its parent and its count
pub record AreLinked (nodes : List Node) (firsts : List ℕ) : Type 0 where
  pub as_many : length firsts ≡ length nodes
  pub ends : sibling_in nodes 0 ≡ 0
  pub falls : (n : ℕ) → 0 < n → sibling_in nodes n < n
  pub within : (n : ℕ) → 0 < first_in firsts n → first_in firsts n < length nodes
  pub linked : (n : ℕ) → ChildrenAreInChain nodes n (first_in firsts n)
  pub apart : (n count l m : ℕ) → IsChildFor nodes n count l → IsChildFor nodes n count m → l ≡ m

-- the node is the child for this count; 0 where there is none
pub record IsChildOrNone (nodes : List Node) (n count m : ℕ) : Type 0 where
  pub some : 0 < m → IsChildFor nodes n count m
  pub none : m ≡ 0 → (k : ℕ) → IsChildFor nodes n count k → ⊥

-- each node to which counts within the limits lead is among these
abbrev pub HasReached : List Node → ℕ → List ℕ → List ℕ → Type 0
HasReached nodes n limits out = (fs : List ℕ) (l : ℕ) → AreAtMost fs limits → Down nodes fs n l → Contains out l
