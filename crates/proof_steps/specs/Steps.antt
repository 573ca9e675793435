-- What a step concludes: a table, one case a rule.
-- Resolution, factoring, paramodulation (superposition), equality resolution and equality factoring are those of
-- Weidenbach 2001, section on superposition, here for given substitutions; the case rules are its splitting rule,
-- as steps of one proof.
use Rattle.std.specs.Prelude.{◌≡◌, ℕ, ◌<◌, ◌≤◌, min, ⊤, Bool, true, false, ◌&&◌, ◌||◌, ◌==◌, if◌then◌else◌, List, [], ◌∷◌, ◌++◌, length, Option, Some, None, IfSome, IsSomeAnd, Result, Ok, Err, option_map, option_and_then, slice_get, remove, nat_le, nat_lt, map, not, filter_map}
use Rattle.spl_terms.specs.declared.term.Term.{Term}
use Rattle.spl_terms.specs.declared.atom.Atom.{Atom}
use Rattle.spl_terms.specs.declared.atom.Atom.TheVariants.{Holds, Equal}
use Rattle.spl_terms.specs.declared.clause.Part.{Part}
use Rattle.spl_terms.specs.declared.clause.Part.TheVariants.{Constraint, Antecedent, Succedent}
use Rattle.spl_terms.specs.declared.clause.Spot.{Spot}
use Rattle.spl_terms.specs.declared.clause.Clause.{Clause}
use Rattle.spl_terms.specs.Terms.{term_eq}
use Rattle.spl_terms.specs.declared.clause.PushError.{PushError}
use Rattle.spl_terms.specs.declared.clause.PushError.TheVariants.{Big, Memory}
pub use Rattle.spl_terms.specs.Lists.{numbered}
use Rattle.spl_terms.specs.Clauses.{is_same, is_empty, part_of, clause_symbols, clause_variables, firsts, in_order}
use Rattle.spl_truth.specs.Truth.{apply}
use Rattle.spl_truth.specs.Redundancy.{has_equal_sides}
use Rattle.dep_sets.specs.declared.deps.Assumption.{Assumption}
use Rattle.dep_sets.specs.Assumptions.{contains_assumption, united, without_assumption}
use Rattle.proof_steps.specs.declared.step.Statement.{Statement}
use Rattle.proof_steps.specs.declared.step.Rule.{Rule}
use Rattle.proof_steps.specs.declared.step.Rule.TheVariants.{Input, Resolve, Factor, Paramodulate, Reflex, EqFactor, Assume, CaseLeft, CaseRight, CaseBoth}
use Rattle.proof_steps.specs.declared.step.Step.{Step}
use Rattle.proof_steps.specs.Spots.{atom_at, term_under, with_term_at}
use Rattle.clause_parts.specs.Parts.{part_by}
use Rattle.clause_parts.specs.Sides.{part_marks, split_parts, assumed}

-- ---- words

abbrev pub when : {A : Type 0} → Bool → A → Option A
when b a = if b then Some a else None

-- one entry for each variable of the clause
abbrev pub has_entries : List Term → Clause → Bool
has_entries s c = length s == length (firsts (clause_variables c))

-- the clause without the atom at this place
abbrev pub without : Part → ℕ → Clause → Clause
without Constraint i c = record c { constraint = remove c.constraint i }
without Antecedent i c = record c { antecedent = remove c.antecedent i }
without Succedent i c = record c { succedent = remove c.succedent i }

-- the atoms of both, part by part
abbrev pub joined : Clause → Clause → Clause
joined p q = record { constraint = p.constraint ++ q.constraint; antecedent = p.antecedent ++ q.antecedent; succedent = p.succedent ++ q.succedent }

abbrev pub is_negative : Part → Bool
is_negative Constraint = true
is_negative Antecedent = true
is_negative Succedent = false

-- ---- resolution and factoring

abbrev pub both_same : Option Atom → Option Atom → Bool
both_same (Some a) (Some b) = is_same a b
both_same (Some a) None = false
both_same None b = false

-- both clauses without the two atoms
abbrev pub resolvent : ℕ → Part → ℕ → Clause → Clause → Clause
resolvent i part j p q = joined (without Succedent i p) (without part j q)

-- whether the two atoms are there, the second in a negative part, and are the same
abbrev pub may_resolve : ℕ → Part → ℕ → Clause → Clause → Bool
may_resolve i part j p q = is_negative part && both_same (slice_get p.succedent i) (slice_get (part_of q part) j)

abbrev pub resolved : ℕ → Part → ℕ → Clause → Clause → Option Clause
resolved i part j p q = when (may_resolve i part j p q) (in_order (resolvent i part j p q))

abbrev pub resolution : ℕ → Part → ℕ → List Term → List Term → Clause → Clause → Option Clause
resolution i part j s t p q = if has_entries s p && has_entries t q then resolved i part j (apply s p) (apply t q) else None

abbrev pub factored : List Term → Clause → Option Clause
factored s p = if has_entries s p then Some (in_order (apply s p)) else None

-- ---- equations

-- the sides of an equation, read from left to right, or from right to left
abbrev pub sides_of : Bool → Atom → Option (Term × Term)
sides_of right (Holds p ts) = None
sides_of false (Equal s t) = Some (s, t)
sides_of true (Equal s t) = Some (t, s)

-- where the first side stands at the spot of q: p without the equation, and q with the second side there
abbrev pub rewritten : ℕ → Spot → Clause → Clause → Term × Term → Option Clause
rewritten i spot p q (l, r) = option_and_then (λ u. when (term_eq u l) (in_order (joined (without Succedent i p) (with_term_at spot r q)))) (option_and_then (term_under spot.path) (atom_at spot.part spot.place q))

abbrev pub paramodulated : ℕ → Bool → Spot → Clause → Clause → Option Clause
paramodulated i right spot p q = option_and_then (rewritten i spot p q) (option_and_then (sides_of right) (slice_get p.succedent i))

abbrev pub paramodulation : ℕ → Bool → Spot → List Term → List Term → Clause → Clause → Option Clause
paramodulation i right spot s t p q = if has_entries s p && has_entries t q then paramodulated i right spot (apply s p) (apply t q) else None

-- without an antecedent equation whose sides are equal
abbrev pub reflexed : ℕ → Clause → Option Clause
reflexed j p = option_and_then (λ a. when (has_equal_sides a) (in_order (without Antecedent j p))) (slice_get p.antecedent j)

abbrev pub reflection : ℕ → List Term → Clause → Option Clause
reflection j s p = if has_entries s p then reflexed j (apply s p) else None

-- of u = v and u = w: without the first, and with v = w at the end of the antecedent
abbrev pub factored_sides : ℕ → Clause → Term × Term → Term × Term → Option Clause
factored_sides i p (u, v) (x, w) = when (term_eq u x) (in_order (let c = without Succedent i p in record c { antecedent = c.antecedent ++ Equal v w ∷ [] }))

abbrev pub equality_factored : ℕ → Bool → ℕ → Bool → Clause → Option Clause
equality_factored i i_right j j_right p =
    if i == j then None else
    option_and_then (λ first. option_and_then (factored_sides i p first) (option_and_then (sides_of j_right) (slice_get p.succedent j))) (option_and_then (sides_of i_right) (slice_get p.succedent i))

abbrev pub equality_factoring : ℕ → Bool → ℕ → Bool → List Term → Clause → Option Clause
equality_factoring i i_right j j_right s p = if has_entries s p then equality_factored i i_right j j_right (apply s p) else None

-- ---- statements

abbrev pub of_one : {A B : Type 0} → (A → Option B) → Option A → Option B
of_one f (Some p) = f p
of_one f None = None

abbrev pub of_two : {A B C : Type 0} → (A → B → Option C) → Option A → Option B → Option C
of_two f (Some p) (Some q) = f p q
of_two f (Some p) None = None
of_two f None q = None

abbrev pub of_three : {A B C D : Type 0} → (A → B → C → Option D) → Option A → Option B → Option C → Option D
of_three f (Some p) q r = of_two (f p) q r
of_three f None q r = None

abbrev pub states : Clause → List Assumption → Statement
states c deps = record { clause = c; deps = deps }

-- a conclusion from one parent has its dependencies
abbrev pub from_one : (Clause → Option Clause) → Statement → Option Statement
from_one f p = option_map (λ c. states c p.deps) (f p.clause)

-- a conclusion from two parents has the dependencies of both
abbrev pub from_two : (Clause → Clause → Option Clause) → Statement → Statement → Option Statement
from_two f p q = option_map (λ c. states c (united p.deps q.deps)) (f p.clause q.clause)

-- ---- splits

abbrev pub side_of : ℕ → ℕ → Assumption
side_of split side = record { split = split; side = side }

-- the empty clause that depends on this side of the split
abbrev pub closes : Assumption → Statement → Bool
closes a e = is_empty e.clause && contains_assumption e.deps a

-- what is assumed on a side of the split of the clause r with this number: its part, or a negation there; it depends on that
-- side alone
abbrev pub assumption_of : ℕ → ℕ → Option ℕ → Statement → Option Statement
assumption_of split side negated r = option_map (λ c. states c (side_of split side ∷ [])) (option_and_then (assumed side negated) (split_parts r.clause))

-- ---- closed sides

-- the numbers ascend, and each is above this one and at most so many
abbrev pub ascend_within : ℕ → ℕ → List ℕ → Bool
ascend_within low count [] = true
ascend_within low count (n ∷ ns) = nat_lt low n && (nat_le n count && ascend_within n count ns)

-- there is at least one side, and an empty clause for each, which depends on it
abbrev pub are_closed : ℕ → List ℕ → List Statement → Bool
are_closed split [] es = false
are_closed split (side ∷ []) [] = false
are_closed split (side ∷ []) (e ∷ []) = closes (side_of split side) e
are_closed split (side ∷ []) (e ∷ f ∷ es) = false
are_closed split (side ∷ next ∷ sides) [] = false
are_closed split (side ∷ next ∷ sides) (e ∷ es) = closes (side_of split side) e && are_closed split (next ∷ sides) es

-- these dependencies, and those of each further empty clause without its side
abbrev pub freed_deps : ℕ → List Assumption → List ℕ → List Statement → List Assumption
freed_deps split deps [] es = deps
freed_deps split deps (side ∷ sides) [] = deps
freed_deps split deps (side ∷ sides) (e ∷ es) = freed_deps split (united deps (without_assumption (side_of split side) e.deps)) sides es

-- the dependencies of each empty clause without its side, and those of the clause that was split
abbrev pub closed_deps : ℕ → List Assumption → List ℕ → List Statement → List Assumption
closed_deps split whole [] es = whole
closed_deps split whole (side ∷ sides) [] = whole
closed_deps split whole (side ∷ sides) (e ∷ es) = united (freed_deps split (without_assumption (side_of split side) e.deps) sides es) whole

-- a mark where one of the two has one; a shorter list has none past its end
abbrev pub either_marked : List Bool → List Bool → List Bool
either_marked [] bs = bs
either_marked (a ∷ as') [] = a ∷ as'
either_marked (a ∷ as') (b ∷ bs) = (a || b) ∷ either_marked as' bs

-- a mark where one of the lists has one
abbrev pub some_of : List (List Bool) → List Bool
some_of [] = []
some_of (ms ∷ more) = either_marked ms (some_of more)

-- the clause without the atoms of the parts of these sides
abbrev pub without_parts : List (List Bool) → List ℕ → Clause → Clause
without_parts marks sides c = in_order (part_by c (map not (some_of (filter_map (numbered marks) sides))))

-- these sides of the split of r are closed by empty clauses, so what is left of r holds
abbrev pub by_cases : ℕ → List ℕ → Statement → List Statement → Option Statement
by_cases split sides r es =
    option_and_then (λ marks. when (ascend_within 0 (length marks) sides && are_closed split sides es) (states (without_parts marks sides r.clause) (closed_deps split r.deps sides es))) (part_marks r.clause)

-- all sides are closed, so nothing is left; this is concluded whether or not r has parts
abbrev pub all_closed : ℕ → List ℕ → Statement → List Statement → Option Statement
all_closed split sides r es = when (are_closed split sides es) (states (record { constraint = []; antecedent = []; succedent = [] }) (closed_deps split r.deps sides es))

-- one side is closed
abbrev pub side_closed : ℕ → ℕ → Statement → Statement → Option Statement
side_closed split side r e = by_cases split (side ∷ []) r (e ∷ [])

-- both sides are closed
abbrev pub both_closed : ℕ → Statement → Statement → Statement → Option Statement
both_closed split r e f = all_closed split (1 ∷ 2 ∷ []) r (e ∷ f ∷ [])

-- ---- the table

abbrev pub concluded : List Clause → List Statement → Rule → List ℕ → Option Statement
concluded input earlier (Input number) [] = option_map (λ c. states (in_order c) []) (numbered input number)
concluded input earlier (Resolve i part j s t) (m ∷ n ∷ []) = of_two (from_two (resolution i part j s.terms t.terms)) (numbered earlier m) (numbered earlier n)
concluded input earlier (Factor s) (m ∷ []) = of_one (from_one (factored s.terms)) (numbered earlier m)
concluded input earlier (Paramodulate i right spot s t) (m ∷ n ∷ []) = of_two (from_two (paramodulation i right spot s.terms t.terms)) (numbered earlier m) (numbered earlier n)
concluded input earlier (Reflex j s) (m ∷ []) = of_one (from_one (reflection j s.terms)) (numbered earlier m)
concluded input earlier (EqFactor i i_right j j_right s) (m ∷ []) = of_one (from_one (equality_factoring i i_right j j_right s.terms)) (numbered earlier m)
concluded input earlier (Assume side negated) (m ∷ []) = of_one (assumption_of m side negated) (numbered earlier m)
concluded input earlier CaseLeft (m ∷ n ∷ []) = of_two (side_closed m 1) (numbered earlier m) (numbered earlier n)
concluded input earlier CaseRight (m ∷ n ∷ []) = of_two (side_closed m 2) (numbered earlier m) (numbered earlier n)
concluded input earlier CaseBoth (m ∷ n ∷ o ∷ []) = of_three (both_closed m) (numbered earlier m) (numbered earlier n) (numbered earlier o)
concluded input earlier _ _ = None

-- the statement that a step concludes from the input and the earlier statements, of any size; nothing where its rule doesn't apply
abbrev pub conclude : List Clause → List Statement → Step → Option Statement
conclude input earlier step = concluded input earlier step.rule step.parents

-- nothing past 4,096 symbols
abbrev pub within : Option Statement → Option Statement
within None = None
within (Some s) = when (nat_le (clause_symbols s.clause) 4096) s

-- ---- the rules of resolution

-- the step that resolves atom i of the line m with atom j of the line n, both without variables
abbrev pub ground_resolve : ℕ → Part → ℕ → ℕ → ℕ → Step
ground_resolve i part j m n = record { rule = Resolve i part j (record { terms = [] }) (record { terms = [] }); parents = m ∷ n ∷ [] }

-- ---- answers

-- what was concluded, if anything, and it fits; `Big` where it was concluded and has more than 4,096 symbols; want of memory is free
abbrev pub Sized : Option Statement → Result (Option Statement) PushError → Type 0
Sized o (Ok made) = (made ≡ o) × IfSome o (λ s. clause_symbols s.clause ≤ 4096)
Sized o (Err (Big symbols)) = IsSomeAnd o (λ s. (4096 < clause_symbols s.clause) × (symbols ≡ min (clause_symbols s.clause) 1000000))
Sized o (Err Memory) = ⊤
