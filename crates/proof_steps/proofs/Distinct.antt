-- Atoms that are kept one after another, without repeated ones, and how many symbols they have.
use Rattle.std.proofs.Common.{◌≡◌, inl, inr, ℕ, ◌+◌, ◌<◌, ◌≤◌, Bool, true, false, if◌then◌else◌, List, [], ◌∷◌, ◌++◌, length, map, fold, drop, get_or, sum_by, refl, sym, ap, ◌∙◌, subst, arith}
use Rattle.std.specs.List.{list_any}
use Rattle.std.proofs.lemmas.Bool.{or_cases}
use Rattle.std.proofs.lemmas.List.{at_drop_more}
use Rattle.std.proofs.lemmas.List.Sums.{sum_by-append, sum_by-cons}
use Rattle.spl_terms.specs.declared.atom.Atom.{Atom}
use Rattle.spl_terms.specs.declared.atom.Atom.TheVariants.{Holds, Equal}
use Rattle.spl_terms.specs.declared.clause.Clause.{Clause}
use Rattle.spl_terms.specs.Terms.{term_symbols}
use Rattle.spl_terms.specs.Clauses.{atom_symbols, clause_symbols, is_same, added, distinct, at_lists, renumbered, in_order}
use Rattle.spl_terms.specs.SameLaws.{flipped, same_cases}
use Rattle.spl_terms.specs.SizeLaws.{symbols_in_order, symbols-parts}
use Rattle.spl_terms.specs.InOrderLaws.{distinct-different, different-distinct}

-- ---- sizes

symbols-flipped : (a : Atom) → atom_symbols (flipped a) ≡ atom_symbols a
symbols-flipped (Holds p ts) = refl
symbols-flipped (Equal s t) = omega (arith, sum_by-cons (λ n. n) (term_symbols s) (map term_symbols (t ∷ [])), sum_by-cons (λ n. n) (term_symbols t) (map term_symbols (s ∷ [])), sum_by-cons (λ n. n) (term_symbols s) [], sum_by-cons (λ n. n) (term_symbols t) [])

symbols-same : (a b : Atom) → is_same a b ≡ true → atom_symbols a ≡ atom_symbols b
symbols-same a b e = elim (same_cases a b e) [
  | inl h ↦ ap atom_symbols h
  | inr h ↦ sym (symbols-flipped a) ∙ ap atom_symbols h
]

symbols-among : (a : Atom) (xs : List Atom) → list_any (λ b. is_same a b) xs ≡ true → atom_symbols a ≤ sum_by atom_symbols xs
symbols-among a [] e = absurd (cc)
symbols-among a (b ∷ xs) e = elim (or_cases (is_same a b) (list_any (λ c. is_same a c) xs) e) [
  | inl here ↦ omega (arith, symbols-same a b here, sum_by-cons atom_symbols b xs)
  | inr later ↦ omega (arith, symbols-among a xs later, sum_by-cons atom_symbols b xs)
]

-- an atom that is added is there with its symbols
pub symbols-within : (xs : List Atom) (a : Atom) → atom_symbols a ≤ sum_by atom_symbols (added xs a)
symbols-within xs a = by (list_any (λ b. is_same a b) xs) refl
  where
    by : (t : Bool) → list_any (λ b. is_same a b) xs ≡ t → atom_symbols a ≤ sum_by atom_symbols (if t then xs else xs ++ a ∷ [])
    by true e = symbols-among a xs e
    by false e = omega (arith, sum_by-append atom_symbols xs (a ∷ []), sum_by-cons atom_symbols a [])

added-grows : (xs : List Atom) (a : Atom) → sum_by atom_symbols xs ≤ sum_by atom_symbols (added xs a)
added-grows xs a = by (list_any (λ b. is_same a b) xs)
  where
    by : (t : Bool) → sum_by atom_symbols xs ≤ sum_by atom_symbols (if t then xs else xs ++ a ∷ [])
    by true = omega arith
    by false = omega (arith, sum_by-append atom_symbols xs (a ∷ []))

pub fold-grows : (as' xs : List Atom) → sum_by atom_symbols xs ≤ sum_by atom_symbols (fold added xs as')
fold-grows [] xs = omega arith
fold-grows (a ∷ as') xs = omega (arith, fold-grows as' (added xs a), added-grows xs a)

-- what is kept behind one more atom, and behind those that are left
pub kept-more : (h : Atom → Atom) (xs kept more : List Atom) (n : ℕ) (x : Atom) → n < length xs → x ≡ get_or xs n x → more ≡ added kept (h x) → fold added more (map h (drop (n + 1) xs)) ≡ fold added kept (map h (drop n xs))
kept-more h xs kept more n x below is e =
    (λ k. fold added (e k) (map h (drop (n + 1) xs)))
    ∙ ap (λ y. fold added (added kept (h y)) (map h (drop (n + 1) xs))) is
    ∙ sym (at_drop_more (λ l. fold added kept (map h l)) xs n x below)

-- what was too large stays so
pub kept-large : (h : Atom → Atom) (xs kept whole : List Atom) (n : ℕ) (x : Atom) → n < length xs → x ≡ get_or xs n x → fold added kept (map h (drop n xs)) ≡ whole → 4096 < sum_by atom_symbols (added kept (h x)) → 4096 < sum_by atom_symbols whole
kept-large h xs kept whole n x below is all large =
    let same : fold added (added kept (h x)) (map h (drop (n + 1) xs)) ≡ whole = kept-more h xs kept (added kept (h x)) n x below is refl ∙ all in
    subst (λ l. 4096 < sum_by atom_symbols l) same (omega (arith, large, fold-grows (map h (drop (n + 1) xs)) (added kept (h x))))

-- ---- clauses

distinct-twice : (xs : List Atom) → distinct (distinct xs) ≡ distinct xs
distinct-twice xs = different-distinct (distinct xs) (distinct-different xs)

pub in_order-distinct : (c : Clause) → in_order (at_lists distinct c) ≡ in_order c
in_order-distinct c = λ i. renumbered (record { constraint = distinct-twice c.constraint i; antecedent = distinct-twice c.antecedent i; succedent = distinct-twice c.succedent i })

pub large_constraint : (c : Clause) → 4096 < sum_by atom_symbols (distinct c.constraint) → 4096 < clause_symbols (in_order c)
large_constraint c h = omega (arith, symbols_in_order c, symbols-parts (at_lists distinct c))

pub large_antecedent : (c : Clause) → 4096 < sum_by atom_symbols (distinct c.antecedent) → 4096 < clause_symbols (in_order c)
large_antecedent c h = omega (arith, symbols_in_order c, symbols-parts (at_lists distinct c))

pub large_succedent : (c : Clause) → 4096 < sum_by atom_symbols (distinct c.succedent) → 4096 < clause_symbols (in_order c)
large_succedent c h = omega (arith, symbols_in_order c, symbols-parts (at_lists distinct c))
