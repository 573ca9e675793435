-- Facts about conclusions that are counted without their repeated atoms.
use Rattle.std.proofs.Common.{◌≡◌, inl, inr, ℕ, suc, ◌+◌, ◌<◌, ◌≤◌, Bool, true, false, if◌then◌else◌, List, [], ◌∷◌, ◌++◌, map, take, get_or, length, sum, sum_by, Option, Some, refl, sym, ap, subst, ◌∙◌, arith, append-nil, append_assoc}
use Rattle.std.specs.Prelude.{min}
use Rattle.std.specs.List.{list_any}
use Rattle.std.proofs.lemmas.Bool.{or_cases, false≢true}
use Rattle.std.proofs.lemmas.List.{map-append}
use Rattle.std.proofs.lemmas.List.Sums.{sum_by-cons, sum_by_push, fold-append}
use Rattle.std.proofs.Math.Seq.{take-suc}
use Rattle.spl_terms.specs.declared.term.Term.{Term}
use Rattle.spl_terms.specs.declared.atom.Atom.{Atom}
use Rattle.spl_terms.specs.declared.atom.Atom.TheVariants.{Holds, Equal}
use Rattle.spl_terms.specs.declared.clause.Clause.{Clause}
use Rattle.spl_terms.specs.Terms.{term_symbols}
use Rattle.spl_terms.specs.Clauses.{atom_symbols, clause_symbols, is_same, added, distinct, at_lists, in_order}
use Rattle.spl_terms.specs.SameLaws.{flipped, same_cases}
use Rattle.spl_terms.specs.SizeLaws.{symbols_in_order, symbols-parts, added-new}
use Rattle.proof_steps.specs.declared.step.Line.{Line}
use Rattle.superposition.specs.declared.error.InferError.{InferError}
use Rattle.superposition.specs.declared.error.InferError.TheVariants.{Big, Memory}
use Rattle.superposition.specs.Appending.{StopsBefore, IsPrefixAppended}
use Rattle.superposition.specs.Sizes.{Refuses, RefusesBy, IsTooBig, Counts, AreCounted}
use Rattle.superposition.proofs.Composing.{no_memory}

-- ---- symbols do not get fewer where atoms are added

sum_of_two : (m n : ℕ) → sum (m ∷ n ∷ []) ≡ m + n
sum_of_two m n = omega (arith, sum_by-cons (λ k. k) m (n ∷ []), sum_by-cons (λ k. k) n [])

symbols-flipped : (a : Atom) → atom_symbols (flipped a) ≡ atom_symbols a
symbols-flipped (Holds p ts) = refl
symbols-flipped (Equal s t) = omega (arith, sum_of_two (term_symbols s) (term_symbols t), sum_of_two (term_symbols t) (term_symbols s))

same_symbols : (a b : Atom) → is_same a b ≡ true → atom_symbols a ≡ atom_symbols b
same_symbols a b e = elim (same_cases a b e) [
  | inl h ↦ ap atom_symbols h
  | inr h ↦ sym (symbols-flipped a) ∙ ap atom_symbols h
]

repeated_counts : (a : Atom) (xs : List Atom) → list_any (λ b. is_same a b) xs ≡ true → atom_symbols a ≤ sum_by atom_symbols xs
repeated_counts a [] e = absurd (false≢true e)
repeated_counts a (x ∷ xs) e = elim (or_cases (is_same a x) (list_any (λ b. is_same a b) xs) e) [
  | inl here ↦ omega (arith, sum_by-cons atom_symbols x xs, same_symbols a x here)
  | inr more ↦ omega (arith, sum_by-cons atom_symbols x xs, repeated_counts a xs more)
]

added_counts : (xs : List Atom) (a : Atom) → (sum_by atom_symbols xs ≤ sum_by atom_symbols (added xs a)) × (atom_symbols a ≤ sum_by atom_symbols (added xs a))
added_counts xs a = by_test (list_any (λ b. is_same a b) xs) refl
  where
    by_test : (b : Bool) → list_any (λ b. is_same a b) xs ≡ b → (sum_by atom_symbols xs ≤ sum_by atom_symbols (if b then xs else xs ++ a ∷ [])) × (atom_symbols a ≤ sum_by atom_symbols (if b then xs else xs ++ a ∷ []))
    by_test true e = (omega arith, repeated_counts a xs e)
    by_test false e = (omega (arith, sum_by_push atom_symbols xs a), omega (arith, sum_by_push atom_symbols xs a))

distinct_push : (xs : List Atom) (a : Atom) → distinct (xs ++ a ∷ []) ≡ added (distinct xs) a
distinct_push xs a = fold-append added [] xs (a ∷ [])

-- ---- atoms one after another

-- the next one is the same as one that is kept
pub counted_again : (n : ℕ) (kept held atoms : List Atom) (a : Atom) → n < 1000000 → AreCounted n kept atoms → held ≡ kept → list_any (λ b. is_same a b) held ≡ true → AreCounted n kept (atoms ++ a ∷ [])
counted_again n kept held atoms a low h is e =
    let same : distinct (atoms ++ a ∷ []) ≡ distinct atoms = distinct_push atoms a ∙ ap (λ b. if b then distinct atoms else distinct atoms ++ a ∷ []) (ap (list_any (λ b. is_same a b)) (sym (h.whole low) ∙ sym is) ∙ e) in
    record {
      counts = subst (Counts n) (sym same) h.counts;
      whole = λ low. h.whole low ∙ sym same;
    }

-- it is new
pub counted_new : (n m size : ℕ) (kept held new atoms : List Atom) (a : Atom) → n < 1000000 → AreCounted n kept atoms → held ≡ kept → list_any (λ b. is_same a b) held ≡ false → new ≡ kept ++ a ∷ [] → size ≡ min (atom_symbols a) 18446744073709551615 → m ≡ min (n + size) 18446744073709551615 → AreCounted m new (atoms ++ a ∷ [])
counted_new n m size kept held new atoms a low h is e pushed sized summed =
    let here : kept ≡ distinct atoms = h.whole low in
    let same : distinct (atoms ++ a ∷ []) ≡ distinct atoms ++ a ∷ [] = distinct_push atoms a ∙ added-new (distinct atoms) a (ap (list_any (λ b. is_same a b)) (sym here ∙ sym is) ∙ e) in
    record {
      counts = subst (Counts m) (sym same) (omega (arith, sum_by_push atom_symbols (distinct atoms) a, h.counts, sized, summed, low));
      whole = λ _. pushed ∙ ap (λ l. l ++ a ∷ []) here ∙ sym same;
    }

-- there are 1,000,000 symbols without it
pub counted_enough : (n : ℕ) (kept atoms : List Atom) (a : Atom) → 1000000 ≤ n → AreCounted n kept atoms → AreCounted n kept (atoms ++ a ∷ [])
counted_enough n kept atoms a high h =
    let more = (added_counts (distinct atoms) a).0 in
    record {
      counts = subst (Counts n) (sym (distinct_push atoms a)) (omega (arith, h.counts, high, more));
      whole = λ low. absurd (omega (arith, low, high));
    }

-- it has as many alone
pub counted_vast : (kept atoms : List Atom) (a : Atom) → 1000000 ≤ atom_symbols a → AreCounted 1000000 kept (atoms ++ a ∷ [])
counted_vast kept atoms a high =
    let more = (added_counts (distinct atoms) a).1 in
    record {
      counts = subst (Counts 1000000) (sym (distinct_push atoms a)) (omega (arith, high, more));
      whole = λ low. absurd (omega (arith, low));
    }

pub instances_next : (f : Atom → Atom) (earlier atoms : List Atom) (k : ℕ) (x : Atom) → k < length atoms → x ≡ get_or atoms k x → (earlier ++ map f (take k atoms)) ++ f x ∷ [] ≡ earlier ++ map f (take (k + 1) atoms)
instances_next f earlier atoms k x h e =
    let next : suc k ≡ k + 1 = omega arith in
    append_assoc earlier (map f (take k atoms)) (f x ∷ [])
    ∙ ap (λ l. earlier ++ l) (sym (map-append f (take k atoms) (x ∷ [])) ∙ ap (λ y. map f (take k atoms ++ y ∷ [])) e ∙ ap (map f) (sym (take-suc atoms k x h) ∙ ap (λ m. take m atoms) next))

-- nothing is counted yet
pub counted_none : AreCounted 0 [] []
counted_none = record { counts = refl; whole = λ _. refl }

-- five lists, one after another
pub five : (f : Atom → Atom) (a b : List Atom) (c d e : List Atom) → ((((map f a ++ map f b) ++ c) ++ d) ++ e) ≡ map f (a ++ b) ++ (c ++ (d ++ e))
five f a b c d e =
    append_assoc ((map f a ++ map f b) ++ c) d e
    ∙ append_assoc (map f a ++ map f b) c (d ++ e)
    ∙ ap (λ l. l ++ (c ++ (d ++ e))) (sym (map-append f a b))

-- ---- whole conclusions

pub counted_whole : (m n k symbols : ℕ) (c : Clause) → Counts m (distinct c.constraint) → Counts n (distinct c.antecedent) → Counts k (distinct c.succedent) → symbols ≡ min (min (m + n) 18446744073709551615 + k) 18446744073709551615 → 4096 < symbols → IsTooBig (min symbols 1000000) c
counted_whole m n k symbols c a b d summed big =
    let whole : clause_symbols (in_order c) ≡ clause_symbols (at_lists distinct c) = symbols_in_order c in
    let parts = symbols-parts (at_lists distinct c) in
    (omega (arith, whole, parts, a, b, d, summed, big), omega (arith, whole, parts, a, b, d, summed))

-- a refusal by a unifier that there is
pub refused_by : (o : Option (List Term)) (conclusion : List Term → Clause) (u : List Term) (e : InferError) → o ≡ Some u → Refuses (conclusion u) e → RefusesBy o conclusion e
refused_by o conclusion u (Big symbols) is h = (u, is, h)
refused_by o conclusion u Memory is h = tt

-- the answer before a unifier is written out
pub stopped_early : (o : Option (List Term)) (conclusion : List Term → Clause) (list old : List Line) (e : InferError) → RefusesBy o conclusion e → ((u : List Term) → o ≡ Some u → (l : Line) × (l ∷ [] ≡ list) × (l.stated.clause ≡ in_order (conclusion u))) → IsPrefixAppended list old old e
stopped_early o conclusion list old (Big symbols) h lines =
    let line = lines h.0 h.1 in
    record {
      done = [];
      left = list;
      parts = refl;
      appended = sym (append-nil old);
      fit = tt;
      stopped = subst (StopsBefore (Big symbols)) line.1 (subst (λ c. (4096 < clause_symbols c) × (symbols ≡ min (clause_symbols c) 1000000)) (sym line.2) h.2);
    }
stopped_early o conclusion list old Memory h lines = no_memory list old
