-- A clause that follows may be left out; and proof by cases on a part of a clause.
use Rattle.std.proofs.Common.{◌≡◌, ◌⊎◌, inl, inr, Bool, true, false, ◌||◌, List, [], ◌∷◌, ◌++◌, All, Contains, refl, sym, ◌∙◌}
use Rattle.std.specs.List.{list_all, list_any, AllByRecursion}
use Rattle.std.proofs.lemmas.Bool.{false≢true, and_parts, and_from}
use Rattle.std.proofs.lemmas.List.Folds.{list_all-append}
use Rattle.std.proofs.lemmas.List.Elements.{All-nil, All-cons, All-append, All-head, All-tail}
use Rattle.spl_terms.specs.declared.atom.Atom.{Atom}
use Rattle.spl_terms.specs.declared.clause.Clause.{Clause}
use Rattle.spl_terms.specs.Clauses.{atom_eq}
use Rattle.spl_truth.specs.Truth.{IsGroundInstance, IsUsable, holds, FollowsAt, Follows}
use Rattle.proof_steps.specs.Steps.{joined}
use Rattle.proof_steps.proofs.Resolution.{negative, truth-joined}

-- a usable list under which x is true, wherever the assignment is one of those of which ok speaks
abbrev pub Backed : List Clause → (List Atom → Type 0) → Clause → Type 0
Backed clauses ok x = (ys : List Clause) × All (IsUsable clauses) ys × ((assignment : List Atom) → ok assignment → list_all (holds assignment) ys ≡ true → holds assignment x ≡ true)

gather : (clauses : List Clause) (ok : List Atom → Type 0) (xs : List Clause) → AllByRecursion (Backed clauses ok) xs →
    (ys : List Clause) × All (IsUsable clauses) ys × ((assignment : List Atom) → ok assignment → list_all (holds assignment) ys ≡ true → list_all (holds assignment) xs ≡ true)
gather clauses ok [] backed = ([], All-nil (IsUsable clauses), λ a o e. refl)
gather clauses ok (x ∷ xs) backed =
    let one = backed.0 in
    let rest = gather clauses ok xs backed.1 in (
      one.0 ++ rest.0,
      All-append (IsUsable clauses) one.0 rest.0 one.1 rest.1,
      λ a o e. let p = and_parts _ _ (sym (list_all-append (holds a) one.0 rest.0) ∙ e) in and_from _ _ (one.2 a o p.0) (rest.2 a o p.1),
    )

-- each of a usable list is backed, where each usable clause is
each_backed : (clauses more : List Clause) (ok : List Atom → Type 0) → ((x : Clause) → IsUsable more x → Backed clauses ok x) → (xs : List Clause) → All (IsUsable more) xs → AllByRecursion (Backed clauses ok) xs
each_backed clauses more ok back [] all = tt
each_backed clauses more ok back (x ∷ xs) all = (back x (All-head (IsUsable more) x xs all), each_backed clauses more ok back xs (All-tail (IsUsable more) x xs all))

alone : (clauses : List Clause) (ok : List Atom → Type 0) (x : Clause) → IsUsable clauses x → Backed clauses ok x
alone clauses ok x use' = (x ∷ [], All-cons (IsUsable clauses) x [] use' (All-nil (IsUsable clauses)), λ a o e. (and_parts _ _ e).0)

-- what follows from clauses that follow, follows
pub cut : (clauses more : List Clause) → ((c : Clause) → Contains more c → Follows clauses c) → (d : Clause) → FollowsAt more d → FollowsAt clauses d
cut clauses more follows d f =
    let ok : List Atom → Type 0 = λ _. Unit {0} in
    let made = gather clauses ok f.listed (each_backed clauses more ok back f.listed f.usable) in
    record { listed = made.0; usable = made.1; forces = λ a e. f.forces a (made.2 a tt e) }
  where
    back : (x : Clause) → IsUsable more x → Backed clauses (λ _. Unit {0}) x
    back x (inl (c, there, inst)) = let g = follows c there x inst in (g.listed, g.usable, λ a o e. g.forces a e)
    back x (inr axiom') = alone clauses (λ _. Unit {0}) x (inr axiom')

-- a clause follows from clauses among which it is
pub itself : (clauses : List Clause) (c : Clause) → Contains clauses c → Follows clauses c
itself clauses c there d inst =
    record {
      listed = d ∷ [];
      usable = All-cons (IsUsable clauses) d [] (inl (c, there, inst)) (All-nil (IsUsable clauses));
      forces = λ a e. (and_parts _ _ e).0;
    }

-- what follows from clauses follows from more
pub follows_more : (clauses more : List Clause) → ((c : Clause) → Contains clauses c → Contains more c) → (d : Clause) → Follows clauses d → Follows more d
follows_more clauses more kept d follows e inst = cut more clauses (λ c there. itself more c (kept c there)) e (follows e inst)

left_true : (n s m t : Bool) → ((n || m) || (s || t)) ≡ true → (m || t) ≡ false → (n || s) ≡ true
left_true true s m t e f = refl
left_true false true m t e f = refl
left_true false false m t e f = absurd (false≢true (sym f ∙ e))

-- Proof by cases. From `more` nothing can be true, and each usable clause of `more` that isn't usable itself holds unless d does. So d holds
pub by_cases : (clauses more : List Clause) (d nothing : Clause) → ((a : List Atom) → holds a nothing ≡ false) → FollowsAt more nothing →
    ((c x : Clause) → Contains more c → IsGroundInstance c x → Contains clauses c ⊎ FollowsAt clauses (joined x d)) → FollowsAt clauses d
by_cases clauses more d nothing never f sides =
    let ok : List Atom → Type 0 = λ a. holds a d ≡ false in
    let made = gather clauses ok f.listed (each_backed clauses more ok back f.listed f.usable) in
    record { listed = made.0; usable = made.1; forces = λ a e. decide a (holds a d) refl (λ n. f.forces a (made.2 a n e)) }
  where
    truth_left : (a : List Atom) (x : Clause) → holds a (joined x d) ≡ true → holds a d ≡ false → holds a x ≡ true
    truth_left a x e n =
        let b : Atom → Bool = λ y. list_any (atom_eq y) a in
        left_true (negative b x) (list_any b x.succedent) (negative b d) (list_any b d.succedent) (sym (truth-joined b x d) ∙ e) n

    back : (x : Clause) → IsUsable more x → Backed clauses (λ a. holds a d ≡ false) x
    back x (inl (c, there, inst)) = elim (sides c x there inst) [
      | inl here ↦ alone clauses (λ a. holds a d ≡ false) x (inl (c, here, inst))
      | inr g ↦ (g.listed, g.usable, λ a n e. truth_left a x (g.forces a e) n)
    ]
    back x (inr axiom') = alone clauses (λ a. holds a d ≡ false) x (inr axiom')

    decide : (a : List Atom) (t : Bool) → holds a d ≡ t → (holds a d ≡ false → holds a nothing ≡ true) → holds a d ≡ true
    decide a true e h = e
    decide a false e h = absurd (false≢true (sym (never a) ∙ h e))
