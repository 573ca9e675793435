-- Laws with their proofs, not definitions that a reader must believe: what a step concludes where it is small, lines that are there,
-- and places of atoms that are resolved.
use Rattle.std.proofs.Common.{◌≡◌, ◌⊎◌, inl, inr, ℕ, zero, suc, ◌<◌, ◌≤◌, Bool, true, false, List, [], ◌∷◌, length, Contains, Option, Some, None, option_map, refl, sym, ap, subst, ◌∙◌, arith}
use Rattle.std.specs.Prelude.{nat_le, slice_get, IsSomeAnd}
use Rattle.std.proofs.lemmas.Bool.{and_parts, leb-true, le-leb}
use Rattle.spl_terms.specs.declared.atom.Atom.{Atom}
use Rattle.spl_terms.specs.declared.clause.Part.{Part}
use Rattle.spl_terms.specs.declared.clause.Clause.{Clause}
use Rattle.spl_terms.specs.Clauses.{clause_symbols, part_of}
use Rattle.std.proofs.lemmas.Option.{none-some, same_Some}
use Rattle.proof_steps.specs.declared.step.Statement.{Statement}
use Rattle.proof_steps.specs.declared.step.Line.{Line}
use Rattle.proof_steps.specs.Steps.{when, numbered, within, is_negative, both_same, may_resolve}
use Rattle.proof_steps.specs.Checked.{stated}

within_some : (o : Option Statement) (s : Statement) → within o ≡ Some s → (o ≡ Some s) × (clause_symbols s.clause ≤ 4096)
within_some None s e = absurd (none-some s e)
within_some (Some t) s e = by_test (nat_le (clause_symbols t.clause) 4096) refl e
  where
    by_test : (b : Bool) → nat_le (clause_symbols t.clause) 4096 ≡ b → when b t ≡ Some s → (Some t ≡ Some s) × (clause_symbols s.clause ≤ 4096)
    by_test true is h = (h, subst (λ (x : Statement). clause_symbols x.clause ≤ 4096) (same_Some t s h) (leb-true (clause_symbols t.clause) 4096 is))
    by_test false is h = absurd (none-some s h)

-- an answer is this statement exactly where it is the conclusion, and fits
pub conclusion_is : (o made : Option Statement) (s : Statement) → made ≡ within o → made ≡ Some s → (o ≡ Some s) × (clause_symbols s.clause ≤ 4096)
conclusion_is o made s exact e = within_some o s (sym exact ∙ e)

pub conclusion_found : (o made : Option Statement) (s : Statement) → made ≡ within o → (o ≡ Some s) × (clause_symbols s.clause ≤ 4096) → made ≡ Some s
conclusion_found o made s exact h = exact ∙ ap within h.0 ∙ ap (λ b. when b s) (le-leb (clause_symbols s.clause) 4096 h.1)

-- where something is known of the value of an option, there is one
pub some_and : {A : Type 0} (o : Option A) (P : A → Type 0) → IsSomeAnd o P → (x : A) × (o ≡ Some x) × P x
some_and None P h = absurd h
some_and (Some x) P h = (x, refl, h)

-- atoms that are resolved are there

below : (xs : List Atom) (i : ℕ) (x : Atom) → slice_get xs i ≡ Some x → i < length xs
below [] i x e = absurd (cc)
below (y ∷ xs) zero x e = omega arith
below (y ∷ xs) (suc i) x e = omega (arith, below xs i x e)

both_below : (xs ys : List Atom) (i j : ℕ) (o r : Option Atom) → slice_get xs i ≡ o → slice_get ys j ≡ r → both_same o r ≡ true → (i < length xs) × (j < length ys)
both_below xs ys i j (Some a) (Some b) p q e = (below xs i a p, below ys j b q)
both_below xs ys i j (Some a) None p q e = absurd (cc)
both_below xs ys i j None r p q e = absurd (cc)

pub may_resolve-below : (i : ℕ) (part : Part) (j : ℕ) (p q : Clause) → may_resolve i part j p q ≡ true → (i < length p.succedent) × (j < length (part_of q part))
may_resolve-below i part j p q e = both_below p.succedent (part_of q part) i j (slice_get p.succedent i) (slice_get (part_of q part) j) refl refl (and_parts (is_negative part) (both_same (slice_get p.succedent i) (slice_get (part_of q part) j)) e).1

-- what a list contains is its first element, or is in the rest
pub Contains-cons_cases : {A : Type 0} (x : A) (xs : List A) (y : A) → Contains (x ∷ xs) y → (x ≡ y) ⊎ Contains xs y
Contains-cons_cases x xs y (zero, h, e) = inl e
Contains-cons_cases x xs y (suc k, h, e) = inr (k, omega (arith, h), e)

-- what the line with a number states

get_map : (ls : List Line) (k : ℕ) → slice_get (stated ls) k ≡ option_map (λ l. l.stated) (slice_get ls k)
get_map [] k = refl
get_map (l ∷ ls) zero = refl
get_map (l ∷ ls) (suc k) = get_map ls k

pub numbered-stated : (ls : List Line) (n : ℕ) → numbered (stated ls) n ≡ option_map (λ l. l.stated) (numbered ls n)
numbered-stated ls zero = refl
numbered-stated ls (suc k) = get_map ls k
