-- The test of a given substitution is the relation: it maps each part of a clause into that part of another one.
use Rattle.std.proofs.Common.{◌≡◌, ◌↔◌, IsTrue, inl, inr, ℕ, zero, suc, Bool, true, false, not, ◌&&◌, ◌||◌, List, [], ◌∷◌, ◌++◌, map, Option, None, Some, refl, sym, ap, ◌∙◌, subst, append_assoc, append-nil}
use Rattle.std.specs.List.{list_all, list_any, slice_get}
use Rattle.std.specs.Prelude.{IsSomeAnd}
use Rattle.std.proofs.lemmas.Bool.{false≢true, and_parts, and_from, or_left, or_right}
use Rattle.std.proofs.lemmas.List.Folds.{list_any-append}
use Rattle.std.proofs.lemmas.Option.{none-some, same_Some}
use Rattle.spl_terms.specs.declared.term.Term.{Term}
use Rattle.spl_terms.specs.declared.atom.Atom.{Atom}
use Rattle.spl_terms.specs.declared.clause.Part.{Part}
use Rattle.spl_terms.specs.declared.clause.Part.TheVariants.{Constraint, Antecedent, Succedent}
use Rattle.spl_terms.specs.declared.clause.Clause.{Clause}
use Rattle.spl_terms.specs.Clauses.{is_same, part_of, replace_in_atom}
use Rattle.spl_terms.specs.InOrder.{are_different}
use Rattle.spl_truth.specs.Redundancy.{Maps, MapsApart, EachPart}
use Rattle.spl_truth.specs.MappingLaws.{maps-apart}
use Rattle.justification.specs.Tests.{are_mapped, are_mapped_apart_from, are_mapped_apart, passes_at_parts}

-- ---- one part

pub mapped-Maps : (by : ℕ → Term) (atoms into : List Atom) → are_mapped by atoms into ≡ true → Maps by atoms into
mapped-Maps by [] into e k a h = absurd (none-some a h)
mapped-Maps by (b ∷ atoms) into e zero a h = subst (λ x. list_any (is_same (replace_in_atom by x)) into ≡ true) (same_Some b a h) (and_parts _ _ e).0
mapped-Maps by (b ∷ atoms) into e (suc k) a h = mapped-Maps by atoms into (and_parts _ _ e).1 k a h

pub Maps-mapped : (by : ℕ → Term) (atoms into : List Atom) → Maps by atoms into → are_mapped by atoms into ≡ true
Maps-mapped by [] into m = refl
Maps-mapped by (a ∷ atoms) into m = and_from _ _ (m 0 a refl) (Maps-mapped by atoms into (λ k b e. m (suc k) b e))

not-false : (b : Bool) → not b ≡ true → b ≡ false
not-false true e = absurd (false≢true e)
not-false false e = refl

neither : (a b : Bool) → (a || b) ≡ false → (a ≡ false) × (b ≡ false)
neither true b e = absurd (false≢true (sym e))
neither false b e = (refl, e)

-- one more atom at the end is the same as none of the others
different-push : (xs : List Atom) (x : Atom) → are_different xs ≡ true → list_any (is_same x) xs ≡ false → are_different (xs ++ x ∷ []) ≡ true
different-push [] x d n = refl
different-push (y ∷ xs) x d n =
    let here = and_parts _ _ d in
    let apart = neither _ _ n in
    and_from _ _
    (ap not (list_any-append (λ b. is_same b y) xs (x ∷ []) ∙ (λ i. not-false _ here.0 i || (apart.0 i || false))))
    (different-push xs x here.1 apart.1)

-- an atom is the same as none before it
different-before : (xs : List Atom) (x : Atom) (ys : List Atom) → are_different (xs ++ x ∷ ys) ≡ true → list_any (is_same x) xs ≡ false
different-before [] x ys d = refl
different-before (y ∷ xs) x ys d =
    let here = and_parts _ _ d in
    let none = neither (list_any (λ b. is_same b y) xs) _ (sym (list_any-append (λ b. is_same b y) xs (x ∷ ys)) ∙ not-false _ here.0) in
    let apart = neither (is_same x y) _ none.1 in
    (λ i. apart.0 i || different-before xs x ys here.1 i)

module _ (by : ℕ → Term) (into : List Atom) where
  abbrev images : List Atom → List Atom
  images = map (replace_in_atom by)

  apart_parts : (before atoms : List Atom) → are_different before ≡ true → are_mapped_apart_from before by atoms into ≡ true → (are_mapped by atoms into ≡ true) × (are_different (before ++ images atoms) ≡ true)
  apart_parts before [] d e = (refl, ap are_different (append-nil before) ∙ d)
  apart_parts before (a ∷ atoms) d e =
      let all = and_parts _ _ e in
      let here = and_parts _ _ all.0 in
      let rest = apart_parts (before ++ replace_in_atom by a ∷ []) atoms (different-push before (replace_in_atom by a) d (not-false _ here.1)) all.1 in
      (and_from _ _ here.0 rest.0, ap are_different (sym (append_assoc before (replace_in_atom by a ∷ []) (images atoms))) ∙ rest.1)

  apart_from : (before atoms : List Atom) → are_mapped by atoms into ≡ true → are_different (before ++ images atoms) ≡ true → are_mapped_apart_from before by atoms into ≡ true
  apart_from before [] e d = refl
  apart_from before (a ∷ atoms) e d =
      let here = and_parts _ _ e in
      and_from _ _ (and_from _ _ here.0 (ap not (different-before before (replace_in_atom by a) (images atoms) d)))
      (apart_from (before ++ replace_in_atom by a ∷ []) atoms here.1 (ap are_different (append_assoc before (replace_in_atom by a ∷ []) (images atoms)) ∙ d))

  pub apart-MapsApart : (atoms : List Atom) → are_different into ≡ true → are_mapped_apart by atoms into ≡ true → MapsApart by atoms into
  apart-MapsApart atoms d e =
      let parts = apart_parts [] atoms refl e in
      (maps-apart by atoms into d).1 (mapped-Maps by atoms into parts.0, parts.1)

  pub MapsApart-apart : (atoms : List Atom) → are_different into ≡ true → MapsApart by atoms into → are_mapped_apart by atoms into ≡ true
  MapsApart-apart atoms d m =
      let parts = (maps-apart by atoms into d).0 m in
      apart_from [] atoms (Maps-mapped by atoms into parts.0) parts.1

-- ---- all parts

at_parts : (R : List Atom → List Atom → Type 0) (test : List Atom → List Atom → Bool) (c d : Clause) → ((part : Part) → test (part_of c part) (part_of d part) ≡ true → R (part_of c part) (part_of d part)) → passes_at_parts test c d ≡ true → EachPart R c d
at_parts R test c d exact e Constraint = exact Constraint (and_parts _ _ (and_parts _ _ e).0).0
at_parts R test c d exact e Antecedent = exact Antecedent (and_parts _ _ (and_parts _ _ e).0).1
at_parts R test c d exact e Succedent = exact Succedent (and_parts _ _ e).1

from_parts : (R : List Atom → List Atom → Type 0) (test : List Atom → List Atom → Bool) (c d : Clause) → ((part : Part) → R (part_of c part) (part_of d part) → test (part_of c part) (part_of d part) ≡ true) → EachPart R c d → passes_at_parts test c d ≡ true
from_parts R test c d exact each = and_from _ _ (and_from _ _ (exact Constraint (each Constraint)) (exact Antecedent (each Antecedent))) (exact Succedent (each Succedent))

pub maps-exact : (by : ℕ → Term) (c d : Clause) → (passes_at_parts (are_mapped by) c d ≡ true) ↔ EachPart (Maps by) c d
maps-exact by c d = (
  at_parts (Maps by) (are_mapped by) c d (λ part. mapped-Maps by (part_of c part) (part_of d part)),
  from_parts (Maps by) (are_mapped by) c d (λ part. Maps-mapped by (part_of c part) (part_of d part)),
)

pub apart-exact : (by : ℕ → Term) (c d : Clause) → ((part : Part) → are_different (part_of d part) ≡ true) → (passes_at_parts (are_mapped_apart by) c d ≡ true) ↔ EachPart (MapsApart by) c d
apart-exact by c d different = (
  at_parts (MapsApart by) (are_mapped_apart by) c d (λ part. apart-MapsApart by (part_of d part) (part_of c part) (different part)),
  from_parts (MapsApart by) (are_mapped_apart by) c d (λ part. MapsApart-apart by (part_of d part) (part_of c part) (different part)),
)

-- what maps to different places maps
pub parts-Maps : (by : ℕ → Term) (c d : Clause) → EachPart (MapsApart by) c d → EachPart (Maps by) c d
parts-Maps by c d m part k a e = by_place (slice_get (part_of d part) ((m part).place k)) refl ((m part).same k a e)
  where
    passes : (xs : List Atom) (j : ℕ) (b : Atom) → slice_get xs j ≡ Some b → is_same (replace_in_atom by a) b ≡ true → list_any (is_same (replace_in_atom by a)) xs ≡ true
    passes [] j b e h = absurd (none-some b e)
    passes (x ∷ xs) zero b e h = or_left _ _ (ap (is_same (replace_in_atom by a)) (same_Some x b e) ∙ h)
    passes (x ∷ xs) (suc j) b e h = or_right _ _ (passes xs j b e h)

    by_place : (o : Option Atom) → slice_get (part_of d part) ((m part).place k) ≡ o → IsSomeAnd o (λ b. is_same (replace_in_atom by a) b ≡ true) → list_any (is_same (replace_in_atom by a)) (part_of d part) ≡ true
    by_place None e h = absurd h
    by_place (Some b) e h = passes (part_of d part) ((m part).place k) b e h
