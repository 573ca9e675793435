-- Where a side of a split is closed, the other part follows; where both are, the empty clause does.
use Rattle.std.proofs.Common.{◌≡◌, ◌⊎◌, inl, inr, ℕ, Bool, true, false, if◌then◌else◌, List, [], Contains, Option, Some, refl, sym, subst, ◌∙◌}
use Rattle.std.specs.List.{list_any}
use Rattle.spl_terms.specs.declared.atom.Atom.{Atom}
use Rattle.spl_terms.specs.declared.clause.Clause.{Clause}
use Rattle.spl_terms.specs.Clauses.{replace_in, IsEmpty, atom_eq}
use Rattle.spl_truth.specs.Truth.{is_ground, IsGroundInstance, holds, FollowsAt, Follows}
use Rattle.spl_truth.specs.InstanceLaws.{constant}
use Rattle.spl_terms.specs.TermLaws.{ground-App}
use Rattle.clause_parts.specs.Parts.{Parted, parts_of}
use Rattle.clause_parts.specs.Sides.{SplitPart, negations, side_clauses, place_of, assumed}
use Rattle.clause_parts.specs.SideLaws.{two_parts, side_clauses-two}
use Rattle.proof_steps.specs.Steps.{joined}
use Rattle.proof_steps.proofs.Options.{Contains-get}
use Rattle.proof_steps.proofs.Resolution.{at_ground, empty-false}
use Rattle.proof_steps.proofs.Cut.{cut, itself, by_cases}
use Rattle.proof_steps.proofs.BothParts.{left_component, follows-joined, joined_turned}
use Rattle.proof_steps.proofs.Negations.{follows-negation}
use Rattle.proof_steps.specs.StepLaws.{Contains-cons_cases}
use Rattle.proof_steps.proofs.Premises.{Contains-nil}

-- ---- what a side assumes

-- the left part is without variables where this is said
left_ground_is : (c : Clause) (parts : Parted) → parts_of c ≡ Some parts → parts.left_ground ≡ is_ground parts.left
left_ground_is c parts is = let found = left_component c parts is in subst (λ (p : Parted). p.left_ground ≡ is_ground p.left) found.1 refl

left_only : (parts : Parted) (x : Clause) → Contains (side_clauses 1 (two_parts parts)) x → parts.left ≡ x
left_only parts x there =
    elim (Contains-cons_cases parts.left [] x there) [
      | inl same ↦ same
      | inr none ↦ absurd (Contains-nil x none)
    ]

right_or_negated : (parts : Parted) (x : Clause) → Contains (side_clauses 2 (two_parts parts)) x → (parts.right ≡ x) ⊎ ((parts.left_ground ≡ true) × Contains (negations parts.left) x)
right_or_negated parts x there =
    elim (Contains-cons_cases parts.right (if parts.left_ground then negations parts.left else []) x (subst (λ cs. Contains cs x) (side_clauses-two parts).1 there)) [
      | inl same ↦ inl same
      | inr later ↦ inr (by_test parts.left_ground later)
    ]
  where
    by_test : (t : Bool) → Contains (if t then negations parts.left else []) x → (t ≡ true) × Contains (negations parts.left) x
    by_test true h = (refl, h)
    by_test false h = absurd (Contains-nil x h)

-- what is assumed is among the clauses of its side
pub contains-assumed : (side : ℕ) (negated : Option ℕ) (parts : List SplitPart) (c : Clause) → assumed side negated parts ≡ Some c → Contains (side_clauses side parts) c
contains-assumed side negated parts c e = Contains-get (side_clauses side parts) (place_of negated) c e

-- ---- one side is closed

module _ (clauses more : List Clause) (c e : Clause) (parts : Parted) (follows : Follows clauses c) (is : parts_of c ≡ Some parts) (empty : IsEmpty e) (closed : Follows more e) where
  abbrev nothing : Clause
  nothing = replace_in (λ _. constant) e

  nothing_follows : FollowsAt more nothing
  nothing_follows = at_ground more e closed (λ _. constant) (λ _. ground-App _ [])

  never : (assignment : List Atom) → holds assignment nothing ≡ false
  never assignment = empty-false (λ a. list_any (atom_eq a) assignment) (λ _. constant) e empty

  -- from the left part and what else there is, the empty clause; so the right part
  pub left_closed : ((x : Clause) → Contains more x → Contains clauses x ⊎ Contains (side_clauses 1 (two_parts parts)) x) → Follows clauses parts.right
  left_closed sides d inst = by_cases clauses more d nothing never nothing_follows back
    where
      back : (x y : Clause) → Contains more x → IsGroundInstance x y → Contains clauses x ⊎ FollowsAt clauses (joined y d)
      back x y there at_y = elim (sides x there) [
        | inl here ↦ inl here
        | inr side ↦ inr (follows-joined clauses c parts follows is y d (subst (λ z. IsGroundInstance z y) (sym (left_only parts x side)) at_y) inst)
      ]

  -- from the right part, the negations of the left one's atoms and what else there is, the empty clause; so the left part
  pub right_closed : ((x : Clause) → Contains more x → Contains clauses x ⊎ Contains (side_clauses 2 (two_parts parts)) x) → Follows clauses parts.left
  right_closed sides d inst = by_cases clauses more d nothing never nothing_follows back
    where
      by_right : (x y : Clause) → IsGroundInstance x y → (parts.right ≡ x) ⊎ ((parts.left_ground ≡ true) × Contains (negations parts.left) x) → FollowsAt clauses (joined y d)
      by_right x y at_y (inl same) = joined_turned clauses d y (follows-joined clauses c parts follows is d y inst (subst (λ z. IsGroundInstance z y) (sym same) at_y))
      by_right x y at_y (inr negated) = follows-negation parts.left (sym (left_ground_is c parts is) ∙ negated.0) clauses x y d negated.1 at_y inst

      back : (x y : Clause) → Contains more x → IsGroundInstance x y → Contains clauses x ⊎ FollowsAt clauses (joined y d)
      back x y there at_y = elim (sides x there) [
        | inl here ↦ inl here
        | inr side ↦ inr (by_right x y at_y (right_or_negated parts x side))
      ]

-- ---- both sides are closed

-- what follows from clauses, and from a left part that follows from them, follows
pub left_left_out : (clauses more : List Clause) (parts : Parted) (e : Clause) → Follows clauses parts.left → ((x : Clause) → Contains more x → Contains clauses x ⊎ Contains (side_clauses 1 (two_parts parts)) x) → Follows more e → Follows clauses e
left_left_out clauses more parts e left sides closed d inst = cut clauses more each d (closed d inst)
  where
    each : (x : Clause) → Contains more x → Follows clauses x
    each x there = elim (sides x there) [
      | inl here ↦ itself clauses x here
      | inr side ↦ subst (Follows clauses) (left_only parts x side) left
    ]
