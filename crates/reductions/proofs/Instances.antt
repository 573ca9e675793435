-- Atoms that are instances of another one: either way round, and one target after another.
use Rattle.std.proofs.Common.{◌≡◌, inl, inr, ℕ, ◌<◌, ◌≤◌, ◌+◌, Bool, true, false, List, [], ◌∷◌, ◌++◌, length, take, Option, Some, None, get_or, sym, ap, subst, ◌∙◌}
use Rattle.std.specs.Prelude.{slice_get, MatchOption, IsSomeAnd}
use Rattle.std.specs.List.{list_any}
use Rattle.std.proofs.lemmas.Bool.{or_cases, false≢true}
use Rattle.std.proofs.lemmas.List.{take_more, take_all}
use Rattle.std.proofs.lemmas.List.Folds.{list_any-append}
use Rattle.std.proofs.lemmas.Option.{slice_get-get_or}
use Rattle.spl_terms.specs.declared.term.Symbol.{Symbol}
use Rattle.spl_terms.specs.declared.term.Term.{Term}
use Rattle.spl_terms.specs.declared.atom.Atom.{Atom}
use Rattle.spl_terms.specs.declared.atom.Atom.TheVariants.{Holds}
use Rattle.spl_terms.specs.Clauses.{is_same, replace_in_atom}
use Rattle.spl_truth.specs.declared.replace.Subst.{Subst}
use Rattle.spl_truth.specs.Truth.{entry}
use Rattle.reductions.specs.Folding.{turned_if}
use Rattle.reductions.specs.Matched.{IsMatchedBy, IsMatched}
use Rattle.reductions.proofs.Searching.{turned_same, either_way, one_way}

-- ---- either way round

abbrev pub BecomesNever : Bool → Atom → Atom → Type 0
BecomesNever turned a b = (g : ℕ → Term) → turned_if turned (replace_in_atom g a) ≡ b → ⊥

abbrev pub Becomes : ℕ → Bool → Atom → Atom → Subst → Type 0
Becomes vars turned a b s = (length s.terms ≡ vars) × (turned_if turned (replace_in_atom (entry s.terms) a) ≡ b)

pub becomes_matched : (vars : ℕ) (turned : Bool) (a b : Atom) (s : Subst) → Becomes vars turned a b s → IsMatched vars s.terms a b
becomes_matched vars turned a b s h = (h.0, turned_same turned (replace_in_atom (entry s.terms) a) b h.1)

pub never_holds : (a b : Atom) (p : Symbol) (ts : List Term) → a ≡ Holds p ts → BecomesNever false a b → (g : ℕ → Term) → IsMatchedBy g a b → ⊥
never_holds a b p ts is never g x = never g (one_way (λ g. Unit {0}) a b p ts is g (x, tt)).0

pub second_way : (vars : ℕ) (a b : Atom) (o : Option Subst) → BecomesNever false a b → MatchOption o (BecomesNever true a b) (Becomes vars true a b) → MatchOption o ((g : ℕ → Term) → IsMatchedBy g a b → ⊥) (λ s. IsMatched vars s.terms a b)
second_way vars a b None never h = λ g x. elim (either_way (λ g. Unit {0}) a b g (x, tt)) [
  | inl q ↦ never g q.0
  | inr q ↦ h g q.0
]
second_way vars a b (Some s) never h = becomes_matched vars true a b s h

-- ---- one target after another

-- no instance is the same as one of these
abbrev pub MatchesNone : Atom → List Atom → Type 0
MatchesNone a bs = (g : ℕ → Term) → list_any (is_same (replace_in_atom g a)) bs ≡ true → ⊥

pub matches_no_more : (a : Atom) (bs : List Atom) (k : ℕ) (b : Atom) → k < length bs → b ≡ get_or bs k b → MatchesNone a (take k bs) → ((g : ℕ → Term) → IsMatchedBy g a b → ⊥) → MatchesNone a (take (k + 1) bs)
matches_no_more a bs k b low is before never g x =
    let more : take (k + 1) bs ≡ take k bs ++ b ∷ [] = take_more bs k b low ∙ ap (λ y. take k bs ++ y ∷ []) (sym is) in
    elim (or_cases _ _ (sym (list_any-append (is_same (replace_in_atom g a)) (take k bs) (b ∷ [])) ∙ ap (list_any (is_same (replace_in_atom g a))) (sym more) ∙ x)) [
      | inl e ↦ before g e
      | inr e ↦ elim (or_cases _ _ e) [ inl f ↦ never g f | inr f ↦ false≢true f ]
    ]

pub matched_at : (vars : ℕ) (a : Atom) (bs : List Atom) (k : ℕ) (b : Atom) (s : Subst) → k < length bs → b ≡ get_or bs k b → IsMatched vars s.terms a b → IsSomeAnd (slice_get bs k) (IsMatched vars s.terms a)
matched_at vars a bs k b s low is h = subst (λ o. IsSomeAnd o (IsMatched vars s.terms a)) (sym (slice_get-get_or bs k b low ∙ ap Some (sym is))) h

pub matches_none : (a : Atom) (bs : List Atom) (k : ℕ) → length bs ≤ k → MatchesNone a (take k bs) → MatchesNone a bs
matches_none a bs k past h = subst (MatchesNone a) (take_all k bs past) h
