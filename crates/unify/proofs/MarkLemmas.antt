-- One more variable is marked.
use Rattle.std.proofs.Common.{◌≡◌, ℕ, Bool, true, false, ◌||◌, ◌==◌, List, refl, sym, ap, ◌∙◌}
use Rattle.std.proofs.lemmas.Bool.{eqb-true, false≢true}
use Rattle.spl_terms.specs.declared.term.Term.{Term}
use Rattle.spl_truth.specs.Unifiers.{occurs}
use Rattle.unify.specs.Bindings.{substitution}
use Rattle.unify.specs.Marks.{has_mark, AreApart}

pub still_apart : (x : ℕ) (made : List (ℕ × Term)) (before after : List Bool) (bound : ℕ) → AreApart x made before → occurs x (substitution made bound) ≡ false → ((v : ℕ) → has_mark after v ≡ (has_mark before v || (v == bound))) → AreApart x made after
still_apart x made before after bound apart none marked v m = by_mark (has_mark before v) (v == bound) refl refl (sym (marked v) ∙ m)
  where
    by_mark : (p q : Bool) → has_mark before v ≡ p → (v == bound) ≡ q → (p || q) ≡ true → occurs x (substitution made v) ≡ false
    by_mark true q old new some = apart v old
    by_mark false true old new some = ap (λ w. occurs x (substitution made w)) (eqb-true v bound new) ∙ none
    by_mark false false old new some = absurd (false≢true some)
