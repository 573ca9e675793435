-- Notes by tests that give true or false: whether a given substitution maps atoms to others, also different ones to different
-- ones, and whether edits lead to what a reduct maps into.
use Rattle.std.specs.Prelude.{ℕ, Bool, true, false, not, ◌&&◌, ◌||◌, ◌==◌, List, [], ◌∷◌, ◌++◌}
use Rattle.std.specs.List.{list_all, list_any}
use Rattle.std.specs.Option.{option_map_or}
use Rattle.spl_terms.specs.declared.term.Term.{Term}
use Rattle.spl_terms.specs.declared.atom.Atom.{Atom}
use Rattle.spl_terms.specs.declared.clause.Clause.{Clause}
use Rattle.spl_terms.specs.Clauses.{is_same, replace_in_atom}
use Rattle.spl_truth.specs.declared.replace.Subst.{Subst}
use Rattle.spl_truth.specs.Truth.{entry}
use Rattle.spl_truth.specs.Redundancy.{is_tautology}
use Rattle.proof_steps.specs.declared.step.Statement.{Statement}
use Rattle.proof_steps.specs.Steps.{has_entries, numbered}
use Rattle.calculus.specs.declared.note.Edit.{Edit}
use Rattle.calculus.specs.declared.note.Why.{Why}
use Rattle.calculus.specs.declared.note.Why.TheVariants.{Tautology, Subsumed, Rewritten}
use Rattle.calculus.specs.Notes.{EditState, edited}

-- each atom becomes, where the variables are replaced, the same as one of the others
abbrev pub are_mapped : (by : ℕ → Term) (atoms into : List Atom) → Bool
are_mapped by atoms into = list_all (λ a. list_any (is_same (replace_in_atom by a)) into) atoms

-- each atom becomes the same as one of the others, and as no earlier image; there are images before the first atom
abbrev pub are_mapped_apart_from : (images : List Atom) (by : ℕ → Term) (atoms into : List Atom) → Bool
are_mapped_apart_from images by [] into = true
are_mapped_apart_from images by (a ∷ more) into =
    (list_any (is_same (replace_in_atom by a)) into && not (list_any (is_same (replace_in_atom by a)) images))
    && are_mapped_apart_from (images ++ replace_in_atom by a ∷ []) by more into

abbrev pub are_mapped_apart : (by : ℕ → Term) (atoms into : List Atom) → Bool
are_mapped_apart = are_mapped_apart_from []

-- the test passes at each part of both clauses
abbrev pub passes_at_parts : (List Atom → List Atom → Bool) → Clause → Clause → Bool
passes_at_parts test c d = (test c.constraint d.constraint && test c.antecedent d.antecedent) && test c.succedent d.succedent

-- ---- notes

-- the clause with the number is there, the substitution has an entry for each variable of it, and maps it into this one
abbrev pub is_mapped : List Statement → ℕ → Subst → Clause → Bool
is_mapped earlier reduct s c = option_map_or (λ r. has_entries s.terms r.clause && passes_at_parts (are_mapped (entry s.terms)) r.clause c) (numbered earlier reduct) false

-- the number is that of the first equation
abbrev pub is_first_equation : ℕ → List Edit → Bool
is_first_equation n [] = false
is_first_equation n (e ∷ edits) = e.equation == n

-- the result of edits is a tautology and the reduct is the first equation, or the reduct maps into the result
abbrev pub is_mapped_result : List Statement → ℕ → Subst → List Edit → EditState → Bool
is_mapped_result earlier reduct s edits whole = (is_first_equation reduct edits && is_tautology whole.ever) || is_mapped earlier reduct s whole.ever

abbrev pub is_rewritten : List Statement → ℕ → Subst → List Edit → Clause → Bool
is_rewritten earlier reduct s edits c = option_map_or (is_mapped_result earlier reduct s edits) (edited earlier c edits) false

-- the number is that of a reason
abbrev pub is_reason : Why → ℕ → Bool
is_reason Tautology n = false
is_reason (Subsumed by s) n = by == n
is_reason (Rewritten reduct s edits) n = (reduct == n) || list_any (λ (e : Edit). e.equation == n) edits
