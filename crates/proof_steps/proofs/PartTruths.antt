-- A clause is as true as one of its two parts, and one instance of it has any instances of both.
use Rattle.std.proofs.Common.{take, drop, length, ◌+◌, ◌≤◌, ◌≡◌, ℕ, Bool, true, false, not, ◌||◌, List, [], ◌∷◌, ◌++◌, map, refl, sym, ap, ◌∙◌, arith, append_assoc, length-drop, length-take-le, drop-drop}
use Rattle.std.specs.List.{list_any}
use Rattle.std.proofs.lemmas.List.{take-map, drop-map}
use Rattle.spl_terms.specs.BoolLaws.{or-exchange}
use Rattle.spl_terms.specs.declared.term.Term.{Term}
use Rattle.spl_terms.specs.declared.atom.Atom.{Atom}
use Rattle.spl_terms.specs.declared.clause.Clause.{Clause}
use Rattle.spl_terms.specs.Clauses.{atoms_of, replace_in_atom, replace_in}
use Rattle.spl_truth.specs.Truth.{truth}
use Rattle.spl_truth.specs.InstanceLaws.{at_each}
use Rattle.clause_parts.specs.Parts.{marked, component, part_by, variable_lists, constraint_marks, antecedent_marks, succedent_marks}
use Rattle.clause_parts.specs.Marking.{marked_variables}
use Rattle.clause_parts.specs.MarkLaws.{length-atoms}
use Rattle.proof_steps.proofs.Resolution.{negative}
use Rattle.clause_parts.specs.JointLaws.{combined, joint_left, joint_right, marked-append}

-- ---- the marked atoms, part by part

-- the atoms of a clause that are marked are those of its part, in the same order
marked_atoms : (c : Clause) (m : List Bool) → marked m (atoms_of c) ≡ (part_by c m).constraint ++ ((part_by c m).antecedent ++ (part_by c m).succedent)
marked_atoms c m =
    let front : List Bool = drop (length c.constraint) m in
    ap (marked m) (append_assoc c.constraint c.antecedent c.succedent)
    ∙ marked-append m c.constraint (c.antecedent ++ c.succedent)
    ∙ ap (λ l. (part_by c m).constraint ++ l) (marked-append front c.antecedent c.succedent)
    ∙ ap (λ bs. (part_by c m).constraint ++ ((part_by c m).antecedent ++ marked bs c.succedent)) (drop-drop (length c.antecedent) (length c.constraint) m)

module _ (f h : ℕ → Term) where
  -- where two replacements agree on lists one after another, they agree on each
  agree_lists : (xs ys : List Atom) → at_each f (xs ++ ys) ≡ at_each h (xs ++ ys) → (at_each f xs ≡ at_each h xs) × (at_each f ys ≡ at_each h ys)
  agree_lists [] ys e = (refl, e)
  agree_lists (x ∷ xs) ys e =
      let first : replace_in_atom f x ≡ replace_in_atom h x = cc in
      let rest : at_each f (xs ++ ys) ≡ at_each h (xs ++ ys) = cc in
      let r = agree_lists xs ys rest in
      ((λ i. first i ∷ r.0 i), r.1)

  agree_part : (c : Clause) (m : List Bool) → at_each f (marked m (atoms_of c)) ≡ at_each h (marked m (atoms_of c)) → replace_in f (part_by c m) ≡ replace_in h (part_by c m)
  agree_part c m e =
      let p = part_by c m in
      let x = agree_lists p.constraint (p.antecedent ++ p.succedent) (ap (at_each f) (sym (marked_atoms c m)) ∙ e ∙ ap (at_each h) (marked_atoms c m)) in
      let y = agree_lists p.antecedent p.succedent x.1 in
      λ i. record { constraint = x.0 i; antecedent = y.0 i; succedent = y.1 i }

-- ---- both parts at once

-- what replaces the variables of the component by g, and all others by k
abbrev pub jointly : ℕ → Clause → (ℕ → Term) → (ℕ → Term) → ℕ → Term
jointly n c g k = combined (marked_variables (component n (variable_lists c)) (variable_lists c)) g k

pub jointly_left : (n : ℕ) (c : Clause) (g k : ℕ → Term) → replace_in (jointly n c g k) (part_by c (component n (variable_lists c))) ≡ replace_in g (part_by c (component n (variable_lists c)))
jointly_left n c g k = agree_part (jointly n c g k) g c (component n (variable_lists c)) (joint_left n (atoms_of c) g k)

pub jointly_right : (n : ℕ) (c : Clause) (g k : ℕ → Term) → replace_in (jointly n c g k) (part_by c (map not (component n (variable_lists c)))) ≡ replace_in k (part_by c (map not (component n (variable_lists c))))
jointly_right n c g k = agree_part (jointly n c g k) k c (map not (component n (variable_lists c))) (joint_right n (atoms_of c) g k)

-- ---- truth

or_first : (a b c : Bool) → (a || (b || c)) ≡ ((a || b) || c)
or_first true b c = refl
or_first false b c = refl

or_second : (a b c : Bool) → (a || (b || c)) ≡ (b || (a || c))
or_second true true c = refl
or_second true false c = refl
or_second false true c = refl
or_second false false c = refl

module _ (p : Atom → Bool) (h : ℕ → Term) where
  -- some atom passes where a marked one does, or one without a mark
  any_parted : (bs : List Bool) (xs : List Atom) → length xs ≤ length bs → list_any p (at_each h xs) ≡ (list_any p (at_each h (marked bs xs)) || list_any p (at_each h (marked (map not bs) xs)))
  any_parted [] [] e = refl
  any_parted [] (x ∷ xs) e = absurd (omega (arith, e))
  any_parted (b ∷ bs) [] e = refl
  any_parted (true ∷ bs) (x ∷ xs) e =
      let shorter : length xs ≤ length bs = omega (arith, e) in
      ap (λ t. p (replace_in_atom h x) || t) (any_parted bs xs shorter)
      ∙ or_first (p (replace_in_atom h x)) (list_any p (at_each h (marked bs xs))) (list_any p (at_each h (marked (map not bs) xs)))
  any_parted (false ∷ bs) (x ∷ xs) e =
      let shorter : length xs ≤ length bs = omega (arith, e) in
      ap (λ t. p (replace_in_atom h x) || t) (any_parted bs xs shorter)
      ∙ or_second (p (replace_in_atom h x)) (list_any p (at_each h (marked bs xs))) (list_any p (at_each h (marked (map not bs) xs)))

-- the marks of each part of a clause are as many as its atoms
module _ (c : Clause) (m : List Bool) (size : length m ≡ length (variable_lists c)) where
  abbrev in_all : length m ≡ length c.constraint + length c.antecedent + length c.succedent
  in_all = size ∙ length-atoms c

  enough_constraint : length c.constraint ≤ length (constraint_marks c m)
  enough_constraint = omega (arith, length-take-le (length c.constraint) m (omega (arith, in_all)))

  enough_antecedent : length c.antecedent ≤ length (antecedent_marks c m)
  enough_antecedent =
      let rest : List Bool = drop (length c.constraint) m in
      let fits : length c.antecedent ≤ length rest = omega (arith, in_all, length-drop (length c.constraint) m) in
      omega (arith, length-take-le (length c.antecedent) rest fits)

  enough_succedent : length c.succedent ≤ length (succedent_marks c m)
  enough_succedent = omega (arith, in_all, length-drop (length c.constraint + length c.antecedent) m)

  module _ (b : Atom → Bool) (h : ℕ → Term) where
    abbrev left_part : Clause
    left_part = replace_in h (part_by c m)

    abbrev right_part : Clause
    right_part = replace_in h (part_by c (map not m))

    constraint_parted : list_any (λ a. not (b a)) (at_each h c.constraint) ≡ (list_any (λ a. not (b a)) left_part.constraint || list_any (λ a. not (b a)) right_part.constraint)
    constraint_parted =
        any_parted (λ a. not (b a)) h (constraint_marks c m) c.constraint enough_constraint
        ∙ ap (λ bs. list_any (λ a. not (b a)) left_part.constraint || list_any (λ a. not (b a)) (at_each h (marked bs c.constraint))) (sym (take-map not (length c.constraint) m))

    antecedent_parted : list_any (λ a. not (b a)) (at_each h c.antecedent) ≡ (list_any (λ a. not (b a)) left_part.antecedent || list_any (λ a. not (b a)) right_part.antecedent)
    antecedent_parted =
        let same : map not (antecedent_marks c m) ≡ antecedent_marks c (map not m) =
        sym (take-map not (length c.antecedent) (drop (length c.constraint) m)) ∙ ap (take (length c.antecedent)) (sym (drop-map not (length c.constraint) m)) in
        any_parted (λ a. not (b a)) h (antecedent_marks c m) c.antecedent enough_antecedent
        ∙ ap (λ bs. list_any (λ a. not (b a)) left_part.antecedent || list_any (λ a. not (b a)) (at_each h (marked bs c.antecedent))) same

    succedent_parted : list_any b (at_each h c.succedent) ≡ (list_any b left_part.succedent || list_any b right_part.succedent)
    succedent_parted =
        any_parted b h (succedent_marks c m) c.succedent enough_succedent
        ∙ ap (λ bs. list_any b left_part.succedent || list_any b (at_each h (marked bs c.succedent))) (sym (drop-map not (length c.constraint + length c.antecedent) m))

    -- the clause is true where one of its parts is
    pub truth_parted : truth b (replace_in h c) ≡ (truth b left_part || truth b right_part)
    truth_parted =
        (λ i. (constraint_parted i || antecedent_parted i) || succedent_parted i)
        ∙ ap (λ n. n || (list_any b left_part.succedent || list_any b right_part.succedent))
        (or-exchange (list_any (λ a. not (b a)) left_part.constraint) (list_any (λ a. not (b a)) right_part.constraint) (list_any (λ a. not (b a)) left_part.antecedent) (list_any (λ a. not (b a)) right_part.antecedent))
        ∙ or-exchange (negative b left_part) (negative b right_part) (list_any b left_part.succedent) (list_any b right_part.succedent)
