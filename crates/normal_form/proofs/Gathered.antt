-- Literals that come one by one make the clause of their list, and it never shrinks.
use Rattle.std.proofs.Common.{◌≡◌, ◌≤◌, Bool, true, false, not, ◌&&◌, if◌then◌else◌, List, [], ◌∷◌, map, fold, arith, refl, sym, ap, ◌∙◌}
use Rattle.std.specs.List.{filter}
use Rattle.spl_terms.specs.declared.atom.Atom.{Atom}
use Rattle.spl_terms.specs.declared.clause.Part.TheVariants.{Constraint, Antecedent, Succedent}
use Rattle.spl_terms.specs.declared.clause.Clause.{Clause}
use Rattle.spl_terms.specs.Clauses.{is_of_sort, added, with_atom, clause_symbols, distinct, at_lists, renumbered, in_order}
use Rattle.spl_terms.specs.InOrderLaws.{distinct-different, different-distinct}
use Rattle.spl_terms.specs.SizeLaws.{with_atom-grows, symbols-renumbered}
use Rattle.normal_form.specs.Clausal.{Literal, stands_right, stands_left, stands_in_constraint, atoms_where, clause_from}
use Rattle.normal_form.specs.Gathering.{part_for, with_signed_atom, nothing_gathered, gathered}

-- the atoms of a part, with those of the literals added
abbrev more : (Literal → Bool) → List Atom → List Literal → List Atom
more test before ls = fold added before (atoms_where test ls)

abbrev by_parts : Clause → List Literal → Clause
by_parts c ls = record { constraint = more stands_in_constraint c.constraint ls; antecedent = more stands_left c.antecedent ls; succedent = more stands_right c.succedent ls }

gathered_parts : (c : Clause) (ls : List Literal) → gathered c ls ≡ by_parts c ls
gathered_parts c [] = refl
gathered_parts c (l ∷ ls) = gathered_parts (with_signed_atom c l) ls ∙ one l.sign (is_of_sort l.atom)
  where
    one : (sign sort : Bool) → by_parts (with_atom c (if sign then Succedent else (if sort then Constraint else Antecedent)) l.atom) ls
        ≡ record {
          constraint = fold added c.constraint (map (λ (k : Literal). k.atom) (if not sign && sort then l ∷ filter stands_in_constraint ls else filter stands_in_constraint ls));
          antecedent = fold added c.antecedent (map (λ (k : Literal). k.atom) (if not sign && not sort then l ∷ filter stands_left ls else filter stands_left ls));
          succedent = fold added c.succedent (map (λ (k : Literal). k.atom) (if sign then l ∷ filter stands_right ls else filter stands_right ls));
        }
    one true sort = refl
    one false true = refl
    one false false = refl

-- once the variables are numbered, it is the clause of the list
pub clause-gathered : (ls : List Literal) → clause_from ls ≡ renumbered (gathered nothing_gathered ls)
clause-gathered ls = ap renumbered (sym (gathered_parts nothing_gathered ls))

parts_kept : (ls : List Literal) → at_lists distinct (by_parts nothing_gathered ls) ≡ by_parts nothing_gathered ls
parts_kept ls =
    let kept : (test : Literal → Bool) → distinct (distinct (atoms_where test ls)) ≡ distinct (atoms_where test ls) = λ test. different-distinct (distinct (atoms_where test ls)) (distinct-different (atoms_where test ls)) in
    let x = kept stands_in_constraint in
    let y = kept stands_left in
    let z = kept stands_right in
    λ i. record { constraint = x i; antecedent = y i; succedent = z i }

-- and so it is once it is brought into order
pub in_order-gathered : (ls : List Literal) → in_order (gathered nothing_gathered ls) ≡ clause_from ls
in_order-gathered ls = ap in_order (gathered_parts nothing_gathered ls) ∙ ap renumbered (parts_kept ls)

-- ---- sizes

-- a clause that is too large stays so
pub gathered_grows : (c : Clause) (ls : List Literal) → clause_symbols c ≤ clause_symbols (gathered c ls)
gathered_grows c [] = omega arith
gathered_grows c (l ∷ ls) = let h = gathered_grows (with_signed_atom c l) ls in let k = with_atom-grows c (part_for l.sign l.atom) l.atom in omega arith

-- the clause of a list has as many symbols as what was gathered
pub symbols-gathered : (ls : List Literal) → clause_symbols (clause_from ls) ≡ clause_symbols (gathered nothing_gathered ls)
symbols-gathered ls = ap clause_symbols (clause-gathered ls) ∙ symbols-renumbered (gathered nothing_gathered ls)
