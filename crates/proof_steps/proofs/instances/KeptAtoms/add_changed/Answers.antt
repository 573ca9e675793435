use Rattle.std.proofs.Common.{◌≡◌, ◌+◌, ◌-◌, ◌<◌, ◌∙◌, List, map, fold, suc, take, drop, length, sum_by, IfOk, MatchBool, add-one, ap, subst}
use Rattle.spl_terms.specs.declared.atom.Atom.{Atom}
use Rattle.spl_terms.specs.Clauses.{atom_symbols, added, replace_in_atom}
use Rattle.spl_truth.specs.Truth.{entry}
use Rattle.proof_steps.proofs.Steps.{same_atom}
use Rattle.proof_steps.proofs.Places.{part_to_end}
use Rattle.proof_steps.proofs.Pieces.{kept-pieces, large-first, large-second}
use Rattle.proof_steps.proofs.instances.KeptAtoms.add_changed.Goals as goal

pub returns-then-not-branch : goal.returns-then-not-branch
returns-then-not-branch c =
    let a = c.args in
    let large = rw c.if-not-branch.true at c.in_ok-add_instances.ensures in
    large-first (replace_in_atom (entry a.entries.now)) a.atoms.now a.self.now a.place a.changed.now c.requires large

pub returns-then-not-branch-2 : goal.returns-then-not-branch-2
returns-then-not-branch-2 c =
    let a = c.args in
    let first = rw c.if-not-branch.false at c.in_ok-add_instances.ensures in
    let large = rw c.if-not-branch-2.true at c.in_ok-add_instance.ensures in
    large-second (replace_in_atom (entry a.entries.now)) a.atoms.now a.self.now a.place a.changed.now c.requires
    (subst (λ kept. 4096 < sum_by atom_symbols (added kept a.changed.now)) first
    (subst (λ y. 4096 < sum_by atom_symbols (added c.add_instances.new.self y)) (same_atom a.changed.now) large))

pub returns : goal.returns
returns c =
    let a = c.args in
    let h : Atom → Atom = replace_in_atom (entry a.entries.now) in
    let xs : List Atom = a.atoms.now in
    let first = rw c.if-not-branch.false at c.in_ok-add_instances.ensures in
    let second = rw c.if-not-branch-2.false at c.in_ok-add_instance.ensures in
    let kept : c.add_instance.new.self ≡ added (fold added a.self.now (map h (take a.place xs))) a.changed.now =
    second ∙ (λ k. added (first k) (same_atom a.changed.now k)) in
    let end : take (length xs - (a.place + 1)) (drop (a.place + 1) xs) ≡ drop (suc a.place) xs = part_to_end (a.place + 1) xs ∙ ap (λ n. drop n xs) (add-one a.place) in
    subst (λ l. IfOk c.add_instances-2.result (λ fits. MatchBool fits (c.add_instances-2.new.self ≡ l) (4096 < sum_by atom_symbols l)))
    ((λ k. fold added (kept k) (map h (end k))) ∙ kept-pieces h xs a.self.now a.place a.changed.now c.requires)
    c.add_instances-2.ensures
