use Rattle.std.proofs.Common.{◌++◌, [], List, map, sym, subst}
use Rattle.std.proofs.lemmas.Result.{IfOk-weaker}
use Rattle.spl_terms.specs.declared.atom.Atom.{Atom}
use Rattle.spl_terms.specs.Clauses.{replace_in_atom, distinct}
use Rattle.spl_truth.specs.Truth.{entry}
use Rattle.superposition.specs.Sizes.{entries_from, Counts, AreCounted}
use Rattle.superposition.proofs.Sized.{counted_none, five}
use Rattle.superposition.proofs.sizing.part_symbols.Goals as goal

pub returns : goal.returns
returns c =
    let a = c.args in
    let made = a.bindings.now.1 in
    let f : Atom → Atom = replace_in_atom (entry (entries_from 0 a.first made)) in
    let g : Atom → Atom = replace_in_atom (entry (entries_from a.first a.both made)) in
    let h : Atom → Atom = replace_in_atom (entry (entries_from 0 a.both made)) in
    let m : List Atom = map f a.x.before.now in
    let n : List Atom = m ++ map f a.x.behind.now in
    let o : List Atom = n ++ map g a.x.others.now in
    let p : List Atom = o ++ map h a.x.changed.now in
    let none = subst (λ k. AreCounted 0 k []) (sym c.new-kept.ensures) counted_none in
    let first = c.in_ok-p_before.ensures [] none in
    let second = c.in_ok-p_all.ensures m first in
    let third = c.in_ok-q_before.ensures n second in
    let fourth = c.in_ok-changed.ensures o third in
    IfOk-weaker c.count_instances-5.result _ _
    (λ count counted. subst (λ l. Counts count (distinct l)) (five f a.x.before.now a.x.behind.now (map g a.x.others.now) (map h a.x.changed.now) (map g a.x.rest.now)) counted.counts)
    (c.count_instances-5.ensures p fourth)
