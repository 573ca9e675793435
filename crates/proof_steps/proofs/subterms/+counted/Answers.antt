use Rattle.std.proofs.Common.{◌≡◌, ◌∙◌, ◌+◌, ◌-◌, ℕ, suc, List, length, map, take, drop, get_or, sum, add-one, arith, ap}
use Rattle.spl_terms.specs.declared.term.Term.{Term}
use Rattle.spl_terms.specs.Terms.{term_symbols, replace}
use Rattle.spl_truth.specs.Truth.{entry}
use Rattle.proof_steps.specs.Spots.{changed_at, with_subterm}
use Rattle.proof_steps.proofs.Places.{part_to_end}
use Rattle.proof_steps.proofs.Changed.{opened_path, symbols-there, counted, symbols_past, symbols_parts}
use Rattle.proof_steps.proofs.subterms.+counted.Goals as goal

pub changed_symbols-returns-in-App : goal.changed_symbols-returns-in-App
changed_symbols-returns-in-App t c =
    let a = c.args in
    let k : ℕ = get_or a.path.now 0 0 in
    let rest : List ℕ = take (length a.path.now - 1) (drop 1 a.path.now) in
    let g : ℕ → Term = entry c.looked_up.result.1.now in
    let new : Term = replace (entry a.new.entries.now) a.new.term.now in
    let step =
    ap (λ l. term_symbols (with_subterm l new (replace (entry a.entries.now) a.term.now))) (opened_path a.path.now c.in-len1-up.len_at_least)
    ∙ symbols-there (entry a.entries.now) g a.term.now c.looked_up.result.0.now c.looked_up.ensures.same c.in-App.field-0 c.in-App.args c.in-App.is k rest new in
    let same = ap (λ l. sum (map term_symbols (changed_at k (with_subterm rest new) (map (replace g) l)))) c.as_slice.ensures in
    omega (arith, step, same, c.changed_symbols_of.ensures, c.saturating_add.ensures, c.min.ensures)

pub changed_symbols_of-returns-then-place-args : goal.changed_symbols_of-returns-then-place-args
changed_symbols_of-returns-then-place-args t c =
    let a = c.args in
    omega (arith, c.applied_symbols_of.ensures, symbols_past (entry a.entries.now) (with_subterm a.path.now (replace (entry a.new.entries.now) a.new.term.now)) a.place a.args.now (omega arith))

pub changed_symbols_of-returns : goal.changed_symbols_of-returns
changed_symbols_of-returns t c =
    let a = c.args in
    let xs = a.args.now in
    let h : ℕ → Term = entry a.entries.now in
    let f : Term → Term = with_subterm a.path.now (replace (entry a.new.entries.now) a.new.term.now) in
    let end : take (length xs - (a.place + 1)) (drop (a.place + 1) xs) ≡ drop (suc a.place) xs = part_to_end (a.place + 1) xs ∙ ap (λ n. drop n xs) (add-one a.place) in
    omega (arith, symbols_parts h f a.place xs c.index-args-place.result (omega arith) c.index-args-place.is, ap (counted h f) end, c.applied_symbols_of-before.ensures, c.changed_symbols-changed.ensures, c.applied_symbols_of-behind.ensures, c.saturating_add.ensures, c.saturating_add-2.ensures, c.min.ensures)
