use Rattle.std.proofs.Common.{◌≡◌, ◌∙◌, ◌-◌, ℕ, List, length, take, drop, get_or, None, Some, MatchOption, sym, ap, subst}
use Rattle.spl_terms.specs.declared.atom.Atom.{Atom}
use Rattle.spl_terms.specs.Terms.{replace}
use Rattle.spl_terms.specs.Clauses.{replace_in_atom}
use Rattle.spl_truth.specs.Truth.{entry}
use Rattle.proof_steps.specs.Spots.{subterm, term_under}
use Rattle.proof_steps.proofs.Changed.{opened_path, term_under-argument}
use Rattle.proof_steps.proofs.subterms.instance_term.Goals as goal

pub returns-in-Some : goal.returns-in-Some
returns-in-Some c =
    let a = c.args in
    let k : ℕ = get_or a.path.now 0 0 in
    let rest : List ℕ = take (length a.path.now - 1) (drop 1 a.path.now) in
    let u : Atom = replace_in_atom (entry a.entries.now) a.atom.now in
    let step : term_under a.path.now u ≡ subterm rest (replace (entry a.entries.now) c.in-Some.term.now) =
    ap (λ l. term_under l u) (opened_path a.path.now c.in-len1-up.len_at_least)
    ∙ term_under-argument (entry a.entries.now) k rest a.atom.now (Some c.in-Some.term.now) (sym c.in-Some.ensures) in
    subst (λ o. MatchOption c.instance_subterm.result (o ≡ None) (λ found. o ≡ Some (replace (entry found.1.now) found.0.now))) (sym step) c.instance_subterm.ensures

pub returns-in-None : goal.returns-in-None
returns-in-None c =
    let a = c.args in
    let k : ℕ = get_or a.path.now 0 0 in
    let rest : List ℕ = take (length a.path.now - 1) (drop 1 a.path.now) in
    ap (λ l. term_under l (replace_in_atom (entry a.entries.now) a.atom.now)) (opened_path a.path.now c.in-len1-up.len_at_least)
    ∙ term_under-argument (entry a.entries.now) k rest a.atom.now None (sym c.in-None.ensures)
