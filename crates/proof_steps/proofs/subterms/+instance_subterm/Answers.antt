use Rattle.std.proofs.Common.{◌≡◌, ◌∙◌, ◌-◌, ℕ, List, length, take, drop, get_or, None, Some, MatchOption, sym, ap, subst}
use Rattle.std.specs.Prelude.{slice_get}
use Rattle.spl_terms.specs.declared.term.Term.{Term}
use Rattle.spl_terms.specs.Terms.{replace}
use Rattle.spl_truth.specs.Truth.{entry}
use Rattle.proof_steps.specs.Spots.{subterm}
use Rattle.proof_steps.proofs.Changed.{opened_path, subterm-there, subterm-none}
use Rattle.proof_steps.proofs.subterms.+instance_subterm.Goals as goal

pub returns-in-Some : goal.returns-in-Some
returns-in-Some t c =
    let a = c.args in
    let k : ℕ = get_or a.path.now 0 0 in
    let rest : List ℕ = take (length a.path.now - 1) (drop 1 a.path.now) in
    let u : Term = replace (entry a.entries.now) a.term.now in
    let there : slice_get c.in-App.args k ≡ Some c.in-Some.arg.now = ap (λ l. slice_get l k) (sym c.as_slice.ensures) ∙ sym c.in-Some.ensures in
    let step : subterm a.path.now u ≡ subterm rest (replace (entry c.looked_up.result.1.now) c.in-Some.arg.now) =
    ap (λ l. subterm l u) (opened_path a.path.now c.in-len1-up.len_at_least)
    ∙ subterm-there (entry a.entries.now) (entry c.looked_up.result.1.now) a.term.now c.looked_up.result.0.now c.looked_up.ensures.same c.in-App.field-0 c.in-App.args c.in-App.is k rest c.in-Some.arg.now there in
    subst (λ o. MatchOption c.instance_subterm.result (o ≡ None) (λ found. o ≡ Some (replace (entry found.1.now) found.0.now))) (sym step) c.instance_subterm.ensures

pub returns-in-None : goal.returns-in-None
returns-in-None t c =
    let a = c.args in
    let k : ℕ = get_or a.path.now 0 0 in
    let rest : List ℕ = take (length a.path.now - 1) (drop 1 a.path.now) in
    let none : slice_get c.in-App.args k ≡ None = ap (λ l. slice_get l k) (sym c.as_slice.ensures) ∙ sym c.in-None.ensures in
    ap (λ l. subterm l (replace (entry a.entries.now) a.term.now)) (opened_path a.path.now c.in-len1-up.len_at_least)
    ∙ subterm-none (entry a.entries.now) (entry c.looked_up.result.1.now) a.term.now c.looked_up.result.0.now c.looked_up.ensures.same c.in-App.field-0 c.in-App.args c.in-App.is k rest none
