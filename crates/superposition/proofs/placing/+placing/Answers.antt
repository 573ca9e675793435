use Rattle.std.proofs.Common.{◌≡◌, ◌∙◌, ◌+◌, ◌-◌, ◌++◌, ◌∷◌, [], ℕ, List, length, map, take, drop, ap, append_assoc}
use Rattle.spl_terms.specs.declared.term.Term.{Term}
use Rattle.spl_terms.specs.Terms.{replace}
use Rattle.spl_truth.specs.Truth.{entry}
use Rattle.proof_steps.specs.Spots.{subterm, with_subterm}
use Rattle.superposition.proofs.Instances.{take_rest, place_within, changed_instances}
use Rattle.superposition.proofs.placing.+placing.Goals as goal

pub terms_with-returns : goal.terms_with-returns
terms_with-returns t c =
    let terms = c.args.terms.now in
    let k : ℕ = c.args.place in
    let x : Term = c.index-terms-k.result in
    let g : Term → Term = replace (entry c.args.entries.now) in
    let new : Term = with_subterm c.args.path.now c.args.new (g x) in
    let behind : List Term = drop (k + 1) terms in
    let none : c.in_ok-made.made ≡ [] = c.in_ok-made.ensures in
    let first : c.add_replaced.new.made ≡ c.in_ok-made.made ++ map g (take k terms) = c.in_ok-add_replaced.ensures in
    let second : c.push.new.self ≡ c.add_replaced.new.made ++ c.in_ok-term_with.field-0 ∷ [] = c.in_ok-push.ensures.ok in
    let third : c.add_replaced-2.new.made ≡ c.push.new.self ++ map g (take (length terms - (k + 1)) behind) = c.in_ok-add_replaced-2.ensures in
    let changed : c.in_ok-term_with.field-0 ≡ new = c.in_ok-term_with.ensures in
    third
    ∙ ap (λ l. c.push.new.self ++ map g l) (take_rest (k + 1) terms)
    ∙ ap (λ l. l ++ map g behind) second
    ∙ (λ i. (first i ++ changed i ∷ []) ++ map g behind)
    ∙ ap (λ l. ((l ++ map g (take k terms)) ++ new ∷ []) ++ map g behind) none
    ∙ append_assoc (map g (take k terms)) (new ∷ []) (map g behind)
    ∙ changed_instances k (with_subterm c.args.path.now c.args.new) g terms x (place_within (subterm c.args.path.now) terms k c.requires) c.index-terms-k.is
