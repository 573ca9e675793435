use Rattle.spl_terms.proofs.AlikeLemmas.{alike_apps}
use Rattle.spl_terms.proofs.variants.+alike.Goals as goal

pub alike-returns-then-same : goal.alike-returns-then-same
alike-returns-then-same g t c =
    alike_apps (g.P.Pairing.passes c.args.pairing.now) _ _ _ _ _ _ _ _ _ _ c.in-App-App.is-0 c.in-App-App.is-1 c.same.ensures c.if-same.true c.as_slice.ensures c.as_slice-then-same.ensures c.alike_terms.ensures
