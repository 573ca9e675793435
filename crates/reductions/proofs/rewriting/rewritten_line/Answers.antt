use Rattle.reductions.proofs.Rewritings.{is_made, rewriting_made}
use Rattle.reductions.proofs.rewriting.rewritten_line.Goals as goal

pub unwrap-made-requires : goal.unwrap-made-requires
unwrap-made-requires c =
    is_made c.args.number c.args.target.now c.args.by.now c.args.right_to_left c.args.r c.args.found c.requires.apart c.requires.reading c.requires.found _ _ _ _ c.from_vec.ensures c.in_ok-equation.ensures c.in_ok-copied.ensures c.in_ok-paramodulated.ensures

pub returns : goal.returns
returns c =
    rewriting_made c.args.number c.args.target.now c.args.by.now c.args.right_to_left c.args.r c.args.found c.requires.apart c.requires.reading c.requires.found _ _ _ _ c.from_vec.ensures c.in_ok-equation.ensures c.in_ok-copied.ensures c.in_ok-paramodulated.ensures
    c.unwrap-made.result _ _ c.in_ok-t.t c.in_ok-line.line c.unwrap-made.ensures c.in_ok-into_ordered.ensures.exact c.in_ok-union.ensures.exact c.in_ok-t.ensures c.in_ok-line.ensures
