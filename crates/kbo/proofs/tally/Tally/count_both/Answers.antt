use Rattle.spl_terms.specs.SizeLaws.{few_in_term}
use Rattle.kbo.proofs.OrderingLemmas.{both_counted}
use Rattle.kbo.proofs.tally.Tally.count_both.Goals as goal

pub returns : goal.returns
returns g c =
    both_counted g.row.N _ _ _ _ c.requires.even c.args.self.now.size_is _ _ _ _
    (few_in_term c.args.term.now) (few_in_term c.args.other.now) c.requires.other_size
    _ _ _ _ c.count.new.self.size_is c.count.ensures.balances c.count.ensures.beyond c.count.ensures.left c.count.ensures.right
    _ _ _ _ c.count-2.ensures.balances c.count-2.ensures.beyond c.count-2.ensures.left c.count-2.ensures.right
