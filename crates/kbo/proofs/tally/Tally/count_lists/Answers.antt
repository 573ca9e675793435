use Rattle.spl_terms.specs.SizeLaws.{few_in_terms}
use Rattle.kbo.proofs.OrderingLemmas.{both_counted}
use Rattle.kbo.proofs.tally.Tally.count_lists.Goals as goal

pub returns : goal.returns
returns g c =
    both_counted g.row.N _ _ _ _ c.requires.even c.args.self.now.size_is _ _ _ _
    (few_in_terms c.args.terms.now) (few_in_terms c.args.others.now) c.requires.others_size
    _ _ _ _ c.count_all.new.self.size_is c.count_all.ensures.balances c.count_all.ensures.beyond c.count_all.ensures.left c.count_all.ensures.right
    _ _ _ _ c.count_all-2.ensures.balances c.count_all-2.ensures.beyond c.count_all-2.ensures.left c.count_all-2.ensures.right
