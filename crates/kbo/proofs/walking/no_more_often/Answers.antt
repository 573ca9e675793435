use Rattle.kbo.proofs.WalkLemmas.{compared, few}
use Rattle.kbo.proofs.walking.no_more_often.Goals as goal

pub returns : goal.returns
returns c = compared _ _ _ _ _ _ c.times_in.ensures c.times_in-2.ensures (few c.args.variable c.args.others.now) (few c.args.variable c.args.terms.now) c.requires.others_size c.requires.terms_size
