use Rattle.kbo.proofs.StableLemmas.{is_stable}
use Rattle.kbo.proofs.laws.order_is_stable.Goals as goal

pub returns : goal.returns
returns c = is_stable
