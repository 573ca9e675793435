use Rattle.dfg_terms.proofs.Scopes.{rebound}
use Rattle.dfg_terms.proofs.scope.rebind.Goals as goal

pub returns-clause-ok : goal.returns-clause-ok
returns-clause-ok c = rebound c.args.numbers.now.entries c.insert.new.self.entries c.args.name c.args.number c.in_ok-insert.ensures.entries
