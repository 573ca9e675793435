use Rattle.case_queue.proofs.Holding.{first_puts}
use Rattle.case_queue.proofs.queue.CaseQueue.add.Goals as goal

pub returns : goal.returns
returns c = record { first = first_puts c.args.table.now.setting c.args.table.now.past c.args.node c.args.number c.args.self.now c.put.new.self c.requires.some c.requires.first c.in_ok-put.ensures }
