use Rattle.case_turns.proofs.Desks.{same_leaf}
use Rattle.case_turns.proofs.desk.Desk.move_to.Goals as goal

pub move_to_held-requires-clause-holds : goal.move_to_held-requires-clause-holds
move_to_held-requires-clause-holds c = (c.args.node, c.requires.holds)

pub fill_queue-requires-clause-node : goal.fill_queue-requires-clause-node
fill_queue-requires-clause-node c =
    let t = c.args.table.now in
    let v = c.move_to_held.new.view in
    let moved = c.in_ok-move_to_held.ensures in
    same_leaf t.setting t.past v.worker c.args.self.now.view.worker c.args.node v.node moved.worker moved.stands.holds c.requires.holds

pub returns : goal.returns
returns c =
    let t = c.args.table.now in
    let v = c.move_to_held.new.view in
    let moved = c.in_ok-move_to_held.ensures in
    record {
      stands = moved.stands;
      node = same_leaf t.setting t.past v.worker c.args.self.now.view.worker c.args.node v.node moved.worker moved.stands.holds c.requires.holds;
      trail = record { worker = moved.worker; trail = moved.trail };
      queue = c.in_ok-fill_queue.ensures;
    }
