use Rattle.case_view.specs.TrailLaws.{no_marks}
use Rattle.case_turns.proofs.Desks.{same_leaf}
use Rattle.case_turns.proofs.desk.take_desk.Goals as goal

pub fill_queue-requires-clause-node : goal.fill_queue-requires-clause-node
fill_queue-requires-clause-node c =
    let t = c.args.table.now in
    let v = c.in_ok-view.view in
    same_leaf t.setting t.past v.worker c.args.worker c.args.node v.node c.in_ok-view.ensures.worker c.in_ok-view.ensures.stands.holds c.requires

pub returns : goal.returns
returns c =
    let t = c.args.table.now in
    let v = c.in_ok-view.view in
    let stands = c.in_ok-view.ensures.stands in
    record {
      stands = stands;
      node = same_leaf t.setting t.past v.worker c.args.worker c.args.node v.node c.in_ok-view.ensures.worker stands.holds c.requires;
      trail = record {
        worker = c.in_ok-view.ensures.worker;
        trail = no_marks t.setting t.past c.new-marks.result v c.new-marks.ensures stands;
      };
      queue = c.in_ok-fill_queue.ensures;
    }
