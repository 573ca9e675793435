use Rattle.std.proofs.Common.{◌∙◌, ap, sym}
use Rattle.case_journal.specs.Paths.{on_path}
use Rattle.split_tree.specs.Caches.{at_home}
use Rattle.split_tree.proofs.table.Table.listed.Goals as goal

pub returns-in-None : goal.returns-in-None
returns-in-None c = sym (c.home.ensures.lists c.args.node c.requires.node ∙ ap (at_home (on_path c.args.self.now.past c.args.node)) c.in-None.is)

pub returns-in-Some : goal.returns-in-Some
returns-in-Some c = c.on_path.ensures ∙ sym (c.home.ensures.lists c.args.node c.requires.node ∙ ap (at_home (on_path c.args.self.now.past c.args.node)) c.in-Some.is)
