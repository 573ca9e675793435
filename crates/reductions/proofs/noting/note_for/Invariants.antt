use Rattle.reductions.proofs.Noted.{AreLed}
use Rattle.reductions.proofs.noting.note_for.Given as goal

abbrev pub invariant-loop-line : goal.invariant-loop-line
invariant-loop-line l = AreLed l.number l.target.clause l.reducts l.listed l.line-index l.current l.now l.edits
