-- Which clause is chosen next at a node.
use Rattle.std.specs.Prelude.{ℕ, ◌+◌, Bool, not, ◌&&◌, if◌then◌else◌, List, [], ◌∷◌, Option}
use Rattle.spl_terms.specs.Clauses.{clause_symbols}
use Rattle.spl_truth.specs.declared.picking.Candidate.{Candidate}
use Rattle.spl_truth.specs.Picking.{pick}
use Rattle.proof_steps.specs.declared.step.Line.{Line}
use Rattle.case_journal.specs.declared.event.Entry.{Entry}
use Rattle.case_journal.specs.declared.event.Event.{Event}
use Rattle.case_journal.specs.declared.event.Event.TheVariants.{Choose}
use Rattle.case_journal.specs.Journal.{Setting, nodes, ledger}
use Rattle.case_journal.specs.Paths.{stem, on_path}
use Rattle.case_journal.specs.Facts.{kept, worked, split}

-- a Choose at a node of the path counts one more
abbrev pub choices_by : Event → (ℕ → Bool) → ℕ → ℕ
choices_by (Choose node clause selected) on earlier = if on node then earlier + 1 else earlier
choices_by _ on earlier = earlier

-- the number of Choose events at nodes of the path of m
abbrev pub choices : List Entry → ℕ → ℕ
choices [] m = 0
choices (e ∷ past) m = choices_by e.event (on_path past (stem e.event (nodes past) m)) (choices past (stem e.event (nodes past) m))

-- clause i is kept at m, and neither worked nor split there; nothing is put off yet
abbrev pub is_passive : Setting → List Entry → ℕ → ℕ → Bool
is_passive s past m i = kept s past m i && (not (worked past m i) && not (split past m i))

abbrev pub weighed : ℕ → Line → Candidate
weighed n l = record { number = n; symbols = clause_symbols l.stated.clause }

-- those that pass of the lines, of which the first has the number n
abbrev pub passing : (ℕ → Bool) → ℕ → List Line → List Candidate
passing passes n [] = []
passing passes n (l ∷ ls) = if passes n then weighed n l ∷ passing passes (n + 1) ls else passing passes (n + 1) ls

-- the passive clauses at m, by ascending number
abbrev pub passive : Setting → List Entry → ℕ → List Candidate
passive s past m = passing (is_passive s past m) 1 (ledger s past)

-- the clause that the pick rule gives at m; none where nothing is passive
abbrev pub pick_at : Setting → List Entry → ℕ → Option ℕ
pick_at s past m = pick (choices past m) (passive s past m)
