-- Where an empty clause stands that closes a node, and on which assumptions it depends.
use Rattle.std.specs.Prelude.{◌≡◌, ℕ, ◌<◌, Bool, true, false, ◌&&◌, ◌||◌, ◌==◌, nat_le, List, [], ◌∷◌, length, Some}
use Rattle.spl_terms.specs.Clauses.{is_empty}
use Rattle.dep_sets.specs.declared.deps.Assumption.{Assumption}
use Rattle.dep_sets.specs.Assumptions.{contains_assumption}
use Rattle.proof_steps.specs.declared.step.Line.{Line}
use Rattle.proof_steps.specs.Steps.{numbered, side_of}
use Rattle.case_journal.specs.declared.branch.Branch.{Branch}
use Rattle.case_journal.specs.declared.event.Entry.{Entry}
use Rattle.case_journal.specs.Journal.{Setting, nodes, ledger, steps}
use Rattle.case_journal.specs.Paths.{on_path, branch}
use Rattle.case_journal.specs.Facts.{lists, IsDead}

-- clause i was published at n itself; the input clauses stand at the root
abbrev pub published : Setting → List Entry → ℕ → ℕ → Bool
published s [] n i = (n == 0) && (nat_le 1 i && nat_le i (length s.input))
published s (e ∷ past) n i = lists e.event (nodes past) (steps s past) (λ k. k == n) n i || published s past n i

-- the empty clause with the number i was published at n itself
pub record IsEmptyOf (s : Setting) (past : List Entry) (n i : ℕ) : Type 0 where
  pub stands : published s past n i ≡ true
  pub line : Line
  pub found : numbered (ledger s past) i ≡ Some line
  pub empty : is_empty line.stated.clause ≡ true

-- a is the assumption of a node on the path of n
pub record IsAssumedAt (past : List Entry) (n : ℕ) (a : Assumption) : Type 0 where
  pub node : ℕ
  pub on : on_path past n node ≡ true
  pub up : Branch
  pub hangs : branch past node ≡ Some up
  pub is : up.assumed ≡ a

-- m is dead, is not the root, and no empty clause was published at m itself
pub record IsDiscarded (s : Setting) (past : List Entry) (m : ℕ) : Type 0 where
  pub other : 0 < m
  pub dead : IsDead s past m
  pub bare : (i : ℕ) → ¬ IsEmptyOf s past m i

-- an empty clause stands at a node of the path of m, and depends on assumptions of that node's path alone;
-- where m is discarded, on neither side of the split that made m
pub record IsClosed (s : Setting) (past : List Entry) (m : ℕ) : Type 0 where
  pub node : ℕ
  pub on : on_path past m node ≡ true
  pub number : ℕ
  pub closes : IsEmptyOf s past node number
  pub assumed : (a : Assumption) → contains_assumption closes.line.stated.deps a ≡ true → IsAssumedAt past node a
  pub apart : IsDiscarded s past m → (b : Branch) → branch past m ≡ Some b → (side : ℕ) → contains_assumption closes.line.stated.deps (side_of b.assumed.split side) ≡ false
