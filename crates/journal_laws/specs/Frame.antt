-- What a worker's case keeps while the journal goes on.
use Rattle.std.specs.Prelude.{◌≡◌, ℕ, ◌≤◌, true, List, [], ◌∷◌, ◌++◌, Contains}
use Rattle.spl_terms.specs.declared.clause.Clause.{Clause}
use Rattle.dep_sets.specs.declared.deps.Assumption.{Assumption}
use Rattle.proof_steps.specs.declared.step.Line.{Line}
use Rattle.case_journal.specs.declared.event.Entry.{Entry}
use Rattle.case_journal.specs.Journal.{Setting, ledger, nodes, splits, steps}
use Rattle.case_journal.specs.Paths.{on_path, owner}
use Rattle.case_journal.specs.Facts.{listed, worked, split, chosen, Holds, before_choice, published_since}
use Rattle.case_journal.specs.Picking.{choices}
use Rattle.case_journal.specs.Legal.{IsListed, IsPartner}

-- no entry is by the worker
abbrev pub NoneBy : ℕ → List Entry → Type 0
NoneBy w [] = Unit {0}
NoneBy w (e ∷ es) = (¬ (e.by ≡ w)) × NoneBy w es

-- worker w still holds m; in between it has published these clauses in its round, the newest first, and nothing else has changed there but that more is listed
pub record StillHolds (s : Setting) (old new : List Entry) (w m : ℕ) (own : List Clause) : Type 0 where
  pub holds : Holds s new w m
  pub count : nodes old ≤ nodes new
  pub paths : (n : ℕ) → on_path new m n ≡ on_path old m n
  pub owners : (deps : List Assumption) → owner new deps m ≡ owner old deps m
  pub chosen : chosen new m ≡ chosen old m
  pub before : before_choice new m ≡ before_choice old m
  pub since : published_since new w m ≡ own ++ published_since old w m
  pub worked : (n : ℕ) → worked new m n ≡ worked old m n
  pub split : (n : ℕ) → split new m n ≡ split old m n
  pub choices : choices new m ≡ choices old m
  pub splits : splits old ≤ splits new
  pub lists : (n : ℕ) → listed s old m n ≡ true → listed s new m n ≡ true
  pub only : (n : ℕ) → n ≤ steps s old → listed s new m n ≡ true → listed s old m n ≡ true
  pub published : (c : Clause) → Contains own c → IsListed s new m c
  pub lines : List Line
  pub ledger : ledger s new ≡ ledger s old ++ lines

-- since the clause that is chosen at m was chosen, nothing else was worked off there, what was listed is, and so is what w has published
pub record IsSinceChoice (s : Setting) (past : List Entry) (w m : ℕ) : Type 0 where
  pub partners : (n : ℕ) → worked past m n ≡ true → IsPartner s (before_choice past m) m n
  pub before : (c : Clause) → IsListed s (before_choice past m) m c → IsListed s past m c
  pub since : (c : Clause) → Contains (published_since past w m) c → IsListed s past m c

-- the same leaf: worker w still holds m, the paths are what they were, and what was listed, worked off or split there is; clauses may have been chosen and worked off
pub record KeepsLeaf (s : Setting) (old new : List Entry) (w m : ℕ) : Type 0 where
  pub holds : Holds s new w m
  pub count : nodes old ≤ nodes new
  pub paths : (n : ℕ) → on_path new m n ≡ on_path old m n
  pub owners : (deps : List Assumption) → owner new deps m ≡ owner old deps m
  pub splits : splits old ≤ splits new
  pub parts : (n : ℕ) → split old m n ≡ true → split new m n ≡ true
  pub lists : (n : ℕ) → listed s old m n ≡ true → listed s new m n ≡ true
  pub only : (n : ℕ) → n ≤ steps s old → listed s new m n ≡ true → listed s old m n ≡ true
  pub works : (n : ℕ) → worked old m n ≡ true → worked new m n ≡ true
  pub lines : List Line
  pub ledger : ledger s new ≡ ledger s old ++ lines
