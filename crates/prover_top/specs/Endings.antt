-- The first event that ends a table's journal, and what it says.
use Rattle.std.specs.Prelude.{◌≡◌, ◌⊎◌, ℕ, Bool, zero, suc, ◌+◌, true, ◌||◌, if◌then◌else◌, List, ◌∷◌, ◌++◌, None, IsSome}
use Rattle.proof_steps.specs.declared.step.Line.{Line}
use Rattle.proof_steps.specs.Covering.{AreCoveredBy}
use Rattle.case_journal.specs.declared.event.Entry.{Entry}
use Rattle.case_journal.specs.declared.event.Event.{Event}
use Rattle.case_journal.specs.declared.event.Event.TheVariants.{Publish, Saturated, Spent, Big, Full}
use Rattle.case_journal.specs.Journal.{Setting, ledger, steps, rounds}
use Rattle.split_tree.specs.State.{State}
use Rattle.case_journal.specs.Facts.{kept, worked, split}
use Rattle.case_journal.specs.Ending.{end_by, first_end, has_empty, ends_contradictory}
use Rattle.case_journal.specs.Legal.{IsPartner, IsListed, IsLegal}

-- the entry is the first that ends the journal, and was appended to the past `before`
pub record IsFirstEnding (past before : List Entry) (e : Entry) : Type 0 where
  pub later : List Entry
  pub is : past ≡ later ++ e ∷ before
  pub unended : first_end before ≡ None
  pub ends : IsSome (end_by e.event)

-- the first event that ends the table's journal is this one, which was legal there
pub record EndsBy (t : State) (event : Event) : Type 0 where
  pub by : ℕ
  pub before : List Entry
  pub first : IsFirstEnding t.past before (record { by = by; event = event })
  pub legal : IsLegal t.setting before by event

-- ---- proofs

-- it publishes the empty clause without assumptions
pub record IsPublished (t : State) : Type 0 where
  pub node : ℕ
  pub chain : List Line
  pub put_off : Bool
  pub ends : EndsBy t (Publish node chain put_off)
  pub empty : ends_contradictory chain ≡ true

-- an input clause is empty, or the empty clause was published without assumptions
abbrev pub IsContradicted : State → Type 0
IsContradicted t = (has_empty t.setting.input ≡ true) ⊎ IsPublished t

-- ---- other ends

-- how many of the first n clauses are kept at m
abbrev pub kept_among : Setting → List Entry → ℕ → ℕ → ℕ
kept_among s past m zero = 0
kept_among s past m (suc n) = kept_among s past m n + (if kept s past m (suc n) then 1 else 0)

-- how many clauses are kept at m
abbrev pub kept_count : Setting → List Entry → ℕ → ℕ
kept_count s past m = kept_among s past m (steps s past)

-- each clause kept at m was worked off or split there, and each inference of two that were worked off, or of one with
-- itself, is covered by those listed there
pub record IsSaturated (s : Setting) (past : List Entry) (m : ℕ) : Type 0 where
  pub done : (n : ℕ) → kept s past m n ≡ true → (worked past m n || split past m n) ≡ true
  pub covered : (first second : ℕ) → IsPartner s past m first → IsPartner s past m second → AreCoveredBy (IsListed s past m) (ledger s past) first second

-- the case at the node is complete, with so many clauses kept there, of which none is put off
pub record IsComplete (node kept put_off : ℕ) (t : State) : Type 0 where
  pub ends : EndsBy t (Saturated node)
  pub closed : IsSaturated t.setting ends.before node
  pub kept_there : kept ≡ kept_count t.setting ends.before node
  pub none_put_off : put_off ≡ 0

-- so many clauses were chosen, which is the limit
pub record IsSpent (count : ℕ) (t : State) : Type 0 where
  pub node : ℕ
  pub ends : EndsBy t (Spent node)
  pub chosen : count ≡ rounds ends.before
  pub limit : count ≡ t.setting.limits.rounds

-- the chain would have passed this limit of steps
pub record IsFull (limit : ℕ) (t : State) : Type 0 where
  pub node : ℕ
  pub chain : List Line
  pub ends : EndsBy t (Full node chain)
  pub limit_is : limit ≡ t.setting.limits.steps

-- an inference has more than 4,096 symbols, so many up to 1,000,000
pub record IsOversized (symbols : ℕ) (t : State) : Type 0 where
  pub node : ℕ
  pub partner : ℕ
  pub ends : EndsBy t (Big node partner symbols)
