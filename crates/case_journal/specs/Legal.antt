-- Which event a worker may append to a journal: a record for each kind of event.
use Rattle.std.specs.Prelude.{◌≡◌, ◌⊎◌, ℕ, suc, zero, ◌+◌, ◌<◌, ◌≤◌, min, Bool, true, false, List, [], ◌∷◌, length, map, Option, Some, None, Contains, IsSome, slice_get, if◌then◌else◌}
use Rattle.spl_terms.specs.declared.clause.Part.{Part}
use Rattle.spl_terms.specs.declared.clause.Clause.{Clause}
use Rattle.spl_terms.specs.Clauses.{clause_symbols, atoms_of}
use Rattle.proof_steps.specs.declared.step.Rule.TheVariants.{Assume, CaseBoth}
use Rattle.proof_steps.specs.declared.step.Step.{Step}
use Rattle.proof_steps.specs.declared.step.Statement.{Statement}
use Rattle.proof_steps.specs.declared.step.Line.{Line}
use Rattle.proof_steps.specs.Parts.{Parted, parts_of}
use Rattle.proof_steps.specs.Steps.{numbered, ground_resolve}
use Rattle.proof_steps.specs.Checked.{IsConclusion, resolution_of_lines, stated}
use Rattle.proof_steps.specs.Covering.{IsVariant, AreCoveredBy}
use Rattle.case_journal.specs.declared.event.Entry.{Entry}
use Rattle.case_journal.specs.declared.event.Event.{Event}
use Rattle.case_journal.specs.declared.event.Event.TheVariants.{Claim, Choose, Publish, Split, Activate, Saturated, Spent, Big, Full, Stop}
use Rattle.case_journal.specs.Journal.{Setting, ledger, nodes, rounds, splits, counted, count_of}
use Rattle.case_journal.specs.Paths.{owner, is_leaf, leaves, branch, branch_to}
use Rattle.case_journal.specs.Facts.{listed, kept, worked, chosen, IsEmptyAt, IsLive, Holds, is_stop, before_choice, published_since}
use Rattle.case_journal.specs.Picking.{pick_at}
use Rattle.case_journal.specs.Ending.{first_end}

-- ---- settled

-- child is the child of m for this side of the split of the clause
pub record IsChild (past : List Entry) (m clause side child : ℕ) : Type 0 where
  pub there : child < nodes past
  pub hangs : branch past child ≡ Some (branch_to m clause side)

pub record HasLiveChild (s : Setting) (past : List Entry) (m : ℕ) : Type 0 where
  pub clause : ℕ
  pub side : ℕ
  pub child : ℕ
  pub is : IsChild past m clause side child
  pub live : IsLive s past child

-- each live node that was split has a live child
abbrev pub IsSettled : Setting → List Entry → Type 0
IsSettled s past = (m : ℕ) → m < nodes past → is_leaf past m ≡ false → IsLive s past m → HasLiveChild s past m

-- ---- claiming and choosing

-- m is a live leaf that nobody holds
pub record IsClaimable (s : Setting) (past : List Entry) (m : ℕ) : Type 0 where
  pub there : m < nodes past
  pub leaf : is_leaf past m ≡ true
  pub live : IsLive s past m
  pub free : (v : ℕ) → ¬ Holds s past v m

-- m is the leftmost of these
pub record IsNextClaim (s : Setting) (past : List Entry) (m : ℕ) : Type 0 where
  pub claimable : IsClaimable s past m
  pub place : ℕ
  pub found : slice_get (leaves past) place ≡ Some m
  pub first : (k n : ℕ) → k < place → slice_get (leaves past) k ≡ Some n → ¬ IsClaimable s past n

pub record IsLegalClaim (s : Setting) (past : List Entry) (w node : ℕ) : Type 0 where
  pub claimable : IsClaimable s past node
  pub idle : (n : ℕ) → ¬ Holds s past w n
  pub settled : IsSettled s past

pub record IsLegalChoose (s : Setting) (past : List Entry) (w node clause : ℕ) (selected : Option ℕ) : Type 0 where
  pub holds : Holds s past w node
  pub free : chosen past node ≡ None
  pub settled : IsSettled s past
  pub few : rounds past < s.limits.rounds
  pub picked : pick_at s past node ≡ Some clause
  pub unselected : selected ≡ None

-- ---- inferences

-- clause number n is worked and kept at m
pub record IsPartner (s : Setting) (past : List Entry) (m n : ℕ) : Type 0 where
  pub worked : worked past m n ≡ true
  pub kept : kept s past m n ≡ true

-- the clause itself, or one that is worked and kept at m
abbrev pub IsPremise : Setting → List Entry → ℕ → ℕ → ℕ → Type 0
IsPremise s past m clause n = (n ≡ clause) ⊎ IsPartner s past m n

-- two premises, of which one is the clause
pub record IsPair (s : Setting) (past : List Entry) (m clause first second : ℕ) : Type 0 where
  pub left : IsPremise s past m clause first
  pub right : IsPremise s past m clause second
  pub one : (first ≡ clause) ⊎ (second ≡ clause)

-- number n is that of a listed clause c
pub record IsListedAs (s : Setting) (past : List Entry) (m n : ℕ) (c : Clause) : Type 0 where
  pub lists : listed s past m n ≡ true
  pub line : Line
  pub found : numbered (ledger s past) n ≡ Some line
  pub is : line.stated.clause ≡ c

-- the clause is listed at m
abbrev pub IsListed : Setting → List Entry → ℕ → Clause → Type 0
IsListed s past m c = (n : ℕ) × IsListedAs s past m n c

-- no variant of the clause is listed at m
abbrev pub HasNoVariant : Setting → List Entry → ℕ → Clause → Type 0
HasNoVariant s past m c = (d : Clause) → IsListed s past m d → ¬ IsVariant d c

-- ---- publishing

-- the line resolves the clause that is chosen at the worker's leaf with itself or with one that was worked and kept there when it was chosen,
-- and states no variant of what was listed there then nor of what the worker has published since
pub record IsInferred (s : Setting) (past : List Entry) (w node : ℕ) (l : Line) : Type 0 where
  pub leaf : ℕ
  pub holds : Holds s past w leaf
  pub clause : ℕ
  pub chosen : chosen past leaf ≡ Some clause
  pub first : ℕ
  pub second : ℕ
  pub pair : IsPair s (before_choice past leaf) leaf clause first second
  pub i : ℕ
  pub part : Part
  pub j : ℕ
  pub step : l.step ≡ ground_resolve i part j first second
  pub owner : node ≡ owner past l.stated.deps leaf
  pub new : HasNoVariant s (before_choice past leaf) leaf l.stated.clause
  pub unpublished : (d : Clause) → Contains (published_since past w leaf) d → ¬ IsVariant d l.stated.clause

-- the empty clause with the smallest number that is listed at m
pub record IsFirstEmpty (s : Setting) (past : List Entry) (m n : ℕ) : Type 0 where
  pub empty : IsEmptyAt s past m n
  pub first : (k : ℕ) → k < n → ¬ IsEmptyAt s past m k

abbrev pub case_step : ℕ → ℕ → ℕ → Step
case_step clause left right = record { rule = CaseBoth; parents = clause ∷ left ∷ right ∷ [] }

-- the line closes the split of a live node by the first empty clause of each child, and no variant of it is listed where it goes
pub record IsClosing (s : Setting) (past : List Entry) (node : ℕ) (l : Line) : Type 0 where
  pub inner : ℕ
  pub there : inner < nodes past
  pub live : IsLive s past inner
  pub clause : ℕ
  pub left : ℕ
  pub right : ℕ
  pub left_child : IsChild past inner clause 1 left
  pub right_child : IsChild past inner clause 2 right
  pub left_empty : ℕ
  pub right_empty : ℕ
  pub first_left : IsFirstEmpty s past left left_empty
  pub first_right : IsFirstEmpty s past right right_empty
  pub step : l.step ≡ case_step clause left_empty right_empty
  pub owner : node ≡ owner past l.stated.deps inner
  pub new : HasNoVariant s past node l.stated.clause

-- all that a Publish asks but that the counted steps stay within the limit: the chain is one step so far
pub record IsPublishable (s : Setting) (past : List Entry) (w node : ℕ) (chain : List Line) (put_off : Bool) : Type 0 where
  pub line : Line
  pub one : chain ≡ line ∷ []
  pub concluded : IsConclusion s.input (stated (ledger s past)) line
  pub live : IsLive s past node
  pub typed : put_off ≡ false
  pub cause : IsInferred s past w node line ⊎ IsClosing s past node line

pub record IsLegalPublish (s : Setting) (past : List Entry) (w node : ℕ) (chain : List Line) (put_off : Bool) : Type 0 where
  pub asked : IsPublishable s past w node chain put_off
  pub few : counted past + count_of chain ≤ s.limits.steps

-- ---- splitting

abbrev pub assume : ℕ → ℕ → Option ℕ → Step
assume clause side negated = record { rule = Assume side negated; parents = clause ∷ [] }

-- the negations of the first n atoms of the left part, on the right side
abbrev pub negation_steps : ℕ → ℕ → ℕ → List Step
negation_steps clause k zero = []
negation_steps clause k (suc n) = assume clause 2 (Some k) ∷ negation_steps clause (k + 1) n

-- what is assumed where the clause is split: the left part; the right part, and where the left part has no variables the negation of each of its atoms
abbrev pub assume_steps : ℕ → Parted → List Step
assume_steps clause parts = assume clause 1 None ∷ assume clause 2 None ∷ (if parts.left_ground then negation_steps clause 0 (length (atoms_of parts.left)) else [])

-- all that a Split asks but that the counted steps stay within the limit
pub record IsSplittable (s : Setting) (past : List Entry) (w node : ℕ) (lines : List Line) (put_off : List Bool) : Type 0 where
  pub holds : Holds s past w node
  pub clause : ℕ
  pub chosen : chosen past node ≡ Some clause
  pub kept : kept s past node clause ≡ true
  pub split : Line
  pub found : numbered (ledger s past) clause ≡ Some split
  pub parts : Parted
  pub parted : parts_of split.stated.clause ≡ Some parts
  pub free : splits past < s.limits.splits
  pub steps : map (λ l. l.step) lines ≡ assume_steps clause parts
  pub concluded : (k : ℕ) (l : Line) → slice_get lines k ≡ Some l → IsConclusion s.input (stated (ledger s past)) l
  pub typed : put_off ≡ map (λ l. false) lines
  pub settled : IsSettled s past

pub record IsLegalSplit (s : Setting) (past : List Entry) (w node : ℕ) (lines : List Line) (put_off : List Bool) : Type 0 where
  pub asked : IsSplittable s past w node lines put_off
  pub few : counted past + count_of lines ≤ s.limits.steps

-- ---- working off

-- the clause can't be split: it has no parts, or as many clauses were split as may be
pub record IsUnsplit (s : Setting) (past : List Entry) (clause : ℕ) : Type 0 where
  pub line : Line
  pub found : numbered (ledger s past) clause ≡ Some line
  pub unsplit : (parts_of line.stated.clause ≡ None) ⊎ (s.limits.splits ≤ splits past)

-- each inference of the clause with itself and with each clause worked and kept at m is covered by the clauses listed there
abbrev pub AreInferencesCovered : Setting → List Entry → ℕ → ℕ → Type 0
AreInferencesCovered s past m clause = (first second : ℕ) → IsPair s past m clause first second → AreCoveredBy (IsListed s past m) (ledger s past) first second

pub record IsLegalActivate (s : Setting) (past : List Entry) (w node : ℕ) : Type 0 where
  pub holds : Holds s past w node
  pub clause : ℕ
  pub chosen : chosen past node ≡ Some clause
  pub unsplit : IsUnsplit s past clause
  pub covered : AreInferencesCovered s past node clause

-- ---- ending

pub record IsLegalSaturated (s : Setting) (past : List Entry) (w node : ℕ) : Type 0 where
  pub holds : Holds s past w node
  pub free : chosen past node ≡ None
  pub settled : IsSettled s past
  pub none : pick_at s past node ≡ None

pub record IsLegalSpent (s : Setting) (past : List Entry) (w node : ℕ) : Type 0 where
  pub holds : Holds s past w node
  pub free : (m : ℕ) → m < nodes past → is_leaf past m ≡ true → IsLive s past m → chosen past m ≡ None
  pub settled : IsSettled s past
  pub more : IsSome (pick_at s past node)
  pub spent : rounds past ≡ s.limits.rounds

-- an inference of the clause with the partner, in one order or the other, has more than 4,096 symbols; symbols is the smaller of their number and 1,000,000
pub record IsTooLarge (lines : List Line) (clause partner symbols : ℕ) : Type 0 where
  pub first : ℕ
  pub second : ℕ
  pub pair : ((first ≡ clause) × (second ≡ partner)) ⊎ ((first ≡ partner) × (second ≡ clause))
  pub i : ℕ
  pub part : Part
  pub j : ℕ
  pub conclusion : Statement
  pub concluded : resolution_of_lines i part j first second lines ≡ Some conclusion
  pub large : 4096 < clause_symbols conclusion.clause
  pub count : symbols ≡ min (clause_symbols conclusion.clause) 1000000

pub record IsLegalBig (s : Setting) (past : List Entry) (w node partner symbols : ℕ) : Type 0 where
  pub holds : Holds s past w node
  pub clause : ℕ
  pub chosen : chosen past node ≡ Some clause
  pub involved : IsPremise s past node clause partner
  pub large : IsTooLarge (ledger s past) clause partner symbols

-- the chain could be published somewhere, or is that of a Split, but for the number of steps
abbrev pub IsWanted : Setting → List Entry → ℕ → ℕ → List Line → Type 0
IsWanted s past w node chain = ((n : ℕ) × IsPublishable s past w n chain false) ⊎ ((put_off : List Bool) × IsSplittable s past w node chain put_off)

pub record IsLegalFull (s : Setting) (past : List Entry) (w node : ℕ) (chain : List Line) : Type 0 where
  pub holds : Holds s past w node
  pub wanted : IsWanted s past w node chain
  pub many : s.limits.steps < counted past + count_of chain

-- ---- all events

-- what the event asks by its kind
abbrev pub IsAsked : Setting → List Entry → ℕ → Event → Type 0
IsAsked s past w (Claim node) = IsLegalClaim s past w node
IsAsked s past w (Choose node clause selected) = IsLegalChoose s past w node clause selected
IsAsked s past w (Publish node chain put_off) = IsLegalPublish s past w node chain put_off
IsAsked s past w (Split node lines put_off) = IsLegalSplit s past w node lines put_off
IsAsked s past w (Activate node) = IsLegalActivate s past w node
IsAsked s past w (Saturated node) = IsLegalSaturated s past w node
IsAsked s past w (Spent node) = IsLegalSpent s past w node
IsAsked s past w (Big node partner symbols) = IsLegalBig s past w node partner symbols
IsAsked s past w (Full node chain) = IsLegalFull s past w node chain
IsAsked s past w Stop = Unit {0}

-- the worker may append the event; after one that ends the journal only Stop
pub record IsLegal (s : Setting) (past : List Entry) (w : ℕ) (ev : Event) : Type 0 where
  pub some : 1 ≤ w
  pub worker : w ≤ s.workers
  pub unended : is_stop ev ≡ false → first_end past ≡ None
  pub asked : IsAsked s past w ev

-- each event is legal after those before it
abbrev pub IsLegalJournal : Setting → List Entry → Type 0
IsLegalJournal s [] = Unit {0}
IsLegalJournal s (e ∷ past) = IsLegal s past e.by e.event × IsLegalJournal s past
