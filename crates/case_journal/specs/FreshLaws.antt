-- Laws that carry proofs, and no definitions that a reader must believe: what is kept of each node and of each worker is what the journal says.
use Rattle.std.proofs.Common.{◌≡◌, ℕ, ◌≤◌, true, false, not, eqb, List, [], ◌∷◌, Option, Some, None, refl, ◌∙◌, ap, arith}
use Rattle.std.proofs.lemmas.Bool.{ne_eqb, cond-false, and_from}
use Rattle.case_journal.specs.declared.event.Entry.{Entry}
use Rattle.case_journal.specs.declared.event.Event.{Event}
use Rattle.case_journal.specs.declared.event.Event.TheVariants.{Choose, Split, Activate}
use Rattle.case_journal.specs.Journal.{Setting, nodes}
use Rattle.case_journal.specs.Paths.{is_leaf, splits_node}
use Rattle.case_journal.specs.Facts.{chosen, chosen_by}
use Rattle.case_journal.specs.Legal.{IsAsked, IsLegalJournal}
use Rattle.case_journal.specs.PlaceLaws.{claimed_within, split_there}

-- ---- nodes

fresh_chosen_by : (s : Setting) (past : List Entry) → IsLegalJournal s past → (w : ℕ) (ev : Event) (m : ℕ) (o : Option ℕ) → IsAsked s past w ev → nodes past ≤ m → o ≡ None → chosen_by ev m o ≡ None
fresh_chosen_by s past legal w (Choose node clause selected) m o p h e = cond-false (eqb node m) (Some clause) o (ne_eqb node m (λ q. let low = claimed_within s past legal w node p.holds.claims in omega arith)) ∙ e
fresh_chosen_by s past legal w (Activate node) m o p h e = cond-false (eqb node m) None o (ne_eqb node m (λ q. let low = claimed_within s past legal w node p.holds.claims in omega arith)) ∙ e
fresh_chosen_by s past legal w _ m o p h e = e

-- nothing is chosen at a node that isn't there yet
pub fresh_chosen : (s : Setting) (past : List Entry) → IsLegalJournal s past → (m : ℕ) → nodes past ≤ m → chosen past m ≡ None
fresh_chosen s [] legal m h = refl
fresh_chosen s (e ∷ past) legal m h = fresh_chosen_by s past legal.1 e.by e.event m (chosen past m) legal.0.asked (omega arith) (fresh_chosen s past legal.1 m (omega arith))

-- what an event splits was there
pub fresh_split : (s : Setting) (past : List Entry) → IsLegalJournal s past → (w : ℕ) (ev : Event) (m : ℕ) → IsAsked s past w ev → nodes past ≤ m → splits_node ev m ≡ false
fresh_split s past legal w (Split node lines put_off) m p h = ne_eqb node m (λ q. let low = split_there s past legal w node lines put_off p in omega arith)
fresh_split s past legal w _ m p h = refl

-- a node that isn't there yet is not split
pub fresh_leaf : (s : Setting) (past : List Entry) → IsLegalJournal s past → (m : ℕ) → nodes past ≤ m → is_leaf past m ≡ true
fresh_leaf s [] legal m h = refl
fresh_leaf s (e ∷ past) legal m h = and_from (not (splits_node e.event m)) (is_leaf past m) (ap not (fresh_split s past legal.1 e.by e.event m legal.0.asked (omega arith))) (fresh_leaf s past legal.1 m (omega arith))
