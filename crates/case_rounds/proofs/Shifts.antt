-- Numbers, lines and events, as they are moved.
use Rattle.std.proofs.Common.{◌≡◌, ℕ, suc, ◌≤◌, List, [], ◌∷◌, map, Some, refl, ap, arith}
use Rattle.std.specs.List.{slice_get}
use Rattle.std.proofs.lemmas.Bool.Decides.{nat_tests}
use Rattle.proof_steps.specs.declared.step.Line.{Line}
use Rattle.case_journal.specs.declared.event.Event.{Event}
use Rattle.case_journal.specs.declared.event.Event.TheVariants.{Claim, Choose, Publish, Split, Activate, Saturated, Spent, Big, Full, Stop}
use Rattle.case_journal.specs.Journal.{lines_of}
use Rattle.journal_laws.specs.Shifts.{shifted_number, shifted_line, shifted}
use Rattle.case_rounds.specs.Events.{shifted_event, AreOver, AreAllOver}

low_stays : (base by n : ℕ) → n ≤ base → shifted_number base by n ≡ n
low_stays base by n h = grind (arith, nat_tests)

numbers_stay : (base by : ℕ) (numbers : List ℕ) → ((j n : ℕ) → slice_get numbers j ≡ Some n → n ≤ base) → map (shifted_number base by) numbers ≡ numbers
numbers_stay base by [] h = refl
numbers_stay base by (n ∷ numbers) h = λ i. low_stays base by n (h 0 n refl) i ∷ numbers_stay base by numbers (λ j m at. h (suc j) m at) i

line_stays : (base by : ℕ) (l : Line) → ((j n : ℕ) → slice_get l.step.parents j ≡ Some n → n ≤ base) → shifted_line base by l ≡ l
line_stays base by l h = ap (λ parents. let made : Line = record { step = record { rule = l.step.rule; parents = parents }; stated = l.stated } in made) (numbers_stay base by l.step.parents h)

lines_stay : (base by : ℕ) (lines : List Line) → AreOver base lines → shifted base by lines ≡ lines
lines_stay base by [] h = refl
lines_stay base by (l ∷ lines) h = λ i. line_stays base by l (h 0 l refl) i ∷ lines_stay base by lines (λ k x at. h (suc k) x at) i

event_stays : (base by : ℕ) (ev : Event) → AreOver base (lines_of ev) → shifted_event base by ev ≡ ev
event_stays base by (Claim node) h = refl
event_stays base by (Choose node clause selected) h = refl
event_stays base by (Publish node chain put_off) h = ap (λ lines. Publish node lines put_off) (lines_stay base by chain h)
event_stays base by (Split node lines put_off) h = ap (λ steps. Split node steps put_off) (lines_stay base by lines h)
event_stays base by (Activate node) h = refl
event_stays base by (Saturated node) h = refl
event_stays base by (Spent node) h = refl
event_stays base by (Big node partner symbols) h = refl
event_stays base by (Full node chain) h = refl
event_stays base by Stop h = refl

pub events_stay : (base by : ℕ) (events : List Event) → AreAllOver base events → map (shifted_event base by) events ≡ events
events_stay base by [] h = refl
events_stay base by (ev ∷ events) h = λ i. event_stays base by ev (h 0 ev refl) i ∷ events_stay base by events (λ k x at. h (suc k) x at) i
