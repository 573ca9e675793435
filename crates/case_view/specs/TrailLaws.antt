-- Laws with their proofs, not definitions that a reader must believe: marks of a view while the view and the journal go on.
use Rattle.std.specs.Prelude.{reverse}
use Rattle.std.proofs.Common.{◌≡◌, ◌∙◌, sym, ap, subst, refl, List, [], ◌∷◌, ◌++◌, append_assoc}
use Rattle.std.proofs.lemmas.List.{reverse-append}
use Rattle.case_journal.specs.declared.event.Entry.{Entry}
use Rattle.case_journal.specs.Journal.{Setting}
use Rattle.case_view.specs.declared.kept.Case.{Case}
use Rattle.case_view.specs.declared.kept.Mark.{Mark}
use Rattle.case_view.specs.Marks.{HasGrown, IsMarkOf}
use Rattle.case_view.specs.MarkLaws.{grown_more}
use Rattle.case_view.specs.Views.{StandsFor, GoesOn}
use Rattle.case_view.specs.Trails.{IsTrail}

-- a view that stands for the journal
pub goes_from : (s : Setting) (past : List Entry) (v : Case) → StandsFor s past v → GoesOn s past v
goes_from s past v h = record { start = past; later = []; more = refl; stands = h }

-- with no marks
pub no_marks : (s : Setting) (past : List Entry) (marks : List Mark) (v : Case) → marks ≡ [] → StandsFor s past v → IsTrail s past (reverse marks) v
no_marks s past marks v none h = subst (λ ms. IsTrail s past ms v) (sym (ap reverse none)) (goes_from s past v h)

pub goes_later : (s : Setting) (later past : List Entry) (v : Case) → GoesOn s past v → GoesOn s (later ++ past) v
goes_later s later past v h = record {
  start = h.start;
  later = later ++ h.later;
  more = ap (λ p. later ++ p) h.more ∙ sym (append_assoc later h.later h.start);
  stands = h.stands;
}

pub trail_goes : (s : Setting) (past : List Entry) (marks : List Mark) (v : Case) → IsTrail s past marks v → GoesOn s past v
trail_goes s past [] v h = h
trail_goes s past (mark ∷ marks) v h = h.0

-- the journal goes on
pub trail_later : (s : Setting) (later past : List Entry) (marks : List Mark) (v : Case) → IsTrail s past marks v → IsTrail s (later ++ past) marks v
trail_later s later past [] v h = goes_later s later past v h
trail_later s later past (mark ∷ marks) v (goes, (u, is, grown, h)) = (goes_later s later past v goes, (u, is, grown, trail_later s later past marks u h))

-- the view goes on
pub trail_grown : (s : Setting) (past : List Entry) (marks : List Mark) (v w : Case) → IsTrail s past marks v → HasGrown v w → GoesOn s past w → IsTrail s past marks w
trail_grown s past [] v w h grown goes = goes
trail_grown s past (mark ∷ marks) v w (own, (u, is, g, h)) grown goes = (goes, (u, is, grown_more u v w g grown, h))

-- the last mark comes first
pub last_mark : (s : Setting) (past : List Entry) (marks rest : List Mark) (mark : Mark) (v : Case) → marks ≡ rest ++ mark ∷ [] → IsTrail s past (reverse marks) v → IsTrail s past (mark ∷ reverse rest) v
last_mark s past marks rest mark v is h = subst (λ ms. IsTrail s past ms v) (ap reverse is ∙ reverse-append rest (mark ∷ [])) h

-- a mark is made
pub with_mark : (s : Setting) (past : List Entry) (marks more : List Mark) (mark : Mark) (v w : Case) → more ≡ marks ++ mark ∷ [] → IsTrail s past (reverse marks) v → IsMarkOf mark v → HasGrown v w → GoesOn s past w → IsTrail s past (reverse more) w
with_mark s past marks more mark v w is h of_v grown goes = subst (λ ms. IsTrail s past ms w) (sym (ap reverse is ∙ reverse-append marks (mark ∷ []))) (goes, (v, of_v, grown, h))
