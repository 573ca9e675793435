-- Laws that carry proofs, and no definitions that a reader must believe: small journals that are legal. The first, event by event: the clauses P and not P, of which one is worked off and the empty

-- clause is published.
use Rattle.std.proofs.Common.{◌≡◌, ℕ, zero, suc, ◌<◌, true, false, List, [], ◌∷◌, Some, None, refl, ◌∙◌, ap, arith, inl, inr, subst}
use Rattle.spl_terms.specs.declared.term.Kind.TheVariants.{Predicate}
use Rattle.spl_terms.specs.declared.atom.Atom.{Atom}
use Rattle.spl_terms.specs.declared.atom.Atom.TheVariants.{Holds}
use Rattle.spl_terms.specs.declared.clause.Part.TheVariants.{Antecedent}
use Rattle.spl_terms.specs.declared.clause.Clause.{Clause}
use Rattle.spl_terms.specs.Clauses.{is_empty, renumbered}
use Rattle.proof_steps.specs.declared.step.Line.{Line}
use Rattle.proof_steps.specs.Steps.{numbered, ground_resolve, states, side_of}
use Rattle.case_journal.specs.declared.event.Entry.{Entry}
use Rattle.case_journal.specs.declared.event.Event.{Event}
use Rattle.case_journal.specs.Paths.{leaves, owner}
use Rattle.proof_steps.specs.Parts.{Parted}
use Rattle.proof_steps.specs.Checked.{IsConclusion, stated}
use Rattle.std.specs.List.{slice_get}
use Rattle.case_journal.specs.declared.event.Event.TheVariants.{Claim, Choose, Publish, Split, Activate}
use Rattle.case_journal.specs.declared.event.End.TheVariants.{Proved}
use Rattle.case_journal.specs.Journal.{Setting, input_line, ledger, nodes}
use Rattle.case_journal.specs.Facts.{Holds as Holder, listed}
use Rattle.case_journal.specs.Ending.{reason}
use Rattle.case_journal.specs.Legal.{IsLegal, IsLegalJournal, assume}
use Rattle.case_journal.specs.RootLaws.{settled_root}
use Rattle.case_journal.specs.ResolutionLaws.{positive_alone}

abbrev p : Atom
p = Holds (record { number = 0; kind = Predicate }) []

abbrev positive : Clause
positive = record { constraint = []; antecedent = []; succedent = p ∷ [] }

abbrev negative : Clause
negative = record { constraint = []; antecedent = p ∷ []; succedent = [] }

abbrev empty : Clause
empty = record { constraint = []; antecedent = []; succedent = [] }

abbrev s : Setting
s = record { input = positive ∷ negative ∷ []; limits = record { rounds = 10; steps = 10; splits = 0 }; workers = 2 }

abbrev conclusion : Line
conclusion = record { step = ground_resolve 0 Antecedent 0 1 2; stated = states empty [] }

-- ---- the journal, one entry after another

abbrev claimed : List Entry
claimed = record { by = 1; event = Claim 0 } ∷ []

abbrev chosen : List Entry
chosen = record { by = 1; event = Choose 0 1 None } ∷ claimed

abbrev activated : List Entry
activated = record { by = 1; event = Activate 0 } ∷ chosen

abbrev chosen_again : List Entry
chosen_again = record { by = 1; event = Choose 0 2 None } ∷ activated

abbrev published : List Entry
published = record { by = 1; event = Publish 0 (conclusion ∷ []) false } ∷ chosen_again

-- ---- no input clause is empty

abbrev lines : List Line
lines = input_line 1 positive ∷ input_line 2 negative ∷ []

not_empty : (i : ℕ) (l : Line) → numbered lines i ≡ Some l → is_empty l.stated.clause ≡ true → ⊥
not_empty zero l h e = cc
not_empty (suc zero) l h e = let q : input_line 1 positive ≡ l = cc in let bad : false ≡ true = ap (λ x. is_empty x.stated.clause) q ∙ e in cc
not_empty (suc (suc zero)) l h e = let q : input_line 2 negative ≡ l = cc in let bad : false ≡ true = ap (λ x. is_empty x.stated.clause) q ∙ e in cc
not_empty (suc (suc (suc i))) l h e = cc

no_variant : (i : ℕ) (l : Line) → numbered lines i ≡ Some l → renumbered l.stated.clause ≡ renumbered empty → ⊥
no_variant zero l h e = cc
no_variant (suc zero) l h e = let q : input_line 1 positive ≡ l = cc in let bad : p ∷ [] ≡ [] = ap (λ x. (renumbered x.stated.clause).succedent) q ∙ ap (λ c. c.succedent) e in cc
no_variant (suc (suc zero)) l h e = let q : input_line 2 negative ≡ l = cc in let bad : p ∷ [] ≡ [] = ap (λ x. (renumbered x.stated.clause).antecedent) q ∙ ap (λ c. c.antecedent) e in cc
no_variant (suc (suc (suc i))) l h e = cc

-- ---- each event is legal

claim_legal : IsLegal s [] 1 (Claim 0)
claim_legal = record {
  some = omega arith;
  worker = omega arith;
  unended = λ go. refl;
  asked = record {
    claimable = record { there = omega arith; leaf = refl; live = λ dead. not_empty dead.0 dead.1.line dead.1.found dead.1.empty; free = λ v h. (let bad = h.claims in cc) };
    idle = λ n h. (let bad = h.claims in cc);
    settled = settled_root s [] refl;
  };
}

holds_claimed : Holder s claimed 1 0
holds_claimed = record { claims = refl; leaf = refl; live = λ dead. not_empty dead.0 dead.1.line dead.1.found dead.1.empty }

choose_legal : IsLegal s claimed 1 (Choose 0 1 None)
choose_legal = record {
  some = omega arith;
  worker = omega arith;
  unended = λ go. refl;
  asked = record { holds = holds_claimed; free = refl; settled = settled_root s claimed refl; few = omega arith; picked = refl; unselected = refl };
}

holds_chosen : Holder s chosen 1 0
holds_chosen = record { claims = refl; leaf = refl; live = λ dead. not_empty dead.0 dead.1.line dead.1.found dead.1.empty }

activate_legal : IsLegal s chosen 1 (Activate 0)
activate_legal = record {
  some = omega arith;
  worker = omega arith;
  unended = λ go. refl;
  asked = record {
    holds = holds_chosen;
    clause = 1;
    chosen = refl;
    unsplit = record { line = input_line 1 positive; found = refl; unsplit = inr (omega arith) };
    covered = λ first second pair i part j st h. absurd (elim pair.right [
      | inl q ↦ positive_alone lines i part j first second (input_line 1 positive) st (ap (numbered lines) q) refl refl h
      | inr partner ↦ let bad : false ≡ true = partner.worked in cc
    ]);
  };
}

holds_activated : Holder s activated 1 0
holds_activated = record { claims = refl; leaf = refl; live = λ dead. not_empty dead.0 dead.1.line dead.1.found dead.1.empty }

choose_again_legal : IsLegal s activated 1 (Choose 0 2 None)
choose_again_legal = record {
  some = omega arith;
  worker = omega arith;
  unended = λ go. refl;
  asked = record { holds = holds_activated; free = refl; settled = settled_root s activated refl; few = omega arith; picked = refl; unselected = refl };
}

holds_chosen_again : Holder s chosen_again 1 0
holds_chosen_again = record { claims = refl; leaf = refl; live = λ dead. not_empty dead.0 dead.1.line dead.1.found dead.1.empty }

publish_legal : IsLegal s chosen_again 1 (Publish 0 (conclusion ∷ []) false)
publish_legal = record {
  some = omega arith;
  worker = omega arith;
  unended = λ go. refl;
  asked = record {
    asked = record {
      line = conclusion;
      one = refl;
      concluded = (refl, omega arith);
      live = holds_chosen_again.live;
      typed = refl;
      cause = inl (record {
        leaf = 0;
        holds = holds_chosen_again;
        clause = 2;
        chosen = refl;
        first = 1;
        second = 2;
        pair = record { left = inr (record { worked = refl; kept = refl }); right = inl refl; one = inr refl };
        i = 0;
        part = Antecedent;
        j = 0;
        step = refl;
        owner = refl;
        new = λ d listed variant. no_variant listed.0 listed.1.line listed.1.found (ap renumbered listed.1.is ∙ variant);
        unpublished = λ d among variant. (let low : among.0 < 0 = among.1 in omega arith);
      });
    };
    few = omega arith;
  };
}

-- the journal is legal, and proving ends with it
pub example_legal : IsLegalJournal s published
example_legal = (publish_legal, (choose_again_legal, (activate_legal, (choose_legal, (claim_legal, tt)))))

pub example_proved : reason s published ≡ Some Proved
example_proved = refl

-- ---- a split: of P or Q, where P has no variables

abbrev q : Atom
q = Holds (record { number = 1; kind = Predicate }) []

abbrev either : Clause
either = record { constraint = []; antecedent = []; succedent = p ∷ q ∷ [] }

abbrev t : Setting
t = record { input = either ∷ []; limits = record { rounds = 10; steps = 10; splits = 1 }; workers = 1 }

abbrev right_part : Clause
right_part = record { constraint = []; antecedent = []; succedent = q ∷ [] }

abbrev parts : Parted
parts = record { left = positive; right = right_part; left_ground = true }

abbrev left_line : Line
left_line = record { step = assume 1 1 None; stated = states positive (side_of 1 1 ∷ []) }

abbrev right_line : Line
right_line = record { step = assume 1 2 None; stated = states right_part (side_of 1 2 ∷ []) }

abbrev negated_line : Line
negated_line = record { step = assume 1 2 (Some 0); stated = states negative (side_of 1 2 ∷ []) }

abbrev split_event : Event
split_event = Split 0 (left_line ∷ right_line ∷ negated_line ∷ []) (false ∷ false ∷ false ∷ [])

abbrev after_split : List Entry
after_split = record { by = 1; event = split_event } ∷ chosen

either_full : (i : ℕ) (l : Line) → numbered (input_line 1 either ∷ []) i ≡ Some l → is_empty l.stated.clause ≡ true → ⊥
either_full zero l h e = cc
either_full (suc zero) l h e = let r : input_line 1 either ≡ l = cc in let bad : false ≡ true = ap (λ x. is_empty x.stated.clause) r ∙ e in cc
either_full (suc (suc i)) l h e = cc

split_concluded : (k : ℕ) (l : Line) → slice_get (left_line ∷ right_line ∷ negated_line ∷ []) k ≡ Some l → IsConclusion t.input (stated (ledger t chosen)) l
split_concluded zero l h = let r : left_line ≡ l = cc in subst (IsConclusion t.input (stated (ledger t chosen))) r (refl, omega arith)
split_concluded (suc zero) l h = let r : right_line ≡ l = cc in subst (IsConclusion t.input (stated (ledger t chosen))) r (refl, omega arith)
split_concluded (suc (suc zero)) l h = let r : negated_line ≡ l = cc in subst (IsConclusion t.input (stated (ledger t chosen))) r (refl, omega arith)
split_concluded (suc (suc (suc k))) l h = cc

pub example_split : IsLegal t chosen 1 split_event
example_split = record {
  some = omega arith;
  worker = omega arith;
  unended = λ go. refl;
  asked = record {
    asked = record {
      holds = record { claims = refl; leaf = refl; live = λ dead. either_full dead.0 dead.1.line dead.1.found dead.1.empty };
      clause = 1;
      chosen = refl;
      kept = refl;
      split = input_line 1 either;
      found = refl;
      parts = parts;
      parted = refl;
      free = omega arith;
      steps = refl;
      concluded = split_concluded;
      typed = refl;
      settled = settled_root t chosen refl;
    };
    few = omega arith;
  };
}

-- the left part is listed at node 1, the right part and the negation at node 2, each clause of the parts there alone
pub example_listed : (listed t after_split 1 1 ≡ true) × (listed t after_split 1 2 ≡ true) × (listed t after_split 1 3 ≡ false) × (listed t after_split 2 2 ≡ false) × (listed t after_split 2 4 ≡ true) × (listed t after_split 0 2 ≡ false)
example_listed = (refl, refl, refl, refl, refl, refl)

pub example_tree : (leaves after_split ≡ 1 ∷ 2 ∷ []) × (nodes after_split ≡ 3) × (owner after_split (side_of 1 2 ∷ []) 2 ≡ 2) × (owner after_split (side_of 1 2 ∷ []) 1 ≡ 0)
example_tree = (refl, refl, refl, refl)
