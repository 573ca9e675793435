-- At a leaf with nothing to choose each kept clause was worked off or split, and the inferences of those that were worked
-- off are covered.
use Rattle.std.specs.Prelude.{fold}
use Rattle.std.proofs.Common.{◌≡◌, ◌⊎◌, inl, inr, ℕ, zero, suc, ◌+◌, ◌-◌, ◌<◌, ◌≤◌, Bool, true, false, cond, not, ◌&&◌, ◌||◌, List, [], ◌∷◌, ◌++◌, length, Option, Some, None, option_map, refl, sym, ap, ◌∙◌, subst, arith}
use Rattle.std.proofs.lemmas.Bool.{false≢true, and_parts, or_cases, or_right}
use Rattle.std.proofs.lemmas.List.{map-append}
use Rattle.spl_terms.specs.declared.clause.Part.{Part}
use Rattle.spl_terms.specs.declared.clause.Clause.{Clause}
use Rattle.spl_truth.specs.declared.picking.Candidate.{Candidate}
use Rattle.spl_truth.specs.Picking.{better, preferred, is_fifth}
use Rattle.proof_steps.specs.declared.step.Line.{Line}
use Rattle.proof_steps.specs.Steps.{numbered, resolution, from_two, of_two}
use Rattle.proof_steps.specs.Checked.{resolution_of_lines, stated}
use Rattle.proof_steps.specs.Covering.{IsCoveredBy, AreCoveredBy}
use Rattle.case_journal.specs.declared.event.Entry.{Entry}
use Rattle.case_journal.specs.declared.event.Event.{Event}
use Rattle.case_journal.specs.declared.event.Event.TheVariants.{Activate}
use Rattle.case_journal.specs.Journal.{Setting, ledger, lines_of, nodes, nodes_of, steps}
use Rattle.case_journal.specs.Paths.{stem, on_path}
use Rattle.case_journal.specs.Facts.{listed, lists, kept, worked, split, chosen, activates, is_number}
use Rattle.case_journal.specs.Picking.{is_passive, passing, passive, pick_at, choices, weighed}
use Rattle.case_journal.specs.Legal.{IsAsked, IsLegalJournal, IsPartner, IsPair, IsListed}
use Rattle.case_journal.specs.ListedLaws.{listed_within}
use Rattle.case_journal.specs.FactLaws.{number_is}
use Rattle.case_journal.specs.ListLaws.{get_more, get_left}
use Rattle.case_journal.specs.PathLaws.{leaf_path}
use Rattle.case_journal.specs.PlaceLaws.{stem_there}
use Rattle.case_journal.specs.DependenceLaws.{chosen_listed}
use Rattle.prover_top.specs.Endings.{IsSaturated}

-- ---- a pick of nothing

fold_some : (by_age : Bool) (a : Candidate) (cs : List Candidate) → fold (better by_age) (Some a) cs ≡ None → ⊥
fold_some by_age a [] e = absurd (cc)
fold_some by_age a (c ∷ cs) e = fold_some by_age (preferred by_age a c) cs e

mapped_none : (o : Option Candidate) → option_map (λ a. a.number) o ≡ None → o ≡ None
mapped_none None e = refl
mapped_none (Some a) e = absurd (cc)

none_passive : (by_age : Bool) (cs : List Candidate) → fold (better by_age) None cs ≡ None → cs ≡ []
none_passive by_age [] e = refl
none_passive by_age (c ∷ cs) e = absurd (fold_some by_age c cs e)

none_passes : (passes : ℕ → Bool) (n : ℕ) (lines : List Line) → passing passes n lines ≡ [] → (k : ℕ) → k < length lines → passes (n + k) ≡ false
none_passes passes n [] e k h = absurd (omega (arith, h))
none_passes passes n (l ∷ ls) e k h = by_test (λ g j p. none_passes passes (n + 1) ls g j p) (passes n) refl e k h
  where
    by_test : (passing passes (n + 1) ls ≡ [] → (j : ℕ) → j < length ls → passes ((n + 1) + j) ≡ false) → (b : Bool) → passes n ≡ b → cond b (weighed n l ∷ passing passes (n + 1) ls) (passing passes (n + 1) ls) ≡ [] → (k : ℕ) → k < length (l ∷ ls) → passes (n + k) ≡ false
    by_test later true t g k h = absurd (cc)
    by_test later false t g zero h = subst (λ i. passes i ≡ false) (omega arith) t
    by_test later false t g (suc k) h = subst (λ i. passes i ≡ false) (omega arith) (later g k (omega (arith, h)))

no_work : (a w p : Bool) → (a && (not w && not p)) ≡ false → a ≡ true → (w || p) ≡ true
no_work true true p e h = refl
no_work true false true e h = refl
no_work true false false e h = absurd (false≢true (sym e))
no_work false w p e h = absurd (false≢true h)

-- where the pick is none, each kept clause was worked off or split
done : (s : Setting) (past : List Entry) (m : ℕ) → IsLegalJournal s past → pick_at s past m ≡ None → (n : ℕ) → kept s past m n ≡ true → (worked past m n || split past m n) ≡ true
done s past m legal none n h =
    let within = listed_within s past legal m n h in
    let empty : passive s past m ≡ [] = none_passive (is_fifth (choices past m)) (passive s past m) (mapped_none (fold (better (is_fifth (choices past m))) None (passive s past m)) none) in
    let last : n - 1 < length (ledger s past) = omega (arith, within.0, within.1) in
    let is : 1 + (n - 1) ≡ n = omega (arith, within.0) in
    let unpassed : is_passive s past m n ≡ false = subst (λ i. is_passive s past m i ≡ false) is (none_passes (is_passive s past m) 1 (ledger s past) empty (n - 1) last) in
    no_work (kept s past m n) (worked past m n) (split past m n) unpassed h

-- ---- more lines and more listed clauses

numbered_more : {A : Type 0} (xs ys : List A) (n : ℕ) (x : A) → numbered xs n ≡ Some x → numbered (xs ++ ys) n ≡ Some x
numbered_more xs ys zero x e = absurd (cc)
numbered_more xs ys (suc k) x e = get_more xs ys k x e

numbered_old : {A : Type 0} (xs ys : List A) (n : ℕ) → n ≤ length xs → numbered (xs ++ ys) n ≡ numbered xs n
numbered_old xs ys zero h = refl
numbered_old xs ys (suc k) h = get_left xs ys k (omega (arith, h))

length_stated : (lines : List Line) → length (stated lines) ≡ length lines
length_stated [] = refl
length_stated (l ∷ ls) = ap suc (length_stated ls)

stated_old : (lines more : List Line) (n : ℕ) → n ≤ length lines → numbered (stated (lines ++ more)) n ≡ numbered (stated lines) n
stated_old lines more n h =
    ap (λ ss. numbered ss n) (map-append (λ l. l.stated) lines more)
    ∙ numbered_old (stated lines) (stated more) n (omega (arith, h, length_stated lines))

resolution_old : (i : ℕ) (part : Part) (j m n : ℕ) (lines more : List Line) → m ≤ length lines → n ≤ length lines → resolution_of_lines i part j m n (lines ++ more) ≡ resolution_of_lines i part j m n lines
resolution_old i part j m n lines more p q =
    ap (λ o. of_two (from_two (resolution i part j [] [])) o (numbered (stated (lines ++ more)) n)) (stated_old lines more m p)
    ∙ ap (of_two (from_two (resolution i part j [] [])) (numbered (stated lines) m)) (stated_old lines more n q)

covered_by_more : (These Those : Clause → Type 0) (c : Clause) → ((d : Clause) → These d → Those d) → IsCoveredBy These c → IsCoveredBy Those c
covered_by_more These Those c more (inl t) = inl t
covered_by_more These Those c more (inr o) = inr (record { by = o.by; among = more o.by o.among; subsumes = o.subsumes })

-- ---- legal journals

module _ (s : Setting) where
  -- where m hung before the entry
  abbrev Before : List Entry → Entry → ℕ → ℕ
  Before past e m = stem e.event (nodes past) m

  listed_more : (past : List Entry) (e : Entry) (m i : ℕ) → listed s past (Before past e m) i ≡ true → listed s (e ∷ past) m i ≡ true
  listed_more past e m i h = or_right (lists e.event (nodes past) (steps s past) (on_path past m) m i) (listed s past (Before past e m) i) h

  -- clause i is activated now at m, where it was chosen
  record IsNow (past : List Entry) (ev : Event) (m i : ℕ) : Type 0 where
    is : ev ≡ Activate m
    chosen_there : chosen past m ≡ Some i

  -- what was worked off was so before, or is activated now
  worked_cases : (past : List Entry) (e : Entry) → IsLegalJournal s (e ∷ past) → (m i : ℕ) → m < nodes (e ∷ past) → worked (e ∷ past) m i ≡ true → IsNow past e.event m i ⊎ (worked past (Before past e m) i ≡ true)
  worked_cases past e legal m i there h =
      by_event e.event legal.0.asked there (or_cases (activates e.event (chosen past) (on_path past (Before past e m)) i) (worked past (Before past e m) i) h)
    where
      by_event : (ev : Event) → IsAsked s past e.by ev → m < nodes past + nodes_of ev → (activates ev (chosen past) (on_path past (stem ev (nodes past) m)) i ≡ true) ⊎ (worked past (stem ev (nodes past) m) i ≡ true)
          → IsNow past ev m i ⊎ (worked past (stem ev (nodes past) m) i ≡ true)
      by_event ev a low (inr old) = inr old
      by_event (Activate node) a low (inl now) =
          let p = and_parts (on_path past m node) (is_number (chosen past node) i) now in
          let at = leaf_path s past legal.1 m node (omega (arith, low)) a.holds.leaf p.0 in
          inl (record { is = ap Activate at; chosen_there = subst (λ n. chosen past n ≡ Some i) at (number_is (chosen past node) i p.1) })
      by_event _ a low (inl now) = absurd (false≢true now)

  -- a node hangs where it did when a clause is activated there
  stays : (past : List Entry) (ev : Event) (m : ℕ) → ev ≡ Activate m → stem ev (nodes past) m ≡ m
  stays past ev m is = ap (λ v. stem v (nodes past) m) is

  worked_kept : (past : List Entry) → IsLegalJournal s past → (m i : ℕ) → m < nodes past → worked past m i ≡ true → kept s past m i ≡ true
  worked_kept [] legal m i there h = absurd (false≢true h)
  worked_kept (e ∷ past) legal m i there h = listed_more past e m i (elim (worked_cases past e legal m i there h) [
    | inl now ↦ subst (λ k. listed s past k i ≡ true) (sym (stays past e.event m now.is)) (chosen_listed s past legal.1 m i now.chosen_there).1
    | inr old ↦ worked_kept past legal.1 (Before past e m) i (stem_there s past legal.1 e.by e.event m legal.0.asked there) old
  ])

  -- the inferences of the two clauses are covered at m
  abbrev AreCovered : List Entry → ℕ → ℕ → ℕ → Type 0
  AreCovered past m i j = AreCoveredBy (IsListed s past m) (ledger s past) i j

  covered_more : (past : List Entry) (e : Entry) → IsLegalJournal s (e ∷ past) → (m i j : ℕ) → kept s past (Before past e m) i ≡ true → kept s past (Before past e m) j ≡ true
      → AreCovered past (Before past e m) i j → AreCovered (e ∷ past) m i j
  covered_more past e legal m i j p q h x part y st g =
      let one = listed_within s past legal.1 (Before past e m) i p in
      let two = listed_within s past legal.1 (Before past e m) j q in
      covered_by_more (IsListed s past (Before past e m)) (IsListed s (e ∷ past) m) st.clause
      (λ d l. (
        l.0,
        record {
          lists = listed_more past e m l.0 l.1.lists;
          line = l.1.line;
          found = numbered_more (ledger s past) (lines_of e.event) l.0 l.1.line l.1.found;
          is = l.1.is;
        },
      ))
      (h x part y st (sym (resolution_old x part y i j (ledger s past) (lines_of e.event) one.1 two.1) ∙ g))

  -- the clause is activated now at m, or was worked off before
  abbrev AtHand : List Entry → ℕ → ℕ → ℕ → Type 0
  AtHand past m clause i = (i ≡ clause) ⊎ (worked past m i ≡ true)

  module _ (past : List Entry) (legal : IsLegalJournal s past) (m clause : ℕ) (c : chosen past m ≡ Some clause) where
    node_within : m < nodes past
    node_within = (chosen_listed s past legal m clause c).0

    hand_kept : (i : ℕ) → AtHand past m clause i → kept s past m i ≡ true
    hand_kept i (inl same) = subst (λ n. kept s past m n ≡ true) (sym same) (chosen_listed s past legal m clause c).1
    hand_kept i (inr old) = worked_kept past legal m i node_within old

    premise : (i : ℕ) → AtHand past m clause i → (i ≡ clause) ⊎ IsPartner s past m i
    premise i (inl same) = inl same
    premise i (inr old) = inr (record { worked = old; kept = worked_kept past legal m i node_within old })

    -- the inferences of the clause that is activated are covered
    covered_now : (w i j : ℕ) → IsAsked s past w (Activate m) → AtHand past m clause i → AtHand past m clause j → (i ≡ clause) ⊎ (j ≡ clause) → AreCovered past m i j
    covered_now w i j a p q one =
        let f : Some a.clause ≡ Some clause = sym a.chosen ∙ c in
        let same : a.clause ≡ clause = cc in
        let covers = subst (λ n. (k l : ℕ) → IsPair s past m n k l → AreCoveredBy (IsListed s past m) (ledger s past) k l) same a.covered in
        covers i j (record { left = premise i p; right = premise j q; one = one })

  -- the inferences stay covered where one of the clauses is activated
  covered_by_now : (past : List Entry) (e : Entry) → IsLegalJournal s (e ∷ past) → (m clause i j : ℕ) → e.event ≡ Activate m → chosen past m ≡ Some clause → AtHand past m clause i → AtHand past m clause j → (i ≡ clause) ⊎ (j ≡ clause)
      → AreCovered (e ∷ past) m i j
  covered_by_now past e legal m clause i j is c a b one =
      let back = sym (stays past e.event m is) in
      covered_more past e legal m i j
      (subst (λ k. kept s past k i ≡ true) back (hand_kept past legal.1 m clause c i a))
      (subst (λ k. kept s past k j ≡ true) back (hand_kept past legal.1 m clause c j b))
      (subst (λ k. AreCovered past k i j) back (covered_now past legal.1 m clause c e.by i j (subst (IsAsked s past e.by) is legal.0.asked) a b one))

  same_clause : (past : List Entry) (m i j : ℕ) → chosen past m ≡ Some i → chosen past m ≡ Some j → j ≡ i
  same_clause past m i j a b = let e : Some j ≡ Some i = sym b ∙ a in cc

  -- the inferences of what was worked off are covered
  covered : (past : List Entry) → IsLegalJournal s past → (m i j : ℕ) → m < nodes past → worked past m i ≡ true → worked past m j ≡ true → AreCovered past m i j
  covered [] legal m i j there p q = absurd (false≢true p)
  covered (e ∷ past) legal m i j there p q =
      by_cases (λ a b. covered past legal.1 (Before past e m) i j before a b) (worked_cases past e legal m i there p) (worked_cases past e legal m j there q)
    where
      before : Before past e m < nodes past
      before = stem_there s past legal.1 e.by e.event m legal.0.asked there

      old_at : (k : ℕ) → e.event ≡ Activate m → worked past (Before past e m) k ≡ true → worked past m k ≡ true
      old_at k is h = subst (λ n. worked past n k ≡ true) (stays past e.event m is) h

      by_cases : (worked past (Before past e m) i ≡ true → worked past (Before past e m) j ≡ true → AreCovered past (Before past e m) i j)
          → IsNow past e.event m i ⊎ (worked past (Before past e m) i ≡ true) → IsNow past e.event m j ⊎ (worked past (Before past e m) j ≡ true) → AreCovered (e ∷ past) m i j
      by_cases earlier (inl a) (inl b) = covered_by_now past e legal m i i j a.is a.chosen_there (inl refl) (inl (same_clause past m i j a.chosen_there b.chosen_there)) (inl refl)
      by_cases earlier (inl a) (inr b) = covered_by_now past e legal m i i j a.is a.chosen_there (inl refl) (inr (old_at j a.is b)) (inl refl)
      by_cases earlier (inr a) (inl b) = covered_by_now past e legal m j i j b.is b.chosen_there (inr (old_at i b.is a)) (inl refl) (inr refl)
      by_cases earlier (inr a) (inr b) = covered_more past e legal m i j (worked_kept past legal.1 (Before past e m) i before a) (worked_kept past legal.1 (Before past e m) j before b) (earlier a b)

  pub closed : (past : List Entry) → IsLegalJournal s past → (m : ℕ) → m < nodes past → pick_at s past m ≡ None → IsSaturated s past m
  closed past legal m there none = record {
    done = done s past m legal none;
    covered = λ first second p q. covered past legal m first second there p.worked q.worked;
  }
