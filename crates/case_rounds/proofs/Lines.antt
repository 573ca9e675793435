-- The round's lines, as they grow, and what they cover.
use Rattle.std.proofs.Common.{◌≡◌, ◌⊎◌, inl, inr, ℕ, zero, suc, ◌+◌, ◌-◌, ◌<◌, ◌≤◌, Bool, true, false, ◌&&◌, List, [], ◌∷◌, ◌++◌, length, Some, refl, sym, ◌∙◌, ap, subst, arith, append_assoc, length-append}
use Rattle.std.specs.Prelude.{IsSomeAnd, Contains}
use Rattle.std.specs.List.{slice_get}
use Rattle.std.proofs.lemmas.Bool.{cases_lt, cases_Bool, and_parts}
use Rattle.std.proofs.lemmas.List.{append-nil}
use Rattle.spl_terms.specs.declared.atom.Atom.{Atom}
use Rattle.spl_terms.specs.declared.clause.Clause.{Clause}
use Rattle.spl_terms.specs.Clauses.{is_empty, in_order, renumbered, no_atoms, IsEmpty}
use Rattle.spl_truth.specs.Redundancy.{Subsumes}
use Rattle.spl_truth.specs.SubsumptionLaws.{subsumes_itself}
use Rattle.proof_steps.specs.declared.step.Line.{Line}
use Rattle.proof_steps.specs.Covering.{IsVariant}
use Rattle.case_journal.specs.Journal.{last_line}
use Rattle.case_journal.specs.ListLaws.{get_more, get_right}
use Rattle.case_view.specs.declared.kept.Kept.{Kept}
use Rattle.case_view.specs.declared.kept.Case.{Case}
use Rattle.case_rounds.specs.declared.halt.Halt.{Halt}
use Rattle.case_rounds.specs.declared.halt.Halt.TheVariants as halts
use Rattle.case_view.specs.Views.{IsIn, IsOrdered, IsPartnerOf}
use Rattle.case_rounds.specs.Rounds.{Extends, IsResolvent, HasAll, IsStopOf, IsPremiseOf, IsPremiseAt, IsPairOf, IsLineOf, AreLinesOf, IsRound, IsListedOrStated, IsCoveredIn, Covers, IsHaltOf}
use Rattle.case_rounds.proofs.Places.{made}
use Rattle.case_rounds.specs.InLaws.{in_either, in_one}
use Rattle.case_rounds.proofs.Rows.{in_right, stated_in}

-- ---- extending

pub extends_self : (lines : List Line) → Extends lines lines
extends_self lines = record { more = []; is = sym (append-nil lines) }

pub extends_more : (a b c : List Line) → Extends a b → Extends b c → Extends a c
extends_more a b c f g = record { more = f.more ++ g.more; is = g.is ∙ (ap (λ xs. xs ++ g.more) f.is ∙ append_assoc a f.more g.more) }

pub extends_one : (old new : List Line) (l : Line) → new ≡ old ++ l ∷ [] → Extends old new
extends_one old new l is = record { more = l ∷ []; is = is }

among_extends : (v : Case) (a b : List Line) (c : Clause) → Extends a b → IsListedOrStated v a c → IsListedOrStated v b c
among_extends v a b c f (inl h) = inl h
among_extends v a b c f (inr h) = inr (record { place = h.place; line = h.line; found = subst (λ xs. slice_get xs h.place ≡ Some h.line) (sym f.is) (get_more a f.more h.place h.line h.found); is = h.is })

pub covered_extends : (v : Case) (a b : List Line) (c : Clause) → Extends a b → IsCoveredIn v a c → IsCoveredIn v b c
covered_extends v a b c f (inl t) = inl t
covered_extends v a b c f (inr h) = inr (record { by = h.by; among = among_extends v a b h.by f h.among; subsumes = h.subsumes })

pub covers_extends : (v : Case) (a b : List Line) (p q : Kept) → Extends a b → Covers v a p q → Covers v b p q
covers_extends v a b p q f h i part j s e = covered_extends v a b s.clause f (h i part j s e)

pub covers_from : (v : Case) (lines all : List Line) (p q : Kept) → HasAll all p q → ((l : Line) → IsIn all l → IsCoveredIn v lines l.stated.clause) → Covers v lines p q
covers_from v lines all p q has each i part j s e =
    let t = has i part j s e in
    subst (IsCoveredIn v lines) t.is (each t.line (t.place, t.found))

-- ---- a line that is kept

own_order : ((c : Clause) → renumbered (in_order c) ≡ in_order c) → (v : Case) (l : Line) → IsLineOf v l → renumbered l.stated.clause ≡ l.stated.clause
own_order stays v l h =
    let n = h.inference in
    let m = made n.i n.part n.j h.first.stated h.second.stated l.stated n.concluded in
    subst (λ c. renumbered c ≡ c) (sym m.ordered) (stays m.whole)

no_variant : (c d : Clause) → renumbered c ≡ c → renumbered d ≡ d → ¬ (c ≡ d) → ¬ IsVariant c d
no_variant c d own other apart same = apart (sym own ∙ same ∙ other)

pub lines_none : (v : Case) → IsRound v []
lines_none v = record {
  are = record {
    each = λ l h. absurd (let e = h.1 in cc);
    new = λ l c h at. absurd (let e = h.1 in cc);
    apart = λ j k x y low a b. absurd (cc);
    full = λ k l low h. absurd (cc);
  };
  going = λ l h. absurd (let e = h.1 in cc);
}

pub at_end : (old : List Line) (l : Line) (k : ℕ) (x : Line) → slice_get (old ++ l ∷ []) k ≡ Some x → ((k < length old) × (slice_get old k ≡ Some x)) ⊎ ((k ≡ length old) × (l ≡ x))
at_end [] l zero x e = let h : l ≡ x = cc in inr (refl, h)
at_end [] l (suc k) x e = absurd (cc)
at_end (y ∷ ys) l zero x e = inl (omega arith, e)
at_end (y ∷ ys) l (suc k) x e = elim (at_end ys l k x e) [ inl h ↦ inl (omega (arith, h.0), h.1) | inr h ↦ inr (omega (arith, h.0), h.1) ]

pub kept_lines : ((c : Clause) → renumbered (in_order c) ≡ in_order c) → (v : Case) (old : List Line) (l : Line) → IsOrdered v → IsRound v old → IsLineOf v l → ((k : Kept) → IsIn v.listed k → ¬ (k.stated.clause ≡ l.stated.clause)) → ((x : Line) → IsIn old x → ¬ (x.stated.clause ≡ l.stated.clause))
    → AreLinesOf v (old ++ l ∷ [])
kept_lines stays v old l ordered round line none_listed none_before =
    let h = round.are in
    let own = own_order stays v l line in
    record {
      each = λ x at. elim (in_either old (l ∷ []) x at) [ inl before ↦ h.each x before | inr now ↦ subst (IsLineOf v) (in_one l x now) line ];
      new = λ x c at in_listed. elim (in_either old (l ∷ []) x at) [
        | inl before ↦ h.new x c before in_listed
        | inr now ↦ subst (λ (y : Line). ¬ IsVariant c.stated.clause y.stated.clause) (in_one l x now) (no_variant c.stated.clause l.stated.clause (ordered.listed c in_listed) own (none_listed c in_listed))
      ];
      apart = λ j k x y low a b. elim (at_end old l k y b) [
        | inl old_y ↦ elim (at_end old l j x a) [
          | inl old_x ↦ h.apart j k x y low old_x.1 old_y.1
          | inr now_x ↦ absurd (omega (arith, low, old_y.0, now_x.0))
        ]
        | inr now_y ↦ elim (at_end old l j x a) [
          | inl old_x ↦ subst (λ (z : Line). ¬ IsVariant x.stated.clause z.stated.clause) now_y.1 (no_variant x.stated.clause l.stated.clause (own_order stays v x (h.each x (j, old_x.1))) own (none_before x (j, old_x.1)))
          | inr now_x ↦ absurd (omega (arith, low, now_y.0, now_x.0))
        ]
      ];
      full = λ k x low at. elim (at_end old l k x at) [
        | inl before ↦ round.going x (k, before.1)
        | inr now ↦ absurd (omega (arith, low, now.0, length-append old (l ∷ [])))
      ];
    }

pub kept_round : (v : Case) (old new : List Line) (l : Line) → new ≡ old ++ l ∷ [] → IsRound v old → AreLinesOf v new → is_empty l.stated.clause ≡ false → IsRound v new
kept_round v old new l is round lines full = record {
  are = lines;
  going = λ x at. elim (in_either old (l ∷ []) x (subst (λ xs. IsIn xs x) is at)) [
    | inl before ↦ round.going x before
    | inr now ↦ subst (λ (y : Line). is_empty y.stated.clause ≡ false) (in_one l x now) full
  ];
}

pub kept_covered : (v : Case) (old new : List Line) (l : Line) → new ≡ old ++ l ∷ [] → IsCoveredIn v new l.stated.clause
kept_covered v old new l is =
    let at = in_right old (l ∷ []) l (0, refl) in
    inr (record { by = l.stated.clause; among = inr (stated_in new l (at.0, subst (λ xs. slice_get xs at.0 ≡ Some l) (sym is) at.1)); subsumes = subsumes_itself l.stated.clause })

last_is : (xs : List Line) (l : Line) → slice_get (xs ++ l ∷ []) (length (xs ++ l ∷ []) - 1) ≡ Some l
last_is xs l =
    let e : length (xs ++ l ∷ []) - 1 ≡ length xs + 0 = omega (arith, length-append xs (l ∷ [])) in
    ap (slice_get (xs ++ l ∷ [])) e ∙ get_right xs (l ∷ []) 0

pub kept_last : (old new : List Line) (l : Line) → new ≡ old ++ l ∷ [] → is_empty l.stated.clause ≡ true → IsSomeAnd (last_line new) (λ l. is_empty l.stated.clause ≡ true)
kept_last old new l is empty = subst (λ o. IsSomeAnd o (λ (x : Line). is_empty x.stated.clause ≡ true)) (sym (ap last_line is ∙ last_is old l)) empty

-- ---- a clause that is covered already

pub covered_listed : (v : Case) (lines : List Line) (c : Clause) → (k : Kept) × IsIn v.listed k × Subsumes k.stated.clause c → IsCoveredIn v lines c
covered_listed v lines c h = inr (record { by = h.0.stated.clause; among = inl (h.0, h.1, refl); subsumes = h.2 })

pub covered_line : (v : Case) (lines : List Line) (c : Clause) → (l : Line) × IsIn lines l × Subsumes l.stated.clause c → IsCoveredIn v lines c
covered_line v lines c h = inr (record { by = h.0.stated.clause; among = inr (stated_in lines h.0 h.1); subsumes = h.2 })

contains_at : (xs : List ℕ) (n : ℕ) → (c : Contains xs n) → slice_get xs c.0 ≡ Some n
contains_at [] n c = absurd (omega (arith, c.1))
contains_at (x ∷ xs) n (zero, low, is) = ap Some is
contains_at (x ∷ xs) n (suc k, low, is) = contains_at xs n (k, omega (arith, low), is)

-- ---- whether a clause is empty

no_atom : (atoms : List Atom) → no_atoms atoms ≡ true → atoms ≡ []
no_atom [] e = refl
no_atom (a ∷ atoms) e = absurd (cc)

-- a clause that is not told to be empty is not
pub full_clause : (b : Bool) (c : Clause) → (IsEmpty c → b ≡ true) → b ≡ false → is_empty c ≡ false
full_clause b c told e = elim (cases_Bool (is_empty c)) [
  | inl yes' ↦
      let p = and_parts (no_atoms c.constraint && no_atoms c.antecedent) (no_atoms c.succedent) yes' in
      let q = and_parts (no_atoms c.constraint) (no_atoms c.antecedent) p.0 in
      absurd (let x : false ≡ true = sym e ∙ told (no_atom c.constraint q.0, no_atom c.antecedent q.1, no_atom c.succedent p.1) in cc)
  | inr no' ↦ no'
]

pub empty_clause : (c : Clause) → IsEmpty c → is_empty c ≡ true
empty_clause c h = ap (λ xs. (no_atoms xs && no_atoms c.antecedent) && no_atoms c.succedent) h.0 ∙ (ap (λ xs. no_atoms xs && no_atoms c.succedent) h.1 ∙ ap no_atoms h.2)

-- ---- why a round stops

pub stops_first : (v : Case) (lines : List Line) (given other : Kept) (halt : Halt) → v.given ≡ Some given → IsRound v lines → IsPremiseOf v other → IsStopOf given other other.number halt → IsHaltOf v lines halt
stops_first v lines given other halts.Closed is round involved h = absurd h
stops_first v lines given other (halts.Big partner symbols) is round involved h = (round.are, record { given = given; is_given = is; other = other; involved = involved; is = h.0; large = inl h.1 })
stops_first v lines given other halts.Memory is round involved h = tt

pub stops_second : (v : Case) (lines : List Line) (given other : Kept) (halt : Halt) → v.given ≡ Some given → IsRound v lines → IsPremiseOf v other → IsStopOf other given other.number halt → IsHaltOf v lines halt
stops_second v lines given other halts.Closed is round involved h = absurd h
stops_second v lines given other (halts.Big partner symbols) is round involved h = (round.are, record { given = given; is_given = is; other = other; involved = involved; is = h.0; large = inr h.1 })
stops_second v lines given other halts.Memory is round involved h = tt

-- ---- all pairs

-- what the given clause and the other one conclude in both orders is covered
abbrev pub CoversBoth : Case → List Line → Kept → Kept → Type 0
CoversBoth v lines given other = Covers v lines given other × Covers v lines other given

pub both_extends : (v : Case) (a b : List Line) (given other : Kept) → Extends a b → CoversBoth v a given other → CoversBoth v b given other
both_extends v a b given other f h = (covers_extends v a b given other f h.0, covers_extends v a b other given f h.1)

-- of the clauses at the first n of these places
abbrev pub CoversFirst : Case → List Line → Kept → List ℕ → ℕ → Type 0
CoversFirst v lines given places n = (k p : ℕ) (other : Kept) → k < n → slice_get places k ≡ Some p → slice_get v.worked p ≡ Some other → CoversBoth v lines given other

-- one clause stands at a place, and is a premise
premise_same : (v : Case) (given : Kept) (places : List ℕ) (n : ℕ) (x y : Kept) → IsPremiseAt v given places n x → IsPremiseAt v given places n y → x ≡ y
premise_same v given places zero x y g h = sym g ∙ h
premise_same v given places (suc k) x y g h =
    let e : Some g.0 ≡ Some h.0 = sym g.1 ∙ h.1 in
    let p : g.0 ≡ h.0 = cc in
    let z : Some x ≡ Some y = sym g.2 ∙ (ap (slice_get v.worked) p ∙ h.2) in
    cc

pub premise_is : (v : Case) (given : Kept) (places : List ℕ) (n : ℕ) (x : Kept) → v.given ≡ Some given → IsPremiseAt v given places n x → IsPremiseOf v x
premise_is v given places zero x is h = inl (is ∙ ap Some h)
premise_is v given places (suc k) x is h = inr (h.0, h.2)

-- of the first n clauses that are tried
abbrev pub CoversPremises : Case → List Line → Kept → List ℕ → ℕ → Type 0
CoversPremises v lines given places n = (k : ℕ) (other : Kept) → k < n → IsPremiseAt v given places k other → CoversBoth v lines given other

pub premises_more : (v : Case) (a b : List Line) (given : Kept) (places : List ℕ) (n : ℕ) (other : Kept) → Extends a b → CoversPremises v a given places n → IsPremiseAt v given places n other → CoversBoth v b given other → CoversPremises v b given places (n + 1)
premises_more v a b given places n other f before at here k x low there = elim (cases_lt k n) [
  | inl less ↦ both_extends v a b given x f (before k x less there)
  | inr more ↦
      let same : k ≡ n = omega (arith, low, more) in
      subst (CoversBoth v b given) (premise_same v given places n other x at (subst (λ j. IsPremiseAt v given places j x) same there)) here
]

-- whatever is no partner concludes nothing
partners_cover : (v : Case) (lines : List Line) (given : Kept) (places : List ℕ) (n : ℕ) → v.given ≡ Some given → length places ≤ n → CoversFirst v lines given places n
    → ((i : ℕ) (other : Kept) → slice_get v.worked i ≡ Some other → IsPartnerOf v other → Contains places i) → (i : ℕ) (other : Kept) → slice_get v.worked i ≡ Some other → CoversBoth v lines given other
partners_cover v lines given places n is long first all i other at = (
  λ a part b s e. (found (record { given = given; is = is; resolves = inl (record { i = a; part = part; j = b; conclusion = s; is = e }) })).0 a part b s e,
  λ a part b s e. (found (record { given = given; is = is; resolves = inr (record { i = a; part = part; j = b; conclusion = s; is = e }) })).1 a part b s e,
)
  where
    found : IsPartnerOf v other → CoversBoth v lines given other
    found h =
        let c = all i other at h in
        first c.0 i other (omega (arith, c.1, long)) (contains_at places i c) at

pub all_pairs : (v : Case) (lines : List Line) (given : Kept) (places : List ℕ) (n : ℕ) → v.given ≡ Some given → length places < n → CoversPremises v lines given places n
    → ((i : ℕ) (other : Kept) → slice_get v.worked i ≡ Some other → IsPartnerOf v other → Contains places i) → (p q : Kept) → IsPairOf v p q → Covers v lines p q
all_pairs v lines given places n is long tried all p q pair = elim pair.one [
  | inl h ↦ subst (λ x. Covers v lines x q) (same p h) (with_given q pair.right).0
  | inr h ↦ subst (Covers v lines p) (same q h) (with_given p pair.left).1
]
  where
    same : (x : Kept) → v.given ≡ Some x → given ≡ x
    same x h = let e : Some given ≡ Some x = sym is ∙ h in cc

    with_given : (x : Kept) → IsPremiseOf v x → CoversBoth v lines given x
    with_given x (inl h) = subst (CoversBoth v lines given) (same x h) (tried 0 given (omega (arith, long)) refl)
    with_given x (inr at) = partners_cover v lines given places (length places) is (omega arith) (λ k p other low found there. tried (suc k) other (omega (arith, long, low)) (p, found, there)) all at.0 x at.1

-- ---- inferences with the given clause

pub line_first : (v : Case) (given other : Kept) (l : Line) → v.given ≡ Some given → IsPremiseOf v other → IsResolvent given other l → IsLineOf v l
line_first v given other l is involved h = record { first = given; second = other; pair = record { left = inl is; right = involved; one = inl is }; inference = h }

pub line_second : (v : Case) (given other : Kept) (l : Line) → v.given ≡ Some given → IsPremiseOf v other → IsResolvent other given l → IsLineOf v l
line_second v given other l is involved h = record { first = other; second = given; pair = record { left = involved; right = inl is; one = inr is }; inference = h }
