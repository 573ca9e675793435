-- Lists of inferences, as they grow.
use Rattle.std.proofs.Common.{◌≡◌, ◌⊎◌, inl, inr, ℕ, zero, suc, ◌+◌, ◌<◌, ◌≤◌, true, List, [], ◌∷◌, ◌++◌, length, Option, Some, None, refl, sym, ◌∙◌, ap, subst, arith, append_assoc}
use Rattle.std.specs.Prelude.{IsSomeAnd, min, slice_index_or}
use Rattle.std.specs.List.{slice_get}
use Rattle.std.proofs.lemmas.Bool.{cases_lt}
use Rattle.std.proofs.lemmas.List.{append-nil}
use Rattle.spl_terms.specs.declared.clause.Part.{Part}
use Rattle.spl_terms.specs.declared.clause.Part.TheVariants.{Constraint, Antecedent, Succedent}
use Rattle.spl_terms.specs.Clauses.{part_of, clause_symbols}
use Rattle.case_rounds.specs.InLaws.{in_either, in_one}
use Rattle.proof_steps.specs.declared.step.Statement.{Statement}
use Rattle.proof_steps.specs.declared.step.Line.{Line}
use Rattle.proof_steps.specs.Steps.{is_negative}
use Rattle.case_journal.specs.ListLaws.{get_more, get_right}
use Rattle.journal_laws.specs.Batches.{IsStated}
use Rattle.case_view.specs.declared.kept.Kept.{Kept}
use Rattle.case_view.specs.Views.{IsIn, conclusion_of}
use Rattle.case_rounds.specs.Rounds.{IsResolvent, AreInferences, Infers, HasAt, IsLarge}
use Rattle.case_rounds.proofs.Places.{made}

-- ---- items of a longer list

pub in_left : {A : Type 0} (xs ys : List A) (x : A) → IsIn xs x → IsIn (xs ++ ys) x
in_left xs ys x h = (h.0, get_more xs ys h.0 x h.1)

pub in_right : {A : Type 0} (xs ys : List A) (x : A) → IsIn ys x → IsIn (xs ++ ys) x
in_right xs ys x h = (length xs + h.0, get_right xs ys h.0 ∙ h.1)

pub stated_in : (lines : List Line) (l : Line) → IsIn lines l → IsStated lines l.stated.clause
stated_in lines l h = record { place = h.0; line = l; found = h.1; is = refl }

-- ---- more inferences

pub infers_self : (p q : Kept) (lines : List Line) → Infers p q lines lines
infers_self p q lines = record { more = []; is = sym (append-nil lines); each = λ l h. absurd (let e = h.1 in cc) }

pub infers_more : (p q : Kept) (a b c : List Line) → Infers p q a b → Infers p q b c → Infers p q a c
infers_more p q a b c f g = record {
  more = f.more ++ g.more;
  is = g.is ∙ (ap (λ xs. xs ++ g.more) f.is ∙ append_assoc a f.more g.more);
  each = λ l h. elim (in_either f.more g.more l h) [ inl x ↦ f.each l x | inr y ↦ g.each l y ];
}

pub has_more : (p q : Kept) (i : ℕ) (part : Part) (j : ℕ) (a b : List Line) → Infers p q a b → HasAt a p q i part j → HasAt b p q i part j
has_more p q i part j a b f h s e =
    let t = h s e in
    record { place = t.place; line = t.line; found = subst (λ xs. slice_get xs t.place ≡ Some t.line) (sym f.is) (get_more a f.more t.place t.line t.found); is = t.is }

pub infers_one : (p q : Kept) (old new : List Line) (l : Line) → new ≡ old ++ l ∷ [] → IsResolvent p q l → Infers p q old new
infers_one p q old new l is h = record { more = l ∷ []; is = is; each = λ x at. subst (IsResolvent p q) (in_one l x at) h }

pub has_one : (p q : Kept) (i : ℕ) (part : Part) (j : ℕ) (old new : List Line) (l : Line) → new ≡ old ++ l ∷ [] → conclusion_of i part j p q ≡ Some l.stated → HasAt new p q i part j
has_one p q i part j old new l is made s e =
    let x : Some l.stated ≡ Some s = sym made ∙ e in
    let same : l.stated ≡ s = cc in
    let at = in_right old (l ∷ []) l (0, refl) in
    record { place = at.0; line = l; found = subst (λ xs. slice_get xs at.0 ≡ Some l) (sym is) at.1; is = ap (λ t. t.clause) same }

pub has_none : (p q : Kept) (i : ℕ) (part : Part) (j : ℕ) (lines : List Line) → conclusion_of i part j p q ≡ None → HasAt lines p q i part j
has_none p q i part j lines none s e = absurd (cc)

-- ---- rows of places

-- what is concluded at the first places
abbrev pub HasRow : List Line → Kept → Kept → ℕ → Part → ℕ → Type 0
HasRow lines p q i part count = (j : ℕ) → j < count → HasAt lines p q i part j

abbrev pub HasRows : List Line → Kept → Kept → ℕ → Type 0
HasRows lines p q count = (i : ℕ) → i < count → (part : Part) (j : ℕ) → HasAt lines p q i part j

pub row_none : (lines : List Line) (p q : Kept) (i : ℕ) (part : Part) → HasRow lines p q i part 0
row_none lines p q i part j low = absurd (omega (arith, low))

pub row_more : (a b : List Line) (p q : Kept) (i : ℕ) (part : Part) (count : ℕ) → Infers p q a b → HasRow a p q i part count → HasAt b p q i part count → HasRow b p q i part (count + 1)
row_more a b p q i part count f before here j low = elim (cases_lt j count) [
  | inl less ↦ has_more p q i part j a b f (before j less)
  | inr more ↦ (let same : count ≡ j = omega (arith, low, more) in subst (HasAt b p q i part) same here)
]

pub row_all : (lines : List Line) (p q : Kept) (i : ℕ) (part : Part) (count : ℕ) → length (part_of q.stated.clause part) ≤ count → HasRow lines p q i part count → (j : ℕ) → HasAt lines p q i part j
row_all lines p q i part count long h j s e = h j (let m = made i part j p.stated q.stated s e in omega (arith, m.second, long)) s e

positive : (part : Part) → is_negative part ≡ true → part ≡ Succedent → ⊥
positive Constraint e q = absurd (cc)
positive Antecedent e q = absurd (cc)
positive Succedent e q = absurd (cc)

pub both_parts : (a b : List Line) (p q : Kept) (i : ℕ) → Infers p q a b → ((j : ℕ) → HasAt a p q i Constraint j) → ((j : ℕ) → HasAt b p q i Antecedent j) → (part : Part) (j : ℕ) → HasAt b p q i part j
both_parts a b p q i f h k Constraint j = has_more p q i Constraint j a b f (h j)
both_parts a b p q i f h k Antecedent j = k j
both_parts a b p q i f h k Succedent j = λ s e. absurd (positive Succedent (made i Succedent j p.stated q.stated s e).negative refl)

pub rows_none : (lines : List Line) (p q : Kept) → HasRows lines p q 0
rows_none lines p q i low = absurd (omega (arith, low))

pub rows_more : (a b : List Line) (p q : Kept) (count : ℕ) → Infers p q a b → HasRows a p q count → ((part : Part) (j : ℕ) → HasAt b p q count part j) → HasRows b p q (count + 1)
rows_more a b p q count f before here i low = elim (cases_lt i count) [
  | inl less ↦ (λ part j. has_more p q i part j a b f (before i less part j))
  | inr more ↦ (let same : count ≡ i = omega (arith, low, more) in subst (λ n. (part : Part) (j : ℕ) → HasAt b p q n part j) same here)
]

pub rows_all : (lines : List Line) (p q : Kept) (count : ℕ) → length (part_of p.stated.clause Succedent) ≤ count → HasRows lines p q count → (i : ℕ) (part : Part) (j : ℕ) → HasAt lines p q i part j
rows_all lines p q count long h i part j s e = h i (let m = made i part j p.stated q.stated s e in omega (arith, m.first, long)) part j s e

pub are_inferences : (p q : Kept) (lines : List Line) → Infers p q [] lines → AreInferences p q lines
are_inferences p q lines f l h = f.each l (subst (λ xs. IsIn xs l) f.is h)

pub large_at : (p q : Kept) (i : ℕ) (part : Part) (j symbols : ℕ) (o : Option Statement) → conclusion_of i part j p q ≡ o → IsSomeAnd o (λ s. (4096 < clause_symbols s.clause) × (symbols ≡ min (clause_symbols s.clause) 1000000)) → IsLarge p q symbols
large_at p q i part j symbols None is h = absurd h
large_at p q i part j symbols (Some c) is h = record { i = i; part = part; j = j; conclusion = c; concluded = is; large = h.0; count = h.1 }

pub in_head : {A : Type 0} (y : A) (ys : List A) (x : A) → IsIn (y ∷ ys) x → (y ≡ x) ⊎ IsIn ys x
in_head y ys x (zero, at) = let q : y ≡ x = cc in inl q
in_head y ys x (suc k, at) = inr (k, at)

pub index_here : {A : Type 0} (xs : List A) (k : ℕ) (d : A) → k < length xs → slice_get xs k ≡ Some (slice_index_or xs k d)
index_here [] k d h = absurd (omega (arith, h))
index_here (y ∷ xs) zero d h = refl
index_here (y ∷ xs) (suc k) d h = index_here xs k d (omega (arith, h))

pub none_left : (xs : List Line) → length xs ≡ 0 → xs ≡ []
none_left [] e = refl
none_left (x ∷ xs) e = absurd (omega (arith, e))
