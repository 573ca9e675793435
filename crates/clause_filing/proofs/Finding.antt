-- Values found under a key, and under the keys of all atoms of a clause.
use Rattle.std.specs.Prelude.{Contains}
use Rattle.std.specs.List.{slice_get}
use Rattle.std.proofs.Common.{◌≡◌, inl, inr, ℕ, ◌+◌, ◌-◌, ◌%◌, ◌^◌, true, false, List, [], ◌∷◌, ◌++◌, length, Some, refl, sym, ap, ◌∙◌, subst, arith}
use Rattle.std.proofs.lemmas.List.Elements.{Contains-append_left, Contains-append_right}
use Rattle.std.proofs.Math.Nat.{add_comm}
use Rattle.spl_terms.specs.Hashes.{mixed, term_hash}
use Rattle.spl_terms.specs.Lists.{numbered}
use Rattle.spl_terms.specs.SameLaws.{flipped, same_cases, same_turned}
use Rattle.spl_terms.specs.declared.atom.Atom.{Atom}
use Rattle.spl_terms.specs.declared.atom.Atom.TheVariants.{Holds, Equal}
use Rattle.spl_terms.specs.declared.clause.Part.{Part}
use Rattle.spl_terms.specs.declared.clause.Part.TheVariants.{Constraint, Antecedent, Succedent}
use Rattle.spl_terms.specs.declared.clause.Clause.{Clause}
use Rattle.spl_terms.specs.Clauses.{is_same, part_of}
use Rattle.clause_filing.specs.declared.filing.Entry.{Entry}
use Rattle.clause_filing.specs.FilingLaws.{IsGoingBack, going_back_starts, going_back_more, HoldUnderFirst, under_first_more, within_self, holds_of_clause}
use Rattle.clause_filing.specs.Filings.{key, side, before_arrow, after_arrow, clause_mask, is_within, IsNewest, IsFiled, IsFiledClause, IsFiledUnderAll, AddsValues, HasValues, HaveValues, CanMeet}

-- ---- values

pub adds_self : (values : List ℕ) → AddsValues values values
adds_self values = λ v h. h

pub adds_more : (a b c : List ℕ) → AddsValues a b → AddsValues b c → AddsValues a c
adds_more a b c f g = λ v h. g v (f v h)

pub adds_one : (values : List ℕ) (n : ℕ) → AddsValues values (values ++ n ∷ [])
adds_one values n = λ v h. Contains-append_left values (n ∷ []) v h

has_last : (values : List ℕ) (n : ℕ) → Contains (values ++ n ∷ []) n
has_last values n = Contains-append_right values (n ∷ []) n (0, omega arith, refl)

-- ---- under one key

-- the entries of the key from the newest down to this number were looked at
pub record IsAdding (entries : List Entry) (key mask : ℕ) (old new : List ℕ) (number : ℕ) : Type 0 where
  pub adds : AddsValues old new
  pub passed : IsGoingBack (Contains new) entries key mask number

pub adding_starts : (entries : List Entry) (key mask number : ℕ) (values : List ℕ) → IsNewest entries key (length entries) number → IsAdding entries key mask values values number
adding_starts entries key mask number values w = record { adds = adds_self values; passed = going_back_starts (Contains values) entries key mask number w }

adding_more : (entries : List Entry) (key mask : ℕ) (old values new : List ℕ) (number : ℕ) (e : Entry) → numbered entries number ≡ Some e → IsNewest entries e.key (number - 1) e.older → AddsValues values new → (is_within e.mask mask ≡ true → Contains new e.value) → IsAdding entries key mask old values number → IsAdding entries key mask old new e.older
adding_more entries key mask old values new number e at newest more here u = record {
  adds = adds_more old values new u.adds more;
  passed = going_back_more (Contains values) (Contains new) entries key mask number e at newest more here u.passed;
}

pub adding_one : (entries : List Entry) (key mask : ℕ) (old values new : List ℕ) (number : ℕ) (e : Entry) → numbered entries number ≡ Some e → IsNewest entries e.key (number - 1) e.older → new ≡ values ++ e.value ∷ [] → IsAdding entries key mask old values number → IsAdding entries key mask old new e.older
adding_one entries key mask old values new number e at newest is u = adding_more entries key mask old values new number e at newest (subst (AddsValues values) (sym is) (adds_one values e.value)) (λ h. subst (λ vs. Contains vs e.value) (sym is) (has_last values e.value)) u

pub adding_none : (entries : List Entry) (key mask : ℕ) (old values : List ℕ) (number : ℕ) (e : Entry) → numbered entries number ≡ Some e → IsNewest entries e.key (number - 1) e.older → is_within e.mask mask ≡ false → IsAdding entries key mask old values number → IsAdding entries key mask old values e.older
adding_none entries key mask old values number e at newest outside u = adding_more entries key mask old values values number e at newest (adds_self values) (λ h. absurd (let c : true ≡ false = sym h ∙ outside in cc)) u

-- ---- under the keys of atoms

-- the values of the first atoms were added
pub record IsAddingOf (entries : List Entry) (side : ℕ) (atoms : List Atom) (mask : ℕ) (old new : List ℕ) (i : ℕ) : Type 0 where
  pub adds : AddsValues old new
  pub all : HoldUnderFirst (Contains new) entries side atoms mask i

pub adding_of_starts : (entries : List Entry) (side : ℕ) (atoms : List Atom) (mask : ℕ) (values : List ℕ) → IsAddingOf entries side atoms mask values values 0
adding_of_starts entries side atoms mask values = record { adds = adds_self values; all = λ k a h e. absurd (omega (arith, h)) }

has_more : (entries : List Entry) (key mask : ℕ) (a b : List ℕ) → AddsValues a b → HasValues entries key mask a → HasValues entries key mask b
has_more entries key mask a b adds h = λ y e at of in_mask. adds e.value (h y e at of in_mask)

have_more : (entries : List Entry) (side : ℕ) (atoms : List Atom) (mask : ℕ) (a b : List ℕ) → AddsValues a b → HaveValues entries side atoms mask a → HaveValues entries side atoms mask b
have_more entries side atoms mask a b adds h = λ k x e. has_more entries (key side x) mask a b adds (h k x e)

pub adding_of_more : (entries : List Entry) (side : ℕ) (atoms : List Atom) (mask : ℕ) (old a b : List ℕ) (i q : ℕ) (x : Atom) → IsAddingOf entries side atoms mask old a i → AddsValues a b → HasValues entries q mask b → q ≡ key side x → slice_get atoms i ≡ Some x → IsAddingOf entries side atoms mask old b (i + 1)
adding_of_more entries side atoms mask old a b i q x u adds has is here = record {
  adds = adds_more old a b u.adds adds;
  all = under_first_more (Contains a) (Contains b) entries side atoms mask i q x adds u.all has is here;
}

-- ---- what was filed for a clause

pub found_clause : (entries : List Entry) (c : Clause) (mask : ℕ) (w x y z : List ℕ) → mask ≡ clause_mask c → HasValues entries 0 mask w
    → AddsValues w x → HaveValues entries after_arrow c.succedent mask x
    → AddsValues x y → HaveValues entries before_arrow c.antecedent mask y
    → AddsValues y z → HaveValues entries before_arrow c.constraint mask z
    → (v : ℕ) → IsFiledClause entries c v → Contains z v
found_clause entries c mask w x y z is one wx two xy three yz four v f =
    let xz = adds_more x y z xy yz in
    holds_of_clause (Contains z) entries c mask is
    (has_more entries 0 mask w z (adds_more w x z wx xz) one)
    (have_more entries after_arrow c.succedent mask x z xz two)
    (have_more entries before_arrow c.antecedent mask y z yz three)
    four v f

-- ---- clauses that can resolve

flipped_key : (s : ℕ) (a : Atom) → key s (flipped a) ≡ key s a
flipped_key s (Holds p ts) = refl
flipped_key s (Equal t u) = ap (λ n. (mixed 4 (n % 2 ^ 64) + s) % 2 ^ 64) (add_comm (term_hash u) (term_hash t))

same_key : (s : ℕ) (a b : Atom) → is_same a b ≡ true → key s a ≡ key s b
same_key s a b e = elim (same_cases a b e) [
  | inl h ↦ ap (key s) h
  | inr h ↦ sym (flipped_key s a) ∙ ap (key s) h
]

within_none : (mask : ℕ) → mask ≡ 0 → is_within mask 0 ≡ true
within_none mask none = within_self mask 0 none

-- what is filed under an atom is found under one that is the same
found_same : (entries : List Entry) (s : ℕ) (a b : Atom) (values : List ℕ) (v : ℕ) → is_same a b ≡ true → IsFiled entries (key s a) v 0 → HasValues entries (key s b) 0 values → Contains values v
found_same entries s a b values v same f has = subst (Contains values) f.4 (has f.0 f.1 f.2 (f.3 ∙ same_key s a b same) (within_none f.1.mask f.5))

pub found_partners : (entries : List Entry) (d : Clause) (x y z : List ℕ) → HaveValues entries after_arrow d.constraint 0 x
    → AddsValues x y → HaveValues entries after_arrow d.antecedent 0 y
    → AddsValues y z → HaveValues entries before_arrow d.succedent 0 z
    → (c : Clause) (v : ℕ) → IsFiledUnderAll entries c v → CanMeet c d → Contains z v
found_partners entries d x y z one xy two yz three c v filed (inl m) = found_same entries after_arrow m.a m.b z v m.same (filed Succedent m.i m.a m.left) (negative m.part m.before m.j m.b m.right)
  where
    negative : (part : Part) → side part ≡ before_arrow → (j : ℕ) (b : Atom) → slice_get (part_of d part) j ≡ Some b → HasValues entries (key after_arrow b) 0 z
    negative Constraint e j b at = have_more entries after_arrow d.constraint 0 x z (adds_more x y z xy yz) one j b at
    negative Antecedent e j b at = have_more entries after_arrow d.antecedent 0 y z yz two j b at
    negative Succedent e j b at = absurd (omega (arith, e))
found_partners entries d x y z one xy two yz three c v filed (inr m) =
    let own : IsFiled entries (key before_arrow m.b) v 0 = subst (λ s. IsFiled entries (key s m.b) v 0) m.before (filed m.part m.j m.b m.right) in
    found_same entries before_arrow m.b m.a z v (same_turned m.a m.b m.same) own (three m.i m.a m.left)
