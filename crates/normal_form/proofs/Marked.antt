-- Numbers that are marked, one more and several, and lists with the same members.
use Rattle.std.proofs.Common.{◌≡◌, ℕ, Bool, true, false, ◌||◌, ◌==◌, cond, nat_eq, List, [], ◌∷◌, ◌++◌, Some, refl, sym, ap, ◌∙◌}
use Rattle.std.specs.Prelude.{is_some}
use Rattle.std.specs.List.{flat_map}
use Rattle.std.specs.HashMap.{get, Updates}
use Rattle.std.proofs.Math.Bool.{or_assoc}
use Rattle.std.proofs.lemmas.Bool.{eqb-true, eq-eqb}
use Rattle.std.proofs.lemmas.List.Folds.{list_any-append}
use Rattle.std.proofs.lemmas.Option.{same_Some}
use Rattle.spl_terms.specs.Hashes.{Places}
use Rattle.formulas.specs.Bindings.{is_member}
use Rattle.normal_form.specs.Marking.{is_marked, HasOwnNumbers, AreMarked, MarksMore}
use Rattle.normal_form.proofs.Members.{member_flat_map}
use Rattle.normal_form.proofs.Blocks.{found, same_answers}

or-none : (b : Bool) → b ≡ (b || false)
or-none true = refl
or-none false = refl

pub marks_nothing : (old : Places) → MarksMore old old []
marks_nothing old = record { members = λ u. or-none (is_marked old u); own = λ h. h }

member_append : (u : ℕ) (vs ws : List ℕ) → is_member u (vs ++ ws) ≡ (is_member u vs || is_member u ws)
member_append u vs ws = list_any-append (λ w. u == w) vs ws

turned : (k u : ℕ) → nat_eq k u ≡ (u == k)
turned k u = same_answers (nat_eq k u) (u == k) (λ h. eq-eqb u k (sym (eqb-true k u h))) (λ h. eq-eqb k u (sym (eqb-true u k h)))

-- one more number
pub marks_one : (old new : Places) (n : ℕ) → Updates nat_eq old new n (Some n) → MarksMore old new (n ∷ [])
marks_one old new n u = record {
  members = λ v. ap is_some (u.0 v) ∙ at v (nat_eq n v) ∙ (λ i. is_marked old v || or-none (turned n v i) i);
  own = λ own v w e. kept own v w (nat_eq n v) refl (sym (u.0 v) ∙ e);
}
  where
    swap : (a b : Bool) → (a || b) ≡ (b || a)
    swap true true = refl
    swap true false = refl
    swap false true = refl
    swap false false = refl

    at : (v : ℕ) (t : Bool) → is_some (cond t (Some n) (get nat_eq old v)) ≡ (is_marked old v || t)
    at v true = swap true (is_marked old v)
    at v false = or-none (is_marked old v)

    kept : HasOwnNumbers old → (v w : ℕ) (t : Bool) → nat_eq n v ≡ t → cond t (Some n) (get nat_eq old v) ≡ Some w → w ≡ v
    kept own v w true h e = sym (same_Some n w e) ∙ eqb-true n v h
    kept own v w false h e = own v w e

pub marks_both : (a b c : Places) (vs ws : List ℕ) → MarksMore a b vs → MarksMore b c ws → MarksMore a c (vs ++ ws)
marks_both a b c vs ws h k = record {
  members = λ u. k.members u ∙ ap (λ t. t || is_member u ws) (h.members u) ∙ or_assoc (is_marked a u) (is_member u vs) (is_member u ws) ∙ ap (λ t. is_marked a u || t) (sym (member_append u vs ws));
  own = λ o. k.own (h.own o);
}

pub marked_more : (a b : Places) (vs ws : List ℕ) → AreMarked a vs → MarksMore a b ws → AreMarked b (vs ++ ws)
marked_more a b vs ws h k = record {
  members = λ u. k.members u ∙ ap (λ t. t || is_member u ws) (h.members u) ∙ sym (member_append u vs ws);
  own = k.own h.own;
}

-- ---- lists with the same members

pub same_marked : (a : Places) (vs ws : List ℕ) → ((u : ℕ) → is_member u vs ≡ is_member u ws) → AreMarked a vs → AreMarked a ws
same_marked a vs ws same h = record { members = λ u. h.members u ∙ same u; own = h.own }

pub same_spread : (f : ℕ → List ℕ) (vs ws : List ℕ) → ((u : ℕ) → is_member u vs ≡ is_member u ws) → (u : ℕ) → is_member u (flat_map f vs) ≡ is_member u (flat_map f ws)
same_spread f vs ws same u = same_answers (is_member u (flat_map f vs)) (is_member u (flat_map f ws)) (forth vs ws same) (forth ws vs (λ v. sym (same v)))
  where
    forth : (xs ys : List ℕ) → ((v : ℕ) → is_member v xs ≡ is_member v ys) → is_member u (flat_map f xs) ≡ true → is_member u (flat_map f ys) ≡ true
    forth xs ys s h = let r = found f u xs h in member_flat_map f r.at u ys (sym (s r.at) ∙ r.among) r.inside
