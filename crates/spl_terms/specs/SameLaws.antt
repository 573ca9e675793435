-- Laws with their proofs, not definitions that a reader must believe: atoms that are the same up to exchanged sides.
use Rattle.std.proofs.Common.{◌≡◌, ◌⊎◌, inl, inr, ℕ, true, ◌&&◌, refl, sym, ap, ◌∙◌, subst}
use Rattle.std.proofs.lemmas.Bool.{false≢true, and_parts, and_from, or_cases, or_left, or_right}
use Rattle.spl_terms.specs.declared.term.Term.{Term}
use Rattle.spl_terms.specs.declared.atom.Atom.{Atom}
use Rattle.spl_terms.specs.declared.atom.Atom.TheVariants.{Holds, Equal}
use Rattle.spl_terms.specs.Terms.{term_eq}
use Rattle.spl_terms.specs.Clauses.{is_same, replace_in_atom}
use Rattle.spl_terms.specs.TermLaws.{symbol_eq-refl, symbol_eq-true, term_eq-refl, term_eq-true, terms_eq-refl, terms_eq-same}

-- an equation with its sides exchanged
abbrev pub flipped : Atom → Atom
flipped (Holds p ts) = Holds p ts
flipped (Equal s t) = Equal t s

-- atoms that are the same are equal, or the one is the other with its sides exchanged
pub same_cases : (a b : Atom) → is_same a b ≡ true → (a ≡ b) ⊎ (flipped a ≡ b)
same_cases (Holds p ss) (Holds q ts) e =
    let r = and_parts _ _ e in
    let h = symbol_eq-true p q r.0 in
    let k = terms_eq-same ss ts r.1 in
    inl (λ i. Holds (h i) (k i))
same_cases (Holds p ss) (Equal u v) e = absurd (false≢true e)
same_cases (Equal s t) (Holds q ts) e = absurd (false≢true e)
same_cases (Equal s t) (Equal u v) e = elim (or_cases _ _ e) [
  | inl here ↦ let r = and_parts _ _ here in let h = term_eq-true s u r.0 in let k = term_eq-true t v r.1 in inl (λ i. Equal (h i) (k i))
  | inr there ↦ let r = and_parts _ _ there in let h = term_eq-true s v r.0 in let k = term_eq-true t u r.1 in inr (λ i. Equal (k i) (h i))
]

pub same_self : (a : Atom) → is_same a a ≡ true
same_self (Holds p ts) = and_from _ _ (symbol_eq-refl p) (terms_eq-refl ts)
same_self (Equal s t) = or_left _ _ (and_from _ _ (term_eq-refl s) (term_eq-refl t))

pub same_flipped : (a : Atom) → is_same a (flipped a) ≡ true
same_flipped (Holds p ts) = and_from _ _ (symbol_eq-refl p) (terms_eq-refl ts)
same_flipped (Equal s t) = or_right (term_eq s t && term_eq t s) _ (and_from _ _ (term_eq-refl s) (term_eq-refl t))

pub flipped_twice : (a : Atom) → flipped (flipped a) ≡ a
flipped_twice (Holds p ts) = refl
flipped_twice (Equal s t) = refl

pub same_turned : (a b : Atom) → is_same a b ≡ true → is_same b a ≡ true
same_turned a b e = elim (same_cases a b e) [
  | inl h ↦ subst (λ x. is_same x a ≡ true) h (same_self a)
  | inr h ↦ subst (λ x. is_same x a ≡ true) h (subst (λ y. is_same (flipped a) y ≡ true) (flipped_twice a) (same_flipped (flipped a)))
]

pub same_joined : (a b c : Atom) → is_same a b ≡ true → is_same b c ≡ true → is_same a c ≡ true
same_joined a b c e f = elim (same_cases a b e) [
  | inl h ↦ subst (λ x. is_same x c ≡ true) (sym h) f
  | inr h ↦ elim (same_cases b c f) [
    | inl k ↦ subst (λ x. is_same a x ≡ true) k e
    | inr k ↦ subst (λ x. is_same a x ≡ true) (sym (flipped_twice a) ∙ ap flipped h ∙ k) (same_self a)
  ]
]

-- ---- under a substitution

pub flipped-replace : (g : ℕ → Term) (a : Atom) → flipped (replace_in_atom g a) ≡ replace_in_atom g (flipped a)
flipped-replace g (Holds p ts) = refl
flipped-replace g (Equal s t) = refl

pub same-replace : (g : ℕ → Term) (a b : Atom) → is_same a b ≡ true → is_same (replace_in_atom g a) (replace_in_atom g b) ≡ true
same-replace g a b e = elim (same_cases a b e) [
  | inl h ↦ subst (λ x. is_same (replace_in_atom g a) (replace_in_atom g x) ≡ true) h (same_self (replace_in_atom g a))
  | inr h ↦ subst (λ x. is_same (replace_in_atom g a) (replace_in_atom g x) ≡ true) h (subst (λ x. is_same (replace_in_atom g a) x ≡ true) (flipped-replace g a) (same_flipped (replace_in_atom g a)))
]
