-- Soft typing: with Nat(zero), and List(nil) if Nat(nil), the constant zero is a number, and nil is not.
use Rattle.std.proofs.Common.{◌≡◌, ◌⊎◌, inl, inr, zero, suc, List, [], ◌∷◌, refl, sym, ap, ◌∙◌, subst, arith}
use Rattle.std.specs.Prelude.{Contains}
use Rattle.spl_terms.specs.declared.term.Kind.TheVariants.{Function, Sort}
use Rattle.spl_terms.specs.declared.term.Symbol.{Symbol}
use Rattle.spl_terms.specs.declared.term.Term.{Term, Var, App}
use Rattle.spl_terms.specs.declared.atom.Atom.TheVariants.{Holds}
use Rattle.spl_terms.specs.declared.clause.Clause.{Clause}
use Rattle.spl_truth.specs.OccurrenceLaws.{no_application, same_symbols}
use Rattle.calculus.specs.Sorts.{HasSort, free, by_variable, by_form, IsPutOff}
use Rattle.calculus.proofs.Words.{clause}

abbrev zero_symbol : Symbol
zero_symbol = record { number = 0; kind = Function }

abbrev nil_symbol : Symbol
nil_symbol = record { number = 1; kind = Function }

abbrev nat : Symbol
nat = record { number = 2; kind = Sort }

abbrev list : Symbol
list = record { number = 3; kind = Sort }

abbrev null : Term
null = App zero_symbol []

abbrev nil : Term
nil = App nil_symbol []

abbrev first : Clause
first = clause [] [] (Holds nat (null ∷ []) ∷ [])

abbrev second : Clause
second = clause (Holds nat (nil ∷ []) ∷ []) [] (Holds list (nil ∷ []) ∷ [])

abbrev input : List Clause
input = first ∷ second ∷ []

pub example_sort : HasSort input null nat
example_sort = by_form first nat zero_symbol [] [] (0, omega arith, refl) ((0, omega arith, refl), refl) refl (λ k x u T here there asks. absurd (cc))

the_one : {X : Type 0} (a x : X) → Contains (a ∷ []) x → a ≡ x
the_one a x (zero, h, e) = e
the_one a x (suc k, h, e) = absurd (omega (arith, h))

one_of_two : {X : Type 0} (a b x : X) → Contains (a ∷ b ∷ []) x → (a ≡ x) ⊎ (b ≡ x)
one_of_two a b x (zero, h, e) = inl e
one_of_two a b x (suc zero, h, e) = inr e
one_of_two a b x (suc (suc k), h, e) = absurd (omega (arith, h))

-- what the two clauses declare
declared : (c : Clause) (S : Symbol) (t : Term) → Contains input c → Contains c.succedent (Holds S (t ∷ [])) → ((S ≡ nat) × (t ≡ null)) ⊎ ((S ≡ list) × (t ≡ nil))
declared c S t among stands = elim (one_of_two first second c among) [
  | inl q ↦ (let e = the_one (Holds nat (null ∷ [])) (Holds S (t ∷ [])) (subst (λ (d : Clause). Contains d.succedent (Holds S (t ∷ []))) (sym q) stands) in inl ((let f : nat ≡ S = cc in sym f), (let g : null ≡ t = cc in sym g)))
  | inr q ↦ (let e = the_one (Holds list (nil ∷ [])) (Holds S (t ∷ [])) (subst (λ (d : Clause). Contains d.succedent (Holds S (t ∷ []))) (sym q) stands) in inr ((let f : list ≡ S = cc in sym f), (let g : nil ≡ t = cc in sym g)))
]

apart_symbols : (f g : Symbol) → f ≡ g → (f.number ≡ g.number → ⊥) → ⊥
apart_symbols f g e h = h (ap (λ (s : Symbol). s.number) e)

no_nat : {t : Term} {S : Symbol} → HasSort input t S → t ≡ nil → S ≡ nat → ⊥
no_nat (free v S) e q = no_application v nil_symbol [] (sym e)
no_nat (by_variable c S x u among declares more) e q = elim (declared c S (Var x) among declares.0) [
  | inl d ↦ no_application x zero_symbol [] (sym d.1)
  | inr d ↦ no_application x nil_symbol [] (sym d.1)
]
no_nat (by_form c S f ts us among declares long more) e q = elim (declared c S (App f ts) among declares.0) [
  | inl d ↦ apart_symbols zero_symbol nil_symbol (sym (same_symbols f zero_symbol ts [] d.1) ∙ same_symbols f nil_symbol us [] e) (λ n. omega (arith, n))
  | inr d ↦ apart_symbols nat list (sym q ∙ d.0) (λ n. omega (arith, n))
]

-- the second clause is put off: its constraint asks that nil is a number
pub example_put_off : IsPutOff input second
example_put_off = (refl, record { atom = Holds nat (nil ∷ []); stands = (0, omega arith, refl); ill = record { S = nat; t = nil; is = refl; none = λ h. no_nat h refl refl } })
