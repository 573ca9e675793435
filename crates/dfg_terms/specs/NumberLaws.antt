-- Laws with their proofs, not definitions that a reader must believe: numbers are read as they are written.
use Rattle.std.proofs.Common.{◌≡◌, ℕ, List, ◌∷◌, Option, Some, None, Ok, ap, ◌∙◌}
use Rattle.dfg_tokens.specs.declared.word.Word.{Word}
use Rattle.dfg_tokens.specs.declared.piece.TokenKind.TheVariants as kinds
use Rattle.dfg_tokens.specs.declared.token.Token.{Token}
use Rattle.dfg_tokens.specs.Tokens.{token_bytes}
use Rattle.dfg_terms.specs.declared.fault.FaultKind.TheVariants.{Unexpected}
use Rattle.dfg_terms.specs.Reading.{◌>>=◌, identifier_at, bytes_of}
use Rattle.dfg_terms.specs.Numbers.{arity_of, numeral_of, number_if, arity_at, numeral_at}
use Rattle.dfg_terms.specs.Phrases.{token, IsArityOf, IsNumeralOf}
use Rattle.dfg_terms.specs.ResultLaws.{bind_ok, ok_is, refused_not, then_ok}
use Rattle.dfg_terms.specs.StepLaws.{identifier_read}
use Rattle.dfg_terms.specs.StandLaws.{identifier_stands}

number_is : (o : Option ℕ) (ts rest : List Token) (y : ℕ × List Token) → number_if o ts rest ≡ Ok y → (o ≡ Some y.0) × (rest ≡ y.1)
number_is None ts rest y e = absurd (refused_not Unexpected ts y e)
number_is (Some n) ts rest y e = let same = ok_is (n, rest) y e in (ap (λ (q : ℕ × List Token). Some q.0) same, ap (λ (q : ℕ × List Token). q.1) same)

module _ (bytes : List ℕ) (of : List ℕ → Option ℕ) where
  abbrev IsOf : ℕ → Token → Type 0
  IsOf n t = (w : Word) × (t.kind ≡ kinds.Word w) × (of (token_bytes bytes t) ≡ Some n)

  number_stands : (ts : List Token) (y : ℕ × List Token) → (identifier_at ts >>= λ w. number_if (of (token_bytes bytes w.0)) ts w.1) ≡ Ok y → token (IsOf y.0) ts y.1
  number_stands ts y e =
      let a = bind_ok (identifier_at ts) (λ w. number_if (of (token_bytes bytes w.0)) ts w.1) y e in
      let b = number_is (of (token_bytes bytes a.0.0)) ts a.0.1 y a.2 in
      let c = identifier_stands ts a.0 a.1 in
      (a.0.0, (c.0, c.1, b.0), c.2 ∙ ap (λ us. a.0.0 ∷ us) b.1)

  number_read : (n : ℕ) (ts rest : List Token) → token (IsOf n) ts rest → (identifier_at ts >>= λ w. number_if (of (token_bytes bytes w.0)) ts w.1) ≡ Ok (n, rest)
  number_read n ts rest p =
      let is = p.1 in
      then_ok _ _ _ _ (identifier_read is.0 p.0 ts rest is.1 p.2) (ap (λ o. number_if o ts rest) is.2)

pub arity_stands : (bytes : List ℕ) (ts : List Token) (y : ℕ × List Token) → arity_at bytes ts ≡ Ok y → token (IsArityOf bytes y.0) ts y.1
unfolding arity_at bytes_of
arity_stands bytes ts y e = number_stands bytes arity_of ts y e

pub arity_read : (bytes : List ℕ) (n : ℕ) (ts rest : List Token) → token (IsArityOf bytes n) ts rest → arity_at bytes ts ≡ Ok (n, rest)
unfolding arity_at bytes_of
arity_read bytes n ts rest p = number_read bytes arity_of n ts rest p

pub numeral_stands : (bytes : List ℕ) (ts : List Token) (y : ℕ × List Token) → numeral_at bytes ts ≡ Ok y → token (IsNumeralOf bytes y.0) ts y.1
unfolding numeral_at bytes_of
numeral_stands bytes ts y e = number_stands bytes numeral_of ts y e

pub numeral_read : (bytes : List ℕ) (n : ℕ) (ts rest : List Token) → token (IsNumeralOf bytes n) ts rest → numeral_at bytes ts ≡ Ok (n, rest)
unfolding numeral_at bytes_of
numeral_read bytes n ts rest p = number_read bytes numeral_of n ts rest p
