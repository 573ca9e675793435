-- Numbers in texts.
use Rattle.std.specs.Prelude.{ℕ, ◌+◌, ◌-◌, ◌*◌, Bool, false, not, ◌&&◌, ◌==◌, nat_le, nat_lt, if◌then◌else◌, List, [], ◌∷◌, length, Option, Some, None, option_and_then, Result, Ok}
use Rattle.std.specs.Char.{is_ascii_digit}
use Rattle.dfg_tokens.specs.declared.token.Token.{Token}
use Rattle.dfg_terms.specs.declared.fault.ReadFault.{ReadFault}
use Rattle.dfg_terms.specs.declared.fault.FaultKind.TheVariants.{Unexpected}
use Rattle.dfg_terms.specs.Reading.{◌>>=◌, refuse, identifier_at, bytes_of}

-- the number that the digits spell behind one that was read
abbrev pub digits_from : ℕ → List ℕ → Option ℕ
digits_from n [] = Some n
digits_from n (b ∷ bs) = if is_ascii_digit b then digits_from (n * 10 + (b - 48)) bs else None

-- the number that one to three digits spell
unfoldable pub arity_of : List ℕ → Option ℕ
arity_of text = if nat_lt 0 (length text) && nat_le (length text) 3 then digits_from 0 text else None

abbrev pub has_leading_zero : List ℕ → Bool
has_leading_zero [] = false
has_leading_zero (b ∷ []) = false
has_leading_zero (b ∷ (c ∷ bs)) = b == 48

abbrev pub at_most : ℕ → ℕ → Option ℕ
at_most limit n = if nat_le n limit then Some n else None

-- the number up to 4,294,967,295 that at most ten digits spell without leading zeros
unfoldable pub numeral_of : List ℕ → Option ℕ
numeral_of text = if nat_lt 0 (length text) && nat_le (length text) 10 && not (has_leading_zero text) then option_and_then (at_most 4294967295) (digits_from 0 text) else None

abbrev pub number_if : Option ℕ → List Token → List Token → Result (ℕ × List Token) ReadFault
number_if None ts rest = refuse Unexpected ts
number_if (Some n) ts rest = Ok (n, rest)

-- a number of arguments, as one to three digits
unfoldable pub arity_at : List ℕ → List Token → Result (ℕ × List Token) ReadFault
arity_at bytes ts = identifier_at ts >>= λ w. number_if (arity_of (bytes_of bytes w.0)) ts w.1

unfoldable pub numeral_at : List ℕ → List Token → Result (ℕ × List Token) ReadFault
numeral_at bytes ts = identifier_at ts >>= λ w. number_if (numeral_of (bytes_of bytes w.0)) ts w.1
