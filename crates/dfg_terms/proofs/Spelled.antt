-- An identifier's bytes as a name.
use Rattle.std.proofs.Common.{◌≡◌, ℕ, inl, inr, List, Ok, refl}
use Rattle.std.proofs.lemmas.Bool.{cases_Bool}
use Rattle.std.specs.Str.{IsUtf8, is_utf8}
use Rattle.std.proofs.lemmas.Str.{IsUtf8-from_is_utf8, is_utf8-from_IsUtf8}
use Rattle.dfg_tokens.specs.declared.token.Token.{Token}
use Rattle.dfg_terms.specs.declared.fault.FaultKind.TheVariants.{Unexpected}
use Rattle.dfg_terms.specs.Reading.{fault, bytes_of, spelled_at}

pub spelled : (bytes : List ℕ) (t : Token) → IsUtf8 (bytes_of bytes t) → spelled_at bytes t ≡ Ok (bytes_of bytes t)
unfolding spelled_at
spelled bytes t h = rw (is_utf8-from_IsUtf8 (bytes_of bytes t) h) refl

pub no_name : (bytes : List ℕ) (t : Token) → ¬ (IsUtf8 (bytes_of bytes t)) → spelled_at bytes t ≡ fault t.at Unexpected
unfolding spelled_at
no_name bytes t h =
    elim (cases_Bool (is_utf8 (bytes_of bytes t))) [
      | inl e ↦ absurd (h (IsUtf8-from_is_utf8 (bytes_of bytes t) e))
      | inr e ↦ rw e refl
    ]
