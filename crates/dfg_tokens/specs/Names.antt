-- What may be the name of a symbol (SPASS Input Syntax 1.5, the list of symbols).
use Rattle.std.specs.Prelude.{ℕ, Bool, not, ◌&&◌, ◌==◌, List, length}
use Rattle.std.specs.List.{list_any, list_all}
use Rattle.std.specs.Str.{bytes_eq}
use Rattle.dfg_tokens.specs.declared.word.TheConstants.{RESERVED}
use Rattle.dfg_tokens.specs.Words.{spelling}
use Rattle.dfg_tokens.specs.Tokens.{is_letter}

-- ASCII letters, digits and `_`, one or more
abbrev pub is_identifier : List ℕ → Bool
is_identifier text = not (length text == 0) && list_all is_letter text

-- forall, exists, not, and, or, implies, implied, equiv, equal, true, false
abbrev pub is_reserved_word : List ℕ → Bool
is_reserved_word text = list_any (λ w. bytes_eq (spelling w) text) RESERVED

-- an identifier that is no reserved word
abbrev pub is_name : List ℕ → Bool
is_name text = is_identifier text && not (is_reserved_word text)
