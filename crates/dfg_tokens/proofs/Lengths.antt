-- Where a word is looked up among those that are about as long alone.
use Rattle.std.proofs.Common.{◌≡◌, ℕ, ◌≤◌, Bool, true, false, ◌&&◌, List, [], ◌∷◌, length, refl, sym, ◌∙◌, ap, if◌then◌else◌}
use Rattle.std.specs.Prelude.{nat_le}
use Rattle.std.proofs.lemmas.Bool.{false≢true, le-leb}
use Rattle.std.proofs.lemmas.Slice.Eq.{bytes_eq-Decides}
use Rattle.std.specs.List.{filter}
use Rattle.std.specs.Str.{bytes_eq}
use Rattle.dfg_tokens.specs.declared.word.Word.{Word}
use Rattle.dfg_tokens.specs.Words.{spelling, first_word}

module _ (t : ℕ → Bool) (text : List ℕ) (passes : t (length text) ≡ true) where
  abbrev kept : List Word → List Word
  kept = filter (λ w. t (length (spelling w)))

  one_more : (w : Word) (ws : List Word) → first_word (kept ws) text ≡ first_word ws text → (b : Bool) → bytes_eq (spelling w) text ≡ b → (k : Bool) → t (length (spelling w)) ≡ k → first_word (kept (w ∷ ws)) text ≡ first_word (w ∷ ws) text
  one_more w ws below b e true k = rw k (ap (λ rest. if bytes_eq (spelling w) text then w else rest) below)
  one_more w ws below false e false k = rw (k, e) below
  one_more w ws below true e false k =
      let is = (bytes_eq-Decides (spelling w) text).0 e in
      absurd (false≢true (sym k ∙ ap (λ s. t (length s)) is ∙ passes))

  -- a test of lengths that the text passes keeps each word that is spelled so
  pub of_length : (ws : List Word) → first_word (kept ws) text ≡ first_word ws text
  of_length [] = refl
  of_length (w ∷ ws) = one_more w ws (of_length ws) (bytes_eq (spelling w) text) refl (t (length (spelling w))) refl

abbrev pub is_between : ℕ → ℕ → ℕ → Bool
is_between low high n = nat_le low n && nat_le n high

pub between : (low high : ℕ) (ws : List Word) (text : List ℕ) → low ≤ length text → length text ≤ high → first_word (filter (λ w. is_between low high (length (spelling w))) ws) text ≡ first_word ws text
between low high ws text a b = of_length (is_between low high) text (λ i. le-leb low (length text) a i && le-leb (length text) high b i) ws

pub at_least : (low : ℕ) (ws : List Word) (text : List ℕ) → low ≤ length text → first_word (filter (λ w. nat_le low (length (spelling w))) ws) text ≡ first_word ws text
at_least low ws text a = of_length (nat_le low) text (le-leb low (length text) a) ws
