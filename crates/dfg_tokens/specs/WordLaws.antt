-- Laws with their proofs, not definitions that a reader must believe: a word of the grammar is spelled as its text.
use Rattle.std.proofs.Common.{◌≡◌, ℕ, ◌⊎◌, inl, inr, List, [], ◌∷◌, refl}
use Rattle.std.proofs.lemmas.Bool.{cases_Bool}
use Rattle.std.proofs.lemmas.Slice.Eq.{bytes_eq-Decides}
use Rattle.std.specs.Str.{bytes_eq}
use Rattle.dfg_tokens.specs.declared.word.Word.{Word}
use Rattle.dfg_tokens.specs.declared.word.Word.TheVariants.{Plain}
use Rattle.dfg_tokens.specs.declared.word.TheConstants.{WORDS}
use Rattle.dfg_tokens.specs.Words.{spelling, first_word, word_of}

first_spelled : (ws : List Word) (text : List ℕ) → (first_word ws text ≡ Plain) ⊎ (spelling (first_word ws text) ≡ text)
first_spelled [] text = inl refl
first_spelled (w ∷ ws) text =
    elim (cases_Bool (bytes_eq (spelling w) text)) [
      | inl e ↦ inr (rw e ((bytes_eq-Decides (spelling w) text).0 e))
      | inr e ↦ rw e (first_spelled ws text)
    ]

pub word_of-spelled : (text : List ℕ) → (word_of text ≡ Plain) ⊎ (spelling (word_of text) ≡ text)
unfolding word_of
word_of-spelled text = first_spelled WORDS text
