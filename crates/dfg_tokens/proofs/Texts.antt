-- Where no `*}` follows, none follows further on.
use Rattle.std.proofs.Common.{◌≡◌, ◌==◌, ℕ, zero, suc, ◌+◌, Bool, true, false, cond, List, [], ◌∷◌, drop, Option, Some, None, option_map, refl, ap, ◌∙◌, arith}
use Rattle.dfg_tokens.specs.declared.piece.TokenKind.TheVariants as kinds
use Rattle.dfg_tokens.specs.Tokens.{ends_text, text_length, closed_text, text_at, piece_at}

mapped_none : (o : Option ℕ) → option_map (λ n. n + 1) o ≡ None → o ≡ None
mapped_none None e = refl
mapped_none (Some n) e = absurd cc

chosen_none : (b : Bool) (o : Option ℕ) → cond b (Some 0) (option_map (λ n. n + 1) o) ≡ None → o ≡ None
chosen_none true o e = absurd cc
chosen_none false o e = mapped_none o e

text_length-tail : (b : ℕ) (bs : List ℕ) → text_length (b ∷ bs) ≡ None → text_length bs ≡ None
text_length-tail b bs e = chosen_none (ends_text b bs) (text_length bs) e

text_length-drop : (n : ℕ) (bs : List ℕ) → text_length bs ≡ None → text_length (drop n bs) ≡ None
text_length-drop zero bs e = e
text_length-drop (suc n) [] e = e
text_length-drop (suc n) (b ∷ bs) e = text_length-drop n bs (text_length-tail b bs e)

pub unclosed_text : (rest : List ℕ) → text_length rest ≡ None → text_at rest ≡ record { kind = Some (kinds.Stray 123); len = 1 }
unfolding text_at
unclosed_text [] e = refl
unclosed_text (b ∷ bs) e = rw (text_length-tail b bs e) (elim (b == 42) as (λ q. cond q (closed_text None) (closed_text None) ≡ closed_text None) [ true ↦ refl | false ↦ refl ])

drop_one : (n : ℕ) (bs : List ℕ) → drop 1 (drop n bs) ≡ drop n (drop 1 bs)
drop_one zero bs = refl
drop_one (suc n) [] = refl
drop_one (suc zero) (b ∷ bs) = refl
drop_one (suc (suc n)) (b ∷ []) = refl
drop_one (suc (suc n)) (b ∷ (c ∷ bs)) = drop_one (suc n) (c ∷ bs)

pub warned_drop : (n : ℕ) (bs : List ℕ) → text_length (drop 1 bs) ≡ None → text_length (drop 1 (drop n bs)) ≡ None
warned_drop n bs e = ap text_length (drop_one n bs) ∙ text_length-drop n (drop 1 bs) e

closed_cases : (o : Option ℕ) → (closed_text o).len ≡ 1 → o ≡ None
closed_cases None e = refl
closed_cases (Some n) e = absurd (omega arith)

pub text_unclosed : (inner : List ℕ) → (piece_at (123 ∷ 42 ∷ inner)).len ≡ 1 → text_length inner ≡ None
unfolding piece_at text_at
text_unclosed inner e = closed_cases (text_length inner) e
