-- Laws with their proofs, not definitions that a reader must believe: one round of a loop, as an equation.
use Rattle.std.proofs.Common.{◌≡◌, ℕ, suc, ◌+◌, ◌-◌, ◌≤◌, ◌<◌, cond, List, Ok, ap, arith}
use Rattle.dfg_tokens.specs.declared.word.Word.{Word}
use Rattle.dfg_tokens.specs.declared.token.Token.{Token}
use Rattle.dfg_tokens.specs.declared.piece.Mark.TheVariants.{Comma}
use Rattle.dfg_tokens.specs.Cursors.{tail}
use Rattle.dfg_terms.specs.declared.fault.FaultKind.TheVariants.{Unexpected}
use Rattle.dfg_terms.specs.Reading.{◌>>=◌, Reader, refuse, next_mark, next_word, commas, items}

pub commas_round : {S : Type 0} (read : Reader S) (count i : ℕ) (s : S) (ts : List Token) → i < count
    → commas read (count - i) s ts ≡ (read s ts >>= λ x. cond (next_mark Comma x.1) (commas read (count - (i + 1)) x.0 (tail x.1)) (Ok x))
unfolding commas
commas_round read count i s ts lt = let k : count - i ≡ suc (count - (i + 1)) = omega arith in ap (λ n. commas read n s ts) k

pub commas_over : {S : Type 0} (read : Reader S) (count i : ℕ) (s : S) (ts : List Token) → count ≤ i → commas read (count - i) s ts ≡ refuse Unexpected ts
unfolding commas
commas_over read count i s ts le = let k : count - i ≡ 0 = omega arith in ap (λ n. commas read n s ts) k

pub items_round : {S : Type 0} (end : Word) (read : Reader S) (count i : ℕ) (s : S) (ts : List Token) → i < count
    → items end read (count - i) s ts ≡ cond (next_word end ts) (Ok (s, ts)) (read s ts >>= λ x. items end read (count - (i + 1)) x.0 x.1)
unfolding items
items_round end read count i s ts lt = let k : count - i ≡ suc (count - (i + 1)) = omega arith in ap (λ n. items end read n s ts) k

pub items_over : {S : Type 0} (end : Word) (read : Reader S) (count i : ℕ) (s : S) (ts : List Token) → count ≤ i → items end read (count - i) s ts ≡ refuse Unexpected ts
unfolding items
items_over end read count i s ts le = let k : count - i ≡ 0 = omega arith in ap (λ n. items end read n s ts) k

pub ruleset rounds = (commas_round, commas_over, items_round, items_over)
