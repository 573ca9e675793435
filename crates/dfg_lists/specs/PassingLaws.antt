-- Laws with their proofs, not definitions that a reader must believe: lists are passed over up to their end.
use Rattle.std.proofs.Common.{◌≡◌, ℕ, inl, inr, Bool, true, false, ◌&&◌, ◌||◌, List, [], ◌∷◌, ◌++◌, length, Ok, refl, sym, ap, subst, ◌∙◌, append_assoc}
use Rattle.std.proofs.lemmas.Bool.{and_parts}
use Rattle.dfg_tokens.specs.declared.word.Word.{Word}
use Rattle.dfg_tokens.specs.declared.word.Word.TheVariants as words
use Rattle.dfg_tokens.specs.declared.piece.TokenKind.TheVariants as kinds
use Rattle.dfg_tokens.specs.declared.piece.Mark.TheVariants.{Dot}
use Rattle.dfg_tokens.specs.declared.token.Token.{Token}
use Rattle.dfg_tokens.specs.Cursors.{tail}
use Rattle.dfg_terms.specs.declared.fault.FaultKind.TheVariants.{Unexpected}
use Rattle.dfg_terms.specs.Reading.{refuse, kind_is_mark, kind_is_word, next_is, next_mark, next_word}
use Rattle.dfg_terms.specs.Phrases.{word}
use Rattle.dfg_terms.specs.ResultLaws.{chosen, ok_is, refused_not, when_true, when_false}
use Rattle.dfg_terms.specs.StepLaws.{token_tail, mark_next, word_next}
use Rattle.dfg_terms.specs.StandLaws.{next_mark_stands, next_word_stands}
use Rattle.dfg_terms.specs.FrontLaws.{Takes, LeavesFewer}
use Rattle.dfg_lists.specs.Lists.{is_end, passed_at}
use Rattle.dfg_lists.specs.Grammar.{list_end, ends_within, passed}
use Rattle.dfg_lists.specs.GroupLaws.{end_takes, end_keeps}

none_of_three : (a b c : Bool) → a ≡ false → b ≡ false → c ≡ false → (a || b || c) ≡ false
none_of_three a b c p q r = rw (p, q, r) refl

three_are_none : (a b c : Bool) → (a || b || c) ≡ false → (a ≡ false) × (b ≡ false) × (c ≡ false)
three_are_none false false false e = (refl, refl, refl)
three_are_none true b c e = absurd cc
three_are_none false true c e = absurd cc
three_are_none false false true e = absurd cc

and_false : (b : Bool) → (b && false) ≡ false
and_false true = refl
and_false false = refl

-- no mark is next where a word is
word_no_mark : (w : Word) (ts rest : List Token) → word w ts rest → next_mark Dot ts ≡ false
unfolding next_mark
word_no_mark w ts rest p = ap (next_is (kind_is_mark Dot)) p.2 ∙ ap (kind_is_mark Dot) p.1

-- ---- what is passed over stands so

-- a token more in front, which ends nothing
one_skipped : (t : Token) (ts rest : List Token) → is_end t.kind ≡ false → (kind_is_word words.EndOfList t.kind && next_mark Dot ts) ≡ false → passed ts rest → passed (t ∷ ts) rest
unfolding next_mark
one_skipped t ts rest more ends p = (t ∷ p.0, p.1, ap (λ (us : List Token). t ∷ us) p.2, by_list p.0 p.2 p.3, p.4)
  where
    by_list : (skipped : List Token) → ts ≡ skipped ++ p.1 → ends_within skipped ≡ false → ends_within (t ∷ skipped) ≡ false
    by_list [] is none = none_of_three (is_end t.kind) (kind_is_word words.EndOfList t.kind && false) false more (and_false (kind_is_word words.EndOfList t.kind)) refl
    by_list (u ∷ skipped) is none =
        none_of_three (is_end t.kind) (kind_is_word words.EndOfList t.kind && kind_is_mark Dot u.kind) (ends_within (u ∷ skipped)) more
        (ap (λ (us : List Token). kind_is_word words.EndOfList t.kind && next_is (kind_is_mark Dot) us) (sym is) ∙ ends) none

pub passed_stands : (ts rest : List Token) → passed_at ts ≡ Ok rest → passed ts rest
unfolding passed_at next_word
passed_stands [] rest e = absurd (refused_not Unexpected [] rest e)
passed_stands (t ∷ ts) rest e =
    elim (chosen (is_end t.kind) (refuse Unexpected (t ∷ ts)) _ (Ok rest) e) [
      | inl h ↦ absurd (refused_not Unexpected (t ∷ ts) rest h.1)
      | inr h ↦ elim (chosen (kind_is_word words.EndOfList t.kind && next_mark Dot ts) (Ok (tail ts)) (passed_at ts) (Ok rest) h.1) [
        | inl f ↦ (let both = and_parts (kind_is_word words.EndOfList t.kind) (next_mark Dot ts) f.0 in
            subst (passed (t ∷ ts)) (ok_is (tail ts) rest f.1) ([], t ∷ ts, refl, refl, (ts, end_word t ts both.0, next_mark_stands Dot ts both.1)))
        | inr f ↦ one_skipped t ts rest h.0 f.0 (passed_stands ts rest f.1)
      ]
    ]
  where
    end_word : (u : Token) (us : List Token) → kind_is_word words.EndOfList u.kind ≡ true → word words.EndOfList (u ∷ us) us
    end_word u us is = next_word_stands words.EndOfList (u ∷ us) is

-- ---- and back

-- `end_of_list.` ends it at once
end_read : (ts rest : List Token) → list_end ts rest → passed_at ts ≡ Ok rest
unfolding passed_at next_word
end_read ts rest p =
    let t = p.1.0 in
    ap passed_at p.1.2
    ∙ when_false _ _ _ _ (ap is_end p.1.1)
    (when_true _ _ _ _ (ap (λ b. b && next_mark Dot p.0) (is_word t p.0 p.1.1) ∙ mark_next Dot p.0 rest p.2) (ap (λ us. Ok us) (token_tail _ p.0 rest p.2)))
  where
    is_word : (u : Token) (us : List Token) → u.kind ≡ kinds.Word words.EndOfList → kind_is_word words.EndOfList u.kind ≡ true
    is_word u us k = word_next words.EndOfList (u ∷ us) us (u, k, refl)

pub passed_read : (ts rest : List Token) → passed ts rest → passed_at ts ≡ Ok rest
unfolding passed_at next_mark
passed_read ts rest p = ap passed_at p.2 ∙ by_list p.0 p.1 p.3 p.4
  where
    still : (t : Token) (skipped between : List Token) → (kind_is_word words.EndOfList t.kind && next_mark Dot skipped) ≡ false → list_end between rest → (kind_is_word words.EndOfList t.kind && next_mark Dot (skipped ++ between)) ≡ false
    still t [] between e end = ap (λ b. kind_is_word words.EndOfList t.kind && b) (word_no_mark words.EndOfList between end.0 end.1) ∙ and_false (kind_is_word words.EndOfList t.kind)
    still t (u ∷ skipped) between e end = e

    by_list : (skipped between : List Token) → ends_within skipped ≡ false → list_end between rest → passed_at (skipped ++ between) ≡ Ok rest
    by_list [] between none end = end_read between rest end
    by_list (t ∷ skipped) between none end =
        let parts = three_are_none (is_end t.kind) (kind_is_word words.EndOfList t.kind && next_mark Dot skipped) (ends_within skipped) none in
        when_false _ _ _ _ parts.0 (when_false _ _ _ _ (still t skipped between parts.1 end) (by_list skipped between parts.2 end))

pub passed_takes : Takes passed
passed_takes ts rest p = by_list p.0 p.2
  where
    by_list : (skipped : List Token) → ts ≡ skipped ++ p.1 → LeavesFewer ts rest
    by_list [] is = let l = end_takes p.1 rest p.4 in record { first = l.first; front = l.front; parts = is ∙ l.parts }
    by_list (t ∷ skipped) is =
        let k = end_keeps p.1 rest p.4 in
        record { first = t; front = skipped ++ k.front; parts = is ∙ ap (λ (us : List Token). t ∷ (skipped ++ us)) k.parts ∙ ap (λ (us : List Token). t ∷ us) (sym (append_assoc skipped k.front rest)) }
