-- Laws with their proofs, not definitions that a reader must believe: what reading goes past stands there as a phrase.
use Rattle.std.proofs.Common.{◌≡◌, ◌==◌, ℕ, zero, suc, inl, inr, Bool, true, false, cond, List, [], ◌∷◌, fold, Ok, refl, ap, subst, ◌∙◌}
use Rattle.std.proofs.lemmas.Bool.{eqb-true}
use Rattle.std.proofs.lemmas.Slice.Eq.{bytes_eq-Decides}
use Rattle.dfg_tokens.specs.declared.word.Word.{Word}
use Rattle.dfg_tokens.specs.declared.piece.Mark.{Mark}
use Rattle.dfg_tokens.specs.declared.piece.Mark.TheVariants as marks
use Rattle.dfg_tokens.specs.declared.piece.TokenKind.{TokenKind}
use Rattle.dfg_tokens.specs.declared.piece.TokenKind.TheVariants as kinds
use Rattle.dfg_tokens.specs.declared.token.Token.{Token}
use Rattle.dfg_tokens.specs.Words.{spelling}
use Rattle.dfg_tokens.specs.Tokens.{byte_of, token_bytes}
use Rattle.dfg_tokens.specs.Cursors.{tail}
use Rattle.dfg_terms.specs.declared.fault.FaultKind.TheVariants.{Unexpected}
use Rattle.std.specs.Str.{is_utf8}
use Rattle.dfg_terms.specs.Reading.{◌>>=◌, Reader, refuse, is_reserved, kind_is_mark, kind_is_word, kind_is_name, kind_is_identifier, kind_is_text, kind_is_stray, next_is, next_mark, next_word, next_stray, mark_at, word_at, taken, identifier_at, name_at, text_at, commas, items, fault, bytes_of, spelled_at}
use Rattle.dfg_terms.specs.Phrases.{Phrase, token, mark, word, stray, text, each, comma_separated}
use Rattle.dfg_terms.specs.ResultLaws.{bind_ok, chosen, done, ok_is, refused_not, fault_not}
use Rattle.dfg_terms.specs.StepLaws.{same_word}

-- the next token passes, and what is behind it is left
next_stands : (test : TokenKind → Bool) (ts : List Token) → next_is test ts ≡ true → token (λ t. test t.kind ≡ true) ts (tail ts)
next_stands test [] e = absurd cc
next_stands test (t ∷ ts) e = (t, e, refl)

left_is : (P : Phrase) (ts a b : List Token) → done a ≡ done b → P ts a → P ts b
left_is P ts a b e p = subst (P ts) (ok_is a b e) p

-- ---- marks

same_mark : (n m : Mark) → (byte_of n == byte_of m) ≡ true → n ≡ m
same_mark marks.OpenParenthesis marks.OpenParenthesis e = refl
same_mark marks.CloseParenthesis marks.CloseParenthesis e = refl
same_mark marks.OpenBracket marks.OpenBracket e = refl
same_mark marks.CloseBracket marks.CloseBracket e = refl
same_mark marks.Comma marks.Comma e = refl
same_mark marks.Dot marks.Dot e = refl
same_mark _ _ e = absurd cc

is_mark : (m : Mark) (k : TokenKind) → kind_is_mark m k ≡ true → k ≡ kinds.Mark m
is_mark m (kinds.Mark n) e = ap (λ x. kinds.Mark x) (same_mark n m e)
is_mark m (kinds.Word w) e = absurd cc
is_mark m kinds.Text e = absurd cc
is_mark m (kinds.Stray b) e = absurd cc
is_mark m kinds.End e = absurd cc

pub next_mark_stands : (m : Mark) (ts : List Token) → next_mark m ts ≡ true → mark m ts (tail ts)
unfolding next_mark
next_mark_stands m ts e = let p = next_stands (kind_is_mark m) ts e in (p.0, is_mark m p.0.kind p.1, p.2)

pub mark_stands : (m : Mark) (ts rest : List Token) → mark_at m ts ≡ Ok rest → mark m ts rest
unfolding mark_at
mark_stands m ts rest e =
    elim (chosen (next_mark m ts) (Ok (tail ts)) (refuse Unexpected ts) (Ok rest) e) [
      | inl h ↦ left_is (mark m) ts (tail ts) rest h.1 (next_mark_stands m ts h.0)
      | inr h ↦ absurd (refused_not Unexpected ts rest h.1)
    ]

-- ---- bytes that begin no token of a problem

is_stray : (b : ℕ) (k : TokenKind) → kind_is_stray b k ≡ true → k ≡ kinds.Stray b
is_stray b (kinds.Stray c) e = ap (λ x. kinds.Stray x) (eqb-true c b e)
is_stray b (kinds.Mark m) e = absurd cc
is_stray b (kinds.Word w) e = absurd cc
is_stray b kinds.Text e = absurd cc
is_stray b kinds.End e = absurd cc

pub next_stray_stands : (b : ℕ) (ts : List Token) → next_stray b ts ≡ true → stray b ts (tail ts)
unfolding next_stray
next_stray_stands b ts e = let p = next_stands (kind_is_stray b) ts e in (p.0, is_stray b p.0.kind p.1, p.2)

-- ---- words

is_word : (w : Word) (k : TokenKind) → kind_is_word w k ≡ true → k ≡ kinds.Word w
unfolding kind_is_word
is_word w (kinds.Word v) e = ap (λ x. kinds.Word x) (same_word v w ((bytes_eq-Decides (spelling v) (spelling w)).0 e))
is_word w (kinds.Mark m) e = absurd cc
is_word w kinds.Text e = absurd cc
is_word w (kinds.Stray b) e = absurd cc
is_word w kinds.End e = absurd cc

pub next_word_stands : (w : Word) (ts : List Token) → next_word w ts ≡ true → word w ts (tail ts)
unfolding next_word
next_word_stands w ts e = let p = next_stands (kind_is_word w) ts e in (p.0, is_word w p.0.kind p.1, p.2)

pub word_stands : (w : Word) (ts rest : List Token) → word_at w ts ≡ Ok rest → word w ts rest
unfolding word_at
word_stands w ts rest e =
    elim (chosen (next_word w ts) (Ok (tail ts)) (refuse Unexpected ts) (Ok rest) e) [
      | inl h ↦ left_is (word w) ts (tail ts) rest h.1 (next_word_stands w ts h.0)
      | inr h ↦ absurd (refused_not Unexpected ts rest h.1)
    ]

-- ---- identifiers and texts

taken_stands : (test : TokenKind → Bool) (ts : List Token) (x : Token × List Token) → taken test ts ≡ Ok x → (test x.0.kind ≡ true) × (ts ≡ x.0 ∷ x.1)
taken_stands test [] x e = absurd cc
taken_stands test (t ∷ ts) x e =
    elim (chosen (test t.kind) (Ok (t, ts)) (refuse Unexpected (t ∷ ts)) (Ok x) e) [
      | inl h ↦ subst (λ (q : Token × List Token). (test q.0.kind ≡ true) × (t ∷ ts ≡ q.0 ∷ q.1)) (ok_is (t, ts) x h.1) (h.0, refl)
      | inr h ↦ absurd (refused_not Unexpected (t ∷ ts) x h.1)
    ]

is_identifier : (k : TokenKind) → kind_is_identifier k ≡ true → (w : Word) × (k ≡ kinds.Word w)
is_identifier (kinds.Word w) e = (w, refl)
is_identifier (kinds.Mark m) e = absurd cc
is_identifier kinds.Text e = absurd cc
is_identifier (kinds.Stray b) e = absurd cc
is_identifier kinds.End e = absurd cc

pub identifier_stands : (ts : List Token) (x : Token × List Token) → identifier_at ts ≡ Ok x → (w : Word) × (x.0.kind ≡ kinds.Word w) × (ts ≡ x.0 ∷ x.1)
unfolding identifier_at
identifier_stands ts x e =
    let t = taken_stands kind_is_identifier ts x e in
    let w = is_identifier x.0.kind t.0 in
    (w.0, w.1, t.1)

not_not : (b : Bool) → cond b false true ≡ true → b ≡ false
not_not true e = absurd cc
not_not false e = refl

pub named_kind : (k : TokenKind) → kind_is_name k ≡ true → (w : Word) × (k ≡ kinds.Word w) × (is_reserved w ≡ false)
named_kind (kinds.Word w) e = (w, refl, not_not (is_reserved w) e)
named_kind (kinds.Mark m) e = absurd cc
named_kind kinds.Text e = absurd cc
named_kind (kinds.Stray b) e = absurd cc
named_kind kinds.End e = absurd cc

pub name_stands : (ts : List Token) (x : Token × List Token) → name_at ts ≡ Ok x → (w : Word) × (x.0.kind ≡ kinds.Word w) × (is_reserved w ≡ false) × (ts ≡ x.0 ∷ x.1)
unfolding name_at
name_stands ts x e =
    let t = taken_stands kind_is_name ts x e in
    let w = named_kind x.0.kind t.0 in
    (w.0, w.1, w.2, t.1)

is_text : (k : TokenKind) → kind_is_text k ≡ true → k ≡ kinds.Text
is_text (kinds.Word w) e = absurd cc
is_text (kinds.Mark m) e = absurd cc
is_text kinds.Text e = refl
is_text (kinds.Stray b) e = absurd cc
is_text kinds.End e = absurd cc

pub text_stands : (ts rest : List Token) → text_at ts ≡ Ok rest → text ts rest
unfolding text_at
text_stands [] rest e = absurd cc
text_stands (t ∷ ts) rest e =
    elim (chosen (kind_is_text t.kind) (Ok ts) (refuse Unexpected (t ∷ ts)) (Ok rest) e) [
      | inl h ↦ (t, is_text t.kind h.0, ap (λ us. t ∷ us) (ok_is ts rest h.1))
      | inr h ↦ absurd (refused_not Unexpected (t ∷ ts) rest h.1)
    ]

-- ---- names

pub spelled_is : (bytes : List ℕ) (t : Token) (name : List ℕ) → spelled_at bytes t ≡ Ok name → token_bytes bytes t ≡ name
unfolding spelled_at bytes_of
spelled_is bytes t name e =
    elim (chosen (is_utf8 (token_bytes bytes t)) (Ok (token_bytes bytes t)) (fault t.at Unexpected) (Ok name) e) [
      | inl h ↦ ok_is (token_bytes bytes t) name h.1
      | inr h ↦ absurd (fault_not t.at Unexpected name h.1)
    ]

-- ---- several in a row

module _ {S X : Type 0} (P : X → Phrase) (step : S → X → S) (read : Reader S) (law : (s : S) (ts : List Token) (y : S × List Token) → read s ts ≡ Ok y → (x : X) × (y.0 ≡ step s x) × P x ts y.1) where
  abbrev Separated : S → List Token → S × List Token → Type 0
  Separated s ts y = (xs : List X) × (y.0 ≡ fold step s xs) × comma_separated P xs ts y.1

  one_more : (s : S) (x : X) (ts between after : List Token) (y : S × List Token) → P x ts between → mark marks.Comma between after → Separated (step s x) after y → Separated s ts y
  one_more s x ts between after y p comma more = by_list more.0 more.1 more.2
    where
      by_list : (xs : List X) → y.0 ≡ fold step (step s x) xs → comma_separated P xs after y.1 → Separated s ts y
      by_list [] is q = absurd q
      by_list (z ∷ zs) is q = (x ∷ z ∷ zs, is, (between, p, (after, comma, q)))

  pub separated_stand : (k : ℕ) (s : S) (ts : List Token) (y : S × List Token) → commas read k s ts ≡ Ok y → Separated s ts y
  unfolding commas
  separated_stand zero s ts y e = absurd (refused_not Unexpected ts y e)
  separated_stand (suc k) s ts y e =
      let a = bind_ok (read s ts) (λ x. cond (next_mark marks.Comma x.1) (commas read k x.0 (tail x.1)) (Ok x)) y e in
      let one = law s ts a.0 a.1 in
      elim (chosen (next_mark marks.Comma a.0.1) (commas read k a.0.0 (tail a.0.1)) (Ok a.0) (Ok y) a.2) [
        | inl h ↦ one_more s one.0 ts a.0.1 (tail a.0.1) y one.2 (next_mark_stands marks.Comma a.0.1 h.0) (subst (λ (s' : S). Separated s' (tail a.0.1) y) one.1 (separated_stand k a.0.0 (tail a.0.1) y h.1))
        | inr h ↦ subst (Separated s ts) (ok_is a.0 y h.1) (one.0 ∷ [], one.1, (a.0.1, one.2, refl))
      ]

  abbrev Items : Word → S → List Token → S × List Token → Type 0
  Items end s ts y = (xs : List X) × (y.0 ≡ fold step s xs) × each P xs ts y.1 × word end y.1 (tail y.1)

  pub items_stand : (end : Word) (k : ℕ) (s : S) (ts : List Token) (y : S × List Token) → items end read k s ts ≡ Ok y → Items end s ts y
  unfolding items
  items_stand end zero s ts y e = absurd (refused_not Unexpected ts y e)
  items_stand end (suc k) s ts y e =
      elim (chosen (next_word end ts) (Ok (s, ts)) (read s ts >>= λ x. items end read k x.0 x.1) (Ok y) e) [
        | inl h ↦ subst (Items end s ts) (ok_is (s, ts) y h.1) ([], refl, refl, next_word_stands end ts h.0)
        | inr h ↦ (let a = bind_ok (read s ts) (λ x. items end read k x.0 x.1) y h.1 in
            let one = law s ts a.0 a.1 in
            let more = items_stand end k a.0.0 a.0.1 y a.2 in
            (one.0 ∷ more.0, more.1 ∙ ap (λ (s' : S). fold step s' more.0) one.1, (a.0.1, one.2, more.2), more.3))
      ]
