-- Laws with their proofs, not definitions that a reader must believe: the head and the descriptions are read as they are written.
use Rattle.std.proofs.Common.{◌≡◌, ℕ, ◌≤◌, inl, inr, Bool, true, false, ◌||◌, List, [], ◌∷◌, length, Ok, refl, ap, subst, ◌∙◌, arith}
use Rattle.std.proofs.lemmas.Bool.{or_cases}
use Rattle.std.specs.Bool.{⊤}
use Rattle.std.specs.Str.{bytes_eq}
use Rattle.dfg_tokens.specs.declared.word.Word.{Word}
use Rattle.dfg_tokens.specs.declared.word.Word.TheVariants as words
use Rattle.dfg_tokens.specs.declared.piece.Mark.TheVariants.{OpenParenthesis, CloseParenthesis, Dot}
use Rattle.dfg_tokens.specs.declared.token.Token.{Token}
use Rattle.dfg_tokens.specs.Words.{spelling}
use Rattle.dfg_tokens.specs.Cursors.{tail}
use Rattle.dfg_terms.specs.declared.fault.FaultKind.TheVariants.{Unexpected}
use Rattle.dfg_terms.specs.Reading.{◌>>=◌, refuse, next_word, mark_at, word_at, identifier_at, text_at}
use Rattle.dfg_terms.specs.Phrases.{◌⨾◌, token, word, mark, any_word, identifier, text, enclosed, each}
use Rattle.dfg_terms.specs.ResultLaws.{bind_ok, chosen, ok_is, refused_not, then_ok, when_true, when_false}
use Rattle.dfg_terms.specs.StepLaws.{token_shorter, token_tail, mark_read, next_word_is, other_word, word_next, word_read, identifier_read, text_read}
use Rattle.dfg_terms.specs.StandLaws.{mark_stands, next_word_stands, word_stands, identifier_stands, text_stands}
use Rattle.dfg_terms.specs.FrontLaws.{Takes, Keeps, token_takes, then_takes, then_keeps, weaken, mark_takes, word_takes, enclosed_takes, each_keeps}
use Rattle.dfg_terms.specs.RowLaws.{Anything}
use Rattle.dfg_lists.specs.Lists.{listed, head_at, is_text_item, is_status, status_at, description_at, descriptions_at}
use Rattle.dfg_lists.specs.Grammar.{list_end, head, is_description_word, is_status_word, description, descriptions}
use Rattle.dfg_lists.specs.GroupLaws.{end_keeps, listed_stand, listed_read}

-- ---- the head

pub head_stands : (ts rest : List Token) → head_at ts ≡ Ok rest → head ts rest
unfolding head_at
head_stands ts rest e =
    let a = bind_ok (word_at words.BeginProblem ts) _ rest e in
    let b = bind_ok (mark_at OpenParenthesis a.0) _ rest a.2 in
    let c = bind_ok (identifier_at b.0) _ rest b.2 in
    let d = bind_ok (mark_at CloseParenthesis c.0.1) _ rest c.2 in
    let name = identifier_stands b.0 c.0 c.1 in
    (a.0, word_stands words.BeginProblem ts a.0 a.1, (d.0, (b.0, mark_stands OpenParenthesis a.0 b.0 b.1, (c.0.1, (c.0.0, (name.0, name.1), name.2), mark_stands CloseParenthesis c.0.1 d.0 d.1)), mark_stands Dot d.0 rest d.2))

pub head_read : (ts rest : List Token) → head ts rest → head_at ts ≡ Ok rest
unfolding head_at
head_read ts rest p =
    let opened = p.2.1 in
    let inner = opened.2 in
    let name = inner.1 in
    then_ok _ _ _ _ (word_read words.BeginProblem ts p.0 p.1)
    (then_ok _ _ _ _ (mark_read OpenParenthesis p.0 opened.0 opened.1)
    (then_ok _ _ _ _ (identifier_read name.1.0 name.0 opened.0 inner.0 name.1.1 name.2)
    (then_ok _ _ _ _ (mark_read CloseParenthesis inner.0 p.2.0 inner.2)
    (mark_read Dot p.2.0 rest p.2.2))))

pub head_takes : Takes head
head_takes = then_takes (word words.BeginProblem) (enclosed identifier ⨾ mark Dot) (word_takes _) (then_keeps (enclosed identifier) (mark Dot) (weaken (enclosed identifier) (enclosed_takes identifier (weaken identifier (token_takes _)))) (weaken (mark Dot) (mark_takes _)))

-- ---- what is read as a description is written so

one_of : (test : Word → Bool) (w : Word) (ts : List Token) → test w ≡ true → next_word w ts ≡ true → any_word test ts (tail ts)
one_of test w ts passes e = let p = next_word_stands w ts e in (p.0, (w, p.1, passes), p.2)

one_of_two : (test : Word → Bool) (v : Word) (ts : List Token) (b : Bool) → test v ≡ true → (b || next_word v ts) ≡ true → (b ≡ true → any_word test ts (tail ts)) → any_word test ts (tail ts)
one_of_two test v ts b passes e before =
    elim (or_cases b (next_word v ts) e) [
      | inl h ↦ before h
      | inr h ↦ one_of test v ts passes h
    ]

text_item_stands : (ts : List Token) → is_text_item ts ≡ true → any_word is_description_word ts (tail ts)
text_item_stands ts e =
    one_of_two is_description_word words.Date ts _ refl e
    (λ e5. one_of_two is_description_word words.Description ts _ refl e5
    (λ e4. one_of_two is_description_word words.Logic ts _ refl e4
    (λ e3. one_of_two is_description_word words.Version ts _ refl e3
    (λ e2. one_of_two is_description_word words.Author ts _ refl e2
    (λ e1. one_of is_description_word words.Name ts refl e1)))))

status_stands : (ts rest : List Token) → status_at ts ≡ Ok rest → any_word is_status_word ts rest
unfolding status_at
status_stands ts rest e =
    elim (chosen (is_status ts) (Ok (tail ts)) (refuse Unexpected ts) (Ok rest) e) [
      | inl h ↦ subst (any_word is_status_word ts) (ok_is (tail ts) rest h.1)
          (one_of_two is_status_word words.Unknown ts _ refl h.0
          (λ e2. one_of_two is_status_word words.Unsatisfiable ts _ refl e2
          (λ e1. one_of is_status_word words.Satisfiable ts refl e1)))
      | inr h ↦ absurd (refused_not Unexpected ts rest h.1)
    ]

abbrev DescriptionStands : ⊤ → List Token → ⊤ × List Token → Type 0
DescriptionStands s ts q = (item : ⊤) × (q.0 ≡ s) × description ts q.1

description_stands : (s : ⊤) (ts : List Token) (y : ⊤ × List Token) → description_at s ts ≡ Ok y → DescriptionStands s ts y
unfolding description_at
description_stands s ts y e =
    elim (chosen (is_text_item ts) (mark_at OpenParenthesis (tail ts) >>= λ a. text_at a >>= λ b. mark_at CloseParenthesis b >>= λ c. mark_at Dot c >>= λ rest. Ok (s, rest)) _ (Ok y) e) [
      | inl h ↦ (let a = bind_ok (mark_at OpenParenthesis (tail ts)) _ y h.1 in
          let b = bind_ok (text_at a.0) _ y a.2 in
          let c = bind_ok (mark_at CloseParenthesis b.0) (λ c. mark_at Dot c >>= λ rest. Ok (s, rest)) y b.2 in
          let d = bind_ok (mark_at Dot c.0) (λ rest. Ok (s, rest)) y c.2 in
          subst (DescriptionStands s ts) (ok_is (s, d.0) y d.2)
          (tt, refl, inl (tail ts, text_item_stands ts h.0, (c.0, (a.0, mark_stands OpenParenthesis (tail ts) a.0 a.1, (b.0, text_stands a.0 b.0 b.1, mark_stands CloseParenthesis b.0 c.0 c.1)), mark_stands Dot c.0 d.0 d.1))))
      | inr h ↦ elim (chosen (next_word words.Status ts) (mark_at OpenParenthesis (tail ts) >>= λ a. status_at a >>= λ b. mark_at CloseParenthesis b >>= λ c. mark_at Dot c >>= λ rest. Ok (s, rest)) (refuse Unexpected ts) (Ok y) h.1) [
        | inl f ↦ (let a = bind_ok (mark_at OpenParenthesis (tail ts)) _ y f.1 in
            let b = bind_ok (status_at a.0) _ y a.2 in
            let c = bind_ok (mark_at CloseParenthesis b.0) (λ c. mark_at Dot c >>= λ rest. Ok (s, rest)) y b.2 in
            let d = bind_ok (mark_at Dot c.0) (λ rest. Ok (s, rest)) y c.2 in
            subst (DescriptionStands s ts) (ok_is (s, d.0) y d.2)
            (tt, refl, inr (tail ts, next_word_stands words.Status ts f.0, (c.0, (a.0, mark_stands OpenParenthesis (tail ts) a.0 a.1, (b.0, status_stands a.0 b.0 b.1, mark_stands CloseParenthesis b.0 c.0 c.1)), mark_stands Dot c.0 d.0 d.1))))
        | inr f ↦ absurd (refused_not Unexpected ts y f.1)
      ]
    ]

pub descriptions_stand : (bytes : List ℕ) (ts rest : List Token) → descriptions_at bytes ts ≡ Ok rest → descriptions ts rest
unfolding descriptions_at
descriptions_stand bytes ts rest e =
    let a = bind_ok (word_at words.ListOfDescriptions ts) _ rest e in
    let b = bind_ok (mark_at Dot a.0) _ rest a.2 in
    let c = bind_ok (listed description_at (length bytes) tt b.0) _ rest b.2 in
    let all = listed_stand (λ item. description) (λ s item. s) description_at description_stands (length bytes) tt b.0 c.0 c.1 in
    subst (descriptions ts) (ok_is c.0.1 rest c.2) (all.0, (a.0, word_stands words.ListOfDescriptions ts a.0 a.1, (b.0, mark_stands Dot a.0 b.0 b.1, all.2)))

-- ---- what is written as a description is read

description_takes : Takes description
description_takes ts rest (inl p) =
    then_takes (any_word is_description_word) (enclosed text ⨾ mark Dot) (token_takes _) (then_keeps (enclosed text) (mark Dot) (weaken (enclosed text) (enclosed_takes text (weaken text (token_takes _)))) (weaken (mark Dot) (mark_takes _))) ts rest p
description_takes ts rest (inr p) =
    then_takes (word words.Status) (enclosed (any_word is_status_word) ⨾ mark Dot) (word_takes _) (then_keeps (enclosed (any_word is_status_word)) (mark Dot) (weaken (enclosed (any_word is_status_word)) (enclosed_takes (any_word is_status_word) (weaken (any_word is_status_word) (token_takes _)))) (weaken (mark Dot) (mark_takes _))) ts rest p

pub descriptions_keep : Keeps descriptions
descriptions_keep ts rest p =
    let items = each (λ item. description) p.0 in
    then_keeps (word words.ListOfDescriptions) (mark Dot ⨾ items ⨾ list_end) (weaken (word words.ListOfDescriptions) (word_takes _))
    (then_keeps (mark Dot) (items ⨾ list_end) (weaken (mark Dot) (mark_takes _)) (then_keeps items list_end (each_keeps (λ item. description) (λ item. weaken description description_takes) p.0) end_keeps)) ts rest p.1

abbrev is_text_word : Word → Bool
is_text_word w = bytes_eq (spelling w) (spelling words.Name) || bytes_eq (spelling w) (spelling words.Author) || bytes_eq (spelling w) (spelling words.Version) || bytes_eq (spelling w) (spelling words.Logic) || bytes_eq (spelling w) (spelling words.Description) || bytes_eq (spelling w) (spelling words.Date)

text_word : (w : Word) → is_description_word w ≡ true → is_text_word w ≡ true
text_word words.Name e = refl
text_word words.Author e = refl
text_word words.Version e = refl
text_word words.Logic e = refl
text_word words.Description e = refl
text_word words.Date e = refl
text_word _ e = absurd cc

text_item_is : (w : Word) (ts rest : List Token) → word w ts rest → is_text_item ts ≡ is_text_word w
text_item_is w ts rest p =
    let is : (v : Word) → next_word v ts ≡ bytes_eq (spelling w) (spelling v) = λ v. next_word_is v w ts rest p in
    rw (is words.Name, is words.Author, is words.Version, is words.Logic, is words.Description, is words.Date) refl

abbrev is_status_of : Word → Bool
is_status_of w = bytes_eq (spelling w) (spelling words.Satisfiable) || bytes_eq (spelling w) (spelling words.Unsatisfiable) || bytes_eq (spelling w) (spelling words.Unknown)

status_word : (w : Word) → is_status_word w ≡ true → is_status_of w ≡ true
status_word words.Satisfiable e = refl
status_word words.Unsatisfiable e = refl
status_word words.Unknown e = refl
status_word _ e = absurd cc

status_read : (ts rest : List Token) → any_word is_status_word ts rest → status_at ts ≡ Ok rest
unfolding status_at
status_read ts rest p =
    let w = p.1 in
    let is : (v : Word) → next_word v ts ≡ bytes_eq (spelling w.0) (spelling v) = λ v. next_word_is v w.0 ts rest (p.0, w.1, p.2) in
    let passes : is_status ts ≡ true = rw (is words.Satisfiable, is words.Unsatisfiable, is words.Unknown) (status_word w.0 w.2) in
    when_true _ _ _ _ passes (ap (λ us. Ok us) (token_tail _ ts rest p))

description_read : (most : ℕ) (s item : ⊤) (ts rest : List Token) → Anything s → length ts ≤ most → description ts rest → description_at s ts ≡ Ok (s, rest)
unfolding description_at
description_read most s item ts rest fits near (inl p) =
    let w = p.1.1 in
    let opened = p.2.1 in
    let inner = opened.2 in
    when_true _ _ _ _ (text_item_is w.0 ts p.0 (p.1.0, w.1, p.1.2) ∙ text_word w.0 w.2)
    (then_ok _ _ _ _ (ap (mark_at OpenParenthesis) (token_tail _ ts p.0 p.1) ∙ mark_read OpenParenthesis p.0 opened.0 opened.1)
    (then_ok _ _ _ _ (text_read opened.0 inner.0 inner.1)
    (then_ok _ _ _ _ (mark_read CloseParenthesis inner.0 p.2.0 inner.2)
    (then_ok _ _ _ _ (mark_read Dot p.2.0 rest p.2.2) refl))))
description_read most s item ts rest fits near (inr p) =
    let opened = p.2.1 in
    let inner = opened.2 in
    when_false _ _ _ _ (text_item_is words.Status ts p.0 p.1)
    (when_true _ _ _ _ (word_next words.Status ts p.0 p.1)
    (then_ok _ _ _ _ (ap (mark_at OpenParenthesis) (token_tail _ ts p.0 p.1) ∙ mark_read OpenParenthesis p.0 opened.0 opened.1)
    (then_ok _ _ _ _ (status_read opened.0 inner.0 inner.1)
    (then_ok _ _ _ _ (mark_read CloseParenthesis inner.0 p.2.0 inner.2)
    (then_ok _ _ _ _ (mark_read Dot p.2.0 rest p.2.2) refl)))))

description_no_end : (item : ⊤) (ts rest : List Token) → description ts rest → next_word words.EndOfList ts ≡ false
description_no_end item ts rest (inl p) =
    let w = p.1.1 in
    next_word_is words.EndOfList w.0 ts p.0 (p.1.0, w.1, p.1.2) ∙ begins_no_end w.0 w.2
  where
    begins_no_end : (v : Word) → is_description_word v ≡ true → bytes_eq (spelling v) (spelling words.EndOfList) ≡ false
    begins_no_end words.EndOfList e = absurd cc
    begins_no_end _ e = refl
description_no_end item ts rest (inr p) = other_word words.EndOfList words.Status ts p.0 p.1 refl

pub descriptions_read : (bytes : List ℕ) (ts rest : List Token) → length ts ≤ length bytes → descriptions ts rest → descriptions_at bytes ts ≡ Ok rest
unfolding descriptions_at
descriptions_read bytes ts rest near p =
    let named = p.1 in
    let dot = named.2 in
    then_ok _ _ _ _ (word_read words.ListOfDescriptions ts named.0 named.1)
    (then_ok _ _ _ _ (mark_read Dot named.0 dot.0 dot.1)
    (then_ok _ _ _ _ (listed_read (λ item. description) (λ s item. s) description_at Anything (λ s items fits. tt) (λ item. description_takes) (length bytes) description_no_end (description_read (length bytes)) p.0 tt dot.0 rest tt (omega (arith, near, token_shorter _ ts named.0 named.1, token_shorter _ named.0 dot.0 dot.1)) dot.2) refl))
