-- Laws with their proofs, not definitions that a reader must believe: a phrase takes tokens from the front.
use Rattle.std.proofs.Common.{◌≡◌, ◌<◌, inl, inr, List, [], ◌∷◌, ◌++◌, length, sym, ap, ◌∙◌, append_assoc, length-append, arith}
use Rattle.dfg_tokens.specs.declared.word.Word.{Word}
use Rattle.dfg_tokens.specs.declared.piece.Mark.{Mark}
use Rattle.dfg_tokens.specs.declared.token.Token.{Token}
use Rattle.dfg_terms.specs.Phrases.{Phrase, ◌⨾◌, nothing, either, token, mark, word, each, each_behind_comma, comma_separated, enclosed, arguments}

-- the second list is the end of the first
pub record Leaves (ts : List Token) (rest : List Token) : Type 0 where
  pub front : List Token
  pub parts : ts ≡ front ++ rest

-- a token or more stands before it
pub record LeavesFewer (ts : List Token) (rest : List Token) : Type 0 where
  pub first : Token
  pub front : List Token
  pub parts : ts ≡ first ∷ front ++ rest

abbrev pub Keeps : Phrase → Type 0
Keeps P = (ts rest : List Token) → P ts rest → Leaves ts rest

abbrev pub Takes : Phrase → Type 0
Takes P = (ts rest : List Token) → P ts rest → LeavesFewer ts rest

pub fewer : (ts rest : List Token) → LeavesFewer ts rest → length rest < length ts
fewer ts rest l = omega (arith, ap length l.parts, length-append l.front rest)

pub leaves_then : (a b c : List Token) → Leaves a b → Leaves b c → Leaves a c
leaves_then a b c p q = record { front = p.front ++ q.front; parts = p.parts ∙ ap (λ (ts : List Token). p.front ++ ts) q.parts ∙ sym (append_assoc p.front q.front c) }

pub weaken : (P : Phrase) → Takes P → Keeps P
weaken P h ts rest p = let l = h ts rest p in record { front = l.first ∷ l.front; parts = l.parts }

pub nothing_keeps : Keeps nothing
nothing_keeps ts rest p = record { front = []; parts = p }

pub then_keeps : (P Q : Phrase) → Keeps P → Keeps Q → Keeps (P ⨾ Q)
then_keeps P Q h k ts rest p = leaves_then ts p.0 rest (h ts p.0 p.1) (k p.0 rest p.2)

pub then_takes : (P Q : Phrase) → Takes P → Keeps Q → Takes (P ⨾ Q)
then_takes P Q h k ts rest p =
    let l = h ts p.0 p.1 in
    let m = k p.0 rest p.2 in
    record { first = l.first; front = l.front ++ m.front; parts = l.parts ∙ ap (λ (us : List Token). l.first ∷ (l.front ++ us)) m.parts ∙ ap (λ (us : List Token). l.first ∷ us) (sym (append_assoc l.front m.front rest)) }

pub token_takes : (P : Token → Type 0) → Takes (token P)
token_takes P ts rest p = record { first = p.0; front = []; parts = p.2 }

pub either_takes : (P Q : Phrase) → Takes P → Takes Q → Takes (either P Q)
either_takes P Q h k ts rest (inl p) = h ts rest p
either_takes P Q h k ts rest (inr q) = k ts rest q

pub mark_takes : (m : Mark) → Takes (mark m)
mark_takes m ts rest p = token_takes _ ts rest p

pub word_takes : (w : Word) → Takes (word w)
word_takes w ts rest p = token_takes _ ts rest p

pub enclosed_takes : (P : Phrase) → Keeps P → Takes (enclosed P)
enclosed_takes P h = then_takes (mark _) (P ⨾ mark _) (mark_takes _) (then_keeps P (mark _) h (weaken (mark _) (mark_takes _)))

module _ {X : Type 0} (P : X → Phrase) (h : (x : X) → Keeps (P x)) where
  pub each_keeps : (xs : List X) → Keeps (each P xs)
  each_keeps [] = nothing_keeps
  each_keeps (x ∷ xs) = then_keeps (P x) (each P xs) (h x) (each_keeps xs)

  behind_keeps : (xs : List X) → Keeps (each_behind_comma P xs)
  behind_keeps [] = nothing_keeps
  behind_keeps (x ∷ xs) = then_keeps (mark _) (P x ⨾ each_behind_comma P xs) (weaken (mark _) (mark_takes _)) (then_keeps (P x) (each_behind_comma P xs) (h x) (behind_keeps xs))

  pub separated_keeps : (xs : List X) → Keeps (comma_separated P xs)
  separated_keeps [] ts rest p = absurd p
  separated_keeps (x ∷ xs) ts rest p = then_keeps (P x) (each_behind_comma P xs) (h x) (behind_keeps xs) ts rest p

  pub arguments_keep : (xs : List X) → Keeps (arguments P xs)
  arguments_keep [] = nothing_keeps
  arguments_keep (x ∷ xs) = weaken (enclosed (comma_separated P (x ∷ xs))) (enclosed_takes (comma_separated P (x ∷ xs)) (separated_keeps (x ∷ xs)))
