-- What is read as a problem is written so.
use Rattle.std.proofs.Common.{◌≡◌, ℕ, ◌≤◌, ◌<◌, inl, inr, Bool, true, false, ◌||◌, nat_le, nat_lt, List, [], ◌∷◌, ◌++◌, length, Option, Some, None, Result, Ok, Err, IfOk, refl, sym, ap, subst, ◌∙◌, length-append, arith}
use Rattle.std.proofs.lemmas.Bool.{or_cases}
use Rattle.std.proofs.lemmas.Bool.Decides.{nat_tests}
use Rattle.std.specs.Bool.{⊤}
use Rattle.std.specs.List.{AllByRecursion}
use Rattle.spl_terms.specs.declared.term.Kind.{Kind}
use Rattle.spl_terms.specs.declared.term.Kind.TheVariants.{Function, Predicate}
use Rattle.spl_terms.specs.declared.term.Symbol.{Symbol}
use Rattle.spl_symbols.specs.Symbols.{Declared, found, HasOwnNames}
use Rattle.dfg_tokens.specs.declared.word.Word.{Word}
use Rattle.dfg_tokens.specs.declared.word.Word.TheVariants as words
use Rattle.dfg_tokens.specs.declared.piece.Mark.TheVariants.{OpenParenthesis, CloseParenthesis, OpenBracket, CloseBracket, Comma, Dot}
use Rattle.dfg_tokens.specs.declared.piece.TokenKind.TheVariants as kinds
use Rattle.dfg_tokens.specs.declared.token.Token.{Token}
use Rattle.dfg_tokens.specs.Names.{is_name}
use Rattle.dfg_tokens.specs.Tokens.{token_bytes, tokens}
use Rattle.spl_symbols.specs.NameLaws.{one_more_name}
use Rattle.dfg_reader.specs.declared.fault.InputError.{InputError}
use Rattle.dfg_reader.specs.declared.fault.FaultKind.TheVariants.{Unexpected, DeclaredTwice, OutsideProfile, LimitReached}
use Rattle.dfg_reader.specs.declared.fault.Limit.TheVariants as limits
use Rattle.dfg_reader.specs.declared.formula.Formula.{Formula}
use Rattle.dfg_reader.specs.declared.problem.Entry.{Entry}
use Rattle.dfg_reader.specs.declared.problem.Problem.{Problem}
use Rattle.dfg_reader.specs.Reading.{◌>>=◌, Gives, place, tail, refuse, fault, next_word, next_name, mark_at, word_at, identifier_at, name_at, text_at, bytes_of, spelled_at, commas, items, listed}
use Rattle.dfg_reader.specs.Symbols.{named_if, free_if, new_name_at, arity_of, arity_if, arity_at, small_arity, open_entry, symbol_at, symbols_at, is_refused_item, symbol_item_at, signature_at}
use Rattle.dfg_reader.specs.GroundClauses.{formula_clauses, clauses, are_within_limits, HasLimits}
use Rattle.dfg_reader.specs.Clauses.{body_at, within_limits, label_at, clause_at, clauses_head_at, is_refused_list, list_at}
use Rattle.dfg_reader.specs.Problems.{is_text_item, is_status, status_at, description_at, descriptions_at, head_at, problem_at, problem}
use Rattle.dfg_reader.specs.Grammar.{mark, word, token, any_word, IsNumberOf, declaration, declarations, symbol_item, signature, is_description_word, is_status_word, description, descriptions, head, clause_list, IsSignature, IsWritten}
use Rattle.dfg_reader.proofs.Kept.{bind_ok, chosen, ok_is, refused_not, fault_not, commas_keep, listed_keep, items_keep, all-push}
use Rattle.dfg_reader.proofs.Limits.{limits-push, none_within, clauses-none}
use Rattle.dfg_reader.proofs.Stands.{spelled_is}
use Rattle.dfg_reader.proofs.InRow.{grown, lone, whole, fold_lone, fold_whole}
use Rattle.dfg_reader.proofs.Stands.{mark_stands, next_word_stands, word_stands, identifier_stands, name_stands, text_stands, separated_stand, items_stand, listed_stand}
use Rattle.dfg_reader.proofs.ClausesStand.{list_stands}

-- ---- declarations

free_stands : (o : Option Symbol) (count at : ℕ) → free_if o count at ≡ Ok tt → (o ≡ None) × (count < 65536)
free_stands (Some s) count at e = absurd (fault_not at DeclaredTwice tt e)
free_stands None count at e =
    elim (chosen (nat_le 65536 count) (fault at (LimitReached limits.Symbols)) (Ok tt) (Ok tt) e) [
      | inl h ↦ absurd (fault_not at (LimitReached limits.Symbols) tt h.1)
      | inr h ↦ (refl, below count h.0)
    ]
  where
    below : (n : ℕ) → nat_le 65536 n ≡ false → n < 65536
    below n h = grind (arith, nat_tests)

named_stands : (b : Bool) (at : ℕ) → named_if b at ≡ Ok tt → b ≡ true
named_stands true at e = refl
named_stands false at e = absurd (fault_not at Unexpected tt e)

new_name_stands : (bytes : List ℕ) (s : List Declared) (t : Token) (name : List ℕ) → new_name_at bytes s t ≡ Ok name → (token_bytes bytes t ≡ name) × (found name s ≡ None) × (length s < 65536) × (is_name name ≡ true)
unfolding new_name_at
new_name_stands bytes s t name e =
    let a = bind_ok (spelled_at bytes t) (λ name. named_if (is_name name) t.at >>= λ named. free_if (found name s) (length s) t.at >>= λ free. Ok name) name e in
    let n = bind_ok (named_if (is_name a.0) t.at) (λ named. free_if (found a.0 s) (length s) t.at >>= λ free. Ok a.0) name a.2 in
    let b = bind_ok (free_if (found a.0 s) (length s) t.at) (λ free. Ok a.0) name n.2 in
    subst (λ (n : List ℕ). (token_bytes bytes t ≡ n) × (found n s ≡ None) × (length s < 65536) × (is_name n ≡ true)) (ok_is a.0 name b.2)
    (let free = free_stands (found a.0 s) (length s) t.at b.1 in (spelled_is bytes t a.0 a.1, free.0, free.1, named_stands (is_name a.0) t.at n.1))

small_stands : (at n : ℕ) → small_arity at n ≡ Ok tt → n ≤ 255
small_stands at n e =
    elim (chosen (nat_lt 255 n) (fault at (LimitReached limits.Arity)) (Ok tt) (Ok tt) e) [
      | inl h ↦ absurd (fault_not at (LimitReached limits.Arity) tt h.1)
      | inr h ↦ most n h.0
    ]
  where
    most : (m : ℕ) → nat_lt 255 m ≡ false → m ≤ 255
    most m h = grind (arith, nat_tests)

arity_stands : (bytes : List ℕ) (ts : List Token) (x : ℕ × List Token) → arity_at bytes ts ≡ Ok x → token (IsNumberOf bytes x.0) ts x.1
unfolding arity_at bytes_of
arity_stands bytes ts x e =
    let a = bind_ok (identifier_at ts) (λ w. arity_if (arity_of (token_bytes bytes w.0)) ts w.1) x e in
    let name = identifier_stands ts a.0 a.1 in
    by_arity a.0.0 a.0.1 name.0 name.1 name.2 (arity_of (token_bytes bytes a.0.0)) refl a.2
  where
    by_arity : (t : Token) (rest : List Token) (w : Word) → t.kind ≡ kinds.Word w → ts ≡ t ∷ rest → (o : Option ℕ) → arity_of (token_bytes bytes t) ≡ o → arity_if o ts rest ≡ Ok x → token (IsNumberOf bytes x.0) ts x.1
    by_arity t rest w k is None n r = absurd (refused_not Unexpected ts x r)
    by_arity t rest w k is (Some m) n r = subst (λ (q : ℕ × List Token). token (IsNumberOf bytes q.0) ts q.1) (ok_is (m, rest) x r) (t, (w, k, n), is)

open_stands : (ts rest : List Token) → open_entry ts ≡ Ok rest → mark OpenParenthesis ts rest
unfolding open_entry
open_stands ts rest e =
    elim (chosen (next_name ts) (refuse OutsideProfile ts) (mark_at OpenParenthesis ts) (Ok rest) e) [
      | inl h ↦ absurd (refused_not OutsideProfile ts rest h.1)
      | inr h ↦ mark_stands OpenParenthesis ts rest h.1
    ]

abbrev NewSymbol : List ℕ → Kind → List Declared → List Token → List Declared × List Token → Type 0
NewSymbol bytes kind s ts q = (d : Declared) × (q.0 ≡ grown lone s d) × declaration bytes kind d ts q.1 × (found d.name s ≡ None) × (length s < 65536) × ((d.arity ≤ 255) × (is_name d.name ≡ true))

symbol_stands : (bytes : List ℕ) (kind : Kind) (s : List Declared) (ts : List Token) (y : List Declared × List Token) → symbol_at bytes kind s ts ≡ Ok y → NewSymbol bytes kind s ts y
unfolding symbol_at
symbol_stands bytes kind s ts y e =
    let a = bind_ok (open_entry ts) _ y e in
    let b = bind_ok (name_at a.0) _ y a.2 in
    let c = bind_ok (new_name_at bytes s b.0.0) _ y b.2 in
    let d = bind_ok (mark_at Comma b.0.1) _ y c.2 in
    let f = bind_ok (arity_at bytes d.0) _ y d.2 in
    let g = bind_ok (small_arity b.0.0.at f.0.0) _ y f.2 in
    let h = bind_ok (mark_at CloseParenthesis f.0.1) _ y g.2 in
    let name = name_stands a.0 b.0 b.1 in
    let new = new_name_stands bytes s b.0.0 c.0 c.1 in
    let one : Declared = record { name = c.0; arity = f.0.0; kind = kind } in
    subst (NewSymbol bytes kind s ts) (ok_is (s ++ one ∷ [], h.0) y h.2)
    (one, refl, (refl, (a.0, open_stands ts a.0 a.1, (f.0.1, (b.0.1, (b.0.0, (name.0, name.1, name.2, new.0), name.3), (d.0, mark_stands Comma b.0.1 d.0 d.1, arity_stands bytes d.0 f.0 f.1)), mark_stands CloseParenthesis f.0.1 h.0 h.1))), new.1, new.2, (small_stands b.0.0.at f.0.0 g.1, new.3))

-- ---- the list of symbols

module _ (bytes : List ℕ) where
  symbols_stand : (w : Word) (kind : Kind) (s : List Declared) (ts : List Token) (y : List Declared × List Token) → word w ts (tail ts) → symbols_at bytes kind s (tail ts) ≡ Ok y → (g : List Declared) × (y.0 ≡ s ++ g) × declarations bytes w kind g ts y.1
  unfolding symbols_at
  symbols_stand w kind s ts y named e =
      let a = bind_ok (mark_at OpenBracket (tail ts)) _ y e in
      let b = bind_ok (commas (symbol_at bytes kind) (length a.0) s a.0) _ y a.2 in
      let c = bind_ok (mark_at CloseBracket b.0.1) _ y b.2 in
      let d = bind_ok (mark_at Dot c.0) _ y c.2 in
      let all = separated_stand (declaration bytes kind) (grown lone) (symbol_at bytes kind) (λ s' us x r. (let one = symbol_stands bytes kind s' us x r in (one.0, one.1, one.2))) (length a.0) s a.0 b.0 b.1 in
      subst (λ (q : List Declared × List Token). (g : List Declared) × (q.0 ≡ s ++ g) × declarations bytes w kind g ts q.1) (ok_is (b.0.0, d.0) y d.2)
      (all.0, all.1 ∙ fold_lone s all.0, (tail ts, named, (a.0, mark_stands OpenBracket (tail ts) a.0 a.1, (b.0.1, all.2, (c.0, mark_stands CloseBracket b.0.1 c.0 c.1, mark_stands Dot c.0 d.0 d.1)))))

  item_stands : (s : List Declared) (ts : List Token) (y : List Declared × List Token) → symbol_item_at bytes s ts ≡ Ok y → (g : List Declared) × (y.0 ≡ grown whole s g) × symbol_item bytes g ts y.1
  unfolding symbol_item_at
  item_stands s ts y e =
      elim (chosen (is_refused_item ts) (refuse OutsideProfile ts) _ (Ok y) e) [
        | inl h ↦ absurd (refused_not OutsideProfile ts y h.1)
        | inr h ↦ elim (chosen (next_word words.Functions ts) (symbols_at bytes Function s (tail ts)) _ (Ok y) h.1) [
          | inl f ↦ (let g = symbols_stand words.Functions Function s ts y (next_word_stands words.Functions ts f.0) f.1 in (g.0, g.1, inl g.2))
          | inr f ↦ elim (chosen (next_word words.Predicates ts) (symbols_at bytes Predicate s (tail ts)) (refuse Unexpected ts) (Ok y) f.1) [
            | inl p ↦ (let g = symbols_stand words.Predicates Predicate s ts y (next_word_stands words.Predicates ts p.0) p.1 in (g.0, g.1, inr g.2))
            | inr p ↦ absurd (refused_not Unexpected ts y p.1)
          ]
        ]
      ]

  signature_stands : (ts : List Token) (y : List Declared × List Token) → signature_at bytes [] ts ≡ Ok y → signature bytes y.0 ts y.1
  unfolding signature_at
  signature_stands ts y e =
      elim (chosen (next_word words.ListOfSymbols ts) (mark_at Dot (tail ts) >>= λ rest. listed (symbol_item_at bytes) [] rest) (Ok ([], ts)) (Ok y) e) [
        | inl h ↦ (let a = bind_ok (mark_at Dot (tail ts)) (λ rest. listed (symbol_item_at bytes) [] rest) y h.1 in
            let all = listed_stand (symbol_item bytes) (grown whole) (symbol_item_at bytes) item_stands [] a.0 y a.2 in
            inr (all.0, all.1 ∙ fold_whole [] all.0, (tail ts, next_word_stands words.ListOfSymbols ts h.0, (a.0, mark_stands Dot (tail ts) a.0 a.1, all.2))))
        | inr h ↦ subst (λ (q : List Declared × List Token). signature bytes q.0 ts q.1) (ok_is ([], ts) y h.1) (inl (refl, refl))
      ]

-- ---- each name is new and may be one, and the symbols are within the limits

module _ (bytes : List ℕ) where
  abbrev IsSmall : Declared → Type 0
  IsSmall d = (d.arity ≤ 255) × (is_name d.name ≡ true)

  abbrev Sound : List Declared → Type 0
  Sound s = HasOwnNames s × (length s ≤ 65536) × AllByRecursion IsSmall s

  symbol_sound : (kind : Kind) (s : List Declared) (ts : List Token) (y : List Declared × List Token) → Sound s → symbol_at bytes kind s ts ≡ Ok y → Sound y.0
  symbol_sound kind s ts y sound e =
      let one = symbol_stands bytes kind s ts y e in
      let few : length (s ++ one.0 ∷ []) ≤ 65536 = omega (arith, length-append s (one.0 ∷ []), one.4) in
      subst Sound (sym one.1) (one_more_name s one.0 sound.0 one.3, few, all-push IsSmall s one.0 sound.2 one.5)

  symbols_sound : (kind : Kind) (s : List Declared) (ts : List Token) (y : List Declared × List Token) → Sound s → symbols_at bytes kind s ts ≡ Ok y → Sound y.0
  unfolding symbols_at
  symbols_sound kind s ts y sound e =
      let a = bind_ok (mark_at OpenBracket ts) _ y e in
      let b = bind_ok (commas (symbol_at bytes kind) (length a.0) s a.0) _ y a.2 in
      let c = bind_ok (mark_at CloseBracket b.0.1) _ y b.2 in
      let d = bind_ok (mark_at Dot c.0) _ y c.2 in
      subst (λ (q : List Declared × List Token). Sound q.0) (ok_is (b.0.0, d.0) y d.2) (commas_keep Sound (symbol_at bytes kind) (symbol_sound kind) (length a.0) s a.0 b.0 sound b.1)

  item_sound : (s : List Declared) (ts : List Token) (y : List Declared × List Token) → Sound s → symbol_item_at bytes s ts ≡ Ok y → Sound y.0
  unfolding symbol_item_at
  item_sound s ts y sound e =
      elim (chosen (is_refused_item ts) (refuse OutsideProfile ts) _ (Ok y) e) [
        | inl h ↦ absurd (refused_not OutsideProfile ts y h.1)
        | inr h ↦ elim (chosen (next_word words.Functions ts) (symbols_at bytes Function s (tail ts)) _ (Ok y) h.1) [
          | inl f ↦ symbols_sound Function s (tail ts) y sound f.1
          | inr f ↦ elim (chosen (next_word words.Predicates ts) (symbols_at bytes Predicate s (tail ts)) (refuse Unexpected ts) (Ok y) f.1) [
            | inl p ↦ symbols_sound Predicate s (tail ts) y sound p.1
            | inr p ↦ absurd (refused_not Unexpected ts y p.1)
          ]
        ]
      ]

  none_sound : Sound []
  none_sound = (λ i d e. absurd cc, omega arith, tt)

  signature_sound : (ts : List Token) (y : List Declared × List Token) → signature_at bytes [] ts ≡ Ok y → Sound y.0
  unfolding signature_at
  signature_sound ts y e =
      elim (chosen (next_word words.ListOfSymbols ts) (mark_at Dot (tail ts) >>= λ rest. listed (symbol_item_at bytes) [] rest) (Ok ([], ts)) (Ok y) e) [
        | inl h ↦ (let a = bind_ok (mark_at Dot (tail ts)) (λ rest. listed (symbol_item_at bytes) [] rest) y h.1 in listed_keep Sound (symbol_item_at bytes) item_sound [] a.0 y none_sound a.2)
        | inr h ↦ subst (λ (q : List Declared × List Token). Sound q.0) (ok_is ([], ts) y h.1) none_sound
      ]

  signature_is : (ts : List Token) (y : List Declared × List Token) → signature_at bytes [] ts ≡ Ok y → IsSignature y.0
  signature_is ts y e = signature_sound ts y e

-- ---- the clauses are within the limits

within_stands : (entries : List Entry) (at : ℕ) (f : Formula) → within_limits entries at f ≡ Ok tt → are_within_limits (clauses entries ++ formula_clauses f) ≡ true
unfolding within_limits
within_stands entries at f e =
    elim (chosen (are_within_limits (clauses entries ++ formula_clauses f)) (Ok tt) (fault at OutsideProfile) (Ok tt) e) [
      | inl h ↦ h.0
      | inr h ↦ absurd (fault_not at OutsideProfile tt h.1)
    ]

module _ (bytes : List ℕ) (symbols : List Declared) where
  clause_limited : (entries : List Entry) (ts : List Token) (y : List Entry × List Token) → HasLimits entries → clause_at bytes symbols entries ts ≡ Ok y → HasLimits y.0
  unfolding clause_at
  clause_limited entries ts y so_far e =
      let a = bind_ok (word_at words.Clause ts) _ y e in
      let b = bind_ok (mark_at OpenParenthesis a.0) _ y a.2 in
      let c = bind_ok (body_at bytes symbols b.0) _ y b.2 in
      let d = bind_ok (within_limits entries (place ts) c.0.0) _ y c.2 in
      let f = bind_ok (label_at c.0.1) _ y d.2 in
      let g = bind_ok (mark_at CloseParenthesis f.0) _ y f.2 in
      let k = bind_ok (mark_at Dot g.0) _ y g.2 in
      limits-push entries entries y.0 c.0.0 (place ts) refl (ap (λ (q : List Entry × List Token). q.0) (sym (ok_is _ y k.2))) (within_stands entries (place ts) c.0.0 d.1)

  list_limited : (entries : List Entry) (ts : List Token) (y : List Entry × List Token) → HasLimits entries → list_at bytes symbols entries ts ≡ Ok y → HasLimits y.0
  unfolding list_at
  list_limited entries ts y so_far e =
      elim (chosen (is_refused_list ts) (refuse OutsideProfile ts) _ (Ok y) e) [
        | inl c ↦ absurd (refused_not OutsideProfile ts y c.1)
        | inr c ↦ (let a = bind_ok (clauses_head_at ts) (λ rest. listed (clause_at bytes symbols) entries rest) y c.1 in
            listed_keep HasLimits (clause_at bytes symbols) clause_limited entries a.0 y so_far a.2)
      ]

-- ---- descriptions

one_of : (test : Word → Bool) (w : Word) (ts : List Token) → test w ≡ true → next_word w ts ≡ true → any_word test ts (tail ts)
one_of test w ts passes e = let p = next_word_stands w ts e in (p.0, (w, p.1, passes), p.2)

abbrev one_of_two : (test : Word → Bool) (v : Word) (ts : List Token) (b : Bool) → test v ≡ true → (b || next_word v ts) ≡ true → (b ≡ true → any_word test ts (tail ts)) → any_word test ts (tail ts)
one_of_two test v ts b passes e before =
    elim (or_cases b (next_word v ts) e) [
      | inl h ↦ before h
      | inr h ↦ one_of test v ts passes h
    ]

text_item_stands : (ts : List Token) → is_text_item ts ≡ true → any_word is_description_word ts (tail ts)
text_item_stands ts e =
    one_of_two is_description_word words.Date ts _ refl e
    (λ e5. one_of_two is_description_word words.Description ts _ refl e5
    (λ e4. one_of_two is_description_word words.Logic ts _ refl e4
    (λ e3. one_of_two is_description_word words.Version ts _ refl e3
    (λ e2. one_of_two is_description_word words.Author ts _ refl e2
    (λ e1. one_of is_description_word words.Name ts refl e1)))))

status_stands : (ts rest : List Token) → status_at ts ≡ Ok rest → any_word is_status_word ts rest
unfolding status_at
status_stands ts rest e =
    elim (chosen (is_status ts) (Ok (tail ts)) (refuse Unexpected ts) (Ok rest) e) [
      | inl h ↦ subst (any_word is_status_word ts) (ok_is (tail ts) rest h.1)
          (one_of_two is_status_word words.Unknown ts _ refl h.0
          (λ e2. one_of_two is_status_word words.Unsatisfiable ts _ refl e2
          (λ e1. one_of is_status_word words.Satisfiable ts refl e1)))
      | inr h ↦ absurd (refused_not Unexpected ts rest h.1)
    ]

abbrev DescriptionStands : ⊤ → List Token → ⊤ × List Token → Type 0
DescriptionStands s ts q = (item : ⊤) × (q.0 ≡ s) × description ts q.1

description_stands : (s : ⊤) (ts : List Token) (y : ⊤ × List Token) → description_at s ts ≡ Ok y → DescriptionStands s ts y
unfolding description_at
description_stands s ts y e =
    elim (chosen (is_text_item ts) (mark_at OpenParenthesis (tail ts) >>= λ a. text_at a >>= λ b. mark_at CloseParenthesis b >>= λ c. mark_at Dot c >>= λ rest. Ok (s, rest)) _ (Ok y) e) [
      | inl h ↦ (let a = bind_ok (mark_at OpenParenthesis (tail ts)) _ y h.1 in
          let b = bind_ok (text_at a.0) _ y a.2 in
          let c = bind_ok (mark_at CloseParenthesis b.0) (λ c. mark_at Dot c >>= λ rest. Ok (s, rest)) y b.2 in
          let d = bind_ok (mark_at Dot c.0) (λ rest. Ok (s, rest)) y c.2 in
          subst (DescriptionStands s ts) (ok_is (s, d.0) y d.2)
          (tt, refl, inl (tail ts, text_item_stands ts h.0, (c.0, (a.0, mark_stands OpenParenthesis (tail ts) a.0 a.1, (b.0, text_stands a.0 b.0 b.1, mark_stands CloseParenthesis b.0 c.0 c.1)), mark_stands Dot c.0 d.0 d.1))))
      | inr h ↦ elim (chosen (next_word words.Status ts) (mark_at OpenParenthesis (tail ts) >>= λ a. status_at a >>= λ b. mark_at CloseParenthesis b >>= λ c. mark_at Dot c >>= λ rest. Ok (s, rest)) (refuse Unexpected ts) (Ok y) h.1) [
        | inl f ↦ (let a = bind_ok (mark_at OpenParenthesis (tail ts)) _ y f.1 in
            let b = bind_ok (status_at a.0) _ y a.2 in
            let c = bind_ok (mark_at CloseParenthesis b.0) (λ c. mark_at Dot c >>= λ rest. Ok (s, rest)) y b.2 in
            let d = bind_ok (mark_at Dot c.0) (λ rest. Ok (s, rest)) y c.2 in
            subst (DescriptionStands s ts) (ok_is (s, d.0) y d.2)
            (tt, refl, inr (tail ts, next_word_stands words.Status ts f.0, (c.0, (a.0, mark_stands OpenParenthesis (tail ts) a.0 a.1, (b.0, status_stands a.0 b.0 b.1, mark_stands CloseParenthesis b.0 c.0 c.1)), mark_stands Dot c.0 d.0 d.1))))
        | inr f ↦ absurd (refused_not Unexpected ts y f.1)
      ]
    ]

descriptions_stand : (ts rest : List Token) → descriptions_at ts ≡ Ok rest → descriptions ts rest
unfolding descriptions_at
descriptions_stand ts rest e =
    let a = bind_ok (word_at words.ListOfDescriptions ts) _ rest e in
    let b = bind_ok (mark_at Dot a.0) _ rest a.2 in
    let c = bind_ok (listed description_at tt b.0) _ rest b.2 in
    let all = listed_stand (λ item. description) (λ s item. s) description_at description_stands tt b.0 c.0 c.1 in
    subst (descriptions ts) (ok_is c.0.1 rest c.2) (all.0, (a.0, word_stands words.ListOfDescriptions ts a.0 a.1, (b.0, mark_stands Dot a.0 b.0 b.1, all.2)))

-- ---- problems

head_stands : (ts rest : List Token) → head_at ts ≡ Ok rest → head ts rest
unfolding head_at
head_stands ts rest e =
    let a = bind_ok (word_at words.BeginProblem ts) _ rest e in
    let b = bind_ok (mark_at OpenParenthesis a.0) _ rest a.2 in
    let c = bind_ok (identifier_at b.0) _ rest b.2 in
    let d = bind_ok (mark_at CloseParenthesis c.0.1) _ rest c.2 in
    let name = identifier_stands b.0 c.0 c.1 in
    (a.0, word_stands words.BeginProblem ts a.0 a.1, (d.0, (b.0, mark_stands OpenParenthesis a.0 b.0 b.1, (c.0.1, (c.0.0, (name.0, name.1), name.2), mark_stands CloseParenthesis c.0.1 d.0 d.1)), mark_stands Dot d.0 rest d.2))

none_limited : HasLimits []
none_limited = ap are_within_limits clauses-none ∙ none_within

pub problem_stands : (bytes : List ℕ) (p : Problem) → problem bytes ≡ Ok p → IsWritten bytes p
unfolding problem problem_at
problem_stands bytes p e =
    let a = bind_ok (head_at (tokens bytes)) _ p e in
    let b = bind_ok (descriptions_at a.0) _ p a.2 in
    let c = bind_ok (signature_at bytes [] b.0) _ p b.2 in
    let d = bind_ok (items words.EndProblem (list_at bytes c.0.0) (length c.0.1) [] c.0.1) _ p c.2 in
    let f = bind_ok (mark_at Dot (tail d.0.1)) _ p d.2 in
    let read : Problem = record { signature = c.0.0; entries = d.0.0; proofs = []; end_at = place d.0.1 } in
    let begun = head_stands (tokens bytes) a.0 a.1 in
    let described = descriptions_stand a.0 b.0 b.1 in
    let lists = items_stand (clause_list bytes c.0.0) (grown whole) (list_at bytes c.0.0) (list_stands bytes c.0.0) words.EndProblem (length c.0.1) [] c.0.1 d.0 d.1 in
    let limited = items_keep HasLimits (list_at bytes c.0.0) (list_limited bytes c.0.0) words.EndProblem (length c.0.1) [] c.0.1 d.0 none_limited d.1 in
    subst (IsWritten bytes) (ok_is read p f.2) (
      f.0,
      signature_is bytes b.0 c.0 c.1,
      limited,
      refl,
      (a.0, begun, (b.0, described, (c.0.1, signature_stands bytes b.0 c.0 c.1, (d.0.1, (lists.0, lists.1 ∙ fold_whole [] lists.0, lists.2), (refl, (tail d.0.1, lists.3, mark_stands Dot (tail d.0.1) f.0 f.1)))))),
    )

pub written-read : (bytes : List ℕ) (ts : List Token) (r : Result Problem InputError) → ts ≡ tokens bytes → Gives {X = Problem} (λ p. p) r (problem_at bytes ts) → IfOk r (λ p. IsWritten bytes p)
unfolding problem
written-read bytes ts (Ok p) is given = problem_stands bytes p (ap (problem_at bytes) (sym is) ∙ given)
written-read bytes ts (Err e) is given = tt
