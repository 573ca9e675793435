-- Laws with their proofs, not definitions that a reader must believe: the list of symbols is read as it is written.
use Rattle.std.proofs.Common.{◌≡◌, ℕ, zero, suc, ◌+◌, ◌≤◌, ◌<◌, inl, inr, Bool, true, false, ◌&&◌, ◌||◌, nat_le, nat_lt, List, [], ◌∷◌, ◌++◌, length, fold, slice_get, Option, Some, None, Ok, refl, sym, ap, subst, ◌∙◌, append_assoc, length-append, arith}
use Rattle.std.proofs.lemmas.Bool.{and_from}
use Rattle.std.proofs.lemmas.Bool.Decides.{nat_tests}
use Rattle.std.proofs.lemmas.List.{append-nil}
use Rattle.std.proofs.lemmas.List.Folds.{list_all-append}
use Rattle.std.specs.List.{list_all, AllByRecursion}
use Rattle.std.specs.Str.{bytes_eq}
use Rattle.spl_terms.specs.declared.term.Kind.{Kind}
use Rattle.spl_terms.specs.declared.term.Kind.TheVariants.{Function, Predicate, Sort}
use Rattle.spl_terms.specs.declared.term.Symbol.{Symbol}
use Rattle.spl_symbols.specs.Symbols.{Declared, found, HasOwnNames, AreNamed}
use Rattle.spl_symbols.specs.NameLaws.{one_more_name}
use Rattle.dfg_tokens.specs.declared.word.Word.{Word}
use Rattle.dfg_tokens.specs.declared.word.Word.TheVariants as words
use Rattle.dfg_tokens.specs.declared.piece.Mark.TheVariants.{OpenParenthesis, CloseParenthesis, OpenBracket, CloseBracket, Comma, Dot}
use Rattle.dfg_tokens.specs.declared.token.Token.{Token}
use Rattle.dfg_tokens.specs.Names.{is_name}
use Rattle.dfg_tokens.specs.Words.{spelling}
use Rattle.dfg_tokens.specs.Tokens.{token_bytes}
use Rattle.dfg_tokens.specs.Cursors.{tail}
use Rattle.dfg_terms.specs.declared.fault.FaultKind.TheVariants.{Unexpected, DeclaredTwice, OutsideProfile, LimitReached}
use Rattle.dfg_terms.specs.declared.fault.Limit.TheVariants as limits
use Rattle.dfg_terms.specs.Reading.{◌>>=◌, Reader, refuse, fault, next_mark, next_word, next_name, mark_at, name_at, spelled_at, commas}
use Rattle.dfg_terms.specs.Numbers.{arity_at}
use Rattle.dfg_terms.specs.Phrases.{Phrase, ◌⨾◌, token, mark, word, IsNameOf, IsArityOf, each, comma_separated, enclosed}
use Rattle.dfg_terms.specs.ResultLaws.{bind_ok, chosen, ok_is, refused_not, fault_not, then_ok, when_true, when_false}
use Rattle.dfg_terms.specs.StepLaws.{token_shorter, token_tail, mark_read, mark_no_name, other_mark, next_word_is, other_word, word_next, name_read}
use Rattle.dfg_terms.specs.StandLaws.{mark_stands, next_word_stands, name_stands, spelled_is, separated_stand}
use Rattle.dfg_terms.specs.FrontLaws.{Takes, Keeps, token_takes, then_takes, then_keeps, weaken, nothing_keeps, mark_takes, word_takes, enclosed_takes, each_keeps, separated_keeps}
use Rattle.dfg_terms.specs.RowLaws.{grown, lone, fold_lone, separated_read}
use Rattle.dfg_terms.specs.NumberLaws.{arity_stands, arity_read}
use Rattle.dfg_terms.specs.SymbolLaws.{declared_spelled, named_at_number}
use Rattle.dfg_lists.specs.Lists.{listed, named_if, free_if, new_name_at, small_arity, open_entry, symbol_at, sort_at, bracketed, is_outside_item, symbol_item_at, signature_at}
use Rattle.dfg_lists.specs.Grammar.{concatenated, list_end, declaration, sort_declaration, declarations, symbol_item, signature, IsSignature}
use Rattle.dfg_lists.specs.NewNameLaws.{get_next, new_name}
use Rattle.dfg_lists.specs.GroupLaws.{end_keeps, listed_stand, listed_read, commas_keep, listed_keep, Begins, begins_earlier, whole, fold_whole}

-- ---- what is read as an entry is written so

free_stands : (o : Option Symbol) (count at : ℕ) → free_if o count at ≡ Ok tt → (o ≡ None) × (count < 65536)
free_stands (Some s) count at e = absurd (fault_not at DeclaredTwice tt e)
free_stands None count at e =
    elim (chosen (nat_le 65536 count) (fault at (LimitReached limits.Symbols)) (Ok tt) (Ok tt) e) [
      | inl h ↦ absurd (fault_not at (LimitReached limits.Symbols) tt h.1)
      | inr h ↦ (refl, below count h.0)
    ]
  where
    below : (n : ℕ) → nat_le 65536 n ≡ false → n < 65536
    below n h = grind (arith, nat_tests)

named_stands : (b : Bool) (at : ℕ) → named_if b at ≡ Ok tt → b ≡ true
named_stands true at e = refl
named_stands false at e = absurd (fault_not at Unexpected tt e)

new_name_stands : (bytes : List ℕ) (s : List Declared) (t : Token) (name : List ℕ) → new_name_at bytes s t ≡ Ok name → (token_bytes bytes t ≡ name) × (found name s ≡ None) × (length s < 65536) × (is_name name ≡ true)
unfolding new_name_at
new_name_stands bytes s t name e =
    let a = bind_ok (spelled_at bytes t) (λ name. named_if (is_name name) t.at >>= λ named. free_if (found name s) (length s) t.at >>= λ free. Ok name) name e in
    let n = bind_ok (named_if (is_name a.0) t.at) (λ named. free_if (found a.0 s) (length s) t.at >>= λ free. Ok a.0) name a.2 in
    let b = bind_ok (free_if (found a.0 s) (length s) t.at) (λ free. Ok a.0) name n.2 in
    subst (λ (n : List ℕ). (token_bytes bytes t ≡ n) × (found n s ≡ None) × (length s < 65536) × (is_name n ≡ true)) (ok_is a.0 name b.2)
    (let free = free_stands (found a.0 s) (length s) t.at b.1 in (spelled_is bytes t a.0 a.1, free.0, free.1, named_stands (is_name a.0) t.at n.1))

small_stands : (at n : ℕ) → small_arity at n ≡ Ok tt → n ≤ 255
small_stands at n e =
    elim (chosen (nat_lt 255 n) (fault at (LimitReached limits.Arity)) (Ok tt) (Ok tt) e) [
      | inl h ↦ absurd (fault_not at (LimitReached limits.Arity) tt h.1)
      | inr h ↦ most n h.0
    ]
  where
    most : (m : ℕ) → nat_lt 255 m ≡ false → m ≤ 255
    most m h = grind (arith, nat_tests)

open_stands : (ts rest : List Token) → open_entry ts ≡ Ok rest → mark OpenParenthesis ts rest
unfolding open_entry
open_stands ts rest e =
    elim (chosen (next_name ts) (refuse OutsideProfile ts) (mark_at OpenParenthesis ts) (Ok rest) e) [
      | inl h ↦ absurd (refused_not OutsideProfile ts rest h.1)
      | inr h ↦ mark_stands OpenParenthesis ts rest h.1
    ]

-- an entry that is read is one more symbol, which is new, and there is room for it
abbrev NewSymbol : (Declared → Phrase) → List Declared → List Token → List Declared × List Token → Type 0
NewSymbol P s ts q = (d : Declared) × (q.0 ≡ grown lone s d) × P d ts q.1 × (found d.name s ≡ None) × (length s < 65536) × (d.arity ≤ 255) × (is_name d.name ≡ true)

abbrev AddsSymbols : (Declared → Phrase) → Reader (List Declared) → Type 0
AddsSymbols P read = (s : List Declared) (ts : List Token) (y : List Declared × List Token) → read s ts ≡ Ok y → NewSymbol P s ts y

symbol_stands : (bytes : List ℕ) (kind : Kind) → AddsSymbols (declaration bytes kind) (symbol_at bytes kind)
unfolding symbol_at
symbol_stands bytes kind s ts y e =
    let a = bind_ok (open_entry ts) _ y e in
    let b = bind_ok (name_at a.0) _ y a.2 in
    let c = bind_ok (new_name_at bytes s b.0.0) _ y b.2 in
    let d = bind_ok (mark_at Comma b.0.1) _ y c.2 in
    let f = bind_ok (arity_at bytes d.0) _ y d.2 in
    let g = bind_ok (small_arity b.0.0.at f.0.0) _ y f.2 in
    let h = bind_ok (mark_at CloseParenthesis f.0.1) _ y g.2 in
    let name = name_stands a.0 b.0 b.1 in
    let new = new_name_stands bytes s b.0.0 c.0 c.1 in
    let one : Declared = record { name = c.0; arity = f.0.0; kind = kind } in
    subst (NewSymbol (declaration bytes kind) s ts) (ok_is (s ++ one ∷ [], h.0) y h.2)
    (one, refl, (refl, (a.0, open_stands ts a.0 a.1, (f.0.1, (b.0.1, (b.0.0, (name.0, name.1, name.2, new.0), name.3), (d.0, mark_stands Comma b.0.1 d.0 d.1, arity_stands bytes d.0 f.0 f.1)), mark_stands CloseParenthesis f.0.1 h.0 h.1))), new.1, new.2, small_stands b.0.0.at f.0.0 g.1, new.3)

sort_stands : (bytes : List ℕ) → AddsSymbols (sort_declaration bytes) (sort_at bytes)
unfolding sort_at
sort_stands bytes s ts y e =
    let a = bind_ok (name_at ts) _ y e in
    let b = bind_ok (new_name_at bytes s a.0.0) _ y a.2 in
    let name = name_stands ts a.0 a.1 in
    let new = new_name_stands bytes s a.0.0 b.0 b.1 in
    let one : Declared = record { name = b.0; arity = 1; kind = Sort } in
    subst (NewSymbol (sort_declaration bytes) s ts) (ok_is (s ++ one ∷ [], a.0.1) y b.2)
    (one, refl, (refl, refl, (a.0.0, (name.0, name.1, name.2, new.0), name.3)), new.1, new.2, omega arith, new.3)

-- ---- the list of symbols

abbrev ListStands : Word → (Declared → Phrase) → List Declared → List Token → List Declared × List Token → Type 0
ListStands w P s ts q = (g : List Declared) × (q.0 ≡ grown whole s g) × declarations w P g ts q.1

bracketed_stands : (w : Word) (P : Declared → Phrase) (read : Reader (List Declared)) → AddsSymbols P read
    → (count : ℕ) (s : List Declared) (ts : List Token) (y : List Declared × List Token) → word w ts (tail ts) → bracketed read count s (tail ts) ≡ Ok y → ListStands w P s ts y
unfolding bracketed
bracketed_stands w P read law count s ts y named e =
    let a = bind_ok (mark_at OpenBracket (tail ts)) _ y e in
    let b = bind_ok (commas read count s a.0) _ y a.2 in
    let c = bind_ok (mark_at CloseBracket b.0.1) _ y b.2 in
    let d = bind_ok (mark_at Dot c.0) _ y c.2 in
    let all = separated_stand P (grown lone) read (λ s' us x r. (let one = law s' us x r in (one.0, one.1, one.2))) count s a.0 b.0 b.1 in
    subst (ListStands w P s ts) (ok_is (b.0.0, d.0) y d.2)
    (all.0, all.1 ∙ fold_lone s all.0, (tail ts, named, (a.0, mark_stands OpenBracket (tail ts) a.0 a.1, (b.0.1, all.2, (c.0, mark_stands CloseBracket b.0.1 c.0 c.1, mark_stands Dot c.0 d.0 d.1)))))

-- No name stands twice, each may be one, and the symbols are within the limits: what entries keep.
abbrev Keeping : Reader (List Declared) → Type 0
Keeping read = (s : List Declared) (ts : List Token) (y : List Declared × List Token) → IsSignature s → read s ts ≡ Ok y → IsSignature y.0

all-push : {X : Type 0} (P : X → Type 0) (xs : List X) (x : X) → AllByRecursion P xs → P x → AllByRecursion P (xs ++ x ∷ [])
all-push P [] x all p = (p, tt)
all-push P (y ∷ xs) x all p = (all.0, all-push P xs x all.1 p)

entry_keeps : (P : Declared → Phrase) (read : Reader (List Declared)) → AddsSymbols P read → Keeping read
entry_keeps P read law s ts y sound e =
    let one = law s ts y e in
    let d = one.0 in
    let few : length (s ++ d ∷ []) ≤ 65536 = omega (arith, length-append s (d ∷ []), one.4) in
    let name : Declared → Bool = λ x. is_name x.name in
    let names : AreNamed (s ++ d ∷ []) = list_all-append name s (d ∷ []) ∙ and_from (list_all name s) (list_all name (d ∷ [])) sound.1 (and_from (is_name d.name) true one.6 refl) in
    subst IsSignature (sym one.1) (one_more_name s d sound.0 one.3, names, few, all-push (λ (x : Declared). x.arity ≤ 255) s d sound.3 one.5)

bracketed_keeps : (read : Reader (List Declared)) → Keeping read → (count : ℕ) → Keeping (bracketed read count)
unfolding bracketed
bracketed_keeps read keeps count s ts y sound e =
    let a = bind_ok (mark_at OpenBracket ts) _ y e in
    let b = bind_ok (commas read count s a.0) _ y a.2 in
    let c = bind_ok (mark_at CloseBracket b.0.1) _ y b.2 in
    let d = bind_ok (mark_at Dot c.0) _ y c.2 in
    subst (λ (q : List Declared × List Token). IsSignature q.0) (ok_is (b.0.0, d.0) y d.2) (commas_keep IsSignature read keeps count s a.0 b.0 sound b.1)

module _ (bytes : List ℕ) where
  abbrev functions : Reader (List Declared)
  functions = bracketed (symbol_at bytes Function) (length bytes)

  abbrev predicates : Reader (List Declared)
  predicates = bracketed (symbol_at bytes Predicate) (length bytes)

  abbrev sorts : Reader (List Declared)
  sorts = bracketed (sort_at bytes) (length bytes)

  item_stands : (s : List Declared) (ts : List Token) (y : List Declared × List Token) → symbol_item_at bytes s ts ≡ Ok y → (g : List Declared) × (y.0 ≡ grown whole s g) × symbol_item bytes g ts y.1
  unfolding symbol_item_at
  item_stands s ts y e =
      elim (chosen (is_outside_item ts) (refuse OutsideProfile ts) _ (Ok y) e) [
        | inl h ↦ absurd (refused_not OutsideProfile ts y h.1)
        | inr h ↦ elim (chosen (next_word words.Functions ts) (functions s (tail ts)) _ (Ok y) h.1) [
          | inl f ↦ (let g = bracketed_stands words.Functions (declaration bytes Function) (symbol_at bytes Function) (symbol_stands bytes Function) (length bytes) s ts y (next_word_stands words.Functions ts f.0) f.1 in (g.0, g.1, inl g.2))
          | inr f ↦ elim (chosen (next_word words.Predicates ts) (predicates s (tail ts)) _ (Ok y) f.1) [
            | inl p ↦ (let g = bracketed_stands words.Predicates (declaration bytes Predicate) (symbol_at bytes Predicate) (symbol_stands bytes Predicate) (length bytes) s ts y (next_word_stands words.Predicates ts p.0) p.1 in (g.0, g.1, inr (inl g.2)))
            | inr p ↦ elim (chosen (next_word words.Sorts ts) (sorts s (tail ts)) (refuse Unexpected ts) (Ok y) p.1) [
              | inl q ↦ (let g = bracketed_stands words.Sorts (sort_declaration bytes) (sort_at bytes) (sort_stands bytes) (length bytes) s ts y (next_word_stands words.Sorts ts q.0) q.1 in (g.0, g.1, inr (inr g.2)))
              | inr q ↦ absurd (refused_not Unexpected ts y q.1)
            ]
          ]
        ]
      ]

  item_keeps : Keeping (symbol_item_at bytes)
  unfolding symbol_item_at
  item_keeps s ts y sound e =
      elim (chosen (is_outside_item ts) (refuse OutsideProfile ts) _ (Ok y) e) [
        | inl h ↦ absurd (refused_not OutsideProfile ts y h.1)
        | inr h ↦ elim (chosen (next_word words.Functions ts) (functions s (tail ts)) _ (Ok y) h.1) [
          | inl f ↦ bracketed_keeps (symbol_at bytes Function) (entry_keeps (declaration bytes Function) (symbol_at bytes Function) (symbol_stands bytes Function)) (length bytes) s (tail ts) y sound f.1
          | inr f ↦ elim (chosen (next_word words.Predicates ts) (predicates s (tail ts)) _ (Ok y) f.1) [
            | inl p ↦ bracketed_keeps (symbol_at bytes Predicate) (entry_keeps (declaration bytes Predicate) (symbol_at bytes Predicate) (symbol_stands bytes Predicate)) (length bytes) s (tail ts) y sound p.1
            | inr p ↦ elim (chosen (next_word words.Sorts ts) (sorts s (tail ts)) (refuse Unexpected ts) (Ok y) p.1) [
              | inl q ↦ bracketed_keeps (sort_at bytes) (entry_keeps (sort_declaration bytes) (sort_at bytes) (sort_stands bytes)) (length bytes) s (tail ts) y sound q.1
              | inr q ↦ absurd (refused_not Unexpected ts y q.1)
            ]
          ]
        ]
      ]

  pub signature_stands : (ts : List Token) (y : List Declared × List Token) → signature_at bytes [] ts ≡ Ok y → signature bytes y.0 ts y.1
  unfolding signature_at
  signature_stands ts y e =
      elim (chosen (next_word words.ListOfSymbols ts) (mark_at Dot (tail ts) >>= λ rest. listed (symbol_item_at bytes) (length bytes) [] rest) (Ok ([], ts)) (Ok y) e) [
        | inl h ↦ (let a = bind_ok (mark_at Dot (tail ts)) (λ rest. listed (symbol_item_at bytes) (length bytes) [] rest) y h.1 in
            let all = listed_stand (symbol_item bytes) (grown whole) (symbol_item_at bytes) item_stands (length bytes) [] a.0 y a.2 in
            inr (all.0, all.1 ∙ fold_whole [] all.0, (tail ts, next_word_stands words.ListOfSymbols ts h.0, (a.0, mark_stands Dot (tail ts) a.0 a.1, all.2))))
        | inr h ↦ subst (λ (q : List Declared × List Token). signature bytes q.0 ts q.1) (ok_is ([], ts) y h.1) (inl (refl, refl))
      ]

  none_declared : IsSignature []
  none_declared = (λ i d e. absurd cc, refl, omega arith, tt)

  pub signature_is : (ts : List Token) (y : List Declared × List Token) → signature_at bytes [] ts ≡ Ok y → IsSignature y.0
  unfolding signature_at
  signature_is ts y e =
      elim (chosen (next_word words.ListOfSymbols ts) (mark_at Dot (tail ts) >>= λ rest. listed (symbol_item_at bytes) (length bytes) [] rest) (Ok ([], ts)) (Ok y) e) [
        | inl h ↦ (let a = bind_ok (mark_at Dot (tail ts)) (λ rest. listed (symbol_item_at bytes) (length bytes) [] rest) y h.1 in listed_keep IsSignature (symbol_item_at bytes) item_keeps (length bytes) [] a.0 y none_declared a.2)
        | inr h ↦ subst (λ (q : List Declared × List Token). IsSignature q.0) (ok_is ([], ts) y h.1) none_declared
      ]

-- ---- the list takes tokens

declaration_takes : (bytes : List ℕ) (kind : Kind) (d : Declared) → Takes (declaration bytes kind d)
declaration_takes bytes kind d ts rest p =
    let name = token (IsNameOf bytes d.name) in
    let number = token (IsArityOf bytes d.arity) in
    enclosed_takes (name ⨾ mark Comma ⨾ number) (then_keeps name (mark Comma ⨾ number) (weaken name (token_takes _)) (then_keeps (mark Comma) number (weaken (mark Comma) (mark_takes _)) (weaken number (token_takes _)))) ts rest p.1

sort_takes : (bytes : List ℕ) (d : Declared) → Takes (sort_declaration bytes d)
sort_takes bytes d ts rest p = token_takes _ ts rest p.2

declarations_take : (w : Word) (P : Declared → Phrase) → ((d : Declared) → Takes (P d)) → (ds : List Declared) → Takes (declarations w P ds)
declarations_take w P takes ds =
    then_takes (word w) (mark OpenBracket ⨾ comma_separated P ds ⨾ mark CloseBracket ⨾ mark Dot) (word_takes _)
    (then_keeps (mark OpenBracket) (comma_separated P ds ⨾ mark CloseBracket ⨾ mark Dot) (weaken (mark OpenBracket) (mark_takes _))
    (then_keeps (comma_separated P ds) (mark CloseBracket ⨾ mark Dot) (separated_keeps P (λ d. weaken (P d) (takes d)) ds)
    (then_keeps (mark CloseBracket) (mark Dot) (weaken (mark CloseBracket) (mark_takes _)) (weaken (mark Dot) (mark_takes _)))))

item_takes : (bytes : List ℕ) (ds : List Declared) → Takes (symbol_item bytes ds)
item_takes bytes ds ts rest (inl p) = declarations_take words.Functions (declaration bytes Function) (declaration_takes bytes Function) ds ts rest p
item_takes bytes ds ts rest (inr (inl p)) = declarations_take words.Predicates (declaration bytes Predicate) (declaration_takes bytes Predicate) ds ts rest p
item_takes bytes ds ts rest (inr (inr p)) = declarations_take words.Sorts (sort_declaration bytes) (sort_takes bytes) ds ts rest p

pub signature_keeps : (bytes : List ℕ) (symbols : List Declared) → Keeps (signature bytes symbols)
signature_keeps bytes symbols ts rest (inl p) = nothing_keeps ts rest p.1
signature_keeps bytes symbols ts rest (inr p) =
    let items = each (symbol_item bytes) p.0 in
    then_keeps (word words.ListOfSymbols) (mark Dot ⨾ items ⨾ list_end) (weaken (word words.ListOfSymbols) (word_takes _))
    (then_keeps (mark Dot) (items ⨾ list_end) (weaken (mark Dot) (mark_takes _)) (then_keeps items list_end (each_keeps (symbol_item bytes) (λ ds. weaken (symbol_item bytes ds) (item_takes bytes ds)) p.0) end_keeps)) ts rest p.2

-- ---- what is written is read

all_small : (ds : List Declared) (i : ℕ) (d : Declared) → AllByRecursion (λ (x : Declared). x.arity ≤ 255) ds → slice_get ds i ≡ Some d → d.arity ≤ 255
all_small [] i d all e = absurd cc
all_small (x ∷ ds) zero d all e = let same : x ≡ d = cc in subst (λ (y : Declared). y.arity ≤ 255) same all.0
all_small (x ∷ ds) (suc i) d all e = all_small ds i d all.1 e

module _ (bytes : List ℕ) (all : List Declared) (sig : IsSignature all) where
  -- what is known of a symbol of the signature
  own : (s : List Declared) (d : Declared) → Begins all (s ++ d ∷ []) → slice_get all (length s) ≡ Some d
  own s d begins =
      let parts : all ≡ s ++ d ∷ begins.0 = begins.1 ∙ append_assoc s (d ∷ []) begins.0 in
      ap (λ (ds : List Declared). slice_get ds (length s)) parts ∙ get_next s d begins.0

  is_new : (s : List Declared) (d : Declared) → Begins all (s ++ d ∷ []) → found d.name s ≡ None
  is_new s d begins =
      let parts : all ≡ s ++ d ∷ begins.0 = begins.1 ∙ append_assoc s (d ∷ []) begins.0 in
      new_name s d begins.0 (subst HasOwnNames parts sig.0)

  has_room : (s : List Declared) (d : Declared) → Begins all (s ++ d ∷ []) → nat_le 65536 (length s) ≡ false
  has_room s d begins =
      let count : length all ≡ length s + suc (length begins.0) = ap length (begins.1 ∙ append_assoc s (d ∷ []) begins.0) ∙ length-append s (d ∷ begins.0) in
      few (length s) (length all) (length begins.0) count sig.2
    where
      few : (m n k : ℕ) → n ≡ m + suc k → n ≤ 65536 → nat_le 65536 m ≡ false
      few m n k e h = grind (arith, nat_tests)

  new_name_read : (s : List Declared) (d : Declared) (t : Token) → Begins all (s ++ d ∷ []) → token_bytes bytes t ≡ d.name → new_name_at bytes s t ≡ Ok d.name
  unfolding new_name_at
  new_name_read s d t begins text =
      let here = own s d begins in
      let named : is_name d.name ≡ true = named_at_number all (length s) d sig.1 here in
      then_ok _ _ _ _ (declared_spelled bytes all sig.1 d.name (record { symbol = record { number = length s; kind = d.kind }; arity = d.arity }) t here text)
      (then_ok _ tt _ _ (ap (λ b. named_if b t.at) named)
      (then_ok _ tt _ _ (ap (λ o. free_if o (length s) t.at) (is_new s d begins) ∙ when_false _ _ _ _ (has_room s d begins) refl) refl))

  small_read : (s : List Declared) (d : Declared) (at : ℕ) → Begins all (s ++ d ∷ []) → small_arity at d.arity ≡ Ok tt
  small_read s d at begins = when_false _ _ _ _ (small d.arity (all_small all (length s) d sig.3 (own s d begins))) refl
    where
      small : (n : ℕ) → n ≤ 255 → nat_lt 255 n ≡ false
      small n h = grind (arith, nat_tests)

  open_read : (ts rest : List Token) → mark OpenParenthesis ts rest → open_entry ts ≡ Ok rest
  unfolding open_entry
  open_read ts rest p = when_false _ _ _ _ (mark_no_name OpenParenthesis ts rest p) (mark_read OpenParenthesis ts rest p)

  -- an entry that is written is read where its symbol is the next of the signature
  abbrev ReadsEntries : (Declared → Phrase) → Reader (List Declared) → Type 0
  ReadsEntries P read = (s : List Declared) (d : Declared) (ts rest : List Token) → Begins all (s ++ d ∷ []) → P d ts rest → read s ts ≡ Ok (s ++ d ∷ [], rest)

  symbol_read : (kind : Kind) → ReadsEntries (declaration bytes kind) (symbol_at bytes kind)
  unfolding symbol_at
  symbol_read kind s d ts rest begins p =
      let opened = p.1 in
      let inner = opened.2 in
      let named = inner.1 in
      let name = named.1.1 in
      let number = named.2 in
      then_ok _ _ _ _ (open_read ts opened.0 opened.1)
      (then_ok _ _ _ _ (name_read name.0 named.1.0 opened.0 named.0 name.1 name.2 named.1.2)
      (then_ok _ _ _ _ (new_name_read s d named.1.0 begins name.3)
      (then_ok _ _ _ _ (mark_read Comma named.0 number.0 number.1)
      (then_ok _ _ _ _ (arity_read bytes d.arity number.0 inner.0 number.2)
      (then_ok _ _ _ _ (small_read s d named.1.0.at begins)
      (then_ok _ _ _ _ (mark_read CloseParenthesis inner.0 rest inner.2)
      (λ i. Ok (s ++ record { name = d.name; arity = d.arity; kind = sym p.0 i } ∷ [], rest))))))))

  sort_read : ReadsEntries (sort_declaration bytes) (sort_at bytes)
  unfolding sort_at
  sort_read s d ts rest begins p =
      let name = p.2.1 in
      then_ok _ _ _ _ (name_read name.0 p.2.0 ts rest name.1 name.2 p.2.2)
      (then_ok _ _ _ _ (new_name_read s d p.2.0 begins name.3)
      (λ i. Ok (s ++ record { name = d.name; arity = sym p.1 i; kind = sym p.0 i } ∷ [], rest)))

  bracketed_read : (w : Word) (P : Declared → Phrase) (read : Reader (List Declared)) → ((d : Declared) → Takes (P d)) → ReadsEntries P read
      → (s ds : List Declared) (ts rest : List Token) → Begins all (s ++ ds) → length ts ≤ length bytes → declarations w P ds ts rest → bracketed read (length bytes) s (tail ts) ≡ Ok (s ++ ds, rest)
  unfolding bracketed
  bracketed_read w P read takes law s ds ts rest begins near p =
      let opened = p.2 in
      let inner = opened.2 in
      let closed = inner.2 in
      ap (bracketed read (length bytes) s) (token_tail _ ts p.0 p.1)
      ∙ then_ok _ _ _ _ (mark_read OpenBracket p.0 opened.0 opened.1)
      (then_ok _ _ _ _ (separated_read P (grown lone) (Begins all) read (begins_earlier lone all) takes (length bytes) (λ s' d us after fits few q apart. law s' d us after fits q) ds s opened.0 inner.0 (subst (Begins all) (sym (fold_lone s ds)) begins) (omega (arith, near, token_shorter _ ts p.0 p.1, token_shorter _ p.0 opened.0 opened.1)) inner.1 (other_mark Comma CloseBracket inner.0 closed.0 closed.1 refl, other_mark OpenParenthesis CloseBracket inner.0 closed.0 closed.1 refl))
      (then_ok _ _ _ _ (mark_read CloseBracket inner.0 closed.0 closed.1)
      (then_ok _ _ _ _ (mark_read Dot closed.0 rest closed.2)
      (ap (λ ds'. Ok (ds', rest)) (fold_lone s ds)))))

  item_is_taken : (v : Word) (ts rest : List Token) → word v ts rest → (bytes_eq (spelling v) (spelling words.Operators) || bytes_eq (spelling v) (spelling words.Quantifiers) || bytes_eq (spelling v) (spelling words.Translpairs)) ≡ false → is_outside_item ts ≡ false
  item_is_taken v ts rest p e =
      let is : (w : Word) → next_word w ts ≡ bytes_eq (spelling v) (spelling w) = λ w. next_word_is w v ts rest p in
      rw (is words.Operators, is words.Quantifiers, is words.Translpairs) e

  item_read : (s ds : List Declared) (ts rest : List Token) → Begins all (s ++ ds) → length ts ≤ length bytes → symbol_item bytes ds ts rest → symbol_item_at bytes s ts ≡ Ok (s ++ ds, rest)
  unfolding symbol_item_at
  item_read s ds ts rest begins near (inl p) =
      when_false _ _ _ _ (item_is_taken words.Functions ts p.0 p.1 refl)
      (when_true _ _ _ _ (word_next words.Functions ts p.0 p.1) (bracketed_read words.Functions (declaration bytes Function) (symbol_at bytes Function) (declaration_takes bytes Function) (symbol_read Function) s ds ts rest begins near p))
  item_read s ds ts rest begins near (inr (inl p)) =
      when_false _ _ _ _ (item_is_taken words.Predicates ts p.0 p.1 refl)
      (when_false _ _ _ _ (other_word words.Functions words.Predicates ts p.0 p.1 refl)
      (when_true _ _ _ _ (word_next words.Predicates ts p.0 p.1) (bracketed_read words.Predicates (declaration bytes Predicate) (symbol_at bytes Predicate) (declaration_takes bytes Predicate) (symbol_read Predicate) s ds ts rest begins near p)))
  item_read s ds ts rest begins near (inr (inr p)) =
      when_false _ _ _ _ (item_is_taken words.Sorts ts p.0 p.1 refl)
      (when_false _ _ _ _ (other_word words.Functions words.Sorts ts p.0 p.1 refl)
      (when_false _ _ _ _ (other_word words.Predicates words.Sorts ts p.0 p.1 refl)
      (when_true _ _ _ _ (word_next words.Sorts ts p.0 p.1) (bracketed_read words.Sorts (sort_declaration bytes) (sort_at bytes) (sort_takes bytes) sort_read s ds ts rest begins near p))))

  item_no_end : (ds : List Declared) (ts rest : List Token) → symbol_item bytes ds ts rest → next_word words.EndOfList ts ≡ false
  item_no_end ds ts rest (inl p) = other_word words.EndOfList words.Functions ts p.0 p.1 refl
  item_no_end ds ts rest (inr (inl p)) = other_word words.EndOfList words.Predicates ts p.0 p.1 refl
  item_no_end ds ts rest (inr (inr p)) = other_word words.EndOfList words.Sorts ts p.0 p.1 refl

  groups_begin : (groups : List (List Declared)) → all ≡ concatenated groups → Begins all (fold (grown whole) [] groups)
  groups_begin groups is = ([], is ∙ sym (fold_whole [] groups) ∙ sym (append-nil (fold (grown whole) [] groups)))

  pub signature_read : (ts rest : List Token) → length ts ≤ length bytes → signature bytes all ts rest → next_word words.ListOfSymbols rest ≡ false → signature_at bytes [] ts ≡ Ok (all, rest)
  unfolding signature_at
  signature_read ts rest near (inl p) other = when_false _ _ _ _ (ap (next_word words.ListOfSymbols) p.1 ∙ other) (λ i. Ok (sym p.0 i, p.1 i))
  signature_read ts rest near (inr p) other =
      let named = p.2 in
      let dot = named.2 in
      when_true _ _ _ _ (word_next words.ListOfSymbols ts named.0 named.1)
      (then_ok _ _ _ _ (ap (mark_at Dot) (token_tail _ ts named.0 named.1) ∙ mark_read Dot named.0 dot.0 dot.1)
      (listed_read (symbol_item bytes) (grown whole) (symbol_item_at bytes) (Begins all) (begins_earlier whole all) (item_takes bytes) (length bytes) item_no_end item_read p.0 [] dot.0 rest (groups_begin p.0 p.1) (omega (arith, near, token_shorter _ ts named.0 named.1, token_shorter _ named.0 dot.0 dot.1)) dot.2
      ∙ ap (λ ds. Ok (ds, rest)) (fold_whole [] p.0 ∙ sym p.1)))
