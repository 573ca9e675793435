-- A problem that is written is read.
use Rattle.std.proofs.Common.{◌≡◌, ℕ, suc, ◌+◌, ◌≤◌, inl, inr, Bool, true, false, ◌||◌, nat_le, nat_lt, List, [], ◌∷◌, ◌++◌, length, fold, slice_get, Some, None, Result, Ok, refl, sym, ap, subst, ◌∙◌, append_assoc, length-append, arith}
use Rattle.std.proofs.lemmas.Bool.Decides.{nat_tests}
use Rattle.std.proofs.lemmas.List.{append-nil}
use Rattle.std.specs.Bool.{⊤}
use Rattle.std.specs.Str.{bytes_eq}
use Rattle.spl_terms.specs.declared.term.Kind.{Kind}
use Rattle.spl_terms.specs.declared.term.Kind.TheVariants.{Function, Predicate}
use Rattle.spl_symbols.specs.Symbols.{Declared, found, HasOwnNames}
use Rattle.dfg_tokens.specs.declared.word.Word.{Word}
use Rattle.dfg_tokens.specs.declared.word.Word.TheVariants as words
use Rattle.dfg_tokens.specs.declared.piece.Mark.TheVariants.{OpenParenthesis, CloseParenthesis, OpenBracket, CloseBracket, Comma, Dot}
use Rattle.dfg_tokens.specs.declared.token.Token.{Token}
use Rattle.dfg_tokens.specs.Words.{spelling}
use Rattle.dfg_tokens.specs.Names.{is_name}
use Rattle.dfg_tokens.specs.Tokens.{token_bytes, tokens}
use Rattle.dfg_reader.specs.declared.problem.Entry.{Entry}
use Rattle.dfg_reader.specs.declared.problem.Problem.{Problem}
use Rattle.dfg_reader.specs.declared.fault.ReadFault.{ReadFault}
use Rattle.dfg_reader.specs.declared.fault.InputError.{InputError}
use Rattle.dfg_reader.specs.Reading.{Gives, tail, next_word, mark_at, bytes_of, items}
use Rattle.dfg_reader.specs.Symbols.{named_if, free_if, new_name_at, arity_if, arity_at, small_arity, open_entry, symbol_at, symbols_at, is_refused_item, symbol_item_at, signature_at}
use Rattle.dfg_reader.specs.GroundClauses.{HasLimits}
use Rattle.dfg_reader.specs.Clauses.{list_at}
use Rattle.dfg_reader.specs.Problems.{is_text_item, is_status, status_at, description_at, descriptions_at, head_at, problem_at, problem}
use Rattle.dfg_reader.specs.Grammar.{mark, word, token, any_word, each, concatenated, IsNumberOf, declaration, declarations, symbol_item, signature, is_description_word, is_status_word, description, descriptions, head, ending, clause_list, clause_lists, IsSignature, IsWritten}
use Rattle.dfg_reader.proofs.Names.{new_name, get_next}
use Rattle.dfg_reader.proofs.Steps.{then_ok, when_true, when_false, token_tail, other_mark, mark_read, mark_no_name, next_word_is, other_word, word_next, word_read, identifier_read, name_read, text_read}
use Rattle.dfg_reader.proofs.Fronts.{declaration_takes, symbol_item_takes, description_takes, clause_list_takes}
use Rattle.dfg_reader.proofs.InRow.{Begins, begins_earlier, grown, lone, whole, fold_lone, fold_whole, Anything, separated_read, items_read, listed_read}
use Rattle.dfg_reader.proofs.WrittenTerms.{name_letters, spelled_read, all_at}
use Rattle.dfg_reader.proofs.WrittenClauses.{list_read}

-- ---- declarations

module _ (bytes : List ℕ) (all : List Declared) (sig : IsSignature all) where
  -- what is known of a symbol of the signature
  own : (s : List Declared) (d : Declared) → Begins all (s ++ d ∷ []) → slice_get all (length s) ≡ Some d
  own s d begins =
      let parts : all ≡ s ++ d ∷ begins.0 = begins.1 ∙ append_assoc s (d ∷ []) begins.0 in
      ap (λ (ds : List Declared). slice_get ds (length s)) parts ∙ get_next s d begins.0

  is_new : (s : List Declared) (d : Declared) → Begins all (s ++ d ∷ []) → found d.name s ≡ None
  is_new s d begins =
      let parts : all ≡ s ++ d ∷ begins.0 = begins.1 ∙ append_assoc s (d ∷ []) begins.0 in
      new_name s d begins.0 (subst HasOwnNames parts sig.0)

  has_room : (s : List Declared) (d : Declared) → Begins all (s ++ d ∷ []) → nat_le 65536 (length s) ≡ false
  has_room s d begins =
      let count : length all ≡ length s + suc (length begins.0) = ap length (begins.1 ∙ append_assoc s (d ∷ []) begins.0) ∙ length-append s (d ∷ begins.0) in
      few (length s) (length all) (length begins.0) count sig.1
    where
      few : (m n k : ℕ) → n ≡ m + suc k → n ≤ 65536 → nat_le 65536 m ≡ false
      few m n k e h = grind (arith, nat_tests)

  new_name_read : (s : List Declared) (d : Declared) (t : Token) → Begins all (s ++ d ∷ []) → token_bytes bytes t ≡ d.name → new_name_at bytes s t ≡ Ok d.name
  unfolding new_name_at
  new_name_read s d t begins text =
      let named : is_name d.name ≡ true = (all_at (λ (x : Declared). (x.arity ≤ 255) × (is_name x.name ≡ true)) all (length s) d sig.2 (own s d begins)).1 in
      then_ok _ _ _ _ (spelled_read bytes t d.name text (name_letters d.name named))
      (then_ok _ tt _ _ (ap (λ b. named_if b t.at) named)
      (then_ok _ tt _ _ (ap (λ o. free_if o (length s) t.at) (is_new s d begins) ∙ when_false _ _ _ _ (has_room s d begins) refl) refl))

  small_read : (s : List Declared) (d : Declared) (at : ℕ) → Begins all (s ++ d ∷ []) → small_arity at d.arity ≡ Ok tt
  small_read s d at begins = when_false _ _ _ _ (small d.arity (all_at (λ (x : Declared). (x.arity ≤ 255) × (is_name x.name ≡ true)) all (length s) d sig.2 (own s d begins)).0) refl
    where
      small : (n : ℕ) → n ≤ 255 → nat_lt 255 n ≡ false
      small n h = grind (arith, nat_tests)

  arity_read : (n : ℕ) (ts rest : List Token) → token (IsNumberOf bytes n) ts rest → arity_at bytes ts ≡ Ok (n, rest)
  unfolding arity_at bytes_of
  arity_read n ts rest p =
      let number = p.1 in
      then_ok _ _ _ _ (identifier_read number.0 p.0 ts rest number.1 p.2) (ap (λ o. arity_if o ts rest) number.2)

  open_read : (ts rest : List Token) → mark OpenParenthesis ts rest → open_entry ts ≡ Ok rest
  unfolding open_entry
  open_read ts rest p = when_false _ _ _ _ (mark_no_name OpenParenthesis ts rest p) (mark_read OpenParenthesis ts rest p)

  symbol_read : (kind : Kind) (s : List Declared) (d : Declared) (ts rest : List Token) → Begins all (s ++ d ∷ []) → declaration bytes kind d ts rest → symbol_at bytes kind s ts ≡ Ok (s ++ d ∷ [], rest)
  unfolding symbol_at
  symbol_read kind s d ts rest begins p =
      let opened = p.1 in
      let inner = opened.2 in
      let named = inner.1 in
      let name = named.1.1 in
      let number = named.2 in
      then_ok _ _ _ _ (open_read ts opened.0 opened.1)
      (then_ok _ _ _ _ (name_read name.0 named.1.0 opened.0 named.0 name.1 name.2 named.1.2)
      (then_ok _ _ _ _ (new_name_read s d named.1.0 begins name.3)
      (then_ok _ _ _ _ (mark_read Comma named.0 number.0 number.1)
      (then_ok _ _ _ _ (arity_read d.arity number.0 inner.0 number.2)
      (then_ok _ _ _ _ (small_read s d named.1.0.at begins)
      (then_ok _ _ _ _ (mark_read CloseParenthesis inner.0 rest inner.2)
      (λ i. Ok (s ++ record { name = d.name; arity = d.arity; kind = sym p.0 i } ∷ [], rest))))))))

  -- ---- the list of symbols

  symbols_read : (w : Word) (kind : Kind) (s ds : List Declared) (ts rest : List Token) → Begins all (s ++ ds) → declarations bytes w kind ds ts rest → symbols_at bytes kind s (tail ts) ≡ Ok (s ++ ds, rest)
  unfolding symbols_at
  symbols_read w kind s ds ts rest begins p =
      let opened = p.2 in
      let inner = opened.2 in
      let closed = inner.2 in
      ap (symbols_at bytes kind s) (token_tail _ ts p.0 p.1)
      ∙ then_ok _ _ _ _ (mark_read OpenBracket p.0 opened.0 opened.1)
      (then_ok _ _ _ _ (separated_read (declaration bytes kind) (grown lone) (Begins all) (symbol_at bytes kind) (begins_earlier lone all) (declaration_takes bytes kind) (λ s' d us after fits q apart. symbol_read kind s' d us after fits q) ds s opened.0 inner.0 (subst (Begins all) (sym (fold_lone s ds)) begins) inner.1 (other_mark Comma CloseBracket inner.0 closed.0 closed.1 refl, other_mark OpenParenthesis CloseBracket inner.0 closed.0 closed.1 refl))
      (then_ok _ _ _ _ (mark_read CloseBracket inner.0 closed.0 closed.1)
      (then_ok _ _ _ _ (mark_read Dot closed.0 rest closed.2)
      (ap (λ ds'. Ok (ds', rest)) (fold_lone s ds)))))

  item_is_taken : (v : Word) (ts rest : List Token) → word v ts rest → (bytes_eq (spelling v) (spelling words.Operators) || bytes_eq (spelling v) (spelling words.Quantifiers) || bytes_eq (spelling v) (spelling words.Translpairs) || bytes_eq (spelling v) (spelling words.Sorts)) ≡ false → is_refused_item ts ≡ false
  item_is_taken v ts rest p e =
      let is : (w : Word) → next_word w ts ≡ bytes_eq (spelling v) (spelling w) = λ w. next_word_is w v ts rest p in
      rw (is words.Operators, is words.Quantifiers, is words.Translpairs, is words.Sorts) e

  item_read : (s ds : List Declared) (ts rest : List Token) → Begins all (s ++ ds) → symbol_item bytes ds ts rest → symbol_item_at bytes s ts ≡ Ok (s ++ ds, rest)
  unfolding symbol_item_at
  item_read s ds ts rest begins (inl p) =
      when_false _ _ _ _ (item_is_taken words.Functions ts p.0 p.1 refl)
      (when_true _ _ _ _ (word_next words.Functions ts p.0 p.1) (symbols_read words.Functions Function s ds ts rest begins p))
  item_read s ds ts rest begins (inr p) =
      when_false _ _ _ _ (item_is_taken words.Predicates ts p.0 p.1 refl)
      (when_false _ _ _ _ (other_word words.Functions words.Predicates ts p.0 p.1 refl)
      (when_true _ _ _ _ (word_next words.Predicates ts p.0 p.1) (symbols_read words.Predicates Predicate s ds ts rest begins p)))

  item_no_end : (ds : List Declared) (ts rest : List Token) → symbol_item bytes ds ts rest → next_word words.EndOfList ts ≡ false
  item_no_end ds ts rest (inl p) = other_word words.EndOfList words.Functions ts p.0 p.1 refl
  item_no_end ds ts rest (inr p) = other_word words.EndOfList words.Predicates ts p.0 p.1 refl

  groups_begin : (groups : List (List Declared)) → all ≡ concatenated groups → Begins all (fold (grown whole) [] groups)
  groups_begin groups is = ([], is ∙ sym (fold_whole [] groups) ∙ sym (append-nil (fold (grown whole) [] groups)))

  signature_read : (ts rest : List Token) → signature bytes all ts rest → next_word words.ListOfSymbols rest ≡ false → signature_at bytes [] ts ≡ Ok (all, rest)
  unfolding signature_at
  signature_read ts rest (inl p) other = when_false _ _ _ _ (ap (next_word words.ListOfSymbols) p.1 ∙ other) (λ i. Ok (sym p.0 i, p.1 i))
  signature_read ts rest (inr p) other =
      let named = p.2 in
      let dot = named.2 in
      when_true _ _ _ _ (word_next words.ListOfSymbols ts named.0 named.1)
      (then_ok _ _ _ _ (ap (mark_at Dot) (token_tail _ ts named.0 named.1) ∙ mark_read Dot named.0 dot.0 dot.1)
      (listed_read (symbol_item bytes) (grown whole) (Begins all) (symbol_item_at bytes) (begins_earlier whole all) (symbol_item_takes bytes) item_no_end item_read p.0 [] dot.0 rest (groups_begin p.0 p.1) dot.2
      ∙ ap (λ ds. Ok (ds, rest)) (fold_whole [] p.0 ∙ sym p.1)))

-- ---- descriptions

abbrev is_text_word : Word → Bool
is_text_word w = bytes_eq (spelling w) (spelling words.Name) || bytes_eq (spelling w) (spelling words.Author) || bytes_eq (spelling w) (spelling words.Version) || bytes_eq (spelling w) (spelling words.Logic) || bytes_eq (spelling w) (spelling words.Description) || bytes_eq (spelling w) (spelling words.Date)

text_word : (w : Word) → is_description_word w ≡ true → is_text_word w ≡ true
text_word words.Name e = refl
text_word words.Author e = refl
text_word words.Version e = refl
text_word words.Logic e = refl
text_word words.Description e = refl
text_word words.Date e = refl
text_word _ e = absurd cc

text_item_is : (w : Word) (ts rest : List Token) → word w ts rest → is_text_item ts ≡ is_text_word w
text_item_is w ts rest p =
    let is : (v : Word) → next_word v ts ≡ bytes_eq (spelling w) (spelling v) = λ v. next_word_is v w ts rest p in
    rw (is words.Name, is words.Author, is words.Version, is words.Logic, is words.Description, is words.Date) refl

abbrev is_status_of : Word → Bool
is_status_of w = bytes_eq (spelling w) (spelling words.Satisfiable) || bytes_eq (spelling w) (spelling words.Unsatisfiable) || bytes_eq (spelling w) (spelling words.Unknown)

status_word : (w : Word) → is_status_word w ≡ true → is_status_of w ≡ true
status_word words.Satisfiable e = refl
status_word words.Unsatisfiable e = refl
status_word words.Unknown e = refl
status_word _ e = absurd cc

status_read : (ts rest : List Token) → any_word is_status_word ts rest → status_at ts ≡ Ok rest
unfolding status_at
status_read ts rest p =
    let w = p.1 in
    let is : (v : Word) → next_word v ts ≡ bytes_eq (spelling w.0) (spelling v) = λ v. next_word_is v w.0 ts rest (p.0, w.1, p.2) in
    let passes : is_status ts ≡ true = rw (is words.Satisfiable, is words.Unsatisfiable, is words.Unknown) (status_word w.0 w.2) in
    when_true _ _ _ _ passes (ap (λ us. Ok us) (token_tail _ ts rest p))

description_read : (s item : ⊤) (ts rest : List Token) → Anything s → description ts rest → description_at s ts ≡ Ok (s, rest)
unfolding description_at
description_read s item ts rest fits (inl p) =
    let w = p.1.1 in
    let opened = p.2.1 in
    let inner = opened.2 in
    when_true _ _ _ _ (text_item_is w.0 ts p.0 (p.1.0, w.1, p.1.2) ∙ text_word w.0 w.2)
    (then_ok _ _ _ _ (ap (mark_at OpenParenthesis) (token_tail _ ts p.0 p.1) ∙ mark_read OpenParenthesis p.0 opened.0 opened.1)
    (then_ok _ _ _ _ (text_read opened.0 inner.0 inner.1)
    (then_ok _ _ _ _ (mark_read CloseParenthesis inner.0 p.2.0 inner.2)
    (then_ok _ _ _ _ (mark_read Dot p.2.0 rest p.2.2) refl))))
description_read s item ts rest fits (inr p) =
    let opened = p.2.1 in
    let inner = opened.2 in
    when_false _ _ _ _ (text_item_is words.Status ts p.0 p.1)
    (when_true _ _ _ _ (word_next words.Status ts p.0 p.1)
    (then_ok _ _ _ _ (ap (mark_at OpenParenthesis) (token_tail _ ts p.0 p.1) ∙ mark_read OpenParenthesis p.0 opened.0 opened.1)
    (then_ok _ _ _ _ (status_read opened.0 inner.0 inner.1)
    (then_ok _ _ _ _ (mark_read CloseParenthesis inner.0 p.2.0 inner.2)
    (then_ok _ _ _ _ (mark_read Dot p.2.0 rest p.2.2) refl)))))

description_no_end : (item : ⊤) (ts rest : List Token) → description ts rest → next_word words.EndOfList ts ≡ false
description_no_end item ts rest (inl p) =
    let w = p.1.1 in
    next_word_is words.EndOfList w.0 ts p.0 (p.1.0, w.1, p.1.2) ∙ begins_no_end w.0 w.2
  where
    begins_no_end : (v : Word) → is_description_word v ≡ true → bytes_eq (spelling v) (spelling words.EndOfList) ≡ false
    begins_no_end words.EndOfList e = absurd cc
    begins_no_end _ e = refl
description_no_end item ts rest (inr p) = other_word words.EndOfList words.Status ts p.0 p.1 refl

descriptions_read : (ts rest : List Token) → descriptions ts rest → descriptions_at ts ≡ Ok rest
unfolding descriptions_at
descriptions_read ts rest p =
    let named = p.1 in
    let dot = named.2 in
    then_ok _ _ _ _ (word_read words.ListOfDescriptions ts named.0 named.1)
    (then_ok _ _ _ _ (mark_read Dot named.0 dot.0 dot.1)
    (then_ok _ _ _ _ (listed_read (λ item. description) (λ s item. s) Anything description_at (λ s items fits. tt) (λ item. description_takes) description_no_end description_read p.0 tt dot.0 rest tt dot.2) refl))

-- ---- problems

head_read : (ts rest : List Token) → head ts rest → head_at ts ≡ Ok rest
unfolding head_at
head_read ts rest p =
    let opened = p.2.1 in
    let inner = opened.2 in
    let name = inner.1 in
    then_ok _ _ _ _ (word_read words.BeginProblem ts p.0 p.1)
    (then_ok _ _ _ _ (mark_read OpenParenthesis p.0 opened.0 opened.1)
    (then_ok _ _ _ _ (identifier_read name.1.0 name.0 opened.0 inner.0 name.1.1 name.2)
    (then_ok _ _ _ _ (mark_read CloseParenthesis inner.0 p.2.0 inner.2)
    (mark_read Dot p.2.0 rest p.2.2))))

module _ (bytes : List ℕ) (symbols : List Declared) (sig : IsSignature symbols) (entries : List Entry) (limits : HasLimits entries) where
  lists_no_symbols : (groups : List (List Entry)) (at : ℕ) (ts between rest : List Token) → each (clause_list bytes symbols) groups ts between → ending at between rest → next_word words.ListOfSymbols ts ≡ false
  lists_no_symbols [] at ts between rest p end = ap (next_word words.ListOfSymbols) p ∙ other_word words.ListOfSymbols words.EndProblem between end.1.0 end.1.1 refl
  lists_no_symbols (g ∷ groups) at ts between rest p end = other_word words.ListOfSymbols words.ListOfClauses ts p.1.0 p.1.1 refl

  lists_read : (ts rest after : List Token) → clause_lists bytes symbols entries ts rest → word words.EndProblem rest after → items words.EndProblem (list_at bytes symbols) (length ts) [] ts ≡ Ok (entries, rest)
  lists_read ts rest after p end =
      let fold_is : fold (grown whole) [] p.0 ≡ entries = fold_whole [] p.0 ∙ sym p.1 in
      items_read (clause_list bytes symbols) (grown whole) (Begins entries) (list_at bytes symbols) (begins_earlier whole entries) (clause_list_takes bytes symbols) words.EndProblem (λ g us later q. other_word words.EndProblem words.ListOfClauses us q.0 q.1 refl) (list_read bytes symbols sig entries limits) p.0 [] (length ts) ts rest ([], sym fold_is ∙ sym (append-nil (fold (grown whole) [] p.0))) (omega arith) p.2 (word_next words.EndProblem rest after end)
      ∙ ap (λ es. Ok (es, rest)) fold_is

pub problem_read : (bytes : List ℕ) (p : Problem) → IsWritten bytes p → problem bytes ≡ Ok p
unfolding problem problem_at
problem_read bytes p w =
    let sig = w.1 in
    let begun = w.4 in
    let described = begun.2 in
    let declared = described.2 in
    let listed_all = declared.2 in
    let end = listed_all.2 in
    then_ok _ _ _ _ (head_read (tokens bytes) begun.0 begun.1)
    (then_ok _ _ _ _ (descriptions_read begun.0 described.0 described.1)
    (then_ok _ _ _ _ (signature_read bytes p.signature sig described.0 declared.0 declared.1 (lists_no_symbols bytes p.signature sig p.entries w.2 listed_all.1.0 p.end_at declared.0 listed_all.0 w.0 listed_all.1.2 end))
    (then_ok _ _ _ _ (lists_read bytes p.signature sig p.entries w.2 declared.0 listed_all.0 end.1.0 listed_all.1 end.1.1)
    (then_ok _ _ _ _ (ap (mark_at Dot) (token_tail _ listed_all.0 end.1.0 end.1.1) ∙ mark_read Dot end.1.0 w.0 end.1.2)
    (λ i. Ok (record { signature = p.signature; entries = p.entries; proofs = sym w.3 i; end_at = sym end.0 i }))))))

pub every-read : (bytes : List ℕ) (ts : List Token) (r : Result Problem InputError) → ts ≡ tokens bytes → Gives {X = Problem} (λ p. p) r (problem_at bytes ts) → (p : Problem) → IsWritten bytes p → Gives {X = Problem} (λ q. q) r (Ok p)
unfolding problem
every-read bytes ts r is given p w = subst (λ (read : Result Problem ReadFault). Gives {X = Problem} (λ q. q) r read) (ap (problem_at bytes) is ∙ problem_read bytes p w) given
