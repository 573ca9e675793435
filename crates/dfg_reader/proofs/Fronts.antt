-- A phrase takes tokens from the front.
use Rattle.std.proofs.Common.{◌≡◌, ℕ, zero, suc, ◌-◌, ◌<◌, inl, inr, Bool, List, [], ◌∷◌, ◌++◌, length, sym, ap, ◌∙◌, append_assoc, length-append, arith}
use Rattle.spl_terms.specs.declared.term.Kind.{Kind}
use Rattle.spl_terms.specs.declared.term.Symbol.{Symbol}
use Rattle.spl_terms.specs.declared.term.Term.{Term}
use Rattle.spl_terms.specs.declared.atom.Atom.{Atom}
use Rattle.spl_symbols.specs.Symbols.{Declared}
use Rattle.dfg_tokens.specs.declared.word.Word.{Word}
use Rattle.dfg_tokens.specs.declared.word.Word.TheVariants as words
use Rattle.dfg_tokens.specs.declared.piece.Mark.{Mark}
use Rattle.dfg_tokens.specs.declared.piece.Mark.TheVariants.{Comma, Dot}
use Rattle.dfg_tokens.specs.declared.token.Token.{Token}
use Rattle.dfg_tokens.specs.Tokens.{AreTokensOf}
use Rattle.dfg_reader.specs.declared.formula.Formula.{Formula}
use Rattle.dfg_reader.specs.declared.problem.Entry.{Entry}
use Rattle.dfg_reader.specs.Grammar.{Phrase, ◌⨾◌, nothing, either, token, mark, word, each, each_behind_comma, comma_separated, enclosed, arguments, symbol, application, term, atom, unsigned, negative_literal, literal, body, label, identifier, text, list_end, origin, clause, clause_list, declaration, declarations, symbol_item, signature, description, descriptions, head}

pub all_left : (bytes : List ℕ) (a b : List Token) → AreTokensOf bytes (a ++ b) → AreTokensOf bytes a
all_left bytes [] b all = tt
all_left bytes (t ∷ a) b all = (all.0, all_left bytes a b all.1)

pub all_right : (bytes : List ℕ) (a b : List Token) → AreTokensOf bytes (a ++ b) → AreTokensOf bytes b
all_right bytes [] b all = all
all_right bytes (t ∷ a) b all = all_right bytes a b all.1

-- the second list is the end of the first
pub record Leaves (ts : List Token) (rest : List Token) : Type 0 where
  pub front : List Token
  pub parts : ts ≡ front ++ rest

-- a token or more stands before it
pub record LeavesFewer (ts : List Token) (rest : List Token) : Type 0 where
  pub first : Token
  pub front : List Token
  pub parts : ts ≡ first ∷ front ++ rest

abbrev pub Keeps : Phrase → Type 0
Keeps P = (ts rest : List Token) → P ts rest → Leaves ts rest

abbrev pub Takes : Phrase → Type 0
Takes P = (ts rest : List Token) → P ts rest → LeavesFewer ts rest

pub fewer : (ts rest : List Token) → LeavesFewer ts rest → length rest < length ts
fewer ts rest l = omega (arith, ap length l.parts, length-append l.front rest)

pub leaves_then : (a b c : List Token) → Leaves a b → Leaves b c → Leaves a c
leaves_then a b c p q = record { front = p.front ++ q.front; parts = p.parts ∙ ap (λ (ts : List Token). p.front ++ ts) q.parts ∙ sym (append_assoc p.front q.front c) }

pub weaken : (P : Phrase) → Takes P → Keeps P
weaken P h ts rest p = let l = h ts rest p in record { front = l.first ∷ l.front; parts = l.parts }

nothing_keeps : Keeps nothing
nothing_keeps ts rest p = record { front = []; parts = p }

pub then_keeps : (P Q : Phrase) → Keeps P → Keeps Q → Keeps (P ⨾ Q)
then_keeps P Q h k ts rest p = leaves_then ts p.0 rest (h ts p.0 p.1) (k p.0 rest p.2)

pub then_takes : (P Q : Phrase) → Takes P → Keeps Q → Takes (P ⨾ Q)
then_takes P Q h k ts rest p =
    let l = h ts p.0 p.1 in
    let m = k p.0 rest p.2 in
    record { first = l.first; front = l.front ++ m.front; parts = l.parts ∙ ap (λ (us : List Token). l.first ∷ (l.front ++ us)) m.parts ∙ ap (λ (us : List Token). l.first ∷ us) (sym (append_assoc l.front m.front rest)) }

pub token_takes : (P : Token → Type 0) → Takes (token P)
token_takes P ts rest p = record { first = p.0; front = []; parts = p.2 }

either_takes : (P Q : Phrase) → Takes P → Takes Q → Takes (either P Q)
either_takes P Q h k ts rest (inl p) = h ts rest p
either_takes P Q h k ts rest (inr q) = k ts rest q

pub mark_takes : (m : Mark) → Takes (mark m)
mark_takes m ts rest p = token_takes _ ts rest p

pub word_takes : (w : Word) → Takes (word w)
word_takes w ts rest p = token_takes _ ts rest p

pub enclosed_takes : (P : Phrase) → Keeps P → Takes (enclosed P)
enclosed_takes P h = then_takes (mark _) (P ⨾ mark _) (mark_takes _) (then_keeps P (mark _) h (weaken (mark _) (mark_takes _)))

module _ {X : Type 0} (P : X → Phrase) (h : (x : X) → Keeps (P x)) where
  each_keeps : (xs : List X) → Keeps (each P xs)
  each_keeps [] = nothing_keeps
  each_keeps (x ∷ xs) = then_keeps (P x) (each P xs) (h x) (each_keeps xs)

  behind_keeps : (xs : List X) → Keeps (each_behind_comma P xs)
  behind_keeps [] = nothing_keeps
  behind_keeps (x ∷ xs) = then_keeps (mark _) (P x ⨾ each_behind_comma P xs) (weaken (mark _) (mark_takes _)) (then_keeps (P x) (each_behind_comma P xs) (h x) (behind_keeps xs))

  separated_keeps : (xs : List X) → Keeps (comma_separated P xs)
  separated_keeps [] ts rest p = absurd p
  separated_keeps (x ∷ xs) ts rest p = then_keeps (P x) (each_behind_comma P xs) (h x) (behind_keeps xs) ts rest p

  arguments_keep : (xs : List X) → Keeps (arguments P xs)
  arguments_keep [] = nothing_keeps
  arguments_keep (x ∷ xs) = weaken (enclosed (comma_separated P (x ∷ xs))) (enclosed_takes (comma_separated P (x ∷ xs)) (separated_keeps (x ∷ xs)))

-- ---- terms, atoms and literals

symbol_takes : (bytes : List ℕ) (symbols : List Declared) (in_term : Bool) (s : Symbol) (count : ℕ) → Takes (symbol bytes symbols in_term s count)
symbol_takes bytes symbols in_term s count ts rest p = token_takes _ ts rest p

application_takes : (bytes : List ℕ) (symbols : List Declared) (in_term : Bool) (P : Term → Phrase) → ((t : Term) → Keeps (P t)) → (s : Symbol) (args : List Term) → Takes (application bytes symbols in_term P s args)
application_takes bytes symbols in_term P h s args = then_takes (symbol bytes symbols in_term s (length args)) (arguments P args) (symbol_takes bytes symbols in_term s (length args)) (arguments_keep P h args)

pub term_takes : (bytes : List ℕ) (symbols : List Declared) (depth : ℕ) (t : Term) → Takes (term bytes symbols depth t)
unfolding term
term_takes bytes symbols zero t ts rest p = absurd p
term_takes bytes symbols (suc depth) t ts rest p = application_takes bytes symbols _ (term bytes symbols depth) (λ u. weaken (term bytes symbols depth u) (term_takes bytes symbols depth u)) p.0 p.1 ts rest p.3

atom_takes : (bytes : List ℕ) (symbols : List Declared) (depth : ℕ) (a : Atom) → Takes (atom bytes symbols depth a)
atom_takes bytes symbols depth a ts rest p = application_takes bytes symbols _ (term bytes symbols (depth - 1)) (λ u. weaken (term bytes symbols (depth - 1) u) (term_takes bytes symbols (depth - 1) u)) p.0 p.1 ts rest p.3

unsigned_takes : (bytes : List ℕ) (symbols : List Declared) (depth : ℕ) (f : Formula) → Takes (unsigned bytes symbols depth f)
unsigned_takes bytes symbols depth f ts rest (inl p) = word_takes _ ts rest p.1
unsigned_takes bytes symbols depth f ts rest (inr (inl p)) = word_takes _ ts rest p.1
unsigned_takes bytes symbols depth f ts rest (inr (inr p)) = atom_takes bytes symbols depth p.0 ts rest p.2

negation_takes : (bytes : List ℕ) (symbols : List Declared) (depth : ℕ) (f : Formula) → Takes (negative_literal bytes symbols depth f)
negation_takes bytes symbols depth f ts rest p = then_takes (word _) (enclosed (unsigned bytes symbols (depth - 1) p.0)) (word_takes _) (weaken (enclosed (unsigned bytes symbols (depth - 1) p.0)) (enclosed_takes (unsigned bytes symbols (depth - 1) p.0) (weaken (unsigned bytes symbols (depth - 1) p.0) (unsigned_takes bytes symbols (depth - 1) p.0)))) ts rest p.2

pub literal_takes : (bytes : List ℕ) (symbols : List Declared) (depth : ℕ) (f : Formula) → Takes (literal bytes symbols depth f)
literal_takes bytes symbols depth f = either_takes (unsigned bytes symbols depth f) (negative_literal bytes symbols depth f) (unsigned_takes bytes symbols depth f) (negation_takes bytes symbols depth f)

-- ---- the items of lists

pub body_keeps : (bytes : List ℕ) (symbols : List Declared) (f : Formula) → Keeps (body bytes symbols f)
body_keeps bytes symbols f ts rest (inl p) = weaken _ (literal_takes bytes symbols 1000 f) ts rest p
body_keeps bytes symbols f ts rest (inr p) = weaken _ (then_takes (word _) _ (word_takes _) (weaken _ (enclosed_takes _ (separated_keeps (literal bytes symbols (1000 - 1)) (λ g. weaken _ (literal_takes bytes symbols (1000 - 1) g)) p.0)))) ts rest p.2

token_keeps : (P : Token → Type 0) → Keeps (token P)
token_keeps P = weaken (token P) (token_takes P)

label_keeps : Keeps label
label_keeps ts rest (inl p) = nothing_keeps ts rest p
label_keeps ts rest (inr p) = then_keeps (mark _) identifier (weaken _ (mark_takes _)) (token_keeps _) ts rest p

pub clause_takes : (bytes : List ℕ) (symbols : List Declared) (e : Entry) → Takes (clause bytes symbols e)
clause_takes bytes symbols e ts rest p = then_takes (word _) _ (word_takes _) (then_keeps _ (mark _) (weaken _ (enclosed_takes _ (then_keeps _ label (body_keeps bytes symbols e.formula) label_keeps))) (weaken _ (mark_takes _))) ts rest p.2

end_keeps : Keeps list_end
end_keeps = then_keeps (word _) (mark _) (weaken _ (word_takes _)) (weaken _ (mark_takes _))

pub origin_keeps : Keeps origin
origin_keeps = weaken _ (either_takes (word _) (word _) (word_takes _) (word_takes _))

pub clause_list_takes : (bytes : List ℕ) (symbols : List Declared) (es : List Entry) → Takes (clause_list bytes symbols es)
clause_list_takes bytes symbols es =
    then_takes (word _) _ (word_takes _) (then_keeps _ _ (weaken _ (enclosed_takes _ (then_keeps origin _ origin_keeps (then_keeps (mark _) (word _) (weaken _ (mark_takes _)) (weaken _ (word_takes _)))))) (then_keeps (mark _) _ (weaken _ (mark_takes _)) (then_keeps _ list_end (each_keeps (clause bytes symbols) (λ e. weaken _ (clause_takes bytes symbols e)) es) end_keeps)))

pub declaration_takes : (bytes : List ℕ) (kind : Kind) (d : Declared) → Takes (declaration bytes kind d)
declaration_takes bytes kind d ts rest p = enclosed_takes _ (then_keeps _ _ (token_keeps _) (then_keeps (mark _) _ (weaken _ (mark_takes _)) (token_keeps _))) ts rest p.1

declarations_take : (bytes : List ℕ) (w : Word) (kind : Kind) (ds : List Declared) → Takes (declarations bytes w kind ds)
declarations_take bytes w kind ds = then_takes (word _) _ (word_takes _) (then_keeps (mark _) _ (weaken _ (mark_takes _)) (then_keeps _ _ (separated_keeps (declaration bytes kind) (λ d. weaken _ (declaration_takes bytes kind d)) ds) (then_keeps (mark _) (mark _) (weaken _ (mark_takes _)) (weaken _ (mark_takes _)))))

pub symbol_item_takes : (bytes : List ℕ) (ds : List Declared) → Takes (symbol_item bytes ds)
symbol_item_takes bytes ds = either_takes _ _ (declarations_take bytes _ _ ds) (declarations_take bytes _ _ ds)

pub description_takes : Takes description
description_takes ts rest (inl p) = then_takes _ _ (token_takes _) (then_keeps _ (mark _) (weaken _ (enclosed_takes text (token_keeps _))) (weaken _ (mark_takes _))) ts rest p
description_takes ts rest (inr p) = then_takes (word _) _ (word_takes _) (then_keeps _ (mark _) (weaken _ (enclosed_takes _ (token_keeps _))) (weaken _ (mark_takes _))) ts rest p

-- ---- what stands before the clauses

-- `list_of_clauses(axioms,cnf).`
pub list_head_keeps : Keeps (word words.ListOfClauses ⨾ enclosed (origin ⨾ mark Comma ⨾ word words.Cnf) ⨾ mark Dot)
list_head_keeps = then_keeps (word _) _ (weaken _ (word_takes _)) (then_keeps _ (mark _) (weaken _ (enclosed_takes _ (then_keeps origin _ origin_keeps (then_keeps (mark _) (word _) (weaken _ (mark_takes _)) (weaken _ (word_takes _)))))) (weaken _ (mark_takes _)))

pub head_keeps : Keeps head
head_keeps = then_keeps (word _) _ (weaken _ (word_takes _)) (then_keeps _ (mark _) (weaken _ (enclosed_takes identifier (token_keeps _))) (weaken _ (mark_takes _)))

pub descriptions_keep : Keeps descriptions
descriptions_keep ts rest p = then_keeps (word _) _ (weaken _ (word_takes _)) (then_keeps (mark _) _ (weaken _ (mark_takes _)) (then_keeps _ list_end (each_keeps (λ item. description) (λ item. weaken _ description_takes) p.0) end_keeps)) ts rest p.1

pub signature_keeps : (bytes : List ℕ) (symbols : List Declared) → Keeps (signature bytes symbols)
signature_keeps bytes symbols ts rest (inl p) = nothing_keeps ts rest p.1
signature_keeps bytes symbols ts rest (inr p) = then_keeps (word _) _ (weaken _ (word_takes _)) (then_keeps (mark _) _ (weaken _ (mark_takes _)) (then_keeps _ list_end (each_keeps (symbol_item bytes) (λ ds. weaken _ (symbol_item_takes bytes ds)) p.0) end_keeps)) ts rest p.2
