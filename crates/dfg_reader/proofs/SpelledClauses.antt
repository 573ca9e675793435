-- Each clause of a problem is spelled by the bytes, from its place on.
use Rattle.std.proofs.Common.{◌≡◌, ℕ, zero, suc, ◌-◌, inl, inr, Bool, true, false, List, [], ◌∷◌, ◌++◌, map, slice_get, Option, Some, option_map, Result, Ok, Err, IfOk, refl, sym, ap, subst, ◌∙◌, append_assoc}
use Rattle.std.proofs.lemmas.List.{map-append}
use Rattle.std.specs.Option.{unwrap_or}
use Rattle.spl_terms.specs.declared.term.Symbol.{Symbol}
use Rattle.spl_terms.specs.declared.term.Term.{Term}
use Rattle.spl_terms.specs.declared.atom.Atom.{Atom}
use Rattle.spl_terms.specs.TermLaws.{fold-App}
use Rattle.spl_symbols.specs.Symbols.{Declared, name_of}
use Rattle.dfg_tokens.specs.declared.word.Word.{Word}
use Rattle.dfg_tokens.specs.declared.word.Word.TheVariants as words
use Rattle.dfg_tokens.specs.declared.piece.Mark.{Mark}
use Rattle.dfg_tokens.specs.declared.piece.Mark.TheVariants.{OpenParenthesis, CloseParenthesis, Comma}
use Rattle.dfg_tokens.specs.declared.piece.TokenKind.TheVariants as kinds
use Rattle.dfg_tokens.specs.declared.token.Token.{Token}
use Rattle.dfg_tokens.specs.Words.{spelling, word_of}
use Rattle.dfg_tokens.specs.WordLaws.{word_of-spelled}
use Rattle.dfg_tokens.specs.Tokens.{token_bytes, tokens, IsSpelled, IsTokenOf, AreTokensOf}
use Rattle.dfg_tokens.specs.TokenLaws.{own_tokens}
use Rattle.dfg_reader.specs.declared.fault.InputError.{InputError}
use Rattle.dfg_reader.specs.declared.formula.Formula.{Formula, Formula-F, out-Formula}
use Rattle.dfg_reader.specs.declared.formula.Formula.TheOpen as layer
use Rattle.dfg_reader.specs.declared.formula.Formula.TheViews.{outs-True, outs-False, outs-Atom, outs-Not, outs-Or}
use Rattle.dfg_reader.specs.declared.problem.Entry.{Entry}
use Rattle.dfg_reader.specs.declared.problem.Problem.{Problem}
use Rattle.dfg_reader.specs.Reading.{place}
use Rattle.dfg_reader.specs.Grammar.{Phrase, mark, word, token, each, each_behind_comma, comma_separated, enclosed, arguments, application, term, atom, unsigned, literal, body, clause, clause_list, concatenated, IsWritten}
use Rattle.dfg_reader.specs.Written.{Spelling, sign, behind_commas, in_parentheses, written_step, written_term, written_atom, written_unsigned, written_layer, written_literal, written_body, written_clause, IsSpelledIn, AreSpelledIn}
use Rattle.dfg_reader.proofs.Fronts.{all_left, all_right, Leaves, leaves_then, weaken, head_keeps, descriptions_keep, signature_keeps, clause_takes, clause_list_takes, list_head_keeps}
use Rattle.dfg_reader.proofs.Kept.{all-append}

-- ---- the tokens of a phrase, byte for byte

pub record Spells (bytes : List ℕ) (ts : List Token) (ws : Spelling) (rest : List Token) : Type 0 where
  pub front : List Token
  pub parts : ts ≡ front ++ rest
  pub spelled : AreTokensOf bytes front → map (token_bytes bytes) front ≡ ws

name_at : (ds : List Declared) (i : ℕ) (d : Declared) → slice_get ds i ≡ Some d → name_of ds i ≡ d.name
name_at ds i d e = ap (λ (o : Option Declared). unwrap_or (option_map (λ (x : Declared). x.name) o) []) e

word_spelled : (w : Word) (text : List ℕ) → (spelling w ≡ [] → ⊥) → word_of text ≡ w → text ≡ spelling w
word_spelled w text some own =
    elim (word_of-spelled text) [
      | inl plain ↦ absurd (some (ap spelling (sym own ∙ plain)))
      | inr is ↦ sym is ∙ ap spelling own
    ]

module _ (bytes : List ℕ) where
  none_spells : (ts rest : List Token) → ts ≡ rest → Spells bytes ts [] rest
  none_spells ts rest e = record { front = []; parts = e; spelled = λ all. refl }

  spells_then : (a b c : List Token) (v w : Spelling) → Spells bytes a v b → Spells bytes b w c → Spells bytes a (v ++ w) c
  spells_then a b c v w p q = record {
    front = p.front ++ q.front;
    parts = p.parts ∙ ap (λ (ts : List Token). p.front ++ ts) q.parts ∙ sym (append_assoc p.front q.front c);
    spelled = λ all. map-append (token_bytes bytes) p.front q.front ∙ ap (λ (ws : Spelling). ws ++ map (token_bytes bytes) q.front) (p.spelled (all_left bytes p.front q.front all)) ∙ ap (λ (ws : Spelling). v ++ ws) (q.spelled (all_right bytes p.front q.front all));
  }

  token_spells : (P : Token → Type 0) (w : List ℕ) → ((t : Token) → P t → IsTokenOf bytes t → token_bytes bytes t ≡ w) → (ts rest : List Token) → token P ts rest → Spells bytes ts (w ∷ []) rest
  token_spells P w is ts rest p = record { front = p.0 ∷ []; parts = p.2; spelled = λ all. ap (λ x. x ∷ []) (is p.0 p.1 all.0) }

  mark_spells : (m : Mark) (ts rest : List Token) → mark m ts rest → Spells bytes ts (sign m ∷ []) rest
  mark_spells m ts rest p = token_spells _ (sign m) (λ t k own. subst (λ q. IsSpelled q (token_bytes bytes t)) k own) ts rest p

  own_word : (t : Token) (w : Word) → t.kind ≡ kinds.Word w → IsTokenOf bytes t → IsSpelled (kinds.Word w) (token_bytes bytes t)
  own_word t w k own = subst (λ q. IsSpelled q (token_bytes bytes t)) k own

  word_spells : (w : Word) → (spelling w ≡ [] → ⊥) → (ts rest : List Token) → word w ts rest → Spells bytes ts (spelling w ∷ []) rest
  word_spells w some ts rest p = token_spells _ (spelling w) (λ t k own. word_spelled w (token_bytes bytes t) some (own_word t w k own).0) ts rest p

  enclosed_spells : (P : Phrase) (ws : Spelling) → ((ts rest : List Token) → P ts rest → Spells bytes ts ws rest) → (ts rest : List Token) → enclosed P ts rest → Spells bytes ts (sign OpenParenthesis ∷ ws ++ sign CloseParenthesis ∷ []) rest
  enclosed_spells P ws law ts rest p =
      let inner = p.2 in
      spells_then ts p.0 rest (sign OpenParenthesis ∷ []) (ws ++ sign CloseParenthesis ∷ []) (mark_spells OpenParenthesis ts p.0 p.1) (spells_then p.0 inner.0 rest ws (sign CloseParenthesis ∷ []) (law p.0 inner.0 inner.1) (mark_spells CloseParenthesis inner.0 rest inner.2))

  -- ---- lists

  module _ {X : Type 0} (P : X → Phrase) (w : X → Spelling) (law : (x : X) (ts rest : List Token) → P x ts rest → Spells bytes ts (w x) rest) where
    behind_spells : (xs : List X) (ts rest : List Token) → each_behind_comma P xs ts rest → Spells bytes ts (behind_commas (map w xs)) rest
    behind_spells [] ts rest p = none_spells ts rest p
    behind_spells (x ∷ xs) ts rest p =
        let value = p.2 in
        spells_then ts p.0 rest (sign Comma ∷ []) (w x ++ behind_commas (map w xs)) (mark_spells Comma ts p.0 p.1) (spells_then p.0 value.0 rest (w x) (behind_commas (map w xs)) (law x p.0 value.0 value.1) (behind_spells xs value.0 rest value.2))

    separated_spells : (xs : List X) (ts rest : List Token) → enclosed (comma_separated P xs) ts rest → Spells bytes ts (in_parentheses (map w xs)) rest
    separated_spells [] ts rest p = absurd p.2.1
    separated_spells (x ∷ xs) ts rest p =
        enclosed_spells (comma_separated P (x ∷ xs)) (w x ++ behind_commas (map w xs)) (λ us after q. spells_then us q.0 after (w x) (behind_commas (map w xs)) (law x us q.0 q.1) (behind_spells xs q.0 after q.2)) ts rest p

    arguments_spell : (xs : List X) (ts rest : List Token) → arguments P xs ts rest → Spells bytes ts (in_parentheses (map w xs)) rest
    arguments_spell [] ts rest p = none_spells ts rest p
    arguments_spell (x ∷ xs) ts rest p = separated_spells (x ∷ xs) ts rest p

  module _ (symbols : List Declared) where
    -- ---- terms and atoms

    application_spells : (in_term : Bool) (P : Term → Phrase) (w : Term → Spelling) → ((t : Term) (ts rest : List Token) → P t ts rest → Spells bytes ts (w t) rest)
        → (s : Symbol) (args : List Term) (ts rest : List Token) → application bytes symbols in_term P s args ts rest → Spells bytes ts (name_of symbols s.number ∷ in_parentheses (map w args)) rest
    application_spells in_term P w law s args ts rest p =
        let name = token_spells _ (name_of symbols s.number) (λ t named own. named.2.3 ∙ sym (name_at symbols s.number _ named.1.1)) ts p.0 p.1 in
        spells_then ts p.0 rest (name_of symbols s.number ∷ []) (in_parentheses (map w args)) name (arguments_spell P w law args p.0 rest p.2)

    term_spells : (depth : ℕ) (t : Term) (ts rest : List Token) → term bytes symbols depth t ts rest → Spells bytes ts (written_term symbols t) rest
    unfolding term
    term_spells zero t ts rest p = absurd p
    term_spells (suc depth) t ts rest p =
        subst (λ (ws : Spelling). Spells bytes ts ws rest) (sym (ap (written_term symbols) p.2 ∙ fold-App (written_step symbols) p.0 p.1)) (application_spells true (term bytes symbols depth) (written_term symbols) (term_spells depth) p.0 p.1 ts rest p.3)

    atom_spells : (depth : ℕ) (a : Atom) (ts rest : List Token) → atom bytes symbols depth a ts rest → Spells bytes ts (written_atom symbols a) rest
    atom_spells depth a ts rest p = subst (λ (b : Atom). Spells bytes ts (written_atom symbols b) rest) (sym p.2) (application_spells false (term bytes symbols (depth - 1)) (written_term symbols) (term_spells (depth - 1)) p.0 p.1 ts rest p.3)

    -- ---- literals

    -- a layer is written alike in each of its places
    abbrev Agree : Formula-F Formula → Type 0
    Agree l = (written_layer symbols l ≡ written_unsigned symbols l) × (written_body symbols l ≡ written_layer symbols l)

    abbrev UnsignedSpells : List Token → List Token → Formula → Type 0
    UnsignedSpells ts rest f = Spells bytes ts (written_unsigned symbols (out-Formula f)) rest × Agree (out-Formula f)

    unsigned_spells : (depth : ℕ) (f : Formula) (ts rest : List Token) → unsigned bytes symbols depth f ts rest → UnsignedSpells ts rest f
    unsigned_spells depth f ts rest (inl p) = subst (UnsignedSpells ts rest) (sym p.0) (rw outs-True (word_spells words.True (λ n. cc) ts rest p.1, (refl, refl)))
    unsigned_spells depth f ts rest (inr (inl p)) = subst (UnsignedSpells ts rest) (sym p.0) (rw outs-False (word_spells words.False (λ n. cc) ts rest p.1, (refl, refl)))
    unsigned_spells depth f ts rest (inr (inr p)) = subst (UnsignedSpells ts rest) (sym p.1) (rw (outs-Atom p.0) (atom_spells depth p.0 ts rest p.2, (refl, refl)))

    abbrev LiteralSpells : List Token → List Token → Formula → Type 0
    LiteralSpells ts rest f = Spells bytes ts (written_literal symbols f) rest × (written_body symbols (out-Formula f) ≡ written_literal symbols f)

    literal_spells : (depth : ℕ) (f : Formula) (ts rest : List Token) → literal bytes symbols depth f ts rest → LiteralSpells ts rest f
    literal_spells depth f ts rest (inl p) =
        let r = unsigned_spells depth f ts rest p in
        (subst (λ (ws : Spelling). Spells bytes ts ws rest) (sym r.1.0) r.0, r.1.1)
    literal_spells depth f ts rest (inr p) =
        let named = p.2 in
        let ws = written_unsigned symbols (out-Formula p.0) in
        let all : Spells bytes ts (written_layer symbols (layer.Not p.0)) rest = spells_then ts named.0 rest (spelling words.Not ∷ []) (sign OpenParenthesis ∷ ws ++ sign CloseParenthesis ∷ []) (word_spells words.Not (λ n. cc) ts named.0 named.1) (enclosed_spells (unsigned bytes symbols (depth - 1) p.0) ws (λ us after q. (unsigned_spells (depth - 1) p.0 us after q).0) named.0 rest named.2) in
        subst (LiteralSpells ts rest) (sym p.1) (rw (outs-Not p.0) (all, refl))

    body_spells : (f : Formula) (ts rest : List Token) → body bytes symbols f ts rest → Spells bytes ts (written_body symbols (out-Formula f)) rest
    body_spells f ts rest (inl p) = let r = literal_spells 1000 f ts rest p in subst (λ (ws : Spelling). Spells bytes ts ws rest) (sym r.1) r.0
    body_spells f ts rest (inr p) =
        let named = p.2 in
        let list = separated_spells (literal bytes symbols 999) (written_literal symbols) (λ g us after q. (literal_spells 999 g us after q).0) p.0 named.0 rest named.2 in
        let all : Spells bytes ts (written_body symbols (layer.Or p.0)) rest = spells_then ts named.0 rest (spelling words.Or ∷ []) (in_parentheses (map (written_literal symbols) p.0)) (word_spells words.Or (λ n. cc) ts named.0 named.1) list in
        subst (λ (g : Formula). Spells bytes ts (written_body symbols (out-Formula g)) rest) (sym p.1) (rw (outs-Or p.0) all)

    -- ---- entries

    entry_spelled : (e : Entry) (ts rest : List Token) → Leaves (tokens bytes) ts → clause bytes symbols e ts rest → IsSpelledIn bytes symbols e
    entry_spelled e ts rest l p =
        let named = p.2 in
        let opened = named.2.1 in
        let inner = opened.2.1 in
        let t : Spells bytes ts (written_clause symbols e.formula) inner.0 = spells_then ts named.0 inner.0 (spelling words.Clause ∷ []) (sign OpenParenthesis ∷ written_body symbols (out-Formula e.formula)) (word_spells words.Clause (λ n. cc) ts named.0 named.1) (spells_then named.0 opened.0 inner.0 (sign OpenParenthesis ∷ []) (written_body symbols (out-Formula e.formula)) (mark_spells OpenParenthesis named.0 opened.0 opened.1) (body_spells e.formula opened.0 inner.0 inner.1)) in
        let all : tokens bytes ≡ l.front ++ (t.front ++ inner.0) = l.parts ∙ ap (λ (us : List Token). l.front ++ us) t.parts in
        let own : AreTokensOf bytes (l.front ++ (t.front ++ inner.0)) = subst (AreTokensOf bytes) all (own_tokens bytes) in
        (l.front, t.front, inner.0, all, ap place (sym t.parts) ∙ sym p.1, t.spelled (all_left bytes t.front inner.0 (all_right bytes l.front (t.front ++ inner.0) own)))

    clauses_spelled : (es : List Entry) (ts rest : List Token) → Leaves (tokens bytes) ts → each (clause bytes symbols) es ts rest → AreSpelledIn bytes symbols es
    clauses_spelled [] ts rest l p = tt
    clauses_spelled (e ∷ es) ts rest l p =
        (entry_spelled e ts p.0 l p.1, clauses_spelled es p.0 rest (leaves_then (tokens bytes) ts p.0 l (weaken _ (clause_takes bytes symbols e) ts p.0 p.1)) p.2)

    lists_spelled : (groups : List (List Entry)) (ts rest : List Token) → Leaves (tokens bytes) ts → each (clause_list bytes symbols) groups ts rest → AreSpelledIn bytes symbols (concatenated groups)
    lists_spelled [] ts rest l p = tt
    lists_spelled (g ∷ groups) ts rest l p =
        let list = p.1 in
        let dot = list.2.2 in
        let begun = leaves_then (tokens bytes) ts dot.0 l (list_head_keeps ts dot.0 (list.0, list.1, (list.2.0, list.2.1, dot.1))) in
        all-append (IsSpelledIn bytes symbols) g (concatenated groups) (clauses_spelled g dot.0 dot.2.0 begun dot.2.1) (lists_spelled groups p.0 rest (leaves_then (tokens bytes) ts p.0 l (weaken _ (clause_list_takes bytes symbols g) ts p.0 list)) p.2)

spelled-problem : (bytes : List ℕ) (p : Problem) → IsWritten bytes p → AreSpelledIn bytes p.signature p.entries
spelled-problem bytes p w =
    let described = w.4.2 in
    let declared = described.2 in
    let lists = declared.2 in
    let l1 = leaves_then (tokens bytes) w.4.0 described.0 (head_keeps (tokens bytes) w.4.0 w.4.1) (descriptions_keep w.4.0 described.0 described.1) in
    let l2 = leaves_then (tokens bytes) described.0 declared.0 l1 (signature_keeps bytes p.signature described.0 declared.0 declared.1) in
    subst (AreSpelledIn bytes p.signature) (sym lists.1.1) (lists_spelled bytes p.signature lists.1.0 declared.0 lists.0 l2 lists.1.2)

pub spelled-read : (bytes : List ℕ) (r : Result Problem InputError) → IfOk r (λ p. IsWritten bytes p) → IfOk r (λ p. AreSpelledIn bytes p.signature p.entries)
spelled-read bytes (Ok p) w = spelled-problem bytes p w
spelled-read bytes (Err e) w = tt
