-- Laws with their proofs, not definitions that a reader must believe: variables are read as they are written.
use Rattle.std.proofs.Common.{◌≡◌, ℕ, inl, inr, true, false, cond, List, [], ◌∷◌, Option, Some, None, Result, Ok, refl, sym, ap, subst, ◌∙◌}
use Rattle.dfg_tokens.specs.declared.word.Word.{Word}
use Rattle.dfg_tokens.specs.declared.piece.TokenKind.TheVariants as kinds
use Rattle.dfg_tokens.specs.declared.token.Token.{Token}
use Rattle.dfg_tokens.specs.Tokens.{token_bytes}
use Rattle.dfg_tokens.specs.Cursors.{tail}
use Rattle.std.proofs.lemmas.Option.{same_Some}
use Rattle.dfg_terms.specs.declared.fault.ReadFault.{ReadFault}
use Rattle.dfg_terms.specs.declared.variables.Variables.{Variables}
use Rattle.dfg_terms.specs.declared.variables.Variables.TheVariants as variables
use Rattle.dfg_terms.specs.Reading.{◌>>=◌, is_reserved, kind_is_name, next_stray, bytes_of}
use Rattle.dfg_terms.specs.Numbers.{numeral_at}
use Rattle.dfg_terms.specs.Scopes.{Binding, bound}
use Rattle.dfg_terms.specs.Terms.{Leaf, taken_if, named_at, numbered_at, named_leaf, numbered_leaf, leaf_of}
use Rattle.dfg_terms.specs.Phrases.{token, stray, IsNumeralOf}
use Rattle.dfg_terms.specs.Grammar.{Writing, names, numbers, writing_of}
use Rattle.dfg_terms.specs.ResultLaws.{bind_ok, chosen, ok_is, then_ok, when_true, when_false}
use Rattle.dfg_terms.specs.StepLaws.{token_tail, stray_next, word_no_stray}
use Rattle.dfg_terms.specs.StandLaws.{named_kind, next_stray_stands}
use Rattle.dfg_terms.specs.FrontLaws.{Takes, token_takes, then_takes, weaken}
use Rattle.dfg_terms.specs.NumberLaws.{numeral_stands, numeral_read}

-- how variables are read agrees with how they are written
pub record Agrees (leaf : Leaf) (writing : Writing) : Type 0 where
  pub stands : (ts : List Token) (n : ℕ) (rest : List Token) → leaf.variable ts ≡ Ok (Some n, rest) → writing.variable n ts rest
  pub same : (ts rest : List Token) → leaf.variable ts ≡ Ok (None, rest) → ts ≡ rest
  pub free : (t : Token) (ts rest : List Token) → kind_is_name t.kind ≡ true → leaf.variable (t ∷ ts) ≡ Ok (None, rest) → writing.IsFree t
  pub read : (n : ℕ) (ts rest : List Token) → writing.variable n ts rest → leaf.variable ts ≡ Ok (Some n, rest)
  pub passed : (w : Word) (t : Token) (ts : List Token) → t.kind ≡ kinds.Word w → is_reserved w ≡ false → writing.IsFree t → leaf.variable (t ∷ ts) ≡ Ok (None, t ∷ ts)
  pub takes : (n : ℕ) → Takes (writing.variable n)

abbrev Variable : Type 0
Variable = Option ℕ × List Token

number_is : (x y : Variable) → x ≡ y → x.0 ≡ y.0
number_is x y e = ap (λ (q : Variable). q.0) e

rest_is : (x y : Variable) → x ≡ y → x.1 ≡ y.1
rest_is x y e = ap (λ (q : Variable). q.1) e

taken_some : (o : Option ℕ) (ts : List Token) (n : ℕ) (rest : List Token) → taken_if o ts ≡ Ok (Some n, rest) → (o ≡ Some n) × (tail ts ≡ rest)
taken_some None ts n rest e = let k : None ≡ Some n = number_is (None, ts) (Some n, rest) (ok_is (None, ts) (Some n, rest) e) in absurd cc
taken_some (Some m) ts n rest e = let same = ok_is (Some m, tail ts) (Some n, rest) e in (number_is (Some m, tail ts) (Some n, rest) same, rest_is (Some m, tail ts) (Some n, rest) same)

taken_none : (o : Option ℕ) (ts rest : List Token) → taken_if o ts ≡ Ok (None, rest) → (o ≡ None) × (ts ≡ rest)
taken_none None ts rest e = (refl, rest_is (None, ts) (None, rest) (ok_is (None, ts) (None, rest) e))
taken_none (Some m) ts rest e = let k : Some m ≡ None = number_is (Some m, tail ts) (None, rest) (ok_is (Some m, tail ts) (None, rest) e) in absurd cc

name_kind : (w : Word) (t : Token) → t.kind ≡ kinds.Word w → is_reserved w ≡ false → kind_is_name t.kind ≡ true
name_kind w t k r = ap kind_is_name k ∙ ap (λ b. cond b false true) r

-- ---- names that are bound

module _ (bytes : List ℕ) (scope : List Binding) where
  named_stands : (ts : List Token) (n : ℕ) (rest : List Token) → named_at bytes scope ts ≡ Ok (Some n, rest) → (names bytes scope).variable n ts rest
  unfolding named_at bytes_of
  named_stands [] n rest e = let k : None ≡ Some n = number_is (None, []) (Some n, rest) (ok_is (None, []) (Some n, rest) e) in absurd cc
  named_stands (t ∷ ts) n rest e =
      elim (chosen (kind_is_name t.kind) (taken_if (bound (token_bytes bytes t) scope) (t ∷ ts)) (Ok (None, t ∷ ts)) (Ok (Some n, rest)) e) [
        | inl h ↦ (let f = taken_some (bound (token_bytes bytes t) scope) (t ∷ ts) n rest h.1 in
            let k = named_kind t.kind h.0 in
            (t, (token_bytes bytes t, (k.0, k.1, k.2, refl), f.0), ap (λ us. t ∷ us) f.1))
        | inr h ↦ (let k : None ≡ Some n = number_is (None, t ∷ ts) (Some n, rest) (ok_is (None, t ∷ ts) (Some n, rest) h.1) in absurd cc)
      ]

  named_same : (ts rest : List Token) → named_at bytes scope ts ≡ Ok (None, rest) → ts ≡ rest
  unfolding named_at
  named_same [] rest e = rest_is (None, []) (None, rest) (ok_is (None, []) (None, rest) e)
  named_same (t ∷ ts) rest e =
      elim (chosen (kind_is_name t.kind) (taken_if (bound (bytes_of bytes t) scope) (t ∷ ts)) (Ok (None, t ∷ ts)) (Ok (None, rest)) e) [
        | inl h ↦ (taken_none (bound (bytes_of bytes t) scope) (t ∷ ts) rest h.1).1
        | inr h ↦ rest_is (None, t ∷ ts) (None, rest) (ok_is (None, t ∷ ts) (None, rest) h.1)
      ]

  named_free : (t : Token) (ts rest : List Token) → kind_is_name t.kind ≡ true → named_at bytes scope (t ∷ ts) ≡ Ok (None, rest) → bound (token_bytes bytes t) scope ≡ None
  unfolding named_at bytes_of
  named_free t ts rest k e = (taken_none (bound (token_bytes bytes t) scope) (t ∷ ts) rest (sym (ap (λ b. cond b (taken_if (bound (token_bytes bytes t) scope) (t ∷ ts)) (Ok (None, t ∷ ts))) k) ∙ e)).0

  named_read : (n : ℕ) (ts rest : List Token) → (names bytes scope).variable n ts rest → named_at bytes scope ts ≡ Ok (Some n, rest)
  unfolding named_at bytes_of
  named_read n ts rest p =
      let t = p.0 in
      let name = p.1.1 in
      let is : bound (token_bytes bytes t) scope ≡ Some n = ap (λ text. bound text scope) name.3 ∙ p.1.2 in
      ap (named_at bytes scope) p.2 ∙ when_true _ _ _ _ (name_kind name.0 t name.1 name.2) (ap (λ o. taken_if o (t ∷ rest)) is)

  named_passed : (w : Word) (t : Token) (ts : List Token) → t.kind ≡ kinds.Word w → is_reserved w ≡ false → bound (token_bytes bytes t) scope ≡ None → named_at bytes scope (t ∷ ts) ≡ Ok (None, t ∷ ts)
  unfolding named_at bytes_of
  named_passed w t ts k r free = when_true _ _ _ _ (name_kind w t k r) (ap (λ o. taken_if o (t ∷ ts)) free)

-- ---- `?` and a number

module _ (bytes : List ℕ) where
  abbrev numbered_then : List Token → Result (Option ℕ × List Token) ReadFault
  numbered_then ts = numeral_at bytes (tail ts) >>= λ x. Ok (Some x.0, x.1)

  numbered_stands : (ts : List Token) (n : ℕ) (rest : List Token) → numbered_at bytes ts ≡ Ok (Some n, rest) → (numbers bytes).variable n ts rest
  unfolding numbered_at
  numbered_stands ts n rest e =
      elim (chosen (next_stray 63 ts) (numbered_then ts) (Ok (None, ts)) (Ok (Some n, rest)) e) [
        | inl h ↦ (let a = bind_ok (numeral_at bytes (tail ts)) (λ x. Ok (Some x.0, x.1)) (Some n, rest) h.1 in
            let same = ok_is (Some a.0.0, a.0.1) (Some n, rest) a.2 in
            let number : a.0.0 ≡ n = same_Some a.0.0 n (number_is (Some a.0.0, a.0.1) (Some n, rest) same) in
            let left = rest_is (Some a.0.0, a.0.1) (Some n, rest) same in
            (tail ts, next_stray_stands 63 ts h.0, subst (λ (m : ℕ). token (IsNumeralOf bytes m) (tail ts) rest) number (subst (token (IsNumeralOf bytes a.0.0) (tail ts)) left (numeral_stands bytes (tail ts) a.0 a.1))))
        | inr h ↦ (let k : None ≡ Some n = number_is (None, ts) (Some n, rest) (ok_is (None, ts) (Some n, rest) h.1) in absurd cc)
      ]

  numbered_same : (ts rest : List Token) → numbered_at bytes ts ≡ Ok (None, rest) → ts ≡ rest
  unfolding numbered_at
  numbered_same ts rest e =
      elim (chosen (next_stray 63 ts) (numbered_then ts) (Ok (None, ts)) (Ok (None, rest)) e) [
        | inl h ↦ (let a = bind_ok (numeral_at bytes (tail ts)) (λ x. Ok (Some x.0, x.1)) (None, rest) h.1 in
            let k : Some a.0.0 ≡ None = number_is (Some a.0.0, a.0.1) (None, rest) (ok_is (Some a.0.0, a.0.1) (None, rest) a.2) in absurd cc)
        | inr h ↦ rest_is (None, ts) (None, rest) (ok_is (None, ts) (None, rest) h.1)
      ]

  numbered_read : (n : ℕ) (ts rest : List Token) → (numbers bytes).variable n ts rest → numbered_at bytes ts ≡ Ok (Some n, rest)
  unfolding numbered_at
  numbered_read n ts rest p =
      when_true _ _ _ _ (stray_next 63 ts p.0 p.1)
      (then_ok _ _ _ _ (ap (numeral_at bytes) (token_tail _ ts p.0 p.1) ∙ numeral_read bytes n p.0 rest p.2) refl)

  numbered_passed : (w : Word) (t : Token) (ts : List Token) → t.kind ≡ kinds.Word w → numbered_at bytes (t ∷ ts) ≡ Ok (None, t ∷ ts)
  unfolding numbered_at
  numbered_passed w t ts k = when_false _ _ _ _ (word_no_stray 63 w t ts k) refl

-- ---- both

pub names_agree : (bytes : List ℕ) (scope : List Binding) → Agrees (named_leaf bytes scope) (names bytes scope)
names_agree bytes scope = record {
  stands = named_stands bytes scope;
  same = named_same bytes scope;
  free = named_free bytes scope;
  read = named_read bytes scope;
  passed = named_passed bytes scope;
  takes = λ n. token_takes _;
}

pub numbers_agree : (bytes : List ℕ) → Agrees (numbered_leaf bytes) (numbers bytes)
numbers_agree bytes = record {
  stands = numbered_stands bytes;
  same = numbered_same bytes;
  free = λ t ts rest k e. tt;
  read = numbered_read bytes;
  passed = λ w t ts k r free. numbered_passed bytes w t ts k;
  takes = λ n. then_takes (stray 63) (token (IsNumeralOf bytes n)) (token_takes _) (weaken (token (IsNumeralOf bytes n)) (token_takes _));
}

pub variables_agree : (bytes : List ℕ) (v : Variables) → Agrees (leaf_of bytes v) (writing_of bytes v)
variables_agree bytes (variables.Named scope) = names_agree bytes scope.now
variables_agree bytes variables.Numbered = numbers_agree bytes
