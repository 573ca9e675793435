-- Laws with their proofs, not definitions that a reader must believe: each formula that is written is read.
use Rattle.std.proofs.Common.{◌≡◌, ℕ, zero, suc, ◌+◌, ◌≤◌, inl, inr, Bool, true, false, List, [], ◌∷◌, ◌++◌, length, map, Result, Ok, refl, sym, ap, subst, ◌∙◌, append_assoc, length-append, arith}
use Rattle.spl_terms.specs.declared.atom.Atom.{Atom}
use Rattle.spl_symbols.specs.Symbols.{Declared, HasOwnNames, AreNamed}
use Rattle.formulas.specs.declared.tree.Tree.{Tree}
use Rattle.dfg_tokens.specs.declared.piece.Mark.TheVariants.{OpenParenthesis, CloseParenthesis, OpenBracket, CloseBracket, Comma}
use Rattle.dfg_tokens.specs.declared.word.Word.TheVariants as words
use Rattle.dfg_tokens.specs.declared.token.Token.{Token}
use Rattle.dfg_terms.specs.declared.fault.ReadFault.{ReadFault}
use Rattle.dfg_terms.specs.declared.symbols.Place.TheVariants as places
use Rattle.dfg_terms.specs.Reading.{◌>>=◌, next_mark, commas}
use Rattle.dfg_terms.specs.Scopes.{Binding}
use Rattle.dfg_terms.specs.Terms.{named_leaf, term_at}
use Rattle.dfg_terms.specs.Phrases.{◌⨾◌, mark, word, enclosed, comma_separated}
use Rattle.dfg_terms.specs.Grammar.{names, term, atom}
use Rattle.dfg_terms.specs.ResultLaws.{then_ok, when_true, when_false}
use Rattle.dfg_terms.specs.StepLaws.{token_shorter, token_tail, mark_next, other_mark, mark_read}
use Rattle.dfg_terms.specs.FrontLaws.{Takes, Keeps, Leaves, fewer, then_takes, then_keeps, weaken, nothing_keeps, mark_takes, word_takes, enclosed_takes, separated_keeps}
use Rattle.dfg_terms.specs.RowLaws.{Ends, separated_read, Anything}
use Rattle.dfg_terms.specs.VariableLaws.{names_agree}
use Rattle.dfg_terms.specs.TermLaws.{closing_ends, term_read, atom_read, term_takes, atom_takes}
use Rattle.dfg_formulas.specs.declared.shape.Shape.{Shape}
use Rattle.dfg_formulas.specs.declared.shape.Connective.{Connective}
use Rattle.dfg_formulas.specs.declared.shape.Connective.TheVariants as connectives
use Rattle.dfg_formulas.specs.declared.shape.Head.TheVariants as heads
use Rattle.dfg_formulas.specs.Shapes.{next_head}
use Rattle.dfg_formulas.specs.Formulas.{FormulaReader, ItemsRead, adding_item, negation_at, adding_part, joined, several_at, pair_at, quantified_at, inside_at, connected_at, connected_if, atom_at, formula_by, formula_at}
use Rattle.dfg_formulas.specs.Grammar.{FormulaPhrase, total, binding_count, item, bindings_from, sorts_of, behind_in_turn, in_turn, negation, several, pair, quantification, inside, connective_word, atomic, formula}
use Rattle.dfg_formulas.specs.HeadLaws.{head_is, connective_head, free_head}
use Rattle.dfg_formulas.specs.ItemLaws.{item_step, added_read, item_takes, all_items}
use Rattle.dfg_formulas.specs.BindingLaws.{count-constant, count-Atom, count-Not, count-joined, count-pair, count-quantified}

-- ---- formulas take tokens

abbrev pub AllTake : FormulaPhrase → Type 0
AllTake P = (scope : List Binding) (first : ℕ) (f : Tree) → Takes (P scope first f)

module _ (P : FormulaPhrase) (takes : AllTake P) where
  behind_keeps : (scope : List Binding) (first : ℕ) (fs : List Tree) → Keeps (behind_in_turn (P scope) first fs)
  behind_keeps scope first [] = nothing_keeps
  behind_keeps scope first (f ∷ fs) =
      then_keeps (mark Comma) (P scope first f ⨾ behind_in_turn (P scope) (first + binding_count f) fs) (weaken (mark Comma) (mark_takes _))
      (then_keeps (P scope first f) (behind_in_turn (P scope) (first + binding_count f) fs) (weaken (P scope first f) (takes scope first f)) (behind_keeps scope (first + binding_count f) fs))

  several_keeps : (all : Bool) (scope : List Binding) (first : ℕ) (f : Tree) → Keeps (several all P scope first f)
  several_keeps all scope first f ts rest p = by_list p.0 p.2
    where
      by_list : (fs : List Tree) → in_turn (P scope) first fs ts rest → Leaves ts rest
      by_list [] q = absurd q
      by_list (g ∷ gs) q = then_keeps (P scope first g) (behind_in_turn (P scope) (first + binding_count g) gs) (weaken (P scope first g) (takes scope first g)) (behind_keeps scope (first + binding_count g) gs) ts rest q

  pair_keeps : (c : Connective) (scope : List Binding) (first : ℕ) (f : Tree) → Keeps (pair c P scope first f)
  pair_keeps c scope first f ts rest p =
      let second = P scope (first + binding_count p.0) p.1 in
      then_keeps (P scope first p.0) (mark Comma ⨾ second) (weaken (P scope first p.0) (takes scope first p.0)) (then_keeps (mark Comma) second (weaken (mark Comma) (mark_takes _)) (weaken second (takes scope (first + binding_count p.0) p.1))) ts rest p.3

  pub quantification_keeps : (bytes : List ℕ) (symbols : List Declared) (all : Bool) (scope : List Binding) (first : ℕ) (f : Tree) → Keeps (quantification bytes symbols all P scope first f)
  quantification_keeps bytes symbols all scope first f ts rest p =
      let items = comma_separated (item bytes symbols) p.0 in
      let inner = P (scope ++ bindings_from first p.0) (first + length p.0) p.1 in
      then_keeps (mark OpenBracket) (items ⨾ mark CloseBracket ⨾ mark Comma ⨾ inner) (weaken (mark OpenBracket) (mark_takes _))
      (then_keeps items (mark CloseBracket ⨾ mark Comma ⨾ inner) (separated_keeps (item bytes symbols) (λ i. weaken (item bytes symbols i) (item_takes bytes symbols i)) p.0)
      (then_keeps (mark CloseBracket) (mark Comma ⨾ inner) (weaken (mark CloseBracket) (mark_takes _))
      (then_keeps (mark Comma) inner (weaken (mark Comma) (mark_takes _)) (weaken inner (takes (scope ++ bindings_from first p.0) (first + length p.0) p.1))))) ts rest p.3

  inside_keeps : (bytes : List ℕ) (symbols : List Declared) (c : Connective) (scope : List Binding) (first : ℕ) (f : Tree) → Keeps (inside bytes symbols c P scope first f)
  inside_keeps bytes symbols connectives.Not scope first f ts rest p = weaken (P scope first p.0) (takes scope first p.0) ts rest p.2
  inside_keeps bytes symbols connectives.And scope first f ts rest p = several_keeps true scope first f ts rest p
  inside_keeps bytes symbols connectives.Or scope first f ts rest p = several_keeps false scope first f ts rest p
  inside_keeps bytes symbols connectives.Implies scope first f ts rest p = pair_keeps connectives.Implies scope first f ts rest p
  inside_keeps bytes symbols connectives.Implied scope first f ts rest p = pair_keeps connectives.Implied scope first f ts rest p
  inside_keeps bytes symbols connectives.Equiv scope first f ts rest p = pair_keeps connectives.Equiv scope first f ts rest p
  inside_keeps bytes symbols connectives.Forall scope first f ts rest p = quantification_keeps bytes symbols true scope first f ts rest p
  inside_keeps bytes symbols connectives.Exists scope first f ts rest p = quantification_keeps bytes symbols false scope first f ts rest p

pub formula_takes : (bytes : List ℕ) (symbols : List Declared) (depth : ℕ) (shape : Shape) → AllTake (formula bytes symbols depth shape)
unfolding formula
formula_takes bytes symbols zero shape scope first f ts rest p = absurd p
formula_takes bytes symbols (suc depth) shape scope first f ts rest (inl (inl p)) = word_takes _ ts rest p.1
formula_takes bytes symbols (suc depth) shape scope first f ts rest (inl (inr p)) = word_takes _ ts rest p.1
formula_takes bytes symbols (suc depth) shape scope first f ts rest (inr (inl p)) =
    atom_takes bytes symbols places.Atom (term bytes symbols (names bytes scope) depth) (term_takes bytes symbols (names bytes scope) (names_agree bytes scope).takes depth) p.0 ts rest p.2
formula_takes bytes symbols (suc depth) shape scope first f ts rest (inr (inr p)) =
    let within = inside bytes symbols p.0 (formula bytes symbols depth p.1) scope first f in
    then_takes (word (connective_word p.0)) (enclosed within) (word_takes _) (weaken (enclosed within) (enclosed_takes within (inside_keeps (formula bytes symbols depth p.1) (formula_takes bytes symbols depth p.1) bytes symbols p.0 scope first f))) ts rest p.3

-- ---- what is written is read

-- a text is read where no list of it has more entries than it has bytes
abbrev pub ReadsEach : List ℕ → FormulaPhrase → FormulaReader → Type 0
ReadsEach bytes P read = (scope : List Binding) (first : ℕ) (f : Tree) (ts rest : List Token) → length ts ≤ length bytes → P scope first f ts rest → next_mark OpenParenthesis rest ≡ false → read scope first ts ≡ Ok ((f, first + binding_count f), rest)

-- the same, where neither an argument nor a further part follows
abbrev ReadsInside : List ℕ → FormulaPhrase → FormulaReader → Type 0
ReadsInside bytes P read = (scope : List Binding) (first : ℕ) (f : Tree) (ts rest : List Token) → length ts ≤ length bytes → P scope first f ts rest → Ends rest → read scope first ts ≡ Ok ((f, first + binding_count f), rest)

module _ (bytes : List ℕ) (symbols : List Declared) (own : HasOwnNames symbols) (named : AreNamed symbols) where
  module _ (P : FormulaPhrase) (read : FormulaReader) (law : ReadsEach bytes P read) (takes : AllTake P) where
    negation_read : ReadsInside bytes (negation P) (negation_at read)
    unfolding negation_at
    negation_read scope first f ts rest near p ends =
        then_ok _ _ _ _ (law scope first p.0 ts rest near p.2 ends.1)
        (λ i. Ok ((sym p.1 i, first + (sym (count-Not p.0) ∙ ap binding_count (sym p.1)) i), rest))

    abbrev All : List Tree → ℕ → List Tree → List Tree × ℕ
    All s first fs = (s ++ fs, first + total (map binding_count fs))

    turns_read : (scope : List Binding) (fs : List Tree) (s : List Tree) (first : ℕ) (f : Tree) (k : ℕ) (ts between rest : List Token) → length ts ≤ k → length ts ≤ length bytes → P scope first f ts between → behind_in_turn (P scope) (first + binding_count f) fs between rest → Ends rest
        → commas (adding_part read scope) k (s, first) ts ≡ Ok (All s first (f ∷ fs), rest)
    unfolding commas
    turns_read scope [] s first f zero ts between rest few near p q ends = absurd (omega (arith, fewer ts between (takes scope first f ts between p)))
    turns_read scope [] s first f (suc k) ts between rest few near p q ends =
        let count : first + binding_count f ≡ first + (binding_count f + 0) = omega arith in
        then_ok _ _ _ _ (then_ok _ _ _ _ (law scope first f ts rest near (subst (P scope first f ts) q p) ends.1) refl)
        (when_false _ _ _ _ ends.0 (λ i. Ok ((s ++ f ∷ [], count i), rest)))
    turns_read scope (g ∷ gs) s first f zero ts between rest few near p q ends = absurd (omega (arith, fewer ts between (takes scope first f ts between p)))
    turns_read scope (g ∷ gs) s first f (suc k) ts between rest few near p q ends =
        let comma : mark Comma between q.0 = q.1 in
        let state : List Tree × ℕ = (s ++ f ∷ [], first + binding_count f) in
        let shorter = fewer ts between (takes scope first f ts between p) in
        let behind = token_shorter _ between q.0 comma in
        let more = turns_read scope gs (s ++ f ∷ []) (first + binding_count f) g k q.0 q.2.0 rest (omega (arith, few, shorter, behind)) (omega (arith, near, shorter, behind)) q.2.1 q.2.2 ends in
        let count : first + binding_count f + total (map binding_count (g ∷ gs)) ≡ first + (binding_count f + total (map binding_count (g ∷ gs))) = omega arith in
        then_ok _ _ _ _ (then_ok (read scope first ts) ((f, first + binding_count f), between) (λ x. Ok ((s ++ x.0.0 ∷ [], x.0.1), x.1)) (Ok (state, between)) (law scope first f ts between near p (other_mark OpenParenthesis Comma between q.0 comma refl)) refl)
        (when_true _ _ _ _ (mark_next Comma between q.0 comma)
        (ap (commas (adding_part read scope) k state) (token_tail _ between q.0 comma) ∙ more ∙ (λ i. Ok ((append_assoc s (f ∷ []) (g ∷ gs) i, count i), rest))))

    abbrev turned : Bool → (List Tree × ℕ) × List Token → Result ((Tree × ℕ) × List Token) ReadFault
    turned all x = Ok ((joined all x.0.0, x.0.1), x.1)

    several_read : (all : Bool) → ReadsInside bytes (several all P) (several_at bytes all read)
    unfolding several_at
    several_read all scope first f ts rest near p ends = by_list p.0 p.1 p.2 turns_read
      where
        by_list : (fs : List Tree) → f ≡ joined all fs → in_turn (P scope) first fs ts rest
            → ((scope' : List Binding) (gs : List Tree) (s : List Tree) (first' : ℕ) (g : Tree) (k : ℕ) (us between vs : List Token) → length us ≤ k → length us ≤ length bytes → P scope' first' g us between → behind_in_turn (P scope') (first' + binding_count g) gs between vs → Ends vs
            → commas (adding_part read scope') k (s, first') us ≡ Ok (All s first' (g ∷ gs), vs))
            → (commas (adding_part read scope) (length bytes) ([], first) ts >>= turned all) ≡ Ok ((f, first + binding_count f), rest)
        by_list [] is q turns = absurd q
        by_list (g ∷ gs) is q turns =
            then_ok _ _ _ _ (turns scope gs [] first g (length bytes) ts q.0 rest near near q.1 q.2 ends)
            (λ i. Ok ((sym is i, first + (sym (count-joined all (g ∷ gs)) ∙ ap binding_count (sym is)) i), rest))

    pair_read : (c : Connective) → ReadsInside bytes (pair c P) (pair_at c read)
    unfolding pair_at
    pair_read c scope first f ts rest near p ends =
        let left = p.3.1 in
        let comma = p.3.2 in
        let a = fewer ts p.3.0 (takes scope first p.0 ts p.3.0 left) in
        let b = token_shorter _ p.3.0 comma.0 comma.1 in
        let count : first + binding_count p.0 + binding_count p.1 ≡ first + binding_count f = omega (arith, count-pair c p.0 p.1, ap binding_count p.2) in
        then_ok _ _ _ _ (law scope first p.0 ts p.3.0 near left (other_mark OpenParenthesis Comma p.3.0 comma.0 comma.1 refl))
        (then_ok _ _ _ _ (mark_read Comma p.3.0 comma.0 comma.1)
        (then_ok _ _ _ _ (law scope (first + binding_count p.0) p.1 comma.0 rest (omega (arith, near, a, b)) comma.2 ends.1)
        (λ i. Ok ((sym p.2 i, count i), rest))))

    quantified_read : (all : Bool) → ReadsInside bytes (quantification bytes symbols all P) (quantified_at bytes symbols all read)
    unfolding quantified_at
    quantified_read all scope first f ts rest near p ends =
        let items = p.0 in
        let open_bracket = p.3.1 in
        let inner = p.3.2 in
        let closed = inner.2 in
        let comma = closed.2 in
        let a = token_shorter _ ts p.3.0 open_bracket in
        let b = separated_keeps (item bytes symbols) (λ i. weaken (item bytes symbols i) (item_takes bytes symbols i)) items p.3.0 inner.0 inner.1 in
        let d = token_shorter _ inner.0 closed.0 closed.1 in
        let g = token_shorter _ closed.0 comma.0 comma.1 in
        let state : ItemsRead = ((scope ++ bindings_from first items, length items), sorts_of first items) in
        let apart : Ends inner.0 = (other_mark Comma CloseBracket inner.0 closed.0 closed.1 refl, other_mark OpenParenthesis CloseBracket inner.0 closed.0 closed.1 refl) in
        let all_read = separated_read (item bytes symbols) (item_step first) Anything (adding_item bytes symbols first) (λ s xs fits. tt) (item_takes bytes symbols) (length bytes) (λ s i us vs fits few q away. added_read bytes symbols own named first s i us vs q away) items ((scope, 0), []) p.3.0 inner.0 tt (omega (arith, near, a)) inner.1 apart in
        let count : first + length items + binding_count p.1 ≡ first + binding_count f = omega (arith, count-quantified all first items p.1, ap binding_count p.2) in
        then_ok _ _ _ _ (mark_read OpenBracket ts p.3.0 open_bracket)
        (then_ok _ _ _ _ (all_read ∙ ap (λ (s : ItemsRead). Ok (s, inner.0)) (all_items first scope items))
        (then_ok _ _ _ _ (mark_read CloseBracket inner.0 closed.0 closed.1)
        (then_ok _ _ _ _ (mark_read Comma closed.0 comma.0 comma.1)
        (then_ok _ _ _ _ (law state.0.0 (first + length items) p.1 comma.0 rest (omega (arith, near, a, ap length b.parts, length-append b.front inner.0, d, g)) comma.2 ends.1)
        (λ i. Ok ((sym p.2 i, count i), rest))))))

    inside_read : (c : Connective) → ReadsInside bytes (inside bytes symbols c P) (inside_at bytes symbols c read)
    inside_read connectives.Not = negation_read
    inside_read connectives.And = several_read true
    inside_read connectives.Or = several_read false
    inside_read connectives.Implies = pair_read connectives.Implies
    inside_read connectives.Implied = pair_read connectives.Implied
    inside_read connectives.Equiv = pair_read connectives.Equiv
    inside_read connectives.Forall = quantified_read true
    inside_read connectives.Exists = quantified_read false

    pub connected_read : (c : Connective) (scope : List Binding) (first : ℕ) (f : Tree) (ts rest : List Token) → length ts ≤ length bytes → enclosed (inside bytes symbols c P scope first f) ts rest → connected_at bytes symbols c read scope first ts ≡ Ok ((f, first + binding_count f), rest)
    unfolding connected_at
    connected_read c scope first f ts rest near p =
        let inner = p.2 in
        then_ok _ _ _ _ (mark_read OpenParenthesis ts p.0 p.1)
        (then_ok _ _ _ _ (inside_read c scope first f p.0 inner.0 (omega (arith, near, token_shorter _ ts p.0 p.1)) inner.1 (closing_ends inner.0 rest inner.2))
        (then_ok _ _ _ _ (mark_read CloseParenthesis inner.0 rest inner.2) refl))

  atom_head : (depth : ℕ) (scope : List Binding) (a : Atom) (ts rest : List Token) → atom bytes symbols places.Atom (term bytes symbols (names bytes scope) depth) a ts rest → next_head ts ≡ heads.Atom
  atom_head depth scope a ts rest (inl p) = head_is words.Equal ts p.4.0 p.4.1
  atom_head depth scope a ts rest (inr p) =
      let s = p.3.1 in
      let is = s.1.2 in
      head_is is.0 ts p.3.0 (s.0, is.1, s.2) ∙ free_head is.0 is.2

  pub atom_is_read : (depth : ℕ) → ReadsEach bytes (atomic bytes symbols depth) (atom_at bytes symbols depth)
  unfolding atom_at
  atom_is_read depth scope first f ts rest near p apart =
      let agree = names_agree bytes scope in
      let P = term bytes symbols (names bytes scope) depth in
      let terms = term_read bytes symbols own named (named_leaf bytes scope) (names bytes scope) agree depth in
      let count : first ≡ first + binding_count f = omega (arith, count-Atom p.0, ap binding_count p.1) in
      then_ok _ _ _ _ (atom_read bytes symbols own named P (term_at bytes symbols (named_leaf bytes scope) depth) terms (term_takes bytes symbols (names bytes scope) agree.takes depth) places.Atom p.0 ts rest near p.2 apart)
      (λ i. Ok ((sym p.1 i, count i), rest))

  pub formula_read : (depth : ℕ) (shape : Shape) → ReadsEach bytes (formula bytes symbols depth shape) (formula_at bytes symbols depth shape)
  unfolding formula formula_at
  formula_read zero shape scope first f ts rest near p apart = absurd p
  formula_read (suc depth) shape scope first f ts rest near (inl (inl p)) apart =
      let count : first ≡ first + binding_count f = omega (arith, count-constant true, ap binding_count p.0) in
      ap (λ h. formula_by bytes symbols shape depth (formula_at bytes symbols depth) h scope first ts) (head_is words.True ts rest p.1)
      ∙ (λ i. Ok ((sym p.0 i, count i), token_tail _ ts rest p.1 i))
  formula_read (suc depth) shape scope first f ts rest near (inl (inr p)) apart =
      let count : first ≡ first + binding_count f = omega (arith, count-constant false, ap binding_count p.0) in
      ap (λ h. formula_by bytes symbols shape depth (formula_at bytes symbols depth) h scope first ts) (head_is words.False ts rest p.1)
      ∙ (λ i. Ok ((sym p.0 i, count i), token_tail _ ts rest p.1 i))
  formula_read (suc depth) shape scope first f ts rest near (inr (inl p)) apart =
      ap (λ h. formula_by bytes symbols shape depth (formula_at bytes symbols depth) h scope first ts) (atom_head depth scope p.0 ts rest p.2)
      ∙ atom_is_read depth scope first f ts rest near p apart
  formula_read (suc depth) shape scope first f ts rest near (inr (inr p)) apart =
      let c = p.0 in
      let w = p.3 in
      let parts_read = connected_read (formula bytes symbols depth p.1) (formula_at bytes symbols depth p.1) (formula_read depth p.1) (formula_takes bytes symbols depth p.1) c scope first f w.0 rest (omega (arith, near, token_shorter _ ts w.0 w.1)) w.2 in
      ap (λ h. formula_by bytes symbols shape depth (formula_at bytes symbols depth) h scope first ts) (head_is (connective_word c) ts w.0 w.1 ∙ connective_head c)
      ∙ ap (λ o. connected_if bytes symbols c o (formula_at bytes symbols depth) scope first ts) p.2
      ∙ ap (λ us. connected_at bytes symbols c (formula_at bytes symbols depth p.1) scope first us) (token_tail _ ts w.0 w.1)
      ∙ parts_read
