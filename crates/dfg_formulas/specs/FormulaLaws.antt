-- Laws with their proofs, not definitions that a reader must believe: formulas are read as they are written.
use Rattle.std.proofs.Common.{◌≡◌, ◌⊎◌, ℕ, zero, suc, ◌+◌, inl, inr, Bool, true, false, cond, List, [], ◌∷◌, ◌++◌, length, map, Option, Some, None, Ok, refl, sym, ap, subst, ◌∙◌, append_assoc, arith}
use Rattle.spl_symbols.specs.Symbols.{Declared}
use Rattle.formulas.specs.declared.tree.Tree as tree
use Rattle.formulas.specs.declared.tree.Tree.{Tree}
use Rattle.dfg_tokens.specs.declared.piece.Mark.TheVariants.{OpenParenthesis, CloseParenthesis, OpenBracket, CloseBracket, Comma}
use Rattle.dfg_tokens.specs.declared.token.Token.{Token}
use Rattle.dfg_tokens.specs.Cursors.{tail}
use Rattle.dfg_terms.specs.declared.fault.FaultKind.TheVariants.{Unexpected, LimitReached}
use Rattle.dfg_terms.specs.declared.fault.Limit.TheVariants as limits
use Rattle.dfg_terms.specs.declared.symbols.Place.TheVariants as places
use Rattle.dfg_terms.specs.Reading.{◌>>=◌, refuse, next_mark, mark_at, commas}
use Rattle.dfg_terms.specs.Scopes.{Binding}
use Rattle.dfg_terms.specs.Terms.{named_leaf, term_at, atom_with}
use Rattle.dfg_terms.specs.Phrases.{mark, word, enclosed}
use Rattle.dfg_terms.specs.Grammar.{names, term}
use Rattle.dfg_terms.specs.ResultLaws.{bind_ok, chosen, ok_is, refused_not}
use Rattle.dfg_terms.specs.StandLaws.{next_mark_stands, mark_stands, separated_stand}
use Rattle.dfg_terms.specs.VariableLaws.{names_agree}
use Rattle.dfg_terms.specs.TermLaws.{term_stands, atom_stands}
use Rattle.dfg_formulas.specs.declared.shape.Shape.{Shape}
use Rattle.dfg_formulas.specs.declared.shape.Connective.{Connective}
use Rattle.dfg_formulas.specs.declared.shape.Connective.TheVariants as connectives
use Rattle.dfg_formulas.specs.declared.shape.Head.{Head}
use Rattle.dfg_formulas.specs.declared.shape.Head.TheVariants as heads
use Rattle.dfg_formulas.specs.Shapes.{parts, next_head, may_begin}
use Rattle.dfg_formulas.specs.Quantifiers.{quantified}
use Rattle.dfg_formulas.specs.Formulas.{FormulaReader, ItemsRead, adding_item, negation_at, adding_part, joined, several_at, pair_of, pair_at, quantified_at, inside_at, connected_at, connected_if, constant, atom_at, formula_by, too_deep, formula_at}
use Rattle.dfg_formulas.specs.Grammar.{FormulaPhrase, total, binding_count, item, bindings_from, sorts_of, in_turn, negation, several, pair, quantification, inside, atomic, connection, formula}
use Rattle.dfg_formulas.specs.Grammar.{constant as constant_phrase}
use Rattle.dfg_formulas.specs.HeadLaws.{constant_word, constant_stands, connective_stands}
use Rattle.dfg_formulas.specs.ItemLaws.{item_step, added_stands, all_items}
use Rattle.dfg_formulas.specs.BindingLaws.{count-constant, count-Atom, count-Not, count-joined, count-pair, count-quantified}

abbrev Read : Type 0
Read = (Tree × ℕ) × List Token

-- what is read is written so, and its bindings are numbered from next on
abbrev pub ReadAs : FormulaPhrase → List Binding → ℕ → List Token → Read → Type 0
ReadAs P scope next ts y = (y.0.1 ≡ next + binding_count y.0.0) × P scope next y.0.0 ts y.1

abbrev pub Stands : FormulaPhrase → FormulaReader → Type 0
Stands P read = (scope : List Binding) (next : ℕ) (ts : List Token) (y : Read) → read scope next ts ≡ Ok y → ReadAs P scope next ts y

-- ---- what is read is written so

module _ (P : FormulaPhrase) (read : FormulaReader) (law : Stands P read) where
  negation_stands : Stands (negation P) (negation_at read)
  unfolding negation_at
  negation_stands scope next ts y e =
      let a = bind_ok (read scope next ts) (λ f. Ok ((tree.Not f.0.0, f.0.1), f.1)) y e in
      let here = law scope next ts a.0 a.1 in
      subst (ReadAs (negation P) scope next ts) (ok_is ((tree.Not a.0.0.0, a.0.0.1), a.0.1) y a.2)
      (here.0 ∙ ap (λ n. next + n) (sym (count-Not a.0.0.0)), (a.0.0.0, refl, here.1))

  abbrev Turns : List Binding → List Tree × ℕ → List Token → (List Tree × ℕ) × List Token → Type 0
  Turns scope s ts y = (fs : List Tree) × (y.0.0 ≡ s.0 ++ fs) × (y.0.1 ≡ s.1 + total (map binding_count fs)) × in_turn (P scope) s.1 fs ts y.1

  one_more : (scope : List Binding) (s : List Tree) (next : ℕ) (f : Tree) (ts between after : List Token) (y : (List Tree × ℕ) × List Token) → P scope next f ts between → mark Comma between after → Turns scope (s ++ f ∷ [], next + binding_count f) after y → Turns scope (s, next) ts y
  one_more scope s next f ts between after y p comma more = by_list more.0 more.1 more.2 more.3
    where
      by_list : (fs : List Tree) → y.0.0 ≡ (s ++ f ∷ []) ++ fs → y.0.1 ≡ next + binding_count f + total (map binding_count fs) → in_turn (P scope) (next + binding_count f) fs after y.1 → Turns scope (s, next) ts y
      by_list [] is count q = absurd q
      by_list (g ∷ gs) is count q = (f ∷ (g ∷ gs), is ∙ append_assoc s (f ∷ []) (g ∷ gs), omega (arith, count), (between, p, (after, comma, q)))

  turns_stand : (scope : List Binding) (k : ℕ) (s : List Tree) (next : ℕ) (ts : List Token) (y : (List Tree × ℕ) × List Token) → commas (adding_part read scope) k (s, next) ts ≡ Ok y → Turns scope (s, next) ts y
  unfolding commas
  turns_stand scope zero s next ts y e = absurd (refused_not Unexpected ts y e)
  turns_stand scope (suc k) s next ts y e =
      let a = bind_ok (adding_part read scope (s, next) ts) (λ x. cond (next_mark Comma x.1) (commas (adding_part read scope) k x.0 (tail x.1)) (Ok x)) y e in
      let b = bind_ok (read scope next ts) (λ f. Ok ((s ++ f.0.0 ∷ [], f.0.1), f.1)) a.0 a.1 in
      let f = b.0.0.0 in
      let here = law scope next ts b.0 b.1 in
      let same : ((s ++ f ∷ [], next + binding_count f), b.0.1) ≡ a.0 = (λ i. ((s ++ f ∷ [], sym here.0 i), b.0.1)) ∙ ok_is ((s ++ f ∷ [], b.0.0.1), b.0.1) a.0 b.2 in
      let rest = subst (λ (q : (List Tree × ℕ) × List Token). cond (next_mark Comma q.1) (commas (adding_part read scope) k q.0 (tail q.1)) (Ok q) ≡ Ok y) (sym same) a.2 in
      elim (chosen (next_mark Comma b.0.1) (commas (adding_part read scope) k (s ++ f ∷ [], next + binding_count f) (tail b.0.1)) (Ok ((s ++ f ∷ [], next + binding_count f), b.0.1)) (Ok y) rest) [
        | inl h ↦ one_more scope s next f ts b.0.1 (tail b.0.1) y here.1 (next_mark_stands Comma b.0.1 h.0) (turns_stand scope k (s ++ f ∷ []) (next + binding_count f) (tail b.0.1) y h.1)
        | inr h ↦ subst (Turns scope (s, next) ts) (ok_is ((s ++ f ∷ [], next + binding_count f), b.0.1) y h.1) (f ∷ [], refl, omega arith, (b.0.1, here.1, refl))
      ]

  several_stands : (bytes : List ℕ) (all : Bool) → Stands (several all P) (several_at bytes all read)
  unfolding several_at
  several_stands bytes all scope next ts y e =
      let a = bind_ok (commas (adding_part read scope) (length bytes) ([], next) ts) (λ x. Ok ((joined all x.0.0, x.0.1), x.1)) y e in
      let here = turns_stand scope (length bytes) [] next ts a.0 a.1 in
      subst (ReadAs (several all P) scope next ts) (ok_is ((joined all a.0.0.0, a.0.0.1), a.0.1) y a.2)
      (here.2 ∙ ap (λ n. next + n) (sym (count-joined all here.0) ∙ ap (λ (fs : List Tree). binding_count (joined all fs)) (sym here.1)), (here.0, ap (joined all) here.1, here.3))

  pair_stands : (c : Connective) → Stands (pair c P) (pair_at c read)
  unfolding pair_at
  pair_stands c scope next ts y e =
      let a = bind_ok (read scope next ts) (λ f. mark_at Comma f.1 >>= λ second. read scope f.0.1 second >>= λ g. Ok ((pair_of c f.0.0 g.0.0, g.0.1), g.1)) y e in
      let b = bind_ok (mark_at Comma a.0.1) (λ second. read scope a.0.0.1 second >>= λ g. Ok ((pair_of c a.0.0.0 g.0.0, g.0.1), g.1)) y a.2 in
      let d = bind_ok (read scope a.0.0.1 b.0) (λ g. Ok ((pair_of c a.0.0.0 g.0.0, g.0.1), g.1)) y b.2 in
      let left = law scope next ts a.0 a.1 in
      let right = law scope a.0.0.1 b.0 d.0 d.1 in
      let second = subst (λ n. P scope n d.0.0.0 b.0 d.0.1) left.0 right.1 in
      subst (ReadAs (pair c P) scope next ts) (ok_is ((pair_of c a.0.0.0 d.0.0.0, d.0.0.1), d.0.1) y d.2)
      (omega (arith, right.0, left.0, count-pair c a.0.0.0 d.0.0.0), (a.0.0.0, d.0.0.0, refl, (a.0.1, left.1, (b.0, mark_stands Comma a.0.1 b.0 b.1, second))))

  quantified_stands : (bytes : List ℕ) (symbols : List Declared) (all : Bool) → Stands (quantification bytes symbols all P) (quantified_at bytes symbols all read)
  unfolding quantified_at
  quantified_stands bytes symbols all scope next ts y e =
      let a = bind_ok (mark_at OpenBracket ts) (λ opened. commas (adding_item bytes symbols next) (length bytes) ((scope, 0), []) opened >>= λ items. mark_at CloseBracket items.1 >>= λ closed. mark_at Comma closed >>= λ comma. read items.0.0.0 (next + items.0.0.1) comma >>= λ f. Ok ((quantified all next items.0.0.1 items.0.1 f.0.0, f.0.1), f.1)) y e in
      let b = bind_ok (commas (adding_item bytes symbols next) (length bytes) ((scope, 0), []) a.0) (λ items. mark_at CloseBracket items.1 >>= λ closed. mark_at Comma closed >>= λ comma. read items.0.0.0 (next + items.0.0.1) comma >>= λ f. Ok ((quantified all next items.0.0.1 items.0.1 f.0.0, f.0.1), f.1)) y a.2 in
      let all_read = separated_stand (item bytes symbols) (item_step next) (adding_item bytes symbols next) (added_stands bytes symbols next) (length bytes) ((scope, 0), []) a.0 b.0 b.1 in
      let items = all_read.0 in
      let state : ItemsRead = ((scope ++ bindings_from next items, length items), sorts_of next items) in
      let same : b.0.0 ≡ state = all_read.1 ∙ all_items next scope items in
      let rest = subst (λ (s : ItemsRead). (mark_at CloseBracket b.0.1 >>= λ closed. mark_at Comma closed >>= λ comma. read s.0.0 (next + s.0.1) comma >>= λ f. Ok ((quantified all next s.0.1 s.1 f.0.0, f.0.1), f.1)) ≡ Ok y) same b.2 in
      let c = bind_ok (mark_at CloseBracket b.0.1) (λ closed. mark_at Comma closed >>= λ comma. read state.0.0 (next + state.0.1) comma >>= λ f. Ok ((quantified all next state.0.1 state.1 f.0.0, f.0.1), f.1)) y rest in
      let d = bind_ok (mark_at Comma c.0) (λ comma. read state.0.0 (next + state.0.1) comma >>= λ f. Ok ((quantified all next state.0.1 state.1 f.0.0, f.0.1), f.1)) y c.2 in
      let g = bind_ok (read state.0.0 (next + state.0.1) d.0) (λ f. Ok ((quantified all next state.0.1 state.1 f.0.0, f.0.1), f.1)) y d.2 in
      let inner = law state.0.0 (next + state.0.1) d.0 g.0 g.1 in
      subst (ReadAs (quantification bytes symbols all P) scope next ts) (ok_is ((quantified all next state.0.1 state.1 g.0.0.0, g.0.0.1), g.0.1) y g.2) (
        omega (arith, inner.0, count-quantified all next items g.0.0.0),
        (items, g.0.0.0, refl, (a.0, mark_stands OpenBracket ts a.0 a.1, (b.0.1, all_read.2, (c.0, mark_stands CloseBracket b.0.1 c.0 c.1, (d.0, mark_stands Comma c.0 d.0 d.1, inner.1))))),
      )

  inside_stands : (bytes : List ℕ) (symbols : List Declared) (c : Connective) → Stands (inside bytes symbols c P) (inside_at bytes symbols c read)
  inside_stands bytes symbols connectives.Not = negation_stands
  inside_stands bytes symbols connectives.And = several_stands bytes true
  inside_stands bytes symbols connectives.Or = several_stands bytes false
  inside_stands bytes symbols connectives.Implies = pair_stands connectives.Implies
  inside_stands bytes symbols connectives.Implied = pair_stands connectives.Implied
  inside_stands bytes symbols connectives.Equiv = pair_stands connectives.Equiv
  inside_stands bytes symbols connectives.Forall = quantified_stands bytes symbols true
  inside_stands bytes symbols connectives.Exists = quantified_stands bytes symbols false

  pub connected_stands : (bytes : List ℕ) (symbols : List Declared) (c : Connective) (scope : List Binding) (next : ℕ) (ts : List Token) (y : Read) → connected_at bytes symbols c read scope next ts ≡ Ok y
      → (y.0.1 ≡ next + binding_count y.0.0) × enclosed (inside bytes symbols c P scope next y.0.0) ts y.1
  unfolding connected_at
  connected_stands bytes symbols c scope next ts y e =
      let a = bind_ok (mark_at OpenParenthesis ts) (λ inner. inside_at bytes symbols c read scope next inner >>= λ f. mark_at CloseParenthesis f.1 >>= λ rest. Ok (f.0, rest)) y e in
      let b = bind_ok (inside_at bytes symbols c read scope next a.0) (λ f. mark_at CloseParenthesis f.1 >>= λ rest. Ok (f.0, rest)) y a.2 in
      let d = bind_ok (mark_at CloseParenthesis b.0.1) (λ rest. Ok (b.0.0, rest)) y b.2 in
      let here = inside_stands bytes symbols c scope next a.0 b.0 b.1 in
      subst (λ (q : Read). (q.0.1 ≡ next + binding_count q.0.0) × enclosed (inside bytes symbols c P scope next q.0.0) ts q.1) (ok_is (b.0.0, d.0) y d.2)
      (here.0, (a.0, mark_stands OpenParenthesis ts a.0 a.1, (b.0.1, here.1, mark_stands CloseParenthesis b.0.1 d.0 d.1)))

module _ (bytes : List ℕ) (symbols : List Declared) where
  pub atom_is : (depth : ℕ) → Stands (atomic bytes symbols depth) (atom_at bytes symbols depth)
  unfolding atom_at
  atom_is depth scope next ts y e =
      let terms = term_at bytes symbols (named_leaf bytes scope) depth in
      let P = term bytes symbols (names bytes scope) depth in
      let a = bind_ok (atom_with bytes symbols places.Atom terms ts) (λ x. Ok ((tree.Atom x.0, next), x.1)) y e in
      let here = atom_stands bytes symbols places.Atom P terms (term_stands bytes symbols (named_leaf bytes scope) (names bytes scope) (names_agree bytes scope) depth) ts a.0 a.1 in
      subst (ReadAs (atomic bytes symbols depth) scope next ts) (ok_is ((tree.Atom a.0.0, next), a.0.1) y a.2)
      (omega (arith, count-Atom a.0.0), (a.0.0, refl, here))

  deep_not : (shape : Shape) (ts : List Token) (y : Read) → too_deep shape ts ≡ Ok y → ⊥
  unfolding too_deep
  deep_not shape ts y e =
      elim (chosen (may_begin shape (next_head ts)) (refuse (LimitReached limits.Depth) ts) (refuse Unexpected ts) (Ok y) e) [
        | inl h ↦ refused_not (LimitReached limits.Depth) ts y h.1
        | inr h ↦ refused_not Unexpected ts y h.1
      ]

  constant_is : (b : Bool) (ts : List Token) → word (constant_word b) ts (tail ts) → constant_phrase (constant b) ts (tail ts)
  constant_is true ts p = inl (refl, p)
  constant_is false ts p = inr (refl, p)

  module _ (depth : ℕ) (shape : Shape) (P : Shape → FormulaPhrase) (read : Shape → FormulaReader) (law : (inner : Shape) → Stands (P inner) (read inner)) where
    abbrev Here : FormulaPhrase
    Here scope next f ts rest = constant_phrase f ts rest ⊎ (atomic bytes symbols depth scope next f ts rest ⊎ connection bytes symbols shape P scope next f ts rest)

    connection_stands : (c : Connective) (scope : List Binding) (next : ℕ) (ts : List Token) (y : Read) (o : Option Shape) → parts shape c ≡ o → next_head ts ≡ heads.Connected c → connected_if bytes symbols c o read scope next ts ≡ Ok y → ReadAs Here scope next ts y
    connection_stands c scope next ts y None is head e = absurd (refused_not Unexpected ts y e)
    connection_stands c scope next ts y (Some inner) is head e =
        let here = connected_stands (P inner) (read inner) (law inner) bytes symbols c scope next (tail ts) y e in
        (here.0, inr (inr (c, inner, is, (tail ts, connective_stands c ts head, here.1))))

    by_stands : (h : Head) (scope : List Binding) (next : ℕ) (ts : List Token) (y : Read) → next_head ts ≡ h → formula_by bytes symbols shape depth read h scope next ts ≡ Ok y → ReadAs Here scope next ts y
    by_stands (heads.Constant b) scope next ts y head e =
        subst (ReadAs Here scope next ts) (ok_is ((constant b, next), tail ts) y e)
        (omega (arith, count-constant b), inl (constant_is b ts (constant_stands b ts head)))
    by_stands (heads.Connected c) scope next ts y head e = connection_stands c scope next ts y (parts shape c) refl head e
    by_stands heads.Atom scope next ts y head e = let here = atom_is depth scope next ts y e in (here.0, inr (inl here.1))
    by_stands heads.Nothing scope next ts y head e = absurd (refused_not Unexpected ts y e)

  pub formula_stands : (depth : ℕ) (shape : Shape) → Stands (formula bytes symbols depth shape) (formula_at bytes symbols depth shape)
  unfolding formula_at formula
  formula_stands zero shape scope next ts y e = absurd (deep_not shape ts y e)
  formula_stands (suc depth) shape scope next ts y e = by_stands depth shape (formula bytes symbols depth) (formula_at bytes symbols depth) (formula_stands depth) (next_head ts) scope next ts y refl e
