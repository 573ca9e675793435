-- Laws with their proofs, not definitions that a reader must believe: quantified variables are read as they are written.
use Rattle.std.proofs.Common.{◌≡◌, ℕ, suc, ◌+◌, ◌==◌, ◌&&◌, inl, inr, true, false, cond, List, [], ◌∷◌, ◌++◌, length, fold, Option, Some, None, Ok, refl, sym, ap, subst, ◌∙◌, append_assoc, arith}
use Rattle.std.proofs.lemmas.Bool.{and_parts, eqb-true}
use Rattle.std.proofs.lemmas.List.{append-nil}
use Rattle.spl_terms.specs.declared.term.Symbol.{Symbol}
use Rattle.spl_symbols.specs.Symbols.{Declared, HasOwnNames, AreNamed}
use Rattle.formulas.specs.declared.tree.Tree.{Tree}
use Rattle.dfg_tokens.specs.declared.piece.Mark.TheVariants.{OpenParenthesis, CloseParenthesis}
use Rattle.dfg_tokens.specs.declared.token.Token.{Token}
use Rattle.dfg_tokens.specs.Tokens.{token_bytes}
use Rattle.dfg_terms.specs.declared.fault.FaultKind.TheVariants.{Undeclared}
use Rattle.dfg_terms.specs.declared.symbols.Found.{Found}
use Rattle.dfg_terms.specs.Reading.{◌>>=◌, fault, next_mark, mark_at, name_at, bytes_of, spelled_at}
use Rattle.dfg_terms.specs.Scopes.{Binding}
use Rattle.dfg_terms.specs.Symbols.{lookup}
use Rattle.dfg_terms.specs.Phrases.{token, IsNameOf, enclosed}
use Rattle.dfg_terms.specs.ResultLaws.{bind_ok, chosen, ok_is, fault_not, then_ok, when_true, when_false}
use Rattle.dfg_terms.specs.StepLaws.{mark_next, mark_read, name_read}
use Rattle.dfg_terms.specs.StandLaws.{mark_stands, name_stands, spelled_is}
use Rattle.dfg_terms.specs.FrontLaws.{Takes, token_takes, then_takes, weaken, enclosed_takes}
use Rattle.dfg_terms.specs.SymbolLaws.{lookup_stands, lookup_read, declared_spelled}
use Rattle.dfg_formulas.specs.Quantifiers.{Item, of_sort}
use Rattle.dfg_formulas.specs.Formulas.{is_of_atoms, may_be_sort, sort_if, sort_named, ItemsRead, sorted_item_at, item_at, with_item, adding_item}
use Rattle.dfg_formulas.specs.Grammar.{IsSort, sort_name, item_of, item, bindings_from, sorts_of}

abbrev pub item_step : ℕ → ItemsRead → Item → ItemsRead
item_step first s i = ((s.0.0 ++ record { name = i.name; number = first + s.0.1 } ∷ [], s.0.1 + 1), s.1 ++ of_sort i.sort (first + s.0.1))

-- ---- what is read is written so

module _ (bytes : List ℕ) (symbols : List Declared) where
  pub sort_stands : (t : Token) (s : Symbol) → sort_named bytes symbols t ≡ Ok s → IsSort symbols s (token_bytes bytes t)
  unfolding sort_named
  sort_stands t s e =
      let a = bind_ok (spelled_at bytes t) (λ name. sort_if t.at (lookup name symbols)) s e in
      by_found (lookup a.0 symbols) refl (spelled_is bytes t a.0 a.1) a.2
    where
      by_found : {name : List ℕ} (o : Option Found) → lookup name symbols ≡ o → token_bytes bytes t ≡ name → sort_if t.at o ≡ Ok s → IsSort symbols s (token_bytes bytes t)
      by_found None is text r = absurd (fault_not t.at Undeclared s r)
      by_found {name} (Some f) is text r =
          elim (chosen (may_be_sort f) (Ok f.symbol) (fault t.at Undeclared) (Ok s) r) [
            | inl h ↦ (let parts = and_parts (is_of_atoms f.symbol.kind) (f.arity == 1) h.0 in
                let one : f.arity ≡ 1 = eqb-true f.arity 1 parts.1 in
                let here = lookup_stands symbols name f is in
                let there : IsSort symbols f.symbol name = (parts.0, here ∙ ap (λ n. Some (record { name = name; arity = n; kind = f.symbol.kind })) one) in
                subst (λ n. IsSort symbols s n) (sym text) (subst (λ (q : Symbol). IsSort symbols q name) (ok_is f.symbol s h.1) there))
            | inr h ↦ absurd (fault_not t.at Undeclared s h.1)
          ]

  abbrev ItemStands : List Token → (Option Symbol × Token) × List Token → Type 0
  ItemStands ts y = item_of bytes symbols y.0.0 (token_bytes bytes y.0.1) ts y.1

  item_stands : (ts : List Token) (y : (Option Symbol × Token) × List Token) → item_at bytes symbols ts ≡ Ok y → ItemStands ts y
  unfolding item_at sorted_item_at
  item_stands ts y e =
      let a = bind_ok (name_at ts) (λ name. cond (next_mark OpenParenthesis name.1) (sorted_item_at bytes symbols name.0 name.1) (Ok ((None, name.0), name.1))) y e in
      let name = name_stands ts a.0 a.1 in
      elim (chosen (next_mark OpenParenthesis a.0.1) (sorted_item_at bytes symbols a.0.0 a.0.1) (Ok ((None, a.0.0), a.0.1)) (Ok y) a.2) [
        | inl h ↦ (let b = bind_ok (sort_named bytes symbols a.0.0) (λ sort. mark_at OpenParenthesis a.0.1 >>= λ inner. name_at inner >>= λ x. mark_at CloseParenthesis x.1 >>= λ rest. Ok ((Some sort, x.0), rest)) y h.1 in
            let c = bind_ok (mark_at OpenParenthesis a.0.1) (λ inner. name_at inner >>= λ x. mark_at CloseParenthesis x.1 >>= λ rest. Ok ((Some b.0, x.0), rest)) y b.2 in
            let d = bind_ok (name_at c.0) (λ x. mark_at CloseParenthesis x.1 >>= λ rest. Ok ((Some b.0, x.0), rest)) y c.2 in
            let f = bind_ok (mark_at CloseParenthesis d.0.1) (λ rest. Ok ((Some b.0, d.0.0), rest)) y d.2 in
            let variable = name_stands c.0 d.0 d.1 in
            subst (ItemStands ts) (ok_is ((Some b.0, d.0.0), f.0) y f.2) (
              a.0.1,
              (a.0.0, (token_bytes bytes a.0.0, sort_stands a.0.0 b.0 b.1, (name.0, name.1, name.2, refl)), name.3),
              (c.0, mark_stands OpenParenthesis a.0.1 c.0 c.1, (d.0.1, (d.0.0, (variable.0, variable.1, variable.2, refl), variable.3), mark_stands CloseParenthesis d.0.1 f.0 f.1)),
            ))
        | inr h ↦ subst (ItemStands ts) (ok_is ((None, a.0.0), a.0.1) y h.1) (a.0.0, (name.0, name.1, name.2, refl), name.3)
      ]

  pub added_stands : (first : ℕ) (s : ItemsRead) (ts : List Token) (y : ItemsRead × List Token) → adding_item bytes symbols first s ts ≡ Ok y → (x : Item) × (y.0 ≡ item_step first s x) × item bytes symbols x ts y.1
  unfolding bytes_of
  added_stands first s ts y e =
      let a = bind_ok (item_at bytes symbols ts) (λ x. Ok (with_item bytes first s x.0.0 x.0.1, x.1)) y e in
      let same = ok_is (with_item bytes first s a.0.0.0 a.0.0.1, a.0.1) y a.2 in
      let i : Item = record { sort = a.0.0.0; name = token_bytes bytes a.0.0.1 } in
      (i, ap (λ (q : ItemsRead × List Token). q.0) (sym same), subst (λ (q : ItemsRead × List Token). item bytes symbols i ts q.1) same (item_stands ts a.0 a.1))

-- ---- what is written is read

module _ (bytes : List ℕ) (symbols : List Declared) (own : HasOwnNames symbols) (named : AreNamed symbols) where
  pub sort_read : (t : Token) (s : Symbol) (name : List ℕ) → IsSort symbols s name → token_bytes bytes t ≡ name → sort_named bytes symbols t ≡ Ok s
  unfolding sort_named
  sort_read t s name is text =
      let f : Found = record { symbol = s; arity = 1 } in
      then_ok _ _ _ _ (declared_spelled bytes symbols named name f t is.1 text)
      (ap (sort_if t.at) (lookup_read symbols own name f is.1) ∙ when_true _ _ _ _ (ap (λ b. b && true) is.0) refl)

  item_read : (sort : Option Symbol) (name : List ℕ) (ts rest : List Token) → item_of bytes symbols sort name ts rest → next_mark OpenParenthesis rest ≡ false → (t : Token) × (item_at bytes symbols ts ≡ Ok ((sort, t), rest)) × (token_bytes bytes t ≡ name)
  unfolding item_at sorted_item_at
  item_read None name ts rest p apart =
      let is = p.1 in
      (p.0, then_ok _ _ _ _ (name_read is.0 p.0 ts rest is.1 is.2 p.2) (when_false _ _ _ _ apart refl), is.3)
  item_read (Some s) name ts rest p apart =
      let head = p.1 in
      let is = head.1.2 in
      let inner = p.2 in
      let variable = inner.2.1 in
      let v = variable.1 in (
        variable.0,
        then_ok _ _ _ _ (name_read is.0 head.0 ts p.0 is.1 is.2 head.2)
            (when_true _ _ _ _ (mark_next OpenParenthesis p.0 inner.0 inner.1)
            (then_ok _ _ _ _ (sort_read head.0 s head.1.0 head.1.1 is.3)
            (then_ok _ _ _ _ (mark_read OpenParenthesis p.0 inner.0 inner.1)
            (then_ok _ _ _ _ (name_read v.0 variable.0 inner.0 inner.2.0 v.1 v.2 variable.2)
            (then_ok _ _ _ _ (mark_read CloseParenthesis inner.2.0 rest inner.2.2) refl))))),
        v.3,
      )

  pub added_read : (first : ℕ) (s : ItemsRead) (i : Item) (ts rest : List Token) → item bytes symbols i ts rest → next_mark OpenParenthesis rest ≡ false → adding_item bytes symbols first s ts ≡ Ok (item_step first s i, rest)
  unfolding bytes_of
  added_read first s i ts rest p apart =
      let a = item_read i.sort i.name ts rest p apart in
      then_ok _ _ _ _ a.1 (ap (λ (name : List ℕ). Ok (((s.0.0 ++ record { name = name; number = first + s.0.1 } ∷ [], s.0.1 + 1), s.1 ++ of_sort i.sort (first + s.0.1)), rest)) a.2)

pub item_takes : (bytes : List ℕ) (symbols : List Declared) (i : Item) → Takes (item bytes symbols i)
item_takes bytes symbols i = by_sort i.sort i.name
  where
    by_sort : (sort : Option Symbol) (name : List ℕ) → Takes (item_of bytes symbols sort name)
    by_sort None name = token_takes _
    by_sort (Some s) name = then_takes (sort_name bytes symbols s) (enclosed (token (IsNameOf bytes name))) (token_takes _) (weaken (enclosed (token (IsNameOf bytes name))) (enclosed_takes (token (IsNameOf bytes name)) (weaken (token (IsNameOf bytes name)) (token_takes _))))

-- ---- all of them

fold_items : (first : ℕ) (scope : List Binding) (n : ℕ) (sorts : List Tree) (items : List Item) → fold (item_step first) ((scope, n), sorts) items ≡ ((scope ++ bindings_from (first + n) items, n + length items), sorts ++ sorts_of (first + n) items)
fold_items first scope n sorts [] = let e : n ≡ n + 0 = omega arith in λ i. ((sym (append-nil scope) i, e i), sym (append-nil sorts) i)
fold_items first scope n sorts (x ∷ items) =
    let b : Binding = record { name = x.name; number = first + n } in
    let more = fold_items first (scope ++ b ∷ []) (n + 1) (sorts ++ of_sort x.sort (first + n)) items in
    let next : first + (n + 1) ≡ first + n + 1 = omega arith in
    let count : n + 1 + length items ≡ n + suc (length items) = omega arith in
    more ∙ (λ i. ((append_assoc scope (b ∷ []) (bindings_from (next i) items) i, count i), append_assoc sorts (of_sort x.sort (first + n)) (sorts_of (next i) items) i))

pub all_items : (first : ℕ) (scope : List Binding) (items : List Item) → fold (item_step first) ((scope, 0), []) items ≡ ((scope ++ bindings_from first items, length items), sorts_of first items)
all_items first scope items =
    let e : first + 0 ≡ first = omega arith in
    let z : 0 + length items ≡ length items = omega arith in
    fold_items first scope 0 [] items ∙ (λ i. ((scope ++ bindings_from (e i) items, z i), sorts_of (e i) items))
