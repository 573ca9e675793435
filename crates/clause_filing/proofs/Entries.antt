-- Entries that stay linked, and what stays filed.
use Rattle.std.proofs.Common.{◌≡◌, ◌⊎◌, inl, inr, ℕ, zero, suc, ◌+◌, ◌-◌, ◌<◌, ◌≤◌, ◌==◌, Bool, true, false, if◌then◌else◌, List, [], ◌∷◌, ◌++◌, length, Option, Some, None, option_map, unwrap_or, refl, sym, ap, ◌∙◌, subst, arith, length-append}
use Rattle.std.specs.Prelude.{nat_eq}
use Rattle.std.specs.List.{slice_get}
use Rattle.std.proofs.lemmas.Bool.{eqb-true, eq-eqb, cases_lt}
use Rattle.indexmap.specs.IndexMap.{get}
use Rattle.spl_terms.specs.Lists.{numbered}
use Rattle.spl_terms.specs.ListLaws.{numbered-within, numbered-left, numbered-more, numbered-end}
use Rattle.spl_terms.specs.declared.atom.Atom.{Atom}
use Rattle.spl_terms.specs.declared.clause.Part.TheVariants.{Constraint, Antecedent, Succedent}
use Rattle.spl_terms.specs.declared.clause.Clause.{Clause}
use Rattle.clause_filing.specs.declared.filing.Entry.{Entry}
use Rattle.clause_filing.specs.declared.filing.Filing.TheInside.{Inside}
use Rattle.clause_filing.specs.Filings.{key, side, before_arrow, after_arrow, HasKey, IsNewest, IsAdded, Keeps, IsFiled, HasAtoms, IsFiledUnderAll}
use Rattle.clause_filing.specs.Links.{IsLinked}

-- ---- one more entry

get_snoc : {A : Type 0} (xs : List A) (y : A) (k : ℕ) (z : A) → slice_get (xs ++ y ∷ []) k ≡ Some z → ((k < length xs) × (slice_get xs k ≡ Some z)) ⊎ ((k ≡ length xs) × (y ≡ z))
get_snoc [] y zero z e = let h : y ≡ z = cc in inr (refl, h)
get_snoc [] y (suc k) z e = absurd (cc)
get_snoc (x ∷ xs) y zero z e = inl (omega arith, e)
get_snoc (x ∷ xs) y (suc k) z e = elim (get_snoc xs y k z e) [ inl h ↦ inl (omega (arith, h.0), h.1) | inr h ↦ inr (omega (arith, h.0), h.1) ]

numbered_snoc : {A : Type 0} (xs : List A) (y : A) (n : ℕ) (z : A) → numbered (xs ++ y ∷ []) n ≡ Some z → ((n ≤ length xs) × (numbered xs n ≡ Some z)) ⊎ ((n ≡ length xs + 1) × (y ≡ z))
numbered_snoc xs y zero z e = absurd (cc)
numbered_snoc xs y (suc k) z e = elim (get_snoc xs y k z e) [
  | inl h ↦ inl (omega (arith, h.0), h.1)
  | inr h ↦ inr (omega (arith, h.0), h.1)
]

-- ---- the newest entry of a key

keyed_left : (es : List Entry) (e : Entry) (key n : ℕ) → HasKey es key n → HasKey (es ++ e ∷ []) key n
keyed_left es e key n h = (h.0, numbered-more es (e ∷ []) n h.0 h.1, h.2)

keyed_before : (es : List Entry) (e : Entry) (key n : ℕ) → n ≤ length es → HasKey (es ++ e ∷ []) key n → HasKey es key n
keyed_before es e key n w h = (h.0, sym (numbered-left es (e ∷ []) n w) ∙ h.1, h.2)

newest_stays : (es : List Entry) (e : Entry) (key upto x : ℕ) → upto ≤ length es → IsNewest es key upto x → IsNewest (es ++ e ∷ []) key upto x
newest_stays es e key upto x w h = record {
  within = h.within;
  own = λ p. keyed_left es e key x (h.own p);
  last = λ y l u k. h.last y l u (keyed_before es e key y (omega (arith, w, u)) k);
}

newest_other : (es : List Entry) (e : Entry) (key x : ℕ) → (e.key ≡ key → ⊥) → IsNewest es key (length es) x → IsNewest (es ++ e ∷ []) key (length (es ++ e ∷ [])) x
newest_other es e key x other h = record {
  within = omega (arith, h.within, length-append es (e ∷ []));
  own = λ p. keyed_left es e key x (h.own p);
  last = λ y l u k. elim (numbered_snoc es e y k.0 k.1) [
    | inl b ↦ h.last y l b.0 (k.0, b.1, k.2)
    | inr a ↦ other (ap (λ (f : Entry). f.key) a.1 ∙ k.2)
  ];
}

newest_last : (es : List Entry) (e : Entry) (key : ℕ) → e.key ≡ key → IsNewest (es ++ e ∷ []) key (length (es ++ e ∷ [])) (length es + 1)
newest_last es e key same = record {
  within = omega (arith, length-append es (e ∷ []));
  own = λ p. (e, numbered-end es e, same);
  last = λ y l u k. absurd (omega (arith, l, u, length-append es (e ∷ [])));
}

-- ---- the entries stay linked

linked_key : (es : List Entry) (e : Entry) (key : ℕ) (t : Bool) (o : Option ℕ) → (e.key == key) ≡ t → IsNewest es key (length es) (unwrap_or o 0) → IsNewest (es ++ e ∷ []) key (length (es ++ e ∷ [])) (unwrap_or (if t then Some (length es + 1) else o) 0)
linked_key es e key true o is h = newest_last es e key (eqb-true e.key key is)
linked_key es e key false o is h = newest_other es e key (unwrap_or o 0) (λ s. absurd (let c = sym is ∙ eq-eqb e.key key s in cc)) h

pub linked_more : (old new : Inside) (e : Entry) → IsLinked old → ((q : ℕ) → get nat_eq new.newest q ≡ (if e.key == q then Some (length old.entries.items + 1) else get nat_eq old.newest q)) → e.older ≡ unwrap_or (get nat_eq old.newest e.key) 0 → new.entries.items ≡ old.entries.items ++ e ∷ [] → IsLinked new
linked_more old new e l rule older items = record {
  newest = λ q. subst (λ es. IsNewest es q (length es) (unwrap_or (get nat_eq new.newest q) 0)) (sym items)
      (subst (λ o. IsNewest (es ++ e ∷ []) q (length (es ++ e ∷ [])) (unwrap_or o 0)) (sym (rule q))
      (linked_key es e q (e.key == q) (get nat_eq old.newest q) refl (l.newest q)));
  older = λ x f is. subst (λ es. IsNewest es f.key (x - 1) f.older) (sym items) (before x f (subst (λ es. numbered es x ≡ Some f) items is));
}
  where
    es : List Entry
    es = old.entries.items

    before : (x : ℕ) (f : Entry) → numbered (es ++ e ∷ []) x ≡ Some f → IsNewest (es ++ e ∷ []) f.key (x - 1) f.older
    before x f is = elim (numbered_snoc es e x f is) [
      | inl b ↦ newest_stays es e f.key (x - 1) f.older (omega (arith, b.0)) (l.older x f b.1)
      | inr a ↦ subst (λ (f : Entry). IsNewest (es ++ e ∷ []) f.key (x - 1) f.older) a.1
          (subst (λ n. IsNewest (es ++ e ∷ []) e.key n e.older) (let less : length es ≡ x - 1 = omega (arith, a.0) in less)
          (newest_stays es e e.key (length es) e.older (omega arith) (subst (IsNewest es e.key (length es)) (sym older) (l.newest e.key))))
    ]

pub linked_same : (old new : Inside) → IsLinked old → ((q : ℕ) → get nat_eq new.newest q ≡ get nat_eq old.newest q) → new.entries.items ≡ old.entries.items → IsLinked new
linked_same old new l rule items = record {
  newest = λ q. subst (λ es. IsNewest es q (length es) (unwrap_or (get nat_eq new.newest q) 0)) (sym items) (subst (λ o. IsNewest old.entries.items q (length old.entries.items) (unwrap_or o 0)) (sym (rule q)) (l.newest q));
  older = λ x e is. subst (λ es. IsNewest es e.key (x - 1) e.older) (sym items) (l.older x e (subst (λ es. numbered es x ≡ Some e) items is));
}

pub none_linked : (filing : Inside) → ((q : ℕ) → get nat_eq filing.newest q ≡ None) → filing.entries.items ≡ [] → IsLinked filing
none_linked filing rule items = record {
  newest = λ q. subst (λ es. IsNewest es q (length es) (unwrap_or (get nat_eq filing.newest q) 0)) (sym items) (subst (λ o. IsNewest [] q 0 (unwrap_or o 0)) (sym (rule q)) (record { within = omega arith; own = λ p. absurd (omega (arith, p)); last = λ y l u k. absurd (omega (arith, l, u)) }));
  older = λ x e is. absurd (omega (arith, numbered-within filing.entries.items x e is, ap length items));
}

-- ---- one entry less

newest_first : (es : List Entry) (e : Entry) (key upto x : ℕ) → upto ≤ length es → IsNewest (es ++ e ∷ []) key upto x → IsNewest es key upto x
newest_first es e key upto x w h = record {
  within = h.within;
  own = λ p. keyed_before es e key x (omega (arith, h.within, w)) (h.own p);
  last = λ y l u k. h.last y l u (keyed_left es e key y k);
}

newest_less : (es : List Entry) (e : Entry) (key x : ℕ) → (e.key ≡ key → ⊥) → IsNewest (es ++ e ∷ []) key (length (es ++ e ∷ [])) x → IsNewest es key (length es) x
newest_less es e key x other h =
    let within : x ≤ length es = elim (cases_lt (length es) x) [
      | inl late ↦
          let k = h.own (omega (arith, late)) in
          elim (numbered_snoc es e x k.0 k.1) [
            | inl b ↦ absurd (omega (arith, b.0, late))
            | inr a ↦ absurd (other (ap (λ (f : Entry). f.key) a.1 ∙ k.2))
          ]
      | inr early ↦ early
    ] in
    record {
      within = within;
      own = λ p. keyed_before es e key x within (h.own p);
      last = λ y l u k. h.last y l (omega (arith, u, length-append es (e ∷ []))) (keyed_left es e key y k);
    }

less_key : (es : List Entry) (e : Entry) (key : ℕ) (t : Bool) (o : Option ℕ) → (e.key == key) ≡ t → IsNewest (es ++ e ∷ []) e.key (length es) e.older → IsNewest (es ++ e ∷ []) key (length (es ++ e ∷ [])) (unwrap_or o 0) → IsNewest es key (length es) (unwrap_or (if t then Some e.older else o) 0)
less_key es e key true o is own h = newest_first es e key (length es) e.older (omega arith) (subst (λ k. IsNewest (es ++ e ∷ []) k (length es) e.older) (eqb-true e.key key is) own)
less_key es e key false o is own h = newest_less es e key (unwrap_or o 0) (λ s. absurd (let c = sym is ∙ eq-eqb e.key key s in cc)) h

pub linked_less : (old new : Inside) (es : List Entry) (e : Entry) → IsLinked old → old.entries.items ≡ es ++ e ∷ [] → ((q : ℕ) → get nat_eq new.newest q ≡ (if e.key == q then Some e.older else get nat_eq old.newest q)) → new.entries.items ≡ es → IsLinked new
linked_less old new es e l whole rule items = record {
  newest = λ q. subst (λ xs. IsNewest xs q (length xs) (unwrap_or (get nat_eq new.newest q) 0)) (sym items)
      (subst (λ o. IsNewest es q (length es) (unwrap_or o 0)) (sym (rule q))
      (less_key es e q (e.key == q) (get nat_eq old.newest q) refl own (subst (λ xs. IsNewest xs q (length xs) (unwrap_or (get nat_eq old.newest q) 0)) whole (l.newest q))));
  older = λ x f is.
      let at : numbered es x ≡ Some f = ap (λ xs. numbered xs x) (sym items) ∙ is in
      let low = numbered-within es x f at in
      subst (λ xs. IsNewest xs f.key (x - 1) f.older) (sym items)
      (newest_first es e f.key (x - 1) f.older (omega (arith, low)) (subst (λ xs. IsNewest xs f.key (x - 1) f.older) whole (l.older x f (ap (λ xs. numbered xs x) whole ∙ numbered-more es (e ∷ []) x f at))));
}
  where
    own : IsNewest (es ++ e ∷ []) e.key (length es) e.older
    own =
        let less : (length es + 1) - 1 ≡ length es = omega arith in
        subst (λ n. IsNewest (es ++ e ∷ []) e.key n e.older) less
        (subst (λ xs. IsNewest xs e.key ((length es + 1) - 1) e.older) whole (l.older (length es + 1) e (ap (λ xs. numbered xs (length es + 1)) whole ∙ numbered-end es e)))

-- the key of the last entry leads somewhere
pub last_key_there : (f : Inside) (es : List Entry) (e : Entry) → IsLinked f → f.entries.items ≡ es ++ e ∷ [] → get nat_eq f.newest e.key ≡ None → ⊥
last_key_there f es e l whole none =
    let w : IsNewest (es ++ e ∷ []) e.key (length (es ++ e ∷ [])) 0 = subst (λ o. IsNewest (es ++ e ∷ []) e.key (length (es ++ e ∷ [])) (unwrap_or o 0)) none (subst (λ xs. IsNewest xs e.key (length xs) (unwrap_or (get nat_eq f.newest e.key) 0)) whole (l.newest e.key)) in
    w.last (length es + 1) (omega arith) (omega (arith, length-append es (e ∷ []))) (e, numbered-end es e, refl)

pub numbered_before : (es : List Entry) (e : Entry) (old new : List Entry) → old ≡ es ++ e ∷ [] → new ≡ es → (x : ℕ) → x < length old → numbered new x ≡ numbered old x
numbered_before es e old new whole items x low =
    ap (λ xs. numbered xs x) items ∙ (sym (numbered-left es (e ∷ []) x (omega (arith, low, ap length whole, length-append es (e ∷ [])))) ∙ ap (λ xs. numbered xs x) (sym whole))

value_of : (o : Option Entry) (last : ℕ) → option_map (λ e. e.value) o ≡ Some last → (e : Entry) × (o ≡ Some e) × (e.value ≡ last)
value_of None last h = absurd (cc)
value_of (Some e) last h = let is : e.value ≡ last = cc in (e, refl, is)

pub some_last : (es : List Entry) (last : ℕ) → option_map (λ e. e.value) (numbered es (length es)) ≡ Some last → 0 < length es
some_last es last h =
    let v = value_of (numbered es (length es)) last h in
    omega (arith, (numbered-within es (length es) v.0 v.1).0)

-- where the last entry has no value below this one, those that have one stay
pub stays_below : (es new : List Entry) (value last x : ℕ) (e : Entry) → option_map (λ e. e.value) (numbered es (length es)) ≡ Some last → value ≤ last → ((x : ℕ) → x < length es → numbered new x ≡ numbered es x) → numbered es x ≡ Some e → e.value < value → numbered new x ≡ Some e
stays_below es new value last x e is large others at small = elim (cases_lt x (length es)) [
  | inl less ↦ others x less ∙ at
  | inr more ↦
      let v = value_of (numbered es (length es)) last is in
      let end : length es ≡ x = omega (arith, more, (numbered-within es x e at).1) in
      let same : v.0 ≡ e = (let s : Some v.0 ≡ Some e = sym v.1 ∙ ap (numbered es) end ∙ at in cc) in
      absurd (omega (arith, small, large, v.2, ap (λ (f : Entry). f.value) same))
]

-- ---- what is filed

pub keeps_self : (es : List Entry) → Keeps es es
keeps_self es = λ x e at. at

pub keeps_more : (a b c : List Entry) → Keeps a b → Keeps b c → Keeps a c
keeps_more a b c f g = λ x e at. g x e (f x e at)

pub keeps_added : (old new : List Entry) (key value mask : ℕ) → IsAdded old new key value mask → Keeps old new
keeps_added old new key value mask a = subst (Keeps old) (sym a.last) (λ x e at. numbered-more old (record { key = key; mask = mask; value = value; older = a.older } ∷ []) x e at)

pub filed_added : (old new : List Entry) (key value mask : ℕ) → IsAdded old new key value mask → IsFiled new key value mask
filed_added old new key value mask a = subst (λ es. IsFiled es key value mask) (sym a.last) (length old + 1, _, numbered-end old (record { key = key; mask = mask; value = value; older = a.older }), refl, refl, refl)

pub still_filed : (old new : List Entry) (key value mask : ℕ) → Keeps old new → IsFiled old key value mask → IsFiled new key value mask
still_filed old new key value mask keeps h = (h.0, h.1, keeps h.0 h.1 h.2, h.3, h.4, h.5)

-- ---- all atoms of a clause

-- the first atoms were filed
pub record IsFilingAtoms (old new : List Entry) (side : ℕ) (atoms : List Atom) (value i : ℕ) : Type 0 where
  pub keeps : Keeps old new
  pub filed : (k : ℕ) (a : Atom) → k < i → slice_get atoms k ≡ Some a → IsFiled new (key side a) value 0

pub filing_starts : (old : List Entry) (side : ℕ) (atoms : List Atom) (value : ℕ) → IsFilingAtoms old old side atoms value 0
filing_starts old side atoms value = record { keeps = keeps_self old; filed = λ k a h e. absurd (omega (arith, h)) }

pub filing_more : (old a b : List Entry) (side : ℕ) (atoms : List Atom) (value i q : ℕ) (x : Atom) → IsFilingAtoms old a side atoms value i → IsAdded a b q value 0 → q ≡ key side x → slice_get atoms i ≡ Some x → IsFilingAtoms old b side atoms value (i + 1)
filing_more old a b side atoms value i q x f added is here =
    let keeps = keeps_added a b q value 0 added in
    record {
      keeps = keeps_more old a b f.keeps keeps;
      filed = λ k y less at. elim (cases_lt k i) [
        | inl earlier ↦ still_filed a b (key side y) value 0 keeps (f.filed k y earlier at)
        | inr late ↦
            let eq : i ≡ k = omega (arith, less, late) in
            let y_is : x ≡ y = (let s : Some x ≡ Some y = sym here ∙ ap (slice_get atoms) eq ∙ at in cc) in
            subst (λ k. IsFiled b k value 0) (is ∙ ap (key side) y_is) (filed_added a b q value 0 added)
      ];
    }

atoms_kept : (old new : List Entry) (side : ℕ) (atoms : List Atom) (value : ℕ) → Keeps old new → HasAtoms old side atoms value → HasAtoms new side atoms value
atoms_kept old new side atoms value keeps h = λ k a e. still_filed old new (key side a) value 0 keeps (h k a e)

pub three_parts : (a b c : List Entry) (clause : Clause) (n : ℕ) → HasAtoms a before_arrow clause.constraint n → Keeps a b → HasAtoms b before_arrow clause.antecedent n → Keeps b c → HasAtoms c after_arrow clause.succedent n → IsFiledUnderAll c clause n
three_parts a b c clause n f ab g bc h Constraint = atoms_kept a c before_arrow clause.constraint n (keeps_more a b c ab bc) f
three_parts a b c clause n f ab g bc h Antecedent = atoms_kept b c before_arrow clause.antecedent n bc g
three_parts a b c clause n f ab g bc h Succedent = h
