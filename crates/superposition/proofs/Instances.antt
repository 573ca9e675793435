-- Facts about conclusions that are built from instances.
use Rattle.std.proofs.Common.{◌≡◌, ℕ, zero, suc, ◌+◌, ◌-◌, ◌<◌, true, List, [], ◌∷◌, ◌++◌, length, map, take, drop, get_or, Option, option_and_then, refl, sym, ap, ◌∙◌, arith, length-drop}
use Rattle.std.specs.Prelude.{slice_get, is_some}
use Rattle.std.proofs.lemmas.Bool.{false≢true}
use Rattle.std.proofs.Math.Seq.{take-length}
use Rattle.spl_terms.specs.declared.term.Term.{Term, Var}
use Rattle.spl_terms.specs.declared.term.Term.TheViews.{outs-Var, outs-App}
use Rattle.spl_terms.specs.declared.atom.Atom.{Atom}
use Rattle.spl_terms.specs.declared.atom.Atom.TheVariants.{Holds, Equal}
use Rattle.spl_terms.specs.Clauses.{replace_in_atom}
use Rattle.spl_terms.specs.TermLaws.{term_induction, replace-Var, replace-App}
use Rattle.proof_steps.specs.Spots.{changed_at, arguments_step, subterm, term_under}
use Rattle.superposition.specs.Pairs.{raised}

-- ---- where a path leads

pub place_within : {A B : Type 0} (f : A → Option B) (xs : List A) (k : ℕ) → is_some (option_and_then f (slice_get xs k)) ≡ true → k < length xs
place_within f [] k h = absurd (false≢true h)
place_within f (x ∷ xs) zero h = omega arith
place_within f (x ∷ xs) (suc k) h = let more : k < length xs = place_within f xs k h in omega (arith, more)

pub leads_at : {A B : Type 0} (f : A → Option B) (xs : List A) (k : ℕ) (x : A) → k < length xs → x ≡ get_or xs k x → is_some (option_and_then f (slice_get xs k)) ≡ true → is_some (f x) ≡ true
leads_at f [] k x h e there = absurd (omega (arith, h))
leads_at f (y ∷ xs) zero x h e there = ap (λ z. is_some (f z)) e ∙ there
leads_at f (y ∷ xs) (suc k) x h e there = leads_at f xs k x (omega (arith, h)) e there

-- ---- another term in its place

pub take_rest : {A : Type 0} (n : ℕ) (xs : List A) → take (length xs - n) (drop n xs) ≡ drop n xs
take_rest n xs = ap (λ m. take m (drop n xs)) (sym (length-drop n xs)) ∙ take-length (drop n xs)

pub changed_instances : {A B : Type 0} (k : ℕ) (f : B → B) (g : A → B) (xs : List A) (x : A) → k < length xs → x ≡ get_or xs k x → map g (take k xs) ++ f (g x) ∷ map g (drop (k + 1) xs) ≡ changed_at k f (map g xs)
changed_instances k f g [] x h e = absurd (omega (arith, h))
changed_instances zero f g (y ∷ xs) x h e = ap (λ z. f (g z) ∷ map g xs) e
changed_instances (suc k) f g (y ∷ xs) x h e =
    let next : suc k + 1 ≡ suc (k + 1) = omega arith in
    ap (λ n. g y ∷ (map g (take k xs) ++ f (g x) ∷ map g (drop n (y ∷ xs)))) next ∙ ap (λ l. g y ∷ l) (changed_instances k f g xs x (omega (arith, h)) e)

-- ---- a path in a raised atom is one in the atom

module _ (lift : ℕ) where
  abbrev Leads : List ℕ → Type 0
  Leads path = (t : Term) → is_some (subterm path (raised lift t)) ≡ is_some (subterm path t)

  leads_in : (path : List ℕ) → Leads path → (ts : List Term) (k : ℕ) → is_some (option_and_then (subterm path) (slice_get (map (raised lift) ts) k)) ≡ is_some (option_and_then (subterm path) (slice_get ts k))
  leads_in path on [] k = refl
  leads_in path on (t ∷ ts) zero = on t
  leads_in path on (t ∷ ts) (suc k) = leads_in path on ts k

  leads : (path : List ℕ) → Leads path
  leads [] = λ t. refl
  leads (k ∷ path) =
      term_induction (λ t. is_some (subterm (k ∷ path) (raised lift t)) ≡ is_some (subterm (k ∷ path) t))
      (λ v. ap (λ x. is_some (subterm (k ∷ path) x)) (replace-Var (λ w. Var (lift + w)) v) ∙ ap (λ ts. is_some (option_and_then (subterm path) (slice_get ts k))) (ap arguments_step (outs-Var (lift + v)) ∙ sym (ap arguments_step (outs-Var v))))
      (λ f ts each. ap (λ x. is_some (subterm (k ∷ path) x)) (replace-App (λ w. Var (lift + w)) f ts)
      ∙ ap (λ xs. is_some (option_and_then (subterm path) (slice_get xs k))) (ap arguments_step (outs-App f (map (raised lift) ts)))
      ∙ leads_in path (leads path) ts k
      ∙ sym (ap (λ xs. is_some (option_and_then (subterm path) (slice_get xs k))) (ap arguments_step (outs-App f ts))))

  pub leads_under : (path : List ℕ) (a : Atom) → is_some (term_under path (replace_in_atom (λ v. Var (lift + v)) a)) ≡ is_some (term_under path a)
  leads_under [] a = refl
  leads_under (k ∷ path) (Holds f ts) = leads_in path (leads path) ts k
  leads_under (k ∷ path) (Equal s t) = leads_in path (leads path) (s ∷ t ∷ []) k
