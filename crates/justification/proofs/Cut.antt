-- A clause that follows from others may be left out.
use Rattle.std.proofs.Common.{◌≡◌, inl, inr, true, List, [], ◌∷◌, ◌++◌, All, Contains, sym, ◌∙◌}
use Rattle.std.specs.List.{list_all}
use Rattle.std.proofs.lemmas.Bool.{and_parts, and_from}
use Rattle.std.proofs.lemmas.List.Folds.{list_all-append}
use Rattle.std.proofs.lemmas.List.Elements.{All-nil, All-cons, All-append, All-head, All-tail}
use Rattle.spl_terms.specs.declared.atom.Atom.{Atom}
use Rattle.spl_terms.specs.declared.clause.Clause.{Clause}
use Rattle.spl_truth.specs.Truth.{IsUsable, holds, FollowsAt, Follows}

-- finitely many usable clauses under which all of these are true
record AreBacked (clauses xs : List Clause) : Type 0 where
  pub listed : List Clause
  pub usable : All (IsUsable clauses) listed
  pub forces : (assignment : List Atom) → list_all (holds assignment) listed ≡ true → list_all (holds assignment) xs ≡ true

module _ (clauses : List Clause) where
  alone : (x : Clause) → IsUsable clauses x → FollowsAt clauses x
  alone x use' = record { listed = x ∷ []; usable = All-cons (IsUsable clauses) x [] use' (All-nil (IsUsable clauses)); forces = λ a e. (and_parts _ _ e).0 }

  module _ (more : List Clause) (follows : (c : Clause) → Contains more c → Follows clauses c) where
    back : (x : Clause) → IsUsable more x → FollowsAt clauses x
    back x (inl (c, there, instance')) = follows c there x instance'
    back x (inr axiom') = alone x (inr axiom')

    gather : (xs : List Clause) → All (IsUsable more) xs → AreBacked clauses xs
    gather [] all = record { listed = []; usable = All-nil (IsUsable clauses); forces = λ a e. e }
    gather (x ∷ xs) all =
        let one = back x (All-head (IsUsable more) x xs all) in
        let rest = gather xs (All-tail (IsUsable more) x xs all) in
        record {
          listed = one.listed ++ rest.listed;
          usable = All-append (IsUsable clauses) one.listed rest.listed one.usable rest.usable;
          forces = λ a e. let p = and_parts _ _ (sym (list_all-append (holds a) one.listed rest.listed) ∙ e) in and_from _ _ (one.forces a p.0) (rest.forces a p.1);
        }

    -- what follows from clauses that follow, follows
    pub cut : (d : Clause) → FollowsAt more d → FollowsAt clauses d
    cut d f =
        let made = gather f.listed f.usable in
        record { listed = made.listed; usable = made.usable; forces = λ a e. f.forces a (made.forces a e) }

  -- one of the clauses follows from them
  pub among_follows : (c : Clause) → Contains clauses c → Follows clauses c
  among_follows c there d instance' = alone d (inl (c, there, instance'))
