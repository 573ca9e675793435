-- Where a clause follows, so does each instance of its left part joined with each of its right part.
use Rattle.std.proofs.Common.{◌≡◌, ℕ, zero, suc, Bool, true, false, not, ◌||◌, if◌then◌else◌, List, ◌++◌, length, map, Some, refl, sym, ap, subst, ◌∙◌}
use Rattle.std.specs.List.{list_any}
use Rattle.std.proofs.lemmas.List.Folds.{list_all-append}
use Rattle.std.proofs.lemmas.List.Elements.{All-append}
use Rattle.spl_terms.specs.declared.term.Term.{Term, Var}
use Rattle.spl_terms.specs.declared.atom.Atom.{Atom}
use Rattle.spl_terms.specs.declared.clause.Clause.{Clause}
use Rattle.spl_terms.specs.Terms.{is_ground_term, replace}
use Rattle.spl_terms.specs.Clauses.{atoms_of, distinct, at_lists, replace_in, number_in, in_order, atom_eq}
use Rattle.spl_truth.specs.Truth.{IsGroundInstance, IsUsable, truth, holds, FollowsAt, Follows}
use Rattle.std.proofs.lemmas.Bool.{and_parts}
use Rattle.spl_truth.specs.InstanceLaws.{AllGround, ground-replace, clause-replace-replace}
use Rattle.spl_truth.specs.TruthLaws.{clause_flips, truth-distinct}
use Rattle.clause_parts.specs.Parts.{Parted, component, part_by, variable_lists, has_succedent, leaves_succedent, first_head, if_rest, left_marks, parted_by, parts_of}
use Rattle.proof_steps.specs.Steps.{joined}
use Rattle.proof_steps.proofs.Steps.{some_inj}
use Rattle.clause_parts.specs.MarkLaws.{length-component}
use Rattle.proof_steps.proofs.Options.{chosen, mapped, chained}
use Rattle.proof_steps.proofs.Resolution.{clause_flips-usable, at_ground, grounded_instance, either_joined}
use Rattle.clause_parts.specs.JointLaws.{combined, is_one_of}
use Rattle.proof_steps.proofs.PartTruths.{jointly, jointly_left, jointly_right, truth_parted}

-- ---- the marks of the left part are a component

head_is : (n k : ℕ) (c : Clause) (marks : List Bool) → first_head n k c ≡ Some marks → (j : ℕ) × (component j (variable_lists c) ≡ marks)
head_is zero k c marks e = absurd (cc)
head_is (suc n) k c marks e = by_test (has_succedent c (component k (variable_lists c))) (head_is n (suc k) c marks) e
  where
    by_test : (b : Bool) → (first_head n (suc k) c ≡ Some marks → (j : ℕ) × (component j (variable_lists c) ≡ marks)) → (if b then Some (component k (variable_lists c)) else first_head n (suc k) c) ≡ Some marks → (j : ℕ) × (component j (variable_lists c) ≡ marks)
    by_test true later f = (k, some_inj f)
    by_test false later f = later f

pub left_component : (c : Clause) (parts : Parted) → parts_of c ≡ Some parts → (j : ℕ) × (parted_by c (component j (variable_lists c)) ≡ parts)
left_component c parts e =
    let marks = mapped (parted_by c) (left_marks c) parts e in
    let head = chained (if_rest c) (first_head (length (atoms_of c)) 0 c) marks.0 marks.1 in
    let rest = chosen (leaves_succedent c head.0) (Some head.0) marks.0 head.2 in
    let found = head_is (length (atoms_of c)) 0 c head.0 head.1 in
    (found.0, ap (parted_by c) (found.1 ∙ some_inj rest.1) ∙ marks.2)

-- ---- an instance of a clause in order, as one of the clause without repeated atoms

abbrev moved : Clause → (ℕ → Term) → ℕ → Term
moved c g v = replace g (Var (number_in (at_lists distinct c) v))

moved_is : (c : Clause) (g : ℕ → Term) → replace_in g (in_order c) ≡ replace_in (moved c g) (at_lists distinct c)
moved_is c g = clause-replace-replace g (λ v. Var (number_in (at_lists distinct c) v)) (at_lists distinct c)

moved-ground : (c : Clause) (g : ℕ → Term) → AllGround g → AllGround (moved c g)
moved-ground c g all v = ground-replace g all (Var (number_in (at_lists distinct c) v))

both-ground : (vs : List ℕ) (g k : ℕ → Term) → AllGround g → AllGround k → AllGround (combined vs g k)
both-ground vs g k all_g all_k v = by_test (is_one_of vs v)
  where
    by_test : (b : Bool) → is_ground_term (if b then g v else k v) ≡ true
    by_test true = all_g v
    by_test false = all_k v

-- ---- both parts

module _ (clauses : List Clause) (c : Clause) (n : ℕ) (follows : Follows clauses c) where
  abbrev marks : List Bool
  marks = component n (variable_lists c)

  abbrev left : Clause
  left = part_by c marks

  abbrev right : Clause
  right = part_by c (map not marks)

  pub follows-parts : (g k : ℕ → Term) → AllGround g → AllGround k → FollowsAt clauses (joined (replace_in g (in_order left)) (replace_in k (in_order right)))
  follows-parts g k all_g all_k =
      let g' : ℕ → Term = moved left g in
      let k' : ℕ → Term = moved right k in
      let all_g' : AllGround g' = moved-ground left g all_g in
      let all_k' : AllGround k' = moved-ground right k all_k in
      let h : ℕ → Term = jointly n c g' k' in
      let base = at_ground clauses c follows h (both-ground _ g' k' all_g' all_k') in
      let x : List Clause = clause_flips (replace_in g' left) in
      let y : List Clause = clause_flips (replace_in k' right) in
      record {
        listed = base.listed ++ x ++ y;
        usable = All-append (IsUsable clauses) (base.listed ++ x) y (All-append (IsUsable clauses) base.listed x base.usable (clause_flips-usable clauses g' all_g' left)) (clause_flips-usable clauses k' all_k' right);
        forces = λ assignment e.
            let b : Atom → Bool = λ a. list_any (atom_eq a) assignment in
            let u = and_parts _ _ (sym (list_all-append (holds assignment) (base.listed ++ x) y) ∙ e) in
            let v = and_parts _ _ (sym (list_all-append (holds assignment) base.listed x) ∙ u.0) in
            let at_left : truth b (replace_in g (in_order left)) ≡ truth b (replace_in h left) =
            ap (truth b) (moved_is left g) ∙ truth-distinct b g' left v.1 ∙ ap (truth b) (sym (jointly_left n c g' k')) in
            let at_right : truth b (replace_in k (in_order right)) ≡ truth b (replace_in h right) =
            ap (truth b) (moved_is right k) ∙ truth-distinct b k' right u.1 ∙ ap (truth b) (sym (jointly_right n c g' k')) in
            either_joined b (replace_in g (in_order left)) (replace_in k (in_order right))
            ∙ (λ i. at_left i || at_right i)
            ∙ sym (truth_parted c marks (length-component n (variable_lists c)) b h)
            ∙ base.forces assignment v.0;
      }

-- of each instance of the left part and each of the right part, one is true
pub follows-joined : (clauses : List Clause) (c : Clause) (parts : Parted) → Follows clauses c → parts_of c ≡ Some parts → (x y : Clause) → IsGroundInstance parts.left x → IsGroundInstance parts.right y → FollowsAt clauses (joined x y)
follows-joined clauses c parts follows is x y at_x at_y =
    let found = left_component c parts is in
    let made : Parted = parted_by c (component found.0 (variable_lists c)) in
    let g = grounded_instance made.left x (subst (λ z. IsGroundInstance z x) (sym (ap (λ (p : Parted). p.left) found.1)) at_x) in
    let k = grounded_instance made.right y (subst (λ z. IsGroundInstance z y) (sym (ap (λ (p : Parted). p.right) found.1)) at_y) in
    let both' = follows-parts clauses c found.0 follows g.0 k.0 g.1 k.1 in
    subst (FollowsAt clauses) (λ i. joined (g.2 i) (k.2 i)) both'

or_comm : (a b : Bool) → (a || b) ≡ (b || a)
or_comm true true = refl
or_comm true false = refl
or_comm false true = refl
or_comm false false = refl

-- joined clauses follow in either order
pub joined_turned : (clauses : List Clause) (x y : Clause) → FollowsAt clauses (joined x y) → FollowsAt clauses (joined y x)
joined_turned clauses x y f =
    record {
      listed = f.listed;
      usable = f.usable;
      forces = λ assignment e.
          let b : Atom → Bool = λ a. list_any (atom_eq a) assignment in
          either_joined b y x ∙ or_comm (truth b y) (truth b x) ∙ sym (either_joined b x y) ∙ f.forces assignment e;
    }
