-- What a rule concludes, as the line that is appended.
use Rattle.std.proofs.Common.{◌≡◌, ℕ, Bool, true, false, List, [], ◌∷◌, Option, Some, None, option_map, option_and_then, refl, ap, ◌∙◌}
use Rattle.spl_terms.specs.declared.term.Term.{Term}
use Rattle.spl_terms.specs.declared.atom.Atom.{Atom}
use Rattle.spl_terms.specs.declared.atom.Atom.TheVariants.{Holds, Equal}
use Rattle.spl_terms.specs.declared.clause.Clause.{Clause}
use Rattle.spl_terms.specs.Terms.{replace}
use Rattle.spl_terms.specs.Clauses.{in_order, replace_in_atom}
use Rattle.dep_sets.specs.declared.deps.Assumption.{Assumption}
use Rattle.dep_sets.specs.Assumptions.{united}
use Rattle.proof_steps.specs.declared.step.Statement.{Statement}
use Rattle.proof_steps.specs.declared.step.Rule.{Rule}
use Rattle.proof_steps.specs.declared.step.Line.{Line}
use Rattle.proof_steps.specs.Steps.{sides_of, states}
use Rattle.calculus.specs.declared.kept.Kept.{Kept}
use Rattle.superposition.specs.Words.{line_of, line_of_both}

stated_made : {A : Type 0} (made : Option Clause) (g : Clause → A) → option_map (λ c. g (in_order c)) made ≡ option_map g (option_map in_order made)
stated_made None g = refl
stated_made (Some c) g = refl

again : {A B : Type 0} (o : Option Clause) (f : Clause → A) (g : A → B) → option_map (λ c. g (f c)) o ≡ option_map g (option_map f o)
again None f g = refl
again (Some c) f g = refl

abbrev pub stated_line : Rule → List ℕ → Statement → Line
stated_line rule parents s = record { step = record { rule = rule; parents = parents }; stated = s }

-- a line by its statement, which has the conclusion in order
line_again : (rule : Rule) (parents : List ℕ) (deps : List Assumption) (made o : Option Clause) → option_map in_order made ≡ o → option_map (λ c. stated_line rule parents (states (in_order c) deps)) made ≡ option_map (stated_line rule parents) (option_map (λ c. states c deps) o)
line_again rule parents deps made o e =
    stated_made made (λ c. stated_line rule parents (states c deps))
    ∙ ap (option_map (λ c. stated_line rule parents (states c deps))) e
    ∙ again o (λ c. states c deps) (stated_line rule parents)

-- what a rule concludes of one premise, as it is appended
pub own_line : (p : Kept) (rule : Rule) (made o : Option Clause) → option_map in_order made ≡ o → option_map (line_of p rule) made ≡ option_map (stated_line rule (p.number ∷ [])) (option_map (λ c. states c p.statement.deps) o)
own_line p rule = line_again rule (p.number ∷ []) p.statement.deps

-- the same of two premises
pub both_line : (p q : Kept) (rule : Rule) (made o : Option Clause) → option_map in_order made ≡ o → option_map (line_of_both p q rule) made ≡ option_map (stated_line rule (p.number ∷ q.number ∷ [])) (option_map (λ c. states c (united p.statement.deps q.statement.deps)) o)
both_line p q rule = line_again rule (p.number ∷ q.number ∷ []) (united p.statement.deps q.statement.deps)

-- what stands in a list before it is looked at
pub there_of : {A B : Type 0} (f : A → Option B) (o : Option A) (y : B) → option_and_then f o ≡ Some y → (x : A) × (o ≡ Some x) × (f x ≡ Some y)
there_of f None y h = absurd (cc)
there_of f (Some x) y h = (x, refl, h)

-- the sides of an instance are the instances of the sides
pub sides_replaced : (h : ℕ → Term) (right : Bool) (a : Atom) → sides_of right (replace_in_atom h a) ≡ option_map (λ both. (replace h both.0, replace h both.1)) (sides_of right a)
sides_replaced h right (Holds f ts) = refl
sides_replaced h false (Equal x y) = refl
sides_replaced h true (Equal x y) = refl
