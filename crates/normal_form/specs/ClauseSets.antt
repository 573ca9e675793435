-- The clause set of a problem: its Skolem symbols, the entry of each clause, and why there may be none. Limits and the order of
-- refusals are this project's own.
use Rattle.std.specs.Prelude.{◌≡◌, ℕ, ◌+◌, ◌*◌, ◌≤◌, min, nat_lt, if◌then◌else◌, List, [], ◌∷◌, ◌++◌, length, replicate, Option, None, Some, Result, Ok, Err, ⊤}
use Rattle.std.specs.Option.{option_or}
use Rattle.spl_terms.specs.declared.clause.Clause.{Clause}
use Rattle.spl_terms.specs.Clauses.{clause_symbols}
use Rattle.spl_symbols.specs.Skolems.{HasSkolems}
use Rattle.formulas.specs.declared.tree.Tree.{Tree}
use Rattle.formulas.specs.Negations.{Form, form}
use Rattle.formulas.specs.Counts.{clause_count, existentials}
use Rattle.normal_form.specs.declared.forming.Forming.{Forming}
use Rattle.normal_form.specs.declared.error.FormError.{FormError}
use Rattle.normal_form.specs.declared.error.FormError.TheVariants.{Many, Symbols, Big, Memory}
use Rattle.normal_form.specs.Skolem.{start}
use Rattle.normal_form.specs.Choices.{arities}
use Rattle.normal_form.specs.NormalForm.{clauses_of_form, normal_form}

-- how many arguments each Skolem symbol of the formulas takes, in order, where the first one has this number
abbrev pub all_arities : ℕ → List Tree → List ℕ
all_arities next [] = []
all_arities next (f ∷ fs) = arities (form f) (start next) ++ all_arities (next + existentials (form f)) fs

-- the number of the formula from which each clause comes, where the first formula has this number
abbrev pub origins_from : ℕ → List Tree → List ℕ
origins_from number [] = []
origins_from number (f ∷ fs) = replicate (clause_count (form f)) number ++ origins_from (number + 1) fs

-- ---- refusals

-- the first clause of more than 4,096 symbols
abbrev pub first_big : ℕ → List Clause → Option FormError
first_big entry [] = None
first_big entry (c ∷ cs) = if nat_lt 4096 (clause_symbols c) then Some (Big entry (min (clause_symbols c) 1000000)) else first_big entry cs

-- too many clauses, where so many came before; else too many symbols; else a clause that is too large
abbrev pub form_refusal : ℕ → ℕ → ℕ → Form → Option FormError
form_refusal entry clauses symbols f =
    if nat_lt 65536 (clauses + clause_count f) then Some (Many entry)
    else (if nat_lt 65536 (symbols + existentials f) then Some (Symbols entry) else first_big entry (clauses_of_form symbols f))

-- the first refusal, formula by formula, where the first one has this number, and so many clauses and symbols are there
abbrev pub first_refusal : ℕ → ℕ → ℕ → List Tree → Option FormError
first_refusal entry clauses symbols [] = None
first_refusal entry clauses symbols (f ∷ fs) =
    option_or (form_refusal entry clauses symbols (form f))
    (first_refusal (entry + 1) (clauses + clause_count (form f)) (symbols + existentials (form f)) fs)

-- an error is the first refusal, and without one there is no error; want of memory is free
abbrev pub IsRefused : {T : Type 0} → Option FormError → Result T FormError → Type 0
IsRefused refusal (Ok done) = refusal ≡ None
IsRefused refusal (Err (Many entry)) = refusal ≡ Some (Many entry)
IsRefused refusal (Err (Symbols entry)) = refusal ≡ Some (Symbols entry)
IsRefused refusal (Err (Big entry symbols)) = refusal ≡ Some (Big entry symbols)
IsRefused refusal (Err Memory) = ⊤

-- ---- the clause set as far as the formulas have been taken

-- new has the symbols, the clauses and the origins of one more formula, the one with this number
pub record HasFormed (old new : Forming) (number : ℕ) (f : Form) : Type 0 where
  pub symbols : HasSkolems old.signature old.next_name (arities f (start (length old.signature))) new.signature new.next_name
  pub clauses : new.clauses ≡ old.clauses ++ clauses_of_form (length old.signature) f
  pub origins : new.origins ≡ old.origins ++ replicate (clause_count f) number

-- those of all of them
pub record HasFormedAll (old new : Forming) (fs : List Tree) : Type 0 where
  pub symbols : HasSkolems old.signature old.next_name (all_arities (length old.signature) fs) new.signature new.next_name
  pub clauses : new.clauses ≡ old.clauses ++ normal_form (length old.signature) fs
  pub origins : new.origins ≡ old.origins ++ origins_from 1 fs

-- there are at most 65,536 symbols and clauses, and few numbers were passed over
pub record IsWithinLimits (forming : Forming) : Type 0 where
  pub symbols : length forming.signature ≤ 65536
  pub clauses : length forming.clauses ≤ 65536
  pub near : forming.next_name ≤ 65537 * length forming.signature + 1
