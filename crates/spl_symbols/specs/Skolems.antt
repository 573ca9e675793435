-- The names of Skolem symbols, and signatures to which they are added. They are this project's own.
use Rattle.std.specs.Prelude.{◌≡◌, ℕ, zero, suc, ◌+◌, ◌<◌, ◌≤◌, List, [], ◌∷◌, ◌++◌, length, codes, None, Result, Ok, Err, is_some, true}
use Rattle.std.specs.Fmt.{decimal}
use Rattle.spl_terms.specs.declared.term.Kind.TheVariants.{Function}
use Rattle.spl_terms.specs.declared.term.Symbol.{Symbol}
use Rattle.spl_symbols.specs.declared.skolem.SkolemError.{SkolemError}
use Rattle.spl_symbols.specs.declared.skolem.SkolemError.TheVariants.{Full, Memory}
use Rattle.spl_symbols.specs.Symbols.{Declared, found}

-- `skc` without arguments, `skf` with arguments
abbrev pub skolem_prefix : ℕ → List ℕ
skolem_prefix zero = codes "skc"
skolem_prefix (suc more) = codes "skf"

-- the name that the Skolem symbol with this number may take, such as `skf1`
abbrev pub skolem_name : ℕ → ℕ → List ℕ
skolem_name arity k = skolem_prefix arity ++ decimal k

abbrev pub skolem_symbol : ℕ → ℕ → Declared
skolem_symbol arity k = record { name = skolem_name arity k; arity = arity; kind = Function }

-- the number is the first from this one on whose name isn't declared
pub record IsFirstNew (symbols : List Declared) (arity from k : ℕ) : Type 0 where
  pub later : from ≤ k
  pub new : found (skolem_name arity k) symbols ≡ None
  pub passed : (j : ℕ) → from ≤ j → j < k → is_some (found (skolem_name arity j) symbols) ≡ true

-- new is old with Skolem symbols of these numbers of arguments at its end; a number whose name is declared is passed over, each
-- next one is looked for behind the one before, the first one from `from` on, and `next` is the number behind the last
abbrev pub HasSkolems : List Declared → ℕ → List ℕ → List Declared → ℕ → Type 0
HasSkolems old from [] new next = (new ≡ old) × (next ≡ from)
HasSkolems old from (arity ∷ arities) new next = (k : ℕ) × IsFirstNew old arity from k × HasSkolems (old ++ skolem_symbol arity k ∷ []) (k + 1) arities new next

-- old and new are the signature before and after, from and next the numbers from which names are looked for; want of memory is
-- free
abbrev pub SkolemAnswer : List Declared → List Declared → ℕ → ℕ → ℕ → Result Symbol SkolemError → Type 0
SkolemAnswer old new from next arity (Ok s) = (length old < 65536) × ((k : ℕ) × IsFirstNew old arity from k × (new ≡ old ++ skolem_symbol arity k ∷ []) × (next ≡ k + 1)) × (s ≡ record { number = length old; kind = Function })
SkolemAnswer old new from next arity (Err Full) = (65536 ≤ length old) × (new ≡ old) × (next ≡ from)
SkolemAnswer old new from next arity (Err Memory) = (new ≡ old) × (next ≡ from)
