-- Which clause is chosen next. The rule is this project's own: mostly a smallest clause, now and then an oldest one,
-- as in Weidenbach 2001, section on the main loop.
use Rattle.std.specs.Prelude.{ℕ, ◌%◌, Bool, ◌&&◌, ◌||◌, ◌==◌, nat_lt, if◌then◌else◌, List, fold, Option, Some, None, option_map}
use Rattle.spl_truth.specs.declared.picking.Candidate.{Candidate}

-- each fifth choice goes by age
abbrev pub is_fifth : ℕ → Bool
is_fifth chosen = chosen % 5 == 4

abbrev pub is_older : Candidate → Candidate → Bool
is_older a b = nat_lt a.number b.number

-- fewer symbols, or as many and the smaller number
abbrev pub is_lighter : Candidate → Candidate → Bool
is_lighter a b = nat_lt a.symbols b.symbols || ((a.symbols == b.symbols) && is_older a b)

abbrev pub preferred : Bool → Candidate → Candidate → Candidate
preferred by_age a b = if (if by_age then is_older b a else is_lighter b a) then b else a

-- the better one of the best so far and another one
abbrev pub better : Bool → Option Candidate → Candidate → Option Candidate
better by_age None b = Some b
better by_age (Some a) b = Some (preferred by_age a b)

-- after so many choices: each fifth time the smallest number; else the fewest symbols, and of these the smallest number
abbrev pub pick : ℕ → List Candidate → Option ℕ
pick chosen candidates = option_map (λ a. a.number) (fold (better (is_fifth chosen)) None candidates)
