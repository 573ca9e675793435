-- The text of a generated problem: a chain of links that leads from a fact to its denial, with disjunctions beside it that
-- nothing else needs.
use Rattle.std.specs.Prelude.{ℕ, zero, suc, ◌+◌, ◌*◌, ◌%◌, Bool, ◌==◌, if◌then◌else◌, List, [], ◌++◌, codes}
use Rattle.std.specs.Fmt.{decimal}

-- the texts of 0, 1 and so on below the number, one behind the other
abbrev pub texts_below : (ℕ → List ℕ) → ℕ → List ℕ
texts_below text zero = []
texts_below text (suc n) = texts_below text n ++ text n

-- ---- links

-- the predicate to which link i leads
abbrev pub next_predicate : ℕ → List ℕ
next_predicate i = codes ",(r" ++ decimal (i + 1) ++ codes ",1)"

-- whether a disjunction stands beside link i
abbrev pub has_split : ℕ → ℕ → Bool
has_split number i = (number + 7 * i) % 4 == 0

-- the two predicates of a disjunction
abbrev pub split_predicates : ℕ → List ℕ
split_predicates i = codes ",(p" ++ decimal i ++ codes ",1),(q" ++ decimal i ++ codes ",1)"

-- a disjunction
abbrev pub split_clause : ℕ → List ℕ
split_clause i = codes "clause(or(p" ++ decimal i ++ codes "(a),q" ++ decimal i ++ codes "(b))).\n"

-- link i: from predicate i of the chain to the next one
abbrev pub link_clause : ℕ → List ℕ
link_clause i = codes "clause(or(not(r" ++ decimal i ++ codes "(c)),r" ++ decimal (i + 1) ++ codes "(c))).\n"

-- the text where a disjunction stands beside link i, and else nothing
abbrev pub where_split : (ℕ → List ℕ) → ℕ → ℕ → List ℕ
where_split text number i = if has_split number i then text i else []

-- link i behind its disjunction, if it has one
abbrev pub made_link : ℕ → ℕ → List ℕ
made_link number i = where_split split_clause number i ++ link_clause i

-- ---- the problem

abbrev pub made_head : List ℕ
made_head =
    codes "begin_problem(made).\nlist_of_descriptions.\nname({*made*}).\nauthor({*spl*}).\nstatus(unknown).\n"
    ++ codes "description({*clause normal form*}).\nend_of_list.\n"

-- the predicates of a chain of so many links and of its disjunctions
abbrev pub made_predicates : ℕ → ℕ → List ℕ
made_predicates number size =
    codes "predicates[(r0,1)" ++ texts_below next_predicate size
    ++ texts_below (where_split split_predicates number) size ++ codes "].\n"

abbrev pub made_symbols : ℕ → ℕ → List ℕ
made_symbols number size = codes "list_of_symbols.\nfunctions[(a,0),(b,0),(c,0)].\n" ++ made_predicates number size ++ codes "end_of_list.\n"

-- that the last predicate of the chain doesn't hold
abbrev pub made_denial : ℕ → List ℕ
made_denial size = codes "clause(or(not(r" ++ decimal size ++ codes "(c)))).\n"

-- the fact, each link with the disjunction before it, and the denial
abbrev pub made_clauses : ℕ → ℕ → List ℕ
made_clauses number size =
    codes "list_of_clauses(axioms,cnf).\nclause(or(r0(c))).\n"
    ++ texts_below (made_link number) size ++ made_denial size ++ codes "end_of_list.\n"

-- the problem with this number whose chain has so many links
abbrev pub made_problem : ℕ → ℕ → List ℕ
made_problem number size = made_head ++ made_symbols number size ++ made_clauses number size ++ codes "end_problem.\n"
