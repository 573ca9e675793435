-- What holds of each value of a phrase, where its own phrase says so.
use Rattle.std.proofs.Common.{ℕ, List, [], ◌∷◌, sym, subst}
use Rattle.std.specs.List.{AllByRecursion}
use Rattle.dfg_tokens.specs.declared.token.Token.{Token}
use Rattle.dfg_reader.specs.declared.problem.Entry.{Entry}
use Rattle.dfg_reader.specs.declared.problem.Problem.{Problem}
use Rattle.dfg_reader.specs.Grammar.{Phrase, each, each_behind_comma, comma_separated, arguments, clause, clause_list, concatenated, IsWritten}
use Rattle.dfg_reader.proofs.Kept.{all-append}

module _ {X : Type 0} (P : X → Phrase) (Q : X → Type 0) (law : (x : X) (ts rest : List Token) → P x ts rest → Q x) where
  each_hold : (xs : List X) (ts rest : List Token) → each P xs ts rest → AllByRecursion Q xs
  each_hold [] ts rest p = tt
  each_hold (x ∷ xs) ts rest p = (law x ts p.0 p.1, each_hold xs p.0 rest p.2)

  behind_hold : (xs : List X) (ts rest : List Token) → each_behind_comma P xs ts rest → AllByRecursion Q xs
  behind_hold [] ts rest p = tt
  behind_hold (x ∷ xs) ts rest p = (law x p.0 p.2.0 p.2.1, behind_hold xs p.2.0 rest p.2.2)

  pub separated_hold : (xs : List X) (ts rest : List Token) → comma_separated P xs ts rest → AllByRecursion Q xs
  separated_hold [] ts rest p = tt
  separated_hold (x ∷ xs) ts rest p = (law x ts p.0 p.1, behind_hold xs p.0 rest p.2)

  pub arguments_hold : (xs : List X) (ts rest : List Token) → arguments P xs ts rest → AllByRecursion Q xs
  arguments_hold [] ts rest p = tt
  arguments_hold (x ∷ xs) ts rest p = separated_hold (x ∷ xs) p.0 p.2.0 p.2.1

-- what holds of each clause that is written holds of the problem's entries
module _ (bytes : List ℕ) (p : Problem) (Q : Entry → Type 0) (law : (e : Entry) (ts rest : List Token) → clause bytes p.signature e ts rest → Q e) where
  lists_hold : (groups : List (List Entry)) (ts rest : List Token) → each (clause_list bytes p.signature) groups ts rest → AllByRecursion Q (concatenated groups)
  lists_hold [] ts rest q = tt
  lists_hold (g ∷ groups) ts rest q =
      let dot = q.1.2.2 in
      all-append Q g (concatenated groups) (each_hold (clause bytes p.signature) Q law g dot.0 dot.2.0 dot.2.1) (lists_hold groups q.0 rest q.2)

  pub entries_hold : IsWritten bytes p → AllByRecursion Q p.entries
  entries_hold w =
      let lists = w.4.2.2.2 in
      subst (AllByRecursion Q) (sym lists.1.1) (lists_hold lists.1.0 w.4.2.2.0 lists.0 lists.1.2)
