-- Laws with their proofs, not definitions that a reader must believe: a problem is read as it is written.
use Rattle.std.proofs.Common.{◌≡◌, ℕ, zero, suc, ◌+◌, ◌-◌, ◌≤◌, false, List, [], ◌∷◌, ◌++◌, length, fold, Option, Some, None, Result, Ok, Err, IfOk, refl, sym, ap, subst, ◌∙◌, append_assoc, arith}
use Rattle.std.proofs.lemmas.List.{append-nil}
use Rattle.spl_symbols.specs.Symbols.{Declared}
use Rattle.formulas.specs.declared.entry.Entry.{Entry}
use Rattle.dfg_tokens.specs.declared.piece.Mark.TheVariants.{Dot}
use Rattle.dfg_tokens.specs.declared.piece.TokenKind.{TokenKind}
use Rattle.dfg_tokens.specs.declared.word.Word.TheVariants as words
use Rattle.dfg_tokens.specs.declared.token.Token.{Token}
use Rattle.dfg_tokens.specs.Tokens.{piece_at, token_if, tokens_from, tokens}
use Rattle.dfg_tokens.specs.Cursors.{tail}
use Rattle.dfg_terms.specs.declared.fault.ReadFault.{ReadFault}
use Rattle.dfg_terms.specs.declared.fault.InputError.{InputError}
use Rattle.dfg_terms.specs.Reading.{Gives, place, next_word, mark_at, items}
use Rattle.dfg_terms.specs.Phrases.{each, word}
use Rattle.dfg_terms.specs.ResultLaws.{bind_ok, ok_is, then_ok}
use Rattle.dfg_terms.specs.StepLaws.{token_tail, mark_read, other_word, word_next}
use Rattle.dfg_terms.specs.StandLaws.{mark_stands, items_stand}
use Rattle.dfg_terms.specs.FrontLaws.{fewer}
use Rattle.dfg_terms.specs.RowLaws.{items_read}
use Rattle.dfg_lists.specs.Lists.{head_at, descriptions_at, signature_at}
use Rattle.dfg_lists.specs.Grammar.{IsSignature}
use Rattle.dfg_lists.specs.GroupLaws.{items_keep, Begins}
use Rattle.dfg_lists.specs.DescriptionLaws.{head_stands, head_read, head_takes, descriptions_stand, descriptions_keep, descriptions_read}
use Rattle.dfg_lists.specs.SymbolListLaws.{signature_stands, signature_is, signature_keeps, signature_read}
use Rattle.dfg_problem.specs.declared.problem.Problem.{Problem}
use Rattle.dfg_problem.specs.Lists.{ListsRead, list_at}
use Rattle.dfg_problem.specs.Problems.{problem_at, problem}
use Rattle.dfg_problem.specs.Grammar.{ListParts, problem_list, lists, ending, IsProblem}
use Rattle.dfg_problem.specs.EntryLaws.{HasFew}
use Rattle.dfg_problem.specs.ListLaws.{shorter, list_step, fold_lists, list_stands, list_few, list_takes, list_other, list_read}

-- ---- how many tokens there are

one_token : (k : Option TokenKind) (at n m : ℕ) (ts : List Token) → length ts ≤ suc m → length (token_if k at n ts) ≤ suc (suc m)
one_token None at n m ts few = omega (arith, few)
one_token (Some k) at n m ts few = omega (arith, few)

tokens_few_from : (at skip : ℕ) (bytes : List ℕ) → length (tokens_from at skip bytes) ≤ suc (length bytes)
unfolding tokens_from
tokens_few_from at skip [] = omega arith
tokens_few_from at zero (b ∷ bytes) =
    let p = piece_at (b ∷ bytes) in
    one_token p.kind at p.len (length bytes) (tokens_from (at + 1) (p.len - 1) bytes) (tokens_few_from (at + 1) (p.len - 1) bytes)
tokens_few_from at (suc n) (b ∷ bytes) = omega (arith, tokens_few_from (at + 1) n bytes)

-- each token takes a byte or more, but for the end
pub tokens_few : (bytes : List ℕ) → length (tokens bytes) ≤ suc (length bytes)
tokens_few bytes = tokens_few_from 0 0 bytes

-- ---- what is read is written so

pub problem_stands : (bytes : List ℕ) (p : Problem) → problem bytes ≡ Ok p → IsProblem bytes p
unfolding problem problem_at
problem_stands bytes p e =
    let a = bind_ok (head_at (tokens bytes)) _ p e in
    let b = bind_ok (descriptions_at bytes a.0) _ p a.2 in
    let c = bind_ok (signature_at bytes [] b.0) _ p b.2 in
    let d = bind_ok (items words.EndProblem (list_at bytes c.0.0) (length bytes) ([], []) c.0.1) _ p c.2 in
    let f = bind_ok (mark_at Dot (tail d.0.1)) _ p d.2 in
    let read : Problem = record { signature = c.0.0; entries = d.0.0.0; proofs = d.0.0.1; end_at = place d.0.1 } in
    let sig = signature_is bytes b.0 c.0 c.1 in
    let all = items_stand (problem_list bytes c.0.0) list_step (list_at bytes c.0.0) (list_stands bytes c.0.0 sig.0) words.EndProblem (length bytes) ([], []) c.0.1 d.0 d.1 in
    let few : HasFew [] = omega arith in
    let parts = all.1 ∙ fold_lists ([], []) all.0 in
    subst (IsProblem bytes) (ok_is read p f.2) (
      f.0,
      sig,
      items_keep (λ (s : ListsRead). HasFew s.0) (list_at bytes c.0.0) (list_few bytes c.0.0) words.EndProblem (length bytes) ([], []) c.0.1 d.0 few d.1,
      (a.0, head_stands (tokens bytes) a.0 a.1, (b.0, descriptions_stand bytes a.0 b.0 b.1, (c.0.1, signature_stands bytes b.0 c.0 c.1, (d.0.1, (all.0, ap (λ (s : ListsRead). s.0) parts, ap (λ (s : ListsRead). s.1) parts, all.2), (refl, (tail d.0.1, all.3, mark_stands Dot (tail d.0.1) f.0 f.1)))))),
    )

-- ---- what is written is read

module _ (bytes : List ℕ) (symbols : List Declared) (sig : IsSignature symbols) (entries : List Entry) (few : HasFew entries) where
  lists_no_symbols : (groups : List ListParts) (at : ℕ) (ts between rest : List Token) → each (problem_list bytes symbols) groups ts between → ending at between rest → next_word words.ListOfSymbols ts ≡ false
  lists_no_symbols [] at ts between rest p end = ap (next_word words.ListOfSymbols) p ∙ other_word words.ListOfSymbols words.EndProblem between end.1.0 end.1.1 refl
  lists_no_symbols (g ∷ groups) at ts between rest p end = list_other bytes symbols words.ListOfSymbols refl refl refl refl refl g ts p.0 p.1

  earlier : (s : ListsRead) (gs : List ListParts) → Begins entries (fold list_step s gs).0 → Begins entries s.0
  earlier s [] b = b
  earlier s (g ∷ gs) b =
      let c = earlier (list_step s g) gs b in
      (g.entries ++ c.0, c.1 ∙ append_assoc s.0 g.entries c.0)

  lists_read : (proofs : List ℕ) (ts rest after : List Token) → length ts ≤ length bytes → lists bytes symbols entries proofs ts rest → word words.EndProblem rest after → items words.EndProblem (list_at bytes symbols) (length bytes) ([], []) ts ≡ Ok ((entries, proofs), rest)
  lists_read proofs ts rest after near p end =
      let state : fold list_step ([], []) p.0 ≡ (entries, proofs) = fold_lists ([], []) p.0 ∙ (λ i. (sym p.1 i, sym p.2 i)) in
      let whole : Begins entries (fold list_step ([], []) p.0).0 = ([], sym (append-nil (fold list_step ([], []) p.0).0 ∙ ap (λ (s : ListsRead). s.0) state)) in
      items_read (problem_list bytes symbols) list_step (λ (s : ListsRead). Begins entries s.0) (list_at bytes symbols) earlier (list_takes bytes symbols) (length bytes) words.EndProblem (list_other bytes symbols words.EndProblem refl refl refl refl refl) (list_read bytes symbols sig.0 sig.1 entries few) p.0 ([], []) (length bytes) ts rest whole near near p.3 (word_next words.EndProblem rest after end)
      ∙ ap (λ (s : ListsRead). Ok (s, rest)) state

pub problem_read : (bytes : List ℕ) (p : Problem) → IsProblem bytes p → problem bytes ≡ Ok p
unfolding problem problem_at
problem_read bytes p w =
    let sig = w.1 in
    let few = w.2 in
    let begun = w.3 in
    let described = begun.2 in
    let declared = described.2 in
    let listed = declared.2 in
    let end = listed.2 in
    let near : length begun.0 ≤ length bytes = omega (arith, tokens_few bytes, fewer (tokens bytes) begun.0 (head_takes (tokens bytes) begun.0 begun.1)) in
    let near' : length described.0 ≤ length bytes = omega (arith, near, shorter begun.0 described.0 (descriptions_keep begun.0 described.0 described.1)) in
    let near'' : length declared.0 ≤ length bytes = omega (arith, near', shorter described.0 declared.0 (signature_keeps bytes p.signature described.0 declared.0 declared.1)) in
    then_ok _ _ _ _ (head_read (tokens bytes) begun.0 begun.1)
    (then_ok _ _ _ _ (descriptions_read bytes begun.0 described.0 near described.1)
    (then_ok _ _ _ _ (signature_read bytes p.signature sig described.0 declared.0 near' declared.1 (lists_no_symbols bytes p.signature sig p.entries few listed.1.0 p.end_at declared.0 listed.0 w.0 listed.1.3 end))
    (then_ok _ _ _ _ (lists_read bytes p.signature sig p.entries few p.proofs declared.0 listed.0 end.1.0 near'' listed.1 end.1.1)
    (then_ok _ _ _ _ (ap (mark_at Dot) (token_tail _ listed.0 end.1.0 end.1.1) ∙ mark_read Dot end.1.0 w.0 end.1.2)
    (λ i. Ok (record { signature = p.signature; entries = p.entries; proofs = p.proofs; end_at = sym end.0 i }))))))

-- ---- both, of an answer

pub written-read : (bytes : List ℕ) (ts : List Token) (r : Result Problem InputError) → ts ≡ tokens bytes → Gives {X = Problem} (λ p. p) r (problem_at bytes ts) → IfOk r (λ p. IsProblem bytes p)
unfolding problem
written-read bytes ts (Ok p) is given = problem_stands bytes p (ap (problem_at bytes) (sym is) ∙ given)
written-read bytes ts (Err e) is given = tt

pub every-read : (bytes : List ℕ) (ts : List Token) (r : Result Problem InputError) → ts ≡ tokens bytes → Gives {X = Problem} (λ p. p) r (problem_at bytes ts) → (p : Problem) → IsProblem bytes p → Gives {X = Problem} (λ q. q) r (Ok p)
unfolding problem
every-read bytes ts r is given p w = subst (λ (read : Result Problem ReadFault). Gives {X = Problem} (λ q. q) r read) (ap (problem_at bytes) is ∙ problem_read bytes p w) given
