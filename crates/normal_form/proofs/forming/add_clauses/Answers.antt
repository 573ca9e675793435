use Rattle.std.proofs.Common.{◌<◌, ◌≤◌, ◌+◌, List, ℕ, [], ◌∷◌, ◌++◌, length, drop, take, Some, Err, sym, subst, ap, ◌∙◌, arith, append_assoc}
use Rattle.spl_terms.specs.declared.clause.Clause.{Clause}
use Rattle.spl_terms.specs.Clauses.{clause_symbols, FitsOrBig}
use Rattle.spl_terms.specs.ListLaws.{get-there}
use Rattle.formulas.specs.Negations.{Form, signed_form}
use Rattle.normal_form.specs.NormalForm.{clauses_of_form}
use Rattle.normal_form.specs.ClauseSets.{first_big}
use Rattle.normal_form.specs.declared.error.FormError.TheVariants.{Big}
use Rattle.normal_form.proofs.Choosing.{counted}
use Rattle.normal_form.proofs.Walks.{exact_clauses}
use Rattle.normal_form.proofs.Formed.{dropped, taken_more, past, all_taken, small_one, big_one}
use Rattle.normal_form.proofs.forming.add_clauses.Goals as goal

pub returns-in-Err-Big-clause-refused : goal.returns-in-Err-Big-clause-refused
returns-in-Err-Big-clause-refused c =
    (let f : Form = signed_form c.args.formula.now c.args.sign in
    let cs : List Clause = clauses_of_form c.args.next f in
    let within : c.loop-place.place < length cs = omega (arith, counted c.args.next f, ap (λ x. x.clauses) c.count-count.ensures, c.loop-place-test.true) in
    let d = get-there cs c.loop-place.place within in
    let fits = subst (λ p. FitsOrBig {T = Clause} (clause_symbols d.0) (Err p)) c.in-Err-Big.field-0-is (c.in-Err-Big.ensures.big d.0 d.1) in
    sym c.loop-place.invariant.refused ∙ ap (first_big c.args.entry) (dropped cs c.loop-place.place d.0 d.1) ∙ big_one c.args.entry _ d.0 (drop (c.loop-place.place + 1) cs) fits.0 fits.1
    ∙ ap (λ (n : ℕ). Some (Big c.args.entry n)) (sym c.in-Err-Big.symbols-is))

pub loop-place-preserved : goal.loop-place-preserved
loop-place-preserved c =
    (let cs : List Clause = clauses_of_form c.args.next (signed_form c.args.formula.now c.args.sign) in
    let d : Clause = c.in-Ok.clause in
    let at = c.in-Ok.ensures.clause in
    let small : clause_symbols d ≤ 4096 = c.in-Ok.ensures.big d at in
    record {
      added =
          c.in-Ok-push.ensures.ok
          ∙ ap (λ l. l ++ d ∷ []) c.loop-place.invariant.added
          ∙ append_assoc c.args.clauses.now (take c.loop-place.place cs) (d ∷ [])
          ∙ ap (λ l. c.args.clauses.now ++ l) (taken_more cs c.loop-place.place d at);
      refused = sym (small_one c.args.entry d (drop (c.loop-place.place + 1) cs) small) ∙ ap (first_big c.args.entry) (sym (dropped cs c.loop-place.place d at)) ∙ c.loop-place.invariant.refused;
    })

pub returns-clause-added : goal.returns-clause-added
returns-clause-added c =
    (let f : Form = signed_form c.args.formula.now c.args.sign in
    let cs : List Clause = clauses_of_form c.args.next f in
    let over : length cs ≤ c.loop-place.place = omega (arith, counted c.args.next f, ap (λ x. x.clauses) c.count-count.ensures, exact_clauses f c.requires.few, c.loop-place-test.false) in
    c.loop-place.invariant.added ∙ ap (λ l. c.args.clauses.now ++ l) (all_taken cs c.loop-place.place over))

pub returns-clause-refused : goal.returns-clause-refused
returns-clause-refused c =
    (let f : Form = signed_form c.args.formula.now c.args.sign in
    let cs : List Clause = clauses_of_form c.args.next f in
    let over : length cs ≤ c.loop-place.place = omega (arith, counted c.args.next f, ap (λ x. x.clauses) c.count-count.ensures, exact_clauses f c.requires.few, c.loop-place-test.false) in
    sym c.loop-place.invariant.refused ∙ ap (first_big c.args.entry) (past cs c.loop-place.place over))
