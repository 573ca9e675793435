-- Going back to what a view had at a mark.
use Rattle.std.proofs.Common.{◌≡◌, ◌∙◌, ℕ, ◌<◌, List, length, Option, Some, take, sym, ap, arith}
use Rattle.std.specs.List.{slice_get}
use Rattle.std.proofs.lemmas.Option.{slice_get_within}
use Rattle.std.proofs.Math.Seq.{take-append_seam}
use Rattle.dep_sets.specs.declared.deps.Assumption.{Assumption}
use Rattle.spl_terms.specs.Lists.{numbered}
use Rattle.case_journal.specs.ListLaws.{get_more}
use Rattle.clause_filing.specs.declared.filing.Entry.{Entry}
use Rattle.case_view.specs.declared.kept.Kept.{Kept}
use Rattle.case_view.specs.declared.kept.Case.{Case}
use Rattle.case_view.specs.declared.kept.Mark.{Mark}
use Rattle.case_view.specs.Caches.{AreFiledClauses, AreUnderAll}
use Rattle.case_view.specs.Marks.{Begins, HasGrown, IsMarkOf}

taken : {A : Type 0} (n : ℕ) (old new now : List A) → n ≡ length old → Begins old new → now ≡ take n new → now ≡ old
taken n old new now is begins cut = cut ∙ (ap (λ k. take k new) is ∙ (ap (take (length old)) begins.1 ∙ take-append_seam old begins.0))

-- a case of these fields
of_fields : (worker node events base splits : ℕ) (nodes : List ℕ) (path : List Assumption) (given : Option Kept) (worked listed : List Kept) → Case
of_fields worker node events base splits nodes path given worked listed = record {
  worker = worker;
  node = node;
  events = events;
  base = base;
  splits = splits;
  nodes = nodes;
  path = path;
  given = given;
  worked = worked;
  listed = listed;
}

same_case : (a b : Case) → a.worker ≡ b.worker → a.node ≡ b.node → a.events ≡ b.events → a.base ≡ b.base → a.splits ≡ b.splits → a.nodes ≡ b.nodes → a.path ≡ b.path → a.given ≡ b.given → a.worked ≡ b.worked → a.listed ≡ b.listed → a ≡ b
unfolding of_fields
same_case a b w n e s t ns p g ws ls =
    ap (λ x. of_fields x a.node a.events a.base a.splits a.nodes a.path a.given a.worked a.listed) w
    ∙ ap (λ x. of_fields b.worker x a.events a.base a.splits a.nodes a.path a.given a.worked a.listed) n
    ∙ ap (λ x. of_fields b.worker b.node x a.base a.splits a.nodes a.path a.given a.worked a.listed) e
    ∙ ap (λ x. of_fields b.worker b.node b.events x a.splits a.nodes a.path a.given a.worked a.listed) s
    ∙ ap (λ x. of_fields b.worker b.node b.events b.base x a.nodes a.path a.given a.worked a.listed) t
    ∙ ap (λ x. of_fields b.worker b.node b.events b.base b.splits x a.path a.given a.worked a.listed) ns
    ∙ ap (λ x. of_fields b.worker b.node b.events b.base b.splits b.nodes x a.given a.worked a.listed) p
    ∙ ap (λ x. of_fields b.worker b.node b.events b.base b.splits b.nodes b.path x a.worked a.listed) g
    ∙ ap (λ x. of_fields b.worker b.node b.events b.base b.splits b.nodes b.path b.given x a.listed) ws
    ∙ ap (λ x. of_fields b.worker b.node b.events b.base b.splits b.nodes b.path b.given b.worked x) ls

-- the lists were cut off, and the rest is that of the mark
pub record IsCut (mark : Mark) (w now : Case) : Type 0 where
  pub worker : now.worker ≡ w.worker
  pub node : now.node ≡ mark.node
  pub events : now.events ≡ mark.events
  pub base : now.base ≡ mark.base
  pub splits : now.splits ≡ mark.splits
  pub given : now.given ≡ mark.given
  pub nodes : now.nodes ≡ take mark.nodes w.nodes
  pub path : now.path ≡ take mark.path w.path
  pub worked : now.worked ≡ take mark.worked w.worked
  pub listed : now.listed ≡ take mark.listed w.listed

pub went_back : (mark : Mark) (v w now : Case) → IsMarkOf mark v → HasGrown v w → IsCut mark w now → now ≡ v
went_back mark v w now m g c = same_case now v
    (c.worker ∙ g.worker) (c.node ∙ m.node) (c.events ∙ m.events) (c.base ∙ m.base) (c.splits ∙ m.splits)
    (taken mark.nodes v.nodes w.nodes now.nodes m.nodes g.nodes c.nodes)
    (taken mark.path v.path w.path now.path m.path g.path c.path)
    (c.given ∙ m.given)
    (taken mark.worked v.worked w.worked now.worked m.worked g.worked c.worked)
    (taken mark.listed v.listed w.listed now.listed m.listed g.listed c.listed)

abbrev pub Stay : ℕ → List Entry → List Entry → Type 0
Stay value old new = (x : ℕ) (e : Entry) → numbered old x ≡ Some e → e.value < value → numbered new x ≡ Some e

pub filed_back : (n : ℕ) (old new now : List Kept) (before after : List Entry) → n ≡ length old → Begins old new → now ≡ old → AreFiledClauses new before → Stay n before after → AreFiledClauses now after
filed_back n old new now before after is begins same filed stay i k at =
    let here : slice_get old i ≡ Some k = ap (λ xs. slice_get xs i) (sym same) ∙ at in
    let f = filed i k (ap (λ xs. slice_get xs i) begins.1 ∙ get_more old begins.0 i k here) in
    (f.0, f.1, stay f.0 f.1 f.2 (omega (arith, f.4, is, slice_get_within old i k here)), f.3, f.4, f.5)

pub under_back : (n : ℕ) (old new now : List Kept) (before after : List Entry) → n ≡ length old → Begins old new → now ≡ old → AreUnderAll new before → Stay n before after → AreUnderAll now after
under_back n old new now before after is begins same filed stay i k at part j a there =
    let here : slice_get old i ≡ Some k = ap (λ xs. slice_get xs i) (sym same) ∙ at in
    let f = filed i k (ap (λ xs. slice_get xs i) begins.1 ∙ get_more old begins.0 i k here) part j a there in
    (f.0, f.1, stay f.0 f.1 f.2 (omega (arith, f.4, is, slice_get_within old i k here)), f.3, f.4, f.5)
