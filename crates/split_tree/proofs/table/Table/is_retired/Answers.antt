use Rattle.std.proofs.Common.{◌≡◌, ◌∙◌, ℕ, Some, None, ap, sym, subst, refl, length, reverse, arith, get_or, Bool}
use Rattle.std.specs.List.{slice_get}
use Rattle.std.proofs.lemmas.Option.{slice_get_read, slice_get_within}
use Rattle.split_tree.specs.declared.caches.Retired.{Retired}
use Rattle.split_tree.specs.declared.table.Table.TheInside.{Inside}
use Rattle.case_journal.specs.Paths.{on_path}
use Rattle.split_tree.specs.Fields.{setting_of, IsTable}
use Rattle.split_tree.specs.Caches.{past_of, retired}
use Rattle.split_tree.proofs.Lens.{newest_len, read_newest}
use Rattle.split_tree.proofs.Retired.{Tells, retired_linked, retired_any, left_none, left_some, places_left}
use Rattle.split_tree.proofs.table.Table.is_retired.Goals as goal

pub index-next-requires : goal.index-next-requires
index-next-requires c =
    let there = rw (← c.self.view_is) at c.requires.there in
    omega (arith, newest_len c.self.inside c.self.invariant, there, c.requires.some)

pub loop-next-init : goal.loop-next-init
loop-next-init c =
    let there = rw (← c.self.view_is) at c.requires.there in
    record {
      rest = retired (past_of c.self.inside.journal.items);
      linked = retired_linked (past_of c.self.inside.journal.items);
      kept = λ j r g. g;
      is = read_newest c.self.inside c.self.invariant c.args.clause c.index-next.result.now c.requires.some there c.index-next.ensures;
      any = refl;
    }

pub index-retired-requires : goal.index-retired-requires
index-retired-requires c =
    let p = past_of c.self.inside.journal.items in
    let r = left_some (on_path p c.args.node) c.args.clause c.in-Some.place (retired p) c.loop-next.next c.loop-next.invariant c.in-Some.is in
    omega (arith, c.self.inside.retired.ok.0, ap length c.self.invariant.retired_are, slice_get_within (reverse (retired p)) c.in-Some.place r.0 r.1)

-- the record that was read
told : (t : Inside) → IsTable t → (on : ℕ → Bool) (i k : ℕ) (r : Retired) → (p : (r : Retired) × (slice_get (reverse (retired (past_of t.journal.items))) k ≡ Some r) × Tells on i k (retired (past_of t.journal.items)) r)
    → r ≡ get_or t.retired.items k r → Tells on i k (retired (past_of t.journal.items)) r
told t ok on i k r p read =
    let rs = retired (past_of t.journal.items) in
    let within = slice_get_within (reverse rs) k p.0 p.1 in
    let got = slice_get_read t.retired.items (length t.retired.items) k r refl (omega (arith, ap length ok.retired_are)) read in
    let same : Some p.0 ≡ Some r = sym p.1 ∙ (ap (λ xs. slice_get xs k) (sym ok.retired_are) ∙ got) in
    let q : p.0 ≡ r = cc in
    subst (Tells on i k rs) q p.2

pub returns-then-on_path : goal.returns-then-on_path
returns-then-on_path c =
    let t = c.self.inside in
    let p = past_of t.journal.items in
    let on = on_path p c.args.node in
    let node = rw (← c.self.view_is) at c.requires.node in
    let reads = rw (← c.self.view_is) at c.on_path.ensures in
    let r = left_some on c.args.clause c.in-Some.place (retired p) c.loop-next.next c.loop-next.invariant c.in-Some.is in
    let tells = told t c.self.invariant on c.args.clause c.in-Some.place c.index-retired.result.now r c.index-retired.ensures in
    rw (← c.self.view_is) (sym (retired_any (setting_of t) p c.self.invariant.legal c.args.node c.args.clause node ∙ tells.hit (sym reads ∙ c.if-on_path.true)))

pub loop-next-smaller : goal.loop-next-smaller
loop-next-smaller c =
    let t = c.self.inside in
    let p = past_of t.journal.items in
    let on = on_path p c.args.node in
    let r = left_some on c.args.clause c.in-Some.place (retired p) c.loop-next.next c.loop-next.invariant c.in-Some.is in
    let tells = told t c.self.invariant on c.args.clause c.in-Some.place c.index-retired.result.now r c.index-retired.ensures in
    omega (arith, tells.less, ap places_left c.in-Some.is)

pub loop-next-preserved : goal.loop-next-preserved
loop-next-preserved c =
    let t = c.self.inside in
    let p = past_of t.journal.items in
    let on = on_path p c.args.node in
    let reads = rw (← c.self.view_is) at c.on_path.ensures in
    let r = left_some on c.args.clause c.in-Some.place (retired p) c.loop-next.next c.loop-next.invariant c.in-Some.is in
    let tells = told t c.self.invariant on c.args.clause c.in-Some.place c.index-retired.result.now r c.index-retired.ensures in
    tells.miss (sym reads ∙ c.if-on_path.false)

pub returns : goal.returns
returns c =
    let t = c.self.inside in
    let p = past_of t.journal.items in
    let node = rw (← c.self.view_is) at c.requires.node in
    let none : c.loop-next.next ≡ None = c.in_default.is in
    rw (← c.self.view_is) (sym (retired_any (setting_of t) p c.self.invariant.legal c.args.node c.args.clause node ∙ left_none (on_path p c.args.node) c.args.clause (retired p) c.loop-next.next c.loop-next.invariant none))
