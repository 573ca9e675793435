use Rattle.std.proofs.Common.{◌≡◌, ◌∙◌, ℕ, ◌<◌, List, true, Contains, false, subst, sym, ap}
use Rattle.case_journal.specs.Journal.{nodes}
use Rattle.case_journal.specs.Facts.{split}
use Rattle.case_journal.specs.Paths.{is_leaf}
use Rattle.case_journal.specs.PlaceLaws.{claimed_within}
use Rattle.case_queue.specs.Queues.{AreOfLedger, HasPassive}
use Rattle.case_view.specs.Views.{is_split_on, path_sides, IsRising}
use Rattle.case_view.specs.Walks.{is_among}
use Rattle.case_turns.specs.Desks.{AreNumbersOf}
use Rattle.case_turns.proofs.Desks.{of_ledger, passive_among}
use Rattle.case_turns.proofs.desk.fill_queue.Goals as goal

pub without-requires : goal.without-requires
without-requires c = subst IsRising (sym c.as_slice-2.ensures.value) c.in_ok-retired.ensures.rise

pub fill-requires : goal.fill-requires
fill-requires c =
    let t = c.args.table.now in
    let v = c.args.view.now in
    let listed = c.in_ok-listed.listed.items in
    let has = c.views_have_the_clauses.ensures t.setting t.past v c.laws.ensures.legal c.requires.stands.is in
    let is = subst (λ xs. AreNumbersOf xs listed) c.listed.ensures c.in_ok-listed.ensures in
    let are = subst (λ (ns : List ℕ). (n : ℕ) → Contains c.in_ok-passive.passive.items n → Contains ns n) c.as_slice.ensures.value c.in_ok-passive.ensures.are in
    subst (AreOfLedger t.setting t.past) (sym c.as_slice-3.ensures.value) (of_ledger t.setting t.past v c.args.node listed c.in_ok-passive.passive.items c.laws.ensures.legal has c.requires.node is are)

pub returns : goal.returns
returns c =
    let t = c.args.table.now in
    let v = c.args.view.now in
    let m = c.args.node in
    let stands = c.requires.stands in
    let listed = c.in_ok-listed.listed.items in
    let retired = c.in_ok-retired.retired.items in
    let passive = c.in_ok-passive.passive.items in
    let has = c.views_have_the_clauses.ensures t.setting t.past v c.laws.ensures.legal stands.is in
    let is = subst (λ xs. AreNumbersOf xs listed) c.listed.ensures c.in_ok-listed.ensures in
    let low = subst (λ n. n < nodes t.past) c.requires.node (claimed_within t.setting t.past c.laws.ensures.legal v.worker v.node stands.holds.claims) in
    let leaf = subst (λ n. is_leaf t.past n ≡ true) c.requires.node stands.holds.leaf in
    let path = ap (λ n. path_sides t.past n) c.requires.node in
    let splits : (i : ℕ) → split t.past m i ≡ is_split_on v.path i = λ i. c.paths_give_the_splits.ensures t.setting t.past c.laws.ensures.legal m i low leaf ∙ ap (λ ps. is_split_on ps i) (sym (stands.is.path ∙ path)) in
    let all = subst (λ (os : List ℕ). (n : ℕ) → Contains listed n → is_among os n ≡ false → Contains passive n) c.as_slice-2.ensures.value
    (subst (λ (ns : List ℕ). (n : ℕ) → Contains ns n → is_among c.as_slice-2.result.now n ≡ false → Contains passive n) c.as_slice.ensures.value c.in_ok-passive.ensures.all) in
    let whole = passive_among t.setting t.past v m listed retired passive has c.requires.node splits is c.in_ok-retired.ensures.are all in
    c.in_ok-fill.ensures.queue m (subst (HasPassive t.setting t.past m) (sym c.as_slice-3.ensures.value) whole)
