use Rattle.std.proofs.Common.{◌≡◌, ◌-◌, ◌+◌, ◌∙◌, ap, sym, length, refl, arith, ◌<◌, vec_len}
use Rattle.std.specs.List.{slice_get}
use Rattle.std.proofs.lemmas.Option.{slice_get_read}
use Rattle.case_journal.specs.Journal.{ledger, lines_of}
use Rattle.split_tree.specs.Fields.{setting_of}
use Rattle.split_tree.specs.Caches.{past_of}
use Rattle.case_journal.specs.ListLaws.{numbered_get, length-input_lines}
use Rattle.split_tree.proofs.Homes.{length-spots, opening_at}
use Rattle.split_tree.proofs.Lens.{read_spot, read_entry, spot_within}
use Rattle.split_tree.proofs.table.Table.line.Goals as goal

pub returns-then-at-opening : goal.returns-then-at-opening
returns-then-at-opening c =
    let t = c.self.inside in
    let p = past_of t.journal.items in
    let xs = c.as_slice-opening.result.now in
    let got = slice_get_read xs (length xs) (c.args.number - 1) c.index-opening-at.result refl c.if-at-opening.true c.index-opening-at.is in
    rw (← c.self.view_is)
    (numbered_get (ledger (setting_of t) p) c.args.number c.requires.some
    ∙ opening_at (setting_of t) p (c.args.number - 1) c.index-opening-at.result (ap (λ ys. slice_get ys (c.args.number - 1)) (sym (c.as_slice-opening.ensures ∙ c.self.invariant.opening_is)) ∙ got))

pub index-spot-requires : goal.index-spot-requires
index-spot-requires c =
    let t = c.self.inside in
    let there = rw (← c.self.view_is) at c.requires.there in
    omega (arith, there, c.requires.some, c.if-at-opening.false, t.spots.ok.0, ap length c.self.invariant.spots_are, length-spots (setting_of t) (past_of t.journal.items), ap length c.as_slice-opening.ensures, ap length c.self.invariant.opening_is, length-input_lines 1 t.input)

pub index-entry-requires : goal.index-entry-requires
index-entry-requires c =
    let t = c.self.inside in
    let there = rw (← c.self.view_is) at c.requires.there in
    let k = c.args.number - 1 - length c.as_slice-opening.result.now in
    let low : k < vec_len t.spots = omega (arith, there, c.requires.some, c.if-at-opening.false, t.spots.ok.0, ap length c.self.invariant.spots_are, length-spots (setting_of t) (past_of t.journal.items), ap length c.as_slice-opening.ensures, ap length c.self.invariant.opening_is, length-input_lines 1 t.input) in
    spot_within t k c.index-spot.result.now (read_spot t c.self.invariant k c.index-spot.result.now low c.index-spot.ensures)

pub line-requires : goal.line-requires
line-requires c =
    let t = c.self.inside in
    let there = rw (← c.self.view_is) at c.requires.there in
    let k = c.args.number - 1 - length c.as_slice-opening.result.now in
    let low : k < vec_len t.spots = omega (arith, there, c.requires.some, c.if-at-opening.false, t.spots.ok.0, ap length c.self.invariant.spots_are, length-spots (setting_of t) (past_of t.journal.items), ap length c.as_slice-opening.ensures, ap length c.self.invariant.opening_is, length-input_lines 1 t.input) in
    let r = read_spot t c.self.invariant k c.index-spot.result.now low c.index-spot.ensures in
    rw (← read_entry t k c.index-spot.result.now c.index-entry.result.now r c.index-entry.ensures) r.within

pub returns : goal.returns
returns c =
    let t = c.self.inside in
    let p = past_of t.journal.items in
    let there = rw (← c.self.view_is) at c.requires.there in
    let k = c.args.number - 1 - length c.as_slice-opening.result.now in
    let long = length-input_lines 1 t.input in
    let low : k < vec_len t.spots = omega (arith, there, c.requires.some, c.if-at-opening.false, t.spots.ok.0, ap length c.self.invariant.spots_are, length-spots (setting_of t) p, ap length c.as_slice-opening.ensures, ap length c.self.invariant.opening_is) in
    let r = read_spot t c.self.invariant k c.index-spot.result.now low c.index-spot.ensures in
    let same = read_entry t k c.index-spot.result.now c.index-entry.result.now r c.index-entry.ensures in
    let at : c.args.number - 1 ≡ length t.input + k = omega (arith, c.if-at-opening.false, ap length c.as_slice-opening.ensures, ap length c.self.invariant.opening_is) in
    rw (← c.self.view_is)
    (numbered_get (ledger (setting_of t) p) c.args.number c.requires.some
    ∙ (ap (slice_get (ledger (setting_of t) p)) at
    ∙ (r.line
    ∙ (ap (λ e. slice_get (lines_of e.event) c.index-spot.result.now.place) same
    ∙ c.line.ensures))))
