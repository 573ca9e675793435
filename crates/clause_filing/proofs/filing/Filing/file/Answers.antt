use Rattle.std.proofs.Common.{◌≡◌, ◌∙◌, ◌+◌, ◌==◌, if◌then◌else◌, ◌++◌, ◌∷◌, [], length, Some, refl, ap, arith}
use Rattle.std.specs.Prelude.{nat_eq, unwrap_or}
use Rattle.std.specs.Map.{lookup}
use Rattle.indexmap.specs.IndexMap.{get}
use Rattle.clause_filing.specs.declared.filing.Entry.{Entry}
use Rattle.clause_filing.proofs.Entries.{linked_same, linked_more}
use Rattle.clause_filing.proofs.filing.Filing.file.Goals as goal

pub invariant_of-self : goal.invariant_of-self
invariant_of-self c = linked_same c.self.inside _ c.self.invariant (λ q. refl) c.in_err-reserve.ensures.items

pub invariant_of-self-in_err-insert : goal.invariant_of-self-in_err-insert
invariant_of-self-in_err-insert c = linked_same c.self.inside _ c.self.invariant (λ q. ap (lookup (nat_eq q)) c.in_err-insert.ensures.err) c.in_ok-reserve.ensures.items

pub invariant_of-self-2 : goal.invariant_of-self-2
invariant_of-self-2 c =
    let old = c.self.inside in
    let e : Entry = record { key = c.args.key; mask = c.args.mask; value = c.args.value; older = c.unwrap_or-older.result } in
    let number : c.len-2.result + 1 ≡ length old.entries.items + 1 = omega (arith, c.len-2.ensures, ap length c.in_ok-reserve.ensures.items) in
    linked_more old _ e c.self.invariant (λ q. c.in_ok-insert.ensures.updates.0 q ∙ ap (λ n. if e.key == q then Some n else get nat_eq old.newest q) number) (c.unwrap_or-older.ensures ∙ ap (λ o. unwrap_or o 0) c.in_ok-insert.ensures.old) (c.push_reserved.ensures.items ∙ ap (λ es. es ++ e ∷ []) c.in_ok-reserve.ensures.items)
