use Rattle.std.proofs.Common.{◌≡◌, ℕ, nat_eq, take}
use Rattle.std.specs.HashSet.{contains}
use Rattle.formulas.specs.Bindings.{is_member}
use Rattle.normal_form.proofs.scoping.distinct.Given as goal

abbrev pub invariant-loop-number : goal.invariant-loop-number
invariant-loop-number l = record {
  seen : (u : ℕ) → contains nat_eq l.seen u ≡ is_member u (take l.number-index l.numbers);
  kept : (u : ℕ) → is_member u l.kept ≡ is_member u (take l.number-index l.numbers);
}
