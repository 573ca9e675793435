use Rattle.std.proofs.Common.{◌≡◌, ℕ, ◌+◌, ◌*◌, ◌≤◌, List, length, drop}
use Rattle.spl_symbols.specs.Symbols.{Declared}
use Rattle.spl_symbols.specs.Skolems.{HasSkolems}
use Rattle.normal_form.proofs.forming.declare_all.Given as goal

abbrev pub invariant-loop-arity : goal.invariant-loop-arity
invariant-loop-arity l = record {
  rest : (new : List Declared) (to : ℕ) → HasSkolems l.signature l.next_name (drop l.arity-index l.arities) new to → HasSkolems l.fn.signature l.fn.next_name l.arities new to;
  near : l.next_name ≤ 65537 * length l.signature + 1;
  more : length l.signature ≡ length l.fn.signature + l.arity-index;
}
